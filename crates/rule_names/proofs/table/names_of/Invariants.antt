use Rattle.std.proofs.Common.{◌≡◌, take, map}
use Rattle.problem_data.specs.Seen.{met}
use Rattle.rule_names.proofs.table.names_of.Given as goal

-- the names so far
abbrev pub invariant-loop-item : goal.invariant-loop-item
invariant-loop-item g l = l.names.value ≡ met (take l.item-index (map g.T.HasName.own_name l.items))
