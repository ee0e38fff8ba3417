use Rattle.std.proofs.Common.{◌≡◌, take, map}
use Rattle.problem_data.specs.Least.{IsLeast}
use Rattle.problem_data.specs.Faults.{Repeated, text_of}
use Rattle.problem_data.specs.Seen.{met}
use Rattle.statement_faults.proofs.names.met_names.Given as goal

-- the names so far, and the first one that is repeated
abbrev pub invariant-loop-item : goal.invariant-loop-item
invariant-loop-item g l = record {
  names : l.seen.value ≡ met (map text_of (take l.item-index (map g.T.Named.name_of l.items)));
  first : IsLeast (Repeated (take l.item-index (map g.T.Named.name_of l.items))) l.found;
}
