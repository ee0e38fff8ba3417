use Rattle.std.proofs.Common.{◌≡◌, drop}
use Rattle.std.specs.List.{list_any}
use Rattle.indexical.specs.Names.{names}
use Rattle.indexical.proofs.spared.+is_named.Given as goal

-- the parts that were passed do not name the object
abbrev pub invariant-loop-child : goal.invariant-loop-child
invariant-loop-child l = list_any (names l.o.0) l.child-items ≡ list_any (names l.o.0) (drop l.child-index l.child-items)
