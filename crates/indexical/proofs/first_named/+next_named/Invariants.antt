use Rattle.indexical.specs.Names.{names}
use Rattle.indexical.proofs.NextNamed.{IsNextAmong}
use Rattle.indexical.proofs.first_named.+next_named.Given as goal

-- the first object of the parts that were passed
abbrev pub invariant-loop-child : goal.invariant-loop-child
invariant-loop-child l = IsNextAmong names l.child-items l.child-index l.from l.end l.next
