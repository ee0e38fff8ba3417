use Rattle.indexical.specs.Names.{names}
use Rattle.indexical.proofs.MarkedNames.{MarksAmong}
use Rattle.indexical.proofs.named_marks.+mark_tree.Given as goal

-- the parts that were passed are marked
abbrev pub invariant-loop-child : goal.invariant-loop-child
invariant-loop-child l = MarksAmong names l.child-items l.child-index l.fn.marks l.marks
