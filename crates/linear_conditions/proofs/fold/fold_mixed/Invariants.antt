use Rattle.linear_conditions.proofs.FoldSteps.{Kept}
use Rattle.linear_conditions.proofs.fold.fold_mixed.Given as goal

abbrev pub invariant-loop-c : goal.invariant-loop-c
invariant-loop-c l = Kept l.left l.n l.kept.items l.yielded
