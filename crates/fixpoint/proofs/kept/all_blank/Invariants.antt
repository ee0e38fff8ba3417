use Rattle.std.proofs.Common.{◌≡◌, length}
use Rattle.fixpoint.specs.Kept.{IsBlank}
use Rattle.fixpoint.proofs.kept.all_blank.Given as goal

abbrev pub invariant-loop-o : goal.invariant-loop-o
invariant-loop-o g l = (length l.kept.items ≡ l.o) × IsBlank l.kept.items
