use Rattle.std.proofs.Common.{◌≡◌, ◌<◌, ℕ, length}
use Rattle.fixpoint.specs.Marks.{marks_of}
use Rattle.fixpoint.proofs.waking.no_marks.Given as goal

abbrev pub invariant-loop : goal.invariant-loop
invariant-loop l = (length l.marks.items ≡ l.counter) × ((o : ℕ) → o < l.counter → length (marks_of l.marks.items o) ≡ l.objects)
