use Rattle.std.proofs.Common.{ℕ}
use Rattle.std.specs.Prelude.{◌==◌}
use Rattle.geo_conditions.specs.declared.form.Term.{Term}
use Rattle.indexical.proofs.MarkedNames.{MarksAmong}
use Rattle.indexical.proofs.named_marks.mark_form.Given as goal

-- the terms that were passed are marked
abbrev pub invariant-loop-term : goal.invariant-loop-term
invariant-loop-term l = MarksAmong (λ (o : ℕ) (t : Term). t.object.0 == o) l.term-items l.term-index l.fn.marks l.marks
