use Rattle.std.specs.Prelude.{◌==◌}
use Rattle.indexical.proofs.NextNamed.{IsNextAmong}
use Rattle.indexical.proofs.first_named.next_in_form.Given as goal

-- the first object of the terms that were passed
abbrev pub invariant-loop-term : goal.invariant-loop-term
invariant-loop-term l = IsNextAmong (λ o t. t.object.0 == o) l.term-items l.term-index l.from l.end l.next
