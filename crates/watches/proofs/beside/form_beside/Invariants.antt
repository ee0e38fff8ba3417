use Rattle.std.proofs.Common.{◌≡◌, ◌⊎◌, ℕ, ◌<◌, get_or}
use Rattle.geo_conditions.specs.declared.form.Term.{Term}
use Rattle.watches.proofs.beside.form_beside.Given as goal

-- the terms that were passed are of the two objects
abbrev pub invariant-loop-term : goal.invariant-loop-term
invariant-loop-term l = (i : ℕ) (d : Term) → i < l.term-index → ((get_or l.term-items i d).object.0 ≡ l.a.0) ⊎ ((get_or l.term-items i d).object.0 ≡ l.b.0)
