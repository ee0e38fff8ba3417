use Rattle.std.proofs.Common.{◌≡◌, drop}
use Rattle.indexical.specs.Widening.{factor_at}
use Rattle.indexical.proofs.form.factor_of.Given as goal

-- the terms that were passed are of other coordinates
abbrev pub invariant-loop-term : goal.invariant-loop-term
invariant-loop-term l = factor_at l.f.terms l.o.0 l.d ≡ factor_at (drop l.term-index l.term-items) l.o.0 l.d
