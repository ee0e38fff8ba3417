use Rattle.std.proofs.Common.{refl, arith}
use Rattle.std.proofs.lemmas.Int.{ints}
use Rattle.geo_base.proofs.kbox.KBox.is_empty.Goals as goal

-- in a box whose ends are in order lies its low corner
pub returns-clause-points : goal.returns-clause-points
returns-clause-points g c = (
  λ no. absurd (cc),
  λ none. absurd (none c.args.self.now.lo.coordinates (λ d in_k. let ends = c.loop-d.invariant d (omega arith) in (omega (arith, ints), ends))),
)

pub returns-then-get-clause-ends : goal.returns-then-get-clause-ends
returns-then-get-clause-ends g c = (c.loop-d.d, omega arith, omega (arith, ints))

pub returns-then-get-clause-points : goal.returns-then-get-clause-points
returns-then-get-clause-points g c = (
  λ _. λ p has. let at = has c.loop-d.d (omega arith) in omega (arith, ints, at.0, at.1),
  λ _. refl,
)
