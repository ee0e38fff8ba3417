-- What a form of a list comes to with an object at a point.
use Rattle.std.proofs.Common.{◌≡◌, ℕ, List, get_or, Option, None, Some, ap, ◌∙◌, ℤ, pos}
use Rattle.std.specs.Prelude.{IfSome}
use lib.Signed.{le_z}
use Rattle.geo_conditions.specs.declared.cond.Cond.{Cond, Lin}
use Rattle.geo_conditions.specs.Conditions.{possible}
use Rattle.geo_conditions.specs.Form.{Sum}
use Rattle.geo_conditions.specs.Reach.{State, just, with_at}
use Rattle.indexical.specs.declared.sole.SoleTerm.{SoleTerm}
use Rattle.indexical.specs.Sole.{Decides, IsSole}

-- the condition is the form, so it is possible where the form is at most 0
pub sole_decides : {K : ℕ} (cs : List Cond) (i : ℕ) (f : Sum) (S : State) (o : ℕ) (x : Option (SoleTerm K)) → ((c : Cond) → get_or cs i c ≡ Lin f) → IfSome x (IsSole f S o) → IfSome x (λ y. (c : Cond) → Decides (get_or cs i c) S o y)
sole_decides cs i f S o None form sole = sole
sole_decides cs i f S o (Some y) form sole = λ c place q.
    ap (λ (z : Cond). possible z (with_at S o place (just q))) (form c) ∙ ap (λ (v : ℤ). le_z v (pos 0)) (sole.value place q)
