-- Forms that have one coordinate of an object.
use Rattle.std.specs.Prelude.{◌≡◌, ℕ, List, ℤ, pos, ◌+ℤ◌, ◌*ℤ◌}
use Rattle.std.specs.List.{All}
use lib.Signed.{le_z}
use Rattle.geo_base.specs.Boxes.{coordinate}
use Rattle.geo_conditions.specs.declared.cond.Cond.{Cond}
use Rattle.geo_conditions.specs.Form.{Sum}
use Rattle.geo_conditions.specs.Reach.{State, just, with_at}
use Rattle.geo_conditions.specs.Conditions.{least_value, possible}
use Rattle.indexical.specs.declared.sole.SoleTerm.{SoleTerm}

module _ {K : ℕ} where
  -- what the form comes to with the object at the point
  abbrev pub value_with : SoleTerm K → List ℤ → ℤ
  value_with x q = x.rest +ℤ x.factor *ℤ coordinate q x.dimension

  -- the form has one coordinate of o, and this is what it comes to with o at a point
  pub record IsSole (f : Sum) (S : State) (o : ℕ) (x : SoleTerm K) : Type 0 where
    pub value : (place : ℕ) (q : List ℤ) → least_value f (with_at S o place (just q)) ≡ value_with x q
    pub own : All (λ a. a.object.0 ≡ o → a.dimension ≡ x.dimension) f.terms

  -- the condition is possible with o at a point where that is at most 0
  abbrev pub Decides : Cond → State → ℕ → SoleTerm K → Type 0
  Decides c S o x = (place : ℕ) (q : List ℤ)
      → possible c (with_at S o place (just q)) ≡ le_z (value_with x q) (pos 0)
