-- The place of an object that is put at it.
use Rattle.std.proofs.Common.{◌≡◌, ℕ, ◌<◌, length, eqb, sym, ap, ◌∙◌, subst}
use Rattle.geo_conditions.specs.Reach.{State, Reach, Region, has, is_only, place_in, reach, with_at}
use Rattle.geo_conditions.proofs.Sets.{only_test, only_only}
use Rattle.geo_conditions.proofs.Points.{reach_same}

module _ (S : State) (o s u shape : ℕ) (there : o < length S) (same : u ≡ o) (some : 0 < s) (b : Region) where
  pub has_own : eqb s shape ≡ has (with_at S o s b) u shape
  has_own = subst (λ (v : ℕ). eqb s shape ≡ has (with_at S o s b) v shape) (sym same)
      (only_test s shape some ∙ sym (ap (λ (r : Reach). place_in r.places shape) (reach_same S o s b there)))

  pub only_own : eqb s shape ≡ is_only (reach (with_at S o s b) u).places shape
  only_own = subst (λ (v : ℕ). eqb s shape ≡ is_only (reach (with_at S o s b) v).places shape) (sym same)
      (only_test s shape some ∙ sym (only_only s shape) ∙ sym (ap (λ (r : Reach). is_only r.places shape) (reach_same S o s b there)))
