-- A state in which one object was changed.
use Rattle.std.proofs.Common.{◌≡◌, ℕ, ◌-◌, ◌<◌, ◌≤◌, Bool, List, length, get_or, sym, ap, ◌∙◌, subst}
use Rattle.std.proofs.lemmas.List.{length-set}
use Rattle.std.proofs.lemmas.List.Elements.{All-get_or, All-set}
use Rattle.std.specs.Prelude.{slice_set}
use Rattle.geo_conditions.specs.declared.object.TheConstants.{MAX_OBJECTS, MAX_SHAPES}
use Rattle.geo_conditions.specs.Reach.{Reach, Region, State, reach, nowhere, with_place, IsState}
use Rattle.geo_conditions.proofs.Defaults.{any_default}

-- what was made of the object by f stands in its place
pub changed : (f : Reach → Reach) (items S : State) (o : ℕ) (was none new : Reach) → items ≡ S → o < length S → was ≡ get_or items o none → new ≡ f was → slice_set items o new ≡ slice_set S o (f (reach S o))
changed f items S o was none new same there at made =
    let here : was ≡ reach S o = at ∙ ap (λ (xs : State). get_or xs o none) same ∙ any_default S o none nowhere there in
    ap (λ (xs : State). slice_set xs o new) same ∙ ap (λ (r : Reach). slice_set S o r) (made ∙ ap f here)

-- two objects of as many dimensions and places
pub record SameSize (r q : Reach) : Type 0 where
  pub lo : length r.region.lo ≡ length q.region.lo
  pub hi : length r.region.hi ≡ length q.region.hi
  pub places : length r.places ≡ length q.places

abbrev HasSides : ℕ → Reach → Type 0
HasSides k r = (length r.region.lo ≡ k) × (length r.region.hi ≡ k)

abbrev HasAllPlaces : Reach → Type 0
HasAllPlaces r = length r.places ≡ MAX_SHAPES

-- a state stays one where an object is changed and keeps its size
pub changed_state : (k : ℕ) (items : State) (o : ℕ) (was none new : Reach) → IsState k items → o < length items → was ≡ get_or items o none → SameSize new was → IsState k (slice_set items o new)
changed_state k items o was none new state there at same =
    let sides = subst (HasSides k) (sym at) (All-get_or (HasSides k) items o none there state.dims) in
    let held = subst HasAllPlaces (sym at) (All-get_or HasAllPlaces items o none there state.places) in
    record {
      few = subst (λ (n : ℕ). n ≤ MAX_OBJECTS) (sym (length-set items o new)) state.few;
      dims = All-set (HasSides k) items o new (same.lo ∙ sides.0, same.hi ∙ sides.1) state.dims;
      places = All-set HasAllPlaces items o new (same.places ∙ held) state.places;
    }

-- what is open to an object, with one place put in or taken out
pub placed : (p q : List Bool) (region : Region) (old : Reach) (k : ℕ) (there : Bool) → q ≡ slice_set p (k - 1) there → record { places = p; region = region } ≡ old
    → record { places = q; region = region } ≡ with_place old k there
placed p q region old k there e v = ap (λ (ps : List Bool). record { places = ps; region = region }) e ∙ ap (λ (r : Reach). with_place r k there) v
