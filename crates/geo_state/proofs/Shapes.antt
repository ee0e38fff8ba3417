-- The shape of a state: how long the lists of an object are.
use Rattle.std.proofs.Common.{◌≡◌, ℕ, zero, suc, ◌<◌, ◌≤◌, Bool, true, false, List, length, sym, ◌∙◌, inl, inr, arith}
use Rattle.std.proofs.lemmas.Bool.{cases_lt, false≢true}
use Rattle.std.proofs.lemmas.List.{get_or_past}
use Rattle.geo_conditions.specs.Reach.{State, IsState, reach, nowhere, place_in}
use Rattle.geo_conditions.specs.declared.object.TheConstants.{MAX_SHAPES}

-- the low ends, the high ends and the places of an object
pub lo_long : (k : ℕ) (S : State) (o : ℕ) → IsState k S → o < length S → length (reach S o).region.lo ≡ k
lo_long k S o s h = (s.dims o nowhere h).0

-- the high ends are as many
pub hi_long : (k : ℕ) (S : State) (o : ℕ) → IsState k S → o < length S → length (reach S o).region.hi ≡ k
hi_long k S o s h = (s.dims o nowhere h).1

-- the list of places has a fixed length
pub places_long : (k : ℕ) (S : State) (o : ℕ) → IsState k S → o < length S → length (reach S o).places ≡ MAX_SHAPES
places_long k S o s h = s.places o nowhere h

-- a place that is there is no further than the list
pub place_few : (bs : List Bool) (s : ℕ) → place_in bs s ≡ true → s ≤ length bs
place_few bs zero h = omega arith
place_few bs (suc k) h = elim (cases_lt k (length bs)) [ inl b ↦ omega arith | inr b ↦ absurd (false≢true (sym (get_or_past bs k false b) ∙ h)) ]
