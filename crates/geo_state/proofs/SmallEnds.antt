-- Numbers of a state that are small.
use Rattle.std.proofs.Common.{◌≡◌, ℕ, ◌+◌, ◌<◌, ◌≤◌, sym, subst, inl, inr, arith, ℤ, pos, length, refl}
use Rattle.std.proofs.lemmas.Int.{ints}
use Rattle.std.proofs.lemmas.Bool.{cases_lt, cases_eq}
use Rattle.std.proofs.lemmas.List.{get_or_past}
use Rattle.geo_base.specs.Boxes.{coordinate}
use Rattle.geo_conditions.specs.Reach.{State, Reach, IsState, reach, nowhere, low, high}
use Rattle.geo_state.specs.Trail.{HasSmallIntervals, IsSmallEnd}
use Rattle.geo_state.proofs.Shapes.{lo_long, hi_long}

-- both ends of one interval are small
abbrev pub AreSmall : State → ℕ → ℕ → Type 0
AreSmall S o d = IsSmallEnd (low S o d) × IsSmallEnd (high S o d)

-- the ends of an object in the first n dimensions, and of the first n objects
abbrev pub SmallDimensions : State → ℕ → ℕ → Type 0
SmallDimensions S o n = (d : ℕ) → d < n → AreSmall S o d

-- all ends of the first n objects
abbrev pub SmallObjects : State → ℕ → Type 0
SmallObjects S n = (o : ℕ) → o < n → (d : ℕ) → AreSmall S o d

-- 0 is small
zero_small : (z : ℤ) → z ≡ pos 0 → IsSmallEnd z
zero_small z e = (omega (arith, ints, e), omega (arith, ints, e))

-- one dimension more
pub small_more : (S : State) (o n : ℕ) → SmallDimensions S o n → AreSmall S o n → SmallDimensions S o (n + 1)
small_more S o n h a d b = elim (cases_eq d n) [ inl e ↦ subst (AreSmall S o) (sym e) a | inr ne ↦ h d (omega arith) ]

-- one object more
pub small_and : (S : State) (n : ℕ) → SmallObjects S n → ((d : ℕ) → AreSmall S n d) → SmallObjects S (n + 1)
small_and S n h a o b = elim (cases_eq o n) [ inl e ↦ subst (λ (u : ℕ). (d : ℕ) → AreSmall S u d) (sym e) a | inr ne ↦ h o (omega arith) ]

-- past the last dimension, and past the last object, both ends are 0
pub small_everywhere : (k : ℕ) (S : State) (o n : ℕ) → IsState k S → o < length S → k ≤ n → SmallDimensions S o n → (d : ℕ) → AreSmall S o d
small_everywhere k S o n s h b m d = elim (cases_lt d n) [
  | inl l ↦ m d l
  | inr l ↦ (
    zero_small (low S o d) (get_or_past (reach S o).region.lo d (pos 0) (omega (arith, l, b, lo_long k S o s h))),
    zero_small (high S o d) (get_or_past (reach S o).region.hi d (pos 0) (omega (arith, l, b, hi_long k S o s h))),
  )
]

-- all objects are covered, so the state is small
pub small_whole : (S : State) (n : ℕ) → length S ≤ n → SmallObjects S n → HasSmallIntervals S
small_whole S n b m o d = elim (cases_lt o n) [
  | inl l ↦ m o l d
  | inr l ↦ subst (λ (r : Reach). IsSmallEnd (coordinate r.region.lo d) × IsSmallEnd (coordinate r.region.hi d)) (sym (get_or_past S o nowhere (omega (arith, l, b))))
      (zero_small (pos 0) refl, zero_small (pos 0) refl)
]
