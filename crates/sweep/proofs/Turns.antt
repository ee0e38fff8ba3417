-- The sweep's turns, over plain lists.
use Rattle.std.proofs.Common.{◌≡◌, ℕ, ◌≢◌, ◌<◌, inl, inr, ℤ, pos, negsuc, ◌+ℤ◌, ◌≤ℤ◌, ◌<ℤ◌, Bool, true, false, List, subst, arith}
use Rattle.std.proofs.lemmas.Int.{ints, clamps}
use Rattle.std.proofs.lemmas.Bool.{cases_lt}
use Rattle.std.specs.Int.{int_min}
use Rattle.geo_base.specs.Boxes.{coordinate, Has}
use Rattle.geo_base.specs.Ways.{IsSmallPoint, Before, Advances, dimension, toward, key, start, end}
use Rattle.sweep.specs.Jump.{IsDone, IsPlaced, ComesAfter}
use Rattle.geo_base.proofs.Mirror.{dimension_in, place, place_in, dimension-place, keys_from_has, has_from_keys}
use Rattle.sweep.proofs.Progress.{remaining, remaining_falls}

toward_less : (up : Bool) (lo hi : List ℤ) (d : ℕ) → coordinate lo d ≤ℤ coordinate hi d → toward up (coordinate (start up lo hi) d) ≤ℤ toward up (coordinate (end up lo hi) d)
toward_less true lo hi d h = h
toward_less false lo hi d h = omega (arith, ints)

module _ (K lead : ℕ) (up : Bool) (lo hi past : List ℤ) (lead_in : lead < K)
    (past_is : (d : ℕ) → d < K → toward up (coordinate past d) ≡ toward up (coordinate (end up lo hi) d) +ℤ pos 1) where
  -- at first c is the start corner and the jump is past the region
  pub IsPlaced-first : ((d : ℕ) → d < K → coordinate lo d ≤ℤ coordinate hi d) → IsPlaced K (key K lead up (start up lo hi)) (key K lead up past) (key K lead up (start up lo hi)) (key K lead up past)
  IsPlaced-first full = record {
    from_first = λ i b. omega (arith, ints);
    onward = λ i b. let d = dimension K lead i in let u = dimension_in K lead i lead_in b in omega (arith, ints, past_is d u, toward_less up lo hi d (full d u));
    to_past = λ i b. omega (arith, ints);
  }

  -- then nothing of the region is done
  pub not_done_first : (q : List ℤ) → Has K lo hi q → IsDone K (key K lead up (start up lo hi)) (key K lead up past) (key K lead up q) → ⊥
  not_done_first q has done = omega (arith, ints, done.before, (keys_from_has K lead up lo hi q lead_in has done.level done.level_in).0)

  module _ (c n : List ℤ) (placed : IsPlaced K (key K lead up (start up lo hi)) (key K lead up past) (key K lead up c) (key K lead up n)) where
    -- c lies in the region
    pub has_placed : Has K lo hi c
    has_placed = has_from_keys K lead up lo hi c lead_in (λ i b. let d = dimension K lead i in let u = dimension_in K lead i lead_in b in
        (placed.from_first i b, omega (arith, ints, placed.onward i b, placed.to_past i b, past_is d u)))

    -- what comes before c is done
    pub IsDone-before : (q : List ℤ) → Before K lead up q c → IsDone K (key K lead up c) (key K lead up n) (key K lead up q)
    IsDone-before q b = record {
      level = b.0;
      level_in = b.1;
      before = b.2;
      within = λ i h. let u : i < K = omega (arith, b.1) in omega (arith, ints, b.3 i h, placed.onward i u);
    }

small_key : (up : Bool) (p : List ℤ) (d : ℕ) → (negsuc 1999999 ≤ℤ coordinate p d) × (coordinate p d ≤ℤ pos 2000000) → (negsuc 1999999 ≤ℤ toward up (coordinate p d)) × (toward up (coordinate p d) ≤ℤ pos 2000000)
small_key true p d h = h
small_key false p d h = (omega (arith, ints, h.1), omega (arith, ints, h.0))

IsSmallPoint-end : (K : ℕ) (up : Bool) (lo hi : List ℤ) → IsSmallPoint K lo → IsSmallPoint K hi → IsSmallPoint K (end up lo hi)
IsSmallPoint-end K true lo hi l h = h
IsSmallPoint-end K false lo hi l h = l

IsSmallPoint-start : (K : ℕ) (up : Bool) (lo hi : List ℤ) → IsSmallPoint K lo → IsSmallPoint K hi → IsSmallPoint K (start up lo hi)
IsSmallPoint-start K true lo hi l h = l
IsSmallPoint-start K false lo hi l h = h

-- the measure falls
pub remaining_turn : (K lead : ℕ) (up : Bool) (lo hi past c n c' n' : List ℤ) → lead < K → IsSmallPoint K lo → IsSmallPoint K hi
    → ((d : ℕ) → d < K → toward up (coordinate past d) ≡ toward up (coordinate (end up lo hi) d) +ℤ pos 1)
    → IsPlaced K (key K lead up (start up lo hi)) (key K lead up past) (key K lead up c) (key K lead up n)
    → IsPlaced K (key K lead up (start up lo hi)) (key K lead up past) (key K lead up c') (key K lead up n')
    → ComesAfter K (key K lead up c) (key K lead up c')
    → remaining K (key K lead up (start up lo hi)) (key K lead up c') < remaining K (key K lead up (start up lo hi)) (key K lead up c)
remaining_turn K lead up lo hi past c n c' n' lead_in l h past_is placed placed' after =
    remaining_falls K (key K lead up (start up lo hi)) (key K lead up c) (key K lead up c') after.level after.level_in after.same after.rises
    (λ i b.
    let d = dimension K lead i in
    let u = dimension_in K lead i lead_in b in
    let s = small_key up (start up lo hi) d (IsSmallPoint-start K up lo hi l h d u) in
    let e = small_key up (end up lo hi) d (IsSmallPoint-end K up lo hi l h d u) in (
      s.0,
      placed.from_first i b,
      omega (arith, ints, placed.onward i b, placed.to_past i b, past_is d u, e.1),
      placed'.from_first i b,
      omega (arith, ints, placed'.onward i b, placed'.to_past i b, past_is d u, e.1),
    ))

from_toward : (up : Bool) (x : ℤ) → (negsuc 2000000 <ℤ toward up x) × (toward up x ≤ℤ pos 2000001) → (negsuc 2000000 ≤ℤ x) × (x ≤ℤ pos 2000001)
from_toward true x h = (omega (arith, ints, h.0), h.1)
from_toward false x h = (omega (arith, ints, h.1), omega (arith, ints, h.0))

-- the jump is bounded
pub placed_bounded : (K lead : ℕ) (up : Bool) (lo hi past c n : List ℤ) → lead < K → IsSmallPoint K lo → IsSmallPoint K hi
    → ((d : ℕ) → d < K → toward up (coordinate past d) ≡ toward up (coordinate (end up lo hi) d) +ℤ pos 1)
    → IsPlaced K (key K lead up (start up lo hi)) (key K lead up past) (key K lead up c) (key K lead up n)
    → (d : ℕ) → d < K → (negsuc 2000000 ≤ℤ coordinate n d) × (coordinate n d ≤ℤ pos 2000001)
placed_bounded K lead up lo hi past c n lead_in l h past_is placed d b =
    subst (λ (e : ℕ). (negsuc 2000000 ≤ℤ coordinate n e) × (coordinate n e ≤ℤ pos 2000001)) (dimension-place K lead d lead_in b)
    (let i = place K lead d in
    let v = place_in K lead d lead_in b in
    let e = dimension K lead i in
    let u = dimension_in K lead i lead_in v in
    let s = small_key up (start up lo hi) e (IsSmallPoint-start K up lo hi l h e u) in
    let f = small_key up (end up lo hi) e (IsSmallPoint-end K up lo hi l h e u) in
    from_toward up (coordinate n e) (omega (arith, ints, s.0, placed.from_first i v, placed.onward i v), omega (arith, ints, f.1, past_is e u, placed.to_past i v)))

-- drawn in to one past the end of a box that has c, the jump is still past c
pub IsPlaced-drawn : (K lead : ℕ) (up : Bool) (first past : ℕ → ℤ) (blo bhi c n n1 : List ℤ) → lead < K → Has K blo bhi c
    → ((d : ℕ) → d < K → toward up (coordinate n1 d) ≡ int_min (toward up (coordinate n d)) (toward up (coordinate (end up blo bhi) d) +ℤ pos 1))
    → IsPlaced K first past (key K lead up c) (key K lead up n) → IsPlaced K first past (key K lead up c) (key K lead up n1)
IsPlaced-drawn K lead up first past blo bhi c n n1 lead_in has drawn placed = record {
  from_first = placed.from_first;
  onward = λ i b. omega (arith, ints, clamps, drawn (dimension K lead i) (dimension_in K lead i lead_in b), placed.onward i b, (keys_from_has K lead up blo bhi c lead_in has i b).1);
  to_past = λ i b. omega (arith, ints, clamps, drawn (dimension K lead i) (dimension_in K lead i lead_in b), placed.to_past i b);
}

-- the level at which an advance stops is the least significant one that did not run out
pub level_is : (K j : ℕ) (first past c n c' n' : ℕ → ℤ) (step : Advances K first past c n c' n') → j < K → ((i : ℕ) → j < i → i < K → n i ≡ past i) → (0 < j → n j ≢ past j) → step.level ≡ j
level_is K j first past c n c' n' step b out more = elim (cases_lt step.level j) [
  | inl l ↦ absurd (more (omega arith) ((step.ran_out j l b).0))
  | inr m ↦ elim (cases_lt j step.level) [ inl l ↦ absurd (step.more_left (out step.level l step.level_in)) | inr h ↦ omega arith ]
]
