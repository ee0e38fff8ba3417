-- The record of covers: one chain of cuts for each dimension by significance, each with an open part at its end.
use Rattle.std.proofs.Common.{◌≡◌, ◌≢◌, ℕ, suc, ◌+◌, ◌<◌, inl, inr, ℤ, pos, ◌+ℤ◌, ◌≤ℤ◌, ◌<ℤ◌, Bool, true, false, List, [], ◌∷◌, ◌++◌, refl, ◌∙◌, subst, arith, append_assoc}
use Rattle.std.specs.Int.{int_min, int_max}
use Rattle.std.proofs.lemmas.Int.{ints, clamps}
use Rattle.std.proofs.lemmas.Bool.{cases_lt}
use Rattle.std.proofs.lemmas.Bool.Decides.{nat_tests}
use Rattle.geo_base.specs.Boxes.{coordinate, Has}
use Rattle.geo_base.specs.Ways.{dimension, toward, key}
use Rattle.derivation.specs.declared.event.Event.{Event}
use Rattle.derivation.specs.Covers.{CoverTree, Leaf, Fork, IsCut, cut_event, events_of}
use Rattle.derivation.specs.Points.{OnNear, OnFar, CoversPoints}
use Rattle.sweep.specs.Chains.{Keys, way_side, IsChain, override}

-- a cover of a set covers each smaller set
pub covers_fewer : (K : ℕ) (R : ℕ → List ℤ → List ℤ → Bool) (t : CoverTree) (P P' : List ℤ → Type 0) → ((q : List ℤ) → P' q → P q) → CoversPoints K R t P → CoversPoints K R t P'
covers_fewer K R (Leaf i) P P' sub (inl none) = inl (none.0, λ q h. none.1 q (sub q h))
covers_fewer K R (Leaf i) P P' sub (inr w) = inr (w.0, w.1, w.2, λ q h. w.3 q (sub q h))
covers_fewer K R (Fork side a b) P P' sub w = (
  w.0,
  covers_fewer K R a (λ q. P q × OnNear side q) (λ q. P' q × OnNear side q) (λ q h. (sub q h.0, h.1)) w.1,
  covers_fewer K R b (λ q. P q × OnFar side q) (λ q. P' q × OnFar side q) (λ q h. (sub q h.0, h.1)) w.2,
)

-- the first part of a way's cut comes up to v, and the rest after it
near_way : (up : Bool) (d : ℕ) (v : ℤ) (q : List ℤ) → OnNear (way_side up d v) q → toward up (coordinate q d) ≤ℤ toward up v
near_way true d v q h = h
near_way false d v q h = omega (arith, ints)

far_way : (up : Bool) (d : ℕ) (v : ℤ) (q : List ℤ) → OnFar (way_side up d v) q → toward up v <ℤ toward up (coordinate q d)
far_way true d v q h = omega (arith, ints)
far_way false d v q h = omega (arith, ints)

pub covers_cut : (K : ℕ) (R : ℕ → List ℤ → List ℤ → Bool) (up : Bool) (d : ℕ) (v : ℤ) (a b : CoverTree) (P : List ℤ → Type 0) → IsCut K (way_side up d v)
    → CoversPoints K R a (λ q. P q × (toward up (coordinate q d) ≤ℤ toward up v)) → CoversPoints K R b (λ q. P q × (toward up v <ℤ toward up (coordinate q d)))
    → CoversPoints K R (Fork (way_side up d v) a b) P
covers_cut K R up d v a b P cut ha hb = (
  cut,
  covers_fewer K R a (λ q. P q × (toward up (coordinate q d) ≤ℤ toward up v)) (λ q. P q × OnNear (way_side up d v) q) (λ q h. (h.0, near_way up d v q h.1)) ha,
  covers_fewer K R b (λ q. P q × (toward up v <ℤ toward up (coordinate q d))) (λ q. P q × OnFar (way_side up d v) q) (λ q h. (h.0, far_way up d v q h.1)) hb,
)

pub override_at : (f : ℕ → ℤ) (p : ℕ) (v : ℤ) → override f p v p ≡ v
override_at f p v = grind (arith, nat_tests)

pub override_else : (f : ℕ → ℤ) (p : ℕ) (v : ℤ) (i : ℕ) → i ≢ p → override f p v i ≡ f i
override_else f p v i ne = grind (arith, nat_tests)

-- at a place or elsewhere
pub by_place : (p i : ℕ) (P : ℕ → Type 0) → P p → (i ≢ p → P i) → P i
by_place p i P same other = elim (cases_lt i p) [
  | inl l ↦ other (omega arith)
  | inr m ↦ elim (cases_lt p i) [ inl l ↦ other (omega arith) | inr h ↦ (let e : p ≡ i = omega arith in subst P e same) ]
]

module _ (K lead : ℕ) (up : Bool) (R : ℕ → List ℤ → List ℤ → Bool) (first past : ℕ → ℤ) where
  -- a chain begins empty
  pub IsChain-empty : (p : ℕ) (c n : ℕ → ℤ) → p < K → c p ≡ first p → IsChain K lead up R first past p c n []
  IsChain-empty p c n b e = record {
    plug = λ t. t;
    events = λ t. refl;
    covers = λ lo hi region pre t h. covers_fewer K R t (λ q. Keys K lead up lo hi q × (c p ≤ℤ key K lead up q p)) (Keys K lead up lo hi)
        (λ q k. (k, rw e (omega (arith, ints, (region p b).0, (k p b).0)))) h;
  }

  -- it grows by a cut whose first part is covered by a
  pub IsChain-more : (p : ℕ) (c n c' n' : ℕ → ℤ) (E : List Event) (v : ℤ) (a : CoverTree) → p < K → IsCut K (way_side up (dimension K lead p) v) → IsChain K lead up R first past p c n E
      → ((i : ℕ) → i < p → (c' i ≡ c i) × (n' i ≤ℤ n i))
      → toward up v +ℤ pos 1 ≡ c' p
      → ((lo hi : ℕ → ℤ) → ((i : ℕ) → i < K → (first i ≤ℤ lo i) × (hi i <ℤ past i)) → ((i : ℕ) → i < p → (c i ≤ℤ lo i) × (hi i <ℤ n' i))
      → CoversPoints K R a (λ q. Keys K lead up lo hi q × (c p ≤ℤ key K lead up q p) × (key K lead up q p ≤ℤ toward up v)))
      → IsChain K lead up R first past p c' n' (E ++ cut_event (way_side up (dimension K lead p) v) ∷ events_of a)
  IsChain-more p c n c' n' E v a b cut chain step next part = record {
    plug = λ t. chain.plug (Fork (way_side up (dimension K lead p) v) a t);
    events = λ t. chain.events (Fork (way_side up (dimension K lead p) v) a t) ∙ rw append_assoc refl;
    covers = λ lo hi region pre t h.
        let was = λ (i : ℕ) (l : i < p). let w : (c i ≤ℤ lo i) × (hi i <ℤ n i) = (omega (arith, ints, (step i l).0, (pre i l).0), omega (arith, ints, (step i l).1, (pre i l).1)) in w in
        let mid = λ (i : ℕ) (l : i < p). let w : (c i ≤ℤ lo i) × (hi i <ℤ n' i) = ((was i l).0, (pre i l).1) in w in
        chain.covers lo hi region was (Fork (way_side up (dimension K lead p) v) a t)
        (covers_cut K R up (dimension K lead p) v a t (λ q. Keys K lead up lo hi q × (c p ≤ℤ key K lead up q p)) cut
        (covers_fewer K R a (λ q. Keys K lead up lo hi q × (c p ≤ℤ key K lead up q p) × (key K lead up q p ≤ℤ toward up v))
        (λ q. (Keys K lead up lo hi q × (c p ≤ℤ key K lead up q p)) × (toward up (coordinate q (dimension K lead p)) ≤ℤ toward up v))
        (λ q w. (w.0.0, w.0.1, w.1)) (part lo hi region mid))
        (covers_fewer K R t (λ q. Keys K lead up lo hi q × (c' p ≤ℤ key K lead up q p))
        (λ q. (Keys K lead up lo hi q × (c p ≤ℤ key K lead up q p)) × (toward up v <ℤ toward up (coordinate q (dimension K lead p))))
        (λ q w. (w.0.0, omega (arith, ints, next, w.1))) h));
  }

  -- the least significant chain grows by the box that was found
  pub part_found : (p : ℕ) (c n' s e : ℕ → ℤ) (blo bhi : List ℤ) (i : ℕ) (v : ℤ) → p + 1 ≡ K → lead < K
      → ((q : List ℤ) → ((j : ℕ) → j < K → (s j ≤ℤ key K lead up q j) × (key K lead up q j ≤ℤ e j)) → Has K blo bhi q)
      → R i blo bhi ≡ true → ((j : ℕ) → j < K → (s j ≤ℤ c j) × (n' j ≤ℤ (e j +ℤ pos 1))) → toward up v +ℤ pos 1 ≡ n' p
      → (lo hi : ℕ → ℤ) → ((j : ℕ) → j < K → (first j ≤ℤ lo j) × (hi j <ℤ past j)) → ((j : ℕ) → j < p → (c j ≤ℤ lo j) × (hi j <ℤ n' j))
      → CoversPoints K R (Leaf i) (λ q. Keys K lead up lo hi q × (c p ≤ℤ key K lead up q p) × (key K lead up q p ≤ℤ toward up v))
  part_found p c n' s e blo bhi i v last lead_in box refuted near ends lo hi region pre = inr (
    blo,
    bhi,
    refuted,
    λ q w. box q (λ j b. elim (cases_lt j p) [
      | inl l ↦ (omega (arith, ints, (near j b).0, (pre j l).0, (w.0 j b).0), omega (arith, ints, (near j b).1, (pre j l).1, (w.0 j b).1))
      | inr m ↦ (let same : p ≡ j = omega arith in
          subst (λ (k : ℕ). (s k ≤ℤ key K lead up q k) × (key K lead up q k ≤ℤ e k)) same
          (let u : p < K = omega arith in (omega (arith, ints, (near p u).0, w.1), omega (arith, ints, (near p u).1, ends, w.2))))
    ]),
  )

  -- a chain that has run out, closed by a leaf over nothing, covers the jump of the dimension above it
  pub part_run_out : (p : ℕ) (c n : ℕ → ℤ) (E : List Event) (v : ℤ) (chain : IsChain K lead up R first past (suc p) c n E) → suc p < K → c (suc p) ≡ past (suc p) → toward up v +ℤ pos 1 ≡ n p
      → (lo hi : ℕ → ℤ) → ((i : ℕ) → i < K → (first i ≤ℤ lo i) × (hi i <ℤ past i)) → ((i : ℕ) → i < p → (c i ≤ℤ lo i) × (hi i <ℤ n i))
      → CoversPoints K R (chain.plug (Leaf 1)) (λ q. Keys K lead up lo hi q × (c p ≤ℤ key K lead up q p) × (key K lead up q p ≤ℤ toward up v))
  part_run_out p c n E v chain b out ends lo hi region pre =
      let lo2 = override lo p (int_max (lo p) (c p)) in
      let hi2 = override hi p (int_min (hi p) (toward up v)) in
      let lo_p = override_at lo p (int_max (lo p) (c p)) in
      let hi_p = override_at hi p (int_min (hi p) (toward up v)) in
      let lo_i = override_else lo p (int_max (lo p) (c p)) in
      let hi_i = override_else hi p (int_min (hi p) (toward up v)) in
      covers_fewer K R (chain.plug (Leaf 1)) (Keys K lead up lo2 hi2) (λ q. Keys K lead up lo hi q × (c p ≤ℤ key K lead up q p) × (key K lead up q p ≤ℤ toward up v))
      (λ q w i u. by_place p i (λ k. (lo2 k ≤ℤ key K lead up q k) × (key K lead up q k ≤ℤ hi2 k))
      (omega (arith, ints, clamps, lo_p, (w.0 p (omega arith)).0, w.1), omega (arith, ints, clamps, hi_p, (w.0 p (omega arith)).1, w.2))
      (λ ne. (omega (arith, ints, lo_i i ne, (w.0 i u).0), omega (arith, ints, hi_i i ne, (w.0 i u).1))))
      (chain.covers lo2 hi2
      (λ i u. by_place p i (λ k. (first k ≤ℤ lo2 k) × (hi2 k <ℤ past k))
      (let z : p < K = omega arith in (omega (arith, ints, clamps, lo_p, (region p z).0), omega (arith, ints, clamps, hi_p, (region p z).1)))
      (λ ne. (omega (arith, ints, lo_i i ne, (region i u).0), omega (arith, ints, hi_i i ne, (region i u).1))))
      (λ i u. by_place p i (λ k. (c k ≤ℤ lo2 k) × (hi2 k <ℤ n k))
      (omega (arith, ints, clamps, lo_p), omega (arith, ints, clamps, hi_p, ends))
      (λ ne. let l : i < p = omega arith in (omega (arith, ints, lo_i i ne, (pre i l).0), omega (arith, ints, hi_i i ne, (pre i l).1))))
      (Leaf 1) (inl (refl, λ q w. let ne : suc p ≢ p = omega arith in absurd (omega (arith, ints, w.1, out, (w.0 (suc p) b).1, hi_i (suc p) ne, (region (suc p) b).1)))))

  -- a chain stays one where the jump is drawn in
  pub IsChain-drawn : (p : ℕ) (c n c' n' : ℕ → ℤ) (E : List Event) → IsChain K lead up R first past p c n E
      → ((i : ℕ) → i < p → (c' i ≡ c i) × (n' i ≤ℤ n i)) → c' p ≡ c p → IsChain K lead up R first past p c' n' E
  IsChain-drawn p c n c' n' E chain step here = record {
    plug = chain.plug;
    events = chain.events;
    covers = λ lo hi region pre t h. chain.covers lo hi region
        (λ i l. (omega (arith, ints, (step i l).0, (pre i l).0), omega (arith, ints, (step i l).1, (pre i l).1))) t
        (covers_fewer K R t (λ q. Keys K lead up lo hi q × (c' p ≤ℤ key K lead up q p)) (λ q. Keys K lead up lo hi q × (c p ≤ℤ key K lead up q p))
        (λ q w. (w.0, omega (arith, ints, here, w.1))) h);
  }
