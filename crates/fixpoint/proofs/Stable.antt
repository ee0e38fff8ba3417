-- Whether an object is fine is decided by a search through its places and points.
use Rattle.std.proofs.Common.{◌≡◌, ℕ, suc, Bool, true, false, List, [], ◌∷◌, length, refl, inl, inr, arith, ℤ, ◌≤ℤ◌}
use Rattle.std.proofs.lemmas.Int.{ints}
use Rattle.std.proofs.Math.Logic.{∥∥₁_elim, ∥∥₁_map}
use Rattle.std.proofs.lemmas.List.Elements.{All-nil, All-cons, All-head, All-tail}
use Rattle.geo_base.specs.Boxes.{coordinate}
use Rattle.geo_conditions.specs.declared.cond.Cond.{Cond}
use Rattle.geo_conditions.specs.Conditions.{possible}
use Rattle.geo_conditions.specs.Reach.{State, Reach, reach, has, place_in, just, InBox, with_at, NotEmpty}
use Rattle.geo_conditions.proofs.Decide.{Decided, search_below, search_box, decide_true, decide_ℤ, cases_ℤ, place_bound}
use Rattle.indexical.specs.Names.{names}
use Rattle.fixpoint.specs.Near.{NearSupports, NearUnrefuted, IsFine}
use Rattle.fixpoint.specs.Queue.{RestFine}

-- what is decided and merely holds
pub stable : (P : Type 0) → Decided P → ∥ P ∥₁ → P
stable P (inl p) h = p
stable P (inr n) h = absurd (∥∥₁_elim h (hlevel) n)

pub both : (P Q : Type 0) → Decided P → Decided Q → Decided (P × Q)
both P Q (inl p) (inl q) = inl (p, q)
both P Q (inl p) (inr n) = inr (λ y. n y.1)
both P Q (inr n) q = inr (λ y. n y.0)

decide_one : (n p : Bool) → Decided (n ≡ true → p ≡ true)
decide_one true p = elim (decide_true p) [ inl h ↦ inl (λ e. h) | inr m ↦ inr (λ f. m (f refl)) ]
decide_one false p = inl (λ e. cc)

decide_near : (cs : List Cond) (S : State) (o : ℕ) → Decided (NearUnrefuted cs S o)
decide_near [] S o = inl (All-nil (λ c. names o c ≡ true → possible c S ≡ true))
decide_near (c ∷ cs) S o = elim (decide_one (names o c) (possible c S)) [
  | inr n ↦ inr (λ h. n (All-head (λ e. names o e ≡ true → possible e S ≡ true) c cs h))
  | inl h ↦ elim (decide_near cs S o) [
    | inl k ↦ inl (All-cons (λ e. names o e ≡ true → possible e S ≡ true) c cs h k)
    | inr n ↦ inr (λ k. n (All-tail (λ e. names o e ≡ true → possible e S ≡ true) c cs k))
  ]
]

-- a point of the object at that place
abbrev HasPoint : List Cond → State → ℕ → ℕ → Type 0
HasPoint cs S o s = (p : List ℤ) × NearSupports cs S o s p

decide_point : (cs : List Cond) (S : State) (o s : ℕ) → has S o s ≡ true → Decided (HasPoint cs S o s)
decide_point cs S o s h =
    elim (search_box (reach S o).region.lo (reach S o).region.hi (λ p. NearUnrefuted cs (with_at S o s (just p)) o) (λ p. decide_near cs (with_at S o s (just p)) o)) [
      | inl f ↦ inl (f.0, record { place = h; point = f.1; unrefuted = f.2 })
      | inr n ↦ inr (λ q. n (q.0, q.1.point, q.1.unrefuted))
    ]

-- a point of the object with that coordinate
abbrev HasEnd : List Cond → State → ℕ → ℕ → ℤ → Type 0
HasEnd cs S o d v = (s : ℕ) × (p : List ℤ) × NearSupports cs S o s p × (coordinate p d ≡ v)

decide_end : (cs : List Cond) (S : State) (o d : ℕ) (v : ℤ) → Decided (HasEnd cs S o d v)
decide_end cs S o d v =
    elim (search_below (λ s. (has S o s ≡ true) × ((p : List ℤ) × InBox p (reach S o).region × (NearUnrefuted cs (with_at S o s (just p)) o × (coordinate p d ≡ v)))) (λ s. both _ _ (decide_true (has S o s))
    (search_box (reach S o).region.lo (reach S o).region.hi (λ p. NearUnrefuted cs (with_at S o s (just p)) o × (coordinate p d ≡ v)) (λ p. both _ _ (decide_near cs (with_at S o s (just p)) o) (decide_ℤ (coordinate p d) v))))
    (suc (length (reach S o).places))) [
      | inl f ↦ inl (f.0, f.2.1.0, record { place = f.2.0; point = f.2.1.1; unrefuted = f.2.1.2.0 }, f.2.1.2.1)
      | inr n ↦ inr (λ q. n q.0 (place_bound (reach S o).places q.0 q.2.place) (q.2.place, (q.1, q.2.point, (q.2.unrefuted, q.3))))
    ]

decide_place : (bs : List Bool) → Decided ((s : ℕ) × (place_in bs s ≡ true))
decide_place bs = elim (search_below (λ s. place_in bs s ≡ true) (λ s. decide_true (place_in bs s)) (suc (length bs))) [
  | inl f ↦ inl (f.0, f.2)
  | inr n ↦ inr (λ q. n q.0 (place_bound bs q.0 q.1) q.1)
]

decide_le : (a b : ℤ) → Decided (a ≤ℤ b)
decide_le a b = elim (cases_ℤ b a) [ inl h ↦ inr (λ k. absurd (omega (arith, ints))) | inr h ↦ inl h ]

stable_full : (r : Reach) → ∥ NotEmpty r ∥₁ → NotEmpty r
stable_full r h = record {
  place = stable _ (decide_place r.places) (∥∥₁_map h (λ f. f.place));
  ranges = λ d. stable _ (decide_le (coordinate r.region.lo d) (coordinate r.region.hi d)) (∥∥₁_map h (λ f. f.ranges d));
}

stable_fine : (cs : List Cond) (S : State) (o : ℕ) → ∥ IsFine cs S o ∥₁ → IsFine cs S o
stable_fine cs S o h = record {
  full = stable_full (reach S o) (∥∥₁_map h (λ f. f.full));
  places = λ s t. stable _ (decide_point cs S o s t) (∥∥₁_map h (λ f. f.places s t));
  lows = λ d b. stable _ (decide_end cs S o d (coordinate (reach S o).region.lo d)) (∥∥₁_map h (λ f. f.lows d b));
  highs = λ d b. stable _ (decide_end cs S o d (coordinate (reach S o).region.hi d)) (∥∥₁_map h (λ f. f.highs d b));
}

-- that the rest is fine can be taken out
pub rest_of : (cs : List Cond) (S : State) (q : List Bool) → ∥ RestFine cs S q ∥₁ → RestFine cs S q
rest_of cs S q h o b n = stable_fine cs S o (∥∥₁_map h (λ f. f o b n))
