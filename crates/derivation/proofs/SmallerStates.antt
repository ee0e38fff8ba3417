-- A cover of a box covers each smaller box, on each state inside in which the other objects have places.
use Rattle.std.proofs.Common.{◌≡◌, ◌≢◌, ℕ, zero, suc, ◌<◌, Bool, true, ◌&&◌, List, length, sym, ap, ◌∙◌, subst, inl, inr, arith, Option, Some, None}
use Rattle.std.specs.Prelude.{slice_get}
use Rattle.std.proofs.lemmas.Bool.{cases_lt, cases_eq, false≢true, false_from_ne_true, not-true, not_from_false, or_cases, or_left, or_right, and_parts}
use Rattle.std.proofs.lemmas.List.{get_or_past}
use Rattle.geo_conditions.specs.declared.cond.Cond.{Cond}
use Rattle.geo_conditions.specs.Reach.{State, Reach, Region, reach, nowhere, has, with_at, Within, Inside}
use Rattle.geo_conditions.specs.Conditions.{possible}
use Rattle.geo_conditions.proofs.Monotone.{KeepsOnly, keeps_within, keeps_nowhere, possible_kept}
use Rattle.geo_conditions.proofs.Points.{at_only, reach_same, reach_other, with_length, within_self}
use Rattle.derivation.specs.Cuts.{near, far, is_empty}
use Rattle.derivation.specs.Covers.{CoverTree, Leaf, Fork, is_refuted, refutes, covers}
use Rattle.derivation.specs.PlaceCovers.{SmallerBox}
use Rattle.derivation.proofs.Empty.{fork_is}
use Rattle.derivation.proofs.SmallerCovers.{near_smaller, far_smaller, empty_smaller}

-- each object but o has a place
abbrev OthersPlaced : State → ℕ → Type 0
OthersPlaced T o = (p : ℕ) → p < length T → p ≢ o → (q : ℕ) × (has T p q ≡ true)

-- what is within, and keeps what is alone
abbrev Narrows : Reach → Reach → Type 0
Narrows r q = Within r q × KeepsOnly r q

same_place : (s : ℕ) (c b : Region) → SmallerBox c b → Narrows (at_only s c) (at_only s b)
same_place s c b k = (record { same_lo = k.same_lo; same_hi = k.same_hi; places = λ u h. h; lows = k.lows; highs = k.highs }, λ u h. h)

-- the object itself is within its box on both states, or past the last object of both
own_narrows : (S T : State) (o s : ℕ) (c b : Region) → Inside T S → SmallerBox c b → Narrows (reach (with_at T o s c) o) (reach (with_at S o s b) o)
own_narrows S T o s c b i k = elim (cases_lt o (length S)) [
  | inl h ↦ subst (λ (q : Reach). Narrows (reach (with_at T o s c) o) q) (sym (reach_same S o s b h))
      (subst (λ (r : Reach). Narrows r (at_only s b)) (sym (reach_same T o s c (omega (arith, i.objects)))) (same_place s c b k))
  | inr h ↦ subst (λ (q : Reach). Narrows (reach (with_at T o s c) o) q) (sym (get_or_past (with_at S o s b) o nowhere (omega (arith, with_length S o s b))))
      (subst (λ (r : Reach). Narrows r nowhere) (sym (get_or_past (with_at T o s c) o nowhere (omega (arith, i.objects, with_length T o s c)))) (within_self nowhere, λ u e. e))
]

-- each other object is within its reach
other_narrows : (S T : State) (o p : ℕ) → Inside T S → OthersPlaced T o → p ≢ o → Narrows (reach T p) (reach S p)
other_narrows S T o p i n ne = (
  i.each p,
  elim (cases_lt p (length T)) [
    | inl h ↦ keeps_within (reach T p) (reach S p) (i.each p) (n p h ne)
    | inr h ↦ subst (KeepsOnly (reach T p)) (sym (get_or_past S p nowhere (omega (arith, i.objects)))) (keeps_nowhere (reach T p))
  ],
)

put_narrows : (S T : State) (o s : ℕ) (c b : Region) → Inside T S → OthersPlaced T o → SmallerBox c b → (p : ℕ) → Narrows (reach (with_at T o s c) p) (reach (with_at S o s b) p)
put_narrows S T o s c b i n k p = elim (cases_eq p o) [
  | inl e ↦ subst (λ (u : ℕ). Narrows (reach (with_at T o s c) u) (reach (with_at S o s b) u)) (sym e) (own_narrows S T o s c b i k)
  | inr ne ↦ subst (λ (q : Reach). Narrows (reach (with_at T o s c) p) q) (sym (reach_other S o s p b ne))
      (subst (λ (r : Reach). Narrows r (reach S p)) (sym (reach_other T o s p c ne)) (other_narrows S T o p i n ne))
]

-- what is refuted with the object in its box is refuted with it in the smaller one, on the smaller state
stays_refuted : (f : Option Cond) (A B : State) → Inside B A → ((p : ℕ) → KeepsOnly (reach B p) (reach A p)) → is_refuted f A ≡ true → is_refuted f B ≡ true
stays_refuted None A B i n h = h
stays_refuted (Some c) A B i n h =
    not_from_false (possible c B) (false_from_ne_true (possible c B) (λ k. false≢true (sym (not-true (possible c A) h) ∙ possible_kept c B A i n k)))

refutes_stay : (cs : List Cond) (i : ℕ) (A B : State) → Inside B A → ((p : ℕ) → KeepsOnly (reach B p) (reach A p)) → refutes cs i A ≡ true → refutes cs i B ≡ true
refutes_stay cs zero A B w n h = h
refutes_stay cs (suc i) A B w n h = stays_refuted (slice_get cs i) A B w n h

leaf_stays : (cs : List Cond) (S T : State) (o s i : ℕ) (c b : Region) → Inside T S → OthersPlaced T o → SmallerBox c b → refutes cs i (with_at S o s b) ≡ true → refutes cs i (with_at T o s c) ≡ true
leaf_stays cs S T o s i c b w n k h =
    let all : (p : ℕ) → Narrows (reach (with_at T o s c) p) (reach (with_at S o s b) p) = put_narrows S T o s c b w n k in
    refutes_stay cs i (with_at S o s b) (with_at T o s c)
    (record { objects = with_length T o s c ∙ w.objects ∙ sym (with_length S o s b); each = λ p. (all p).0 })
    (λ p. (all p).1) h

-- a cover stays one of each smaller box, on each smaller state
pub covers_stay : (cs : List Cond) (S T : State) (o s : ℕ) (t : CoverTree) (c b : Region) → Inside T S → OthersPlaced T o → SmallerBox c b → covers cs S o s b t ≡ true → covers cs T o s c t ≡ true
covers_stay cs S T o s (Leaf i) c b w n k e = elim (or_cases (is_empty b) (refutes cs i (with_at S o s b)) e) [
  | inl q ↦ or_left (is_empty c) (refutes cs i (with_at T o s c)) (empty_smaller b.lo b.hi c.lo c.hi k.same_lo k.same_hi k.lows k.highs q)
  | inr q ↦ or_right (is_empty c) (refutes cs i (with_at T o s c)) (leaf_stays cs S T o s i c b w n k q)
]
covers_stay cs S T o s (Fork side x y) c b w n k e =
    let q = and_parts (covers cs S o s (near side b) x) (covers cs S o s (far side b) y) (sym (fork_is cs S o s b side x y) ∙ e) in
    fork_is cs T o s c side x y
    ∙ ap (λ (z : Bool). z && covers cs T o s (far side c) y) (covers_stay cs S T o s x (near side c) (near side b) w n (near_smaller side c b k) q.0)
    ∙ covers_stay cs S T o s y (far side c) (far side b) w n (far_smaller side c b k) q.1
