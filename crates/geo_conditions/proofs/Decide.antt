-- What is decided of a state, by searches through finitely many places and points.
use Rattle.std.proofs.Common.{◌≡◌, ℕ, zero, suc, ◌<◌, Bool, true, false, List, [], ◌∷◌, length, refl, sym, ap, ◌∙◌, subst, inl, inr, ◌⊎◌, arith, ℤ, pos, ◌+ℤ◌, ◌≤ℤ◌, ◌<ℤ◌}
use Rattle.std.proofs.lemmas.Int.{ints, by_lt_z}
use Rattle.std.proofs.lemmas.Bool.{cases_lt, false≢true}
use Rattle.std.proofs.lemmas.List.{get_or_past}
use Rattle.std.proofs.lemmas.List.Elements.{All-nil, All-cons, All-head, All-tail}
use Rattle.geo_conditions.specs.declared.cond.Cond.{Cond}
use Rattle.geo_base.specs.Boxes.{coordinate}
use Rattle.geo_conditions.specs.Reach.{State, reach, has, place_in, just, with_at, InBox}
use Rattle.geo_conditions.specs.Conditions.{possible}
use Rattle.geo_conditions.specs.Keeps.{gap}
use Rattle.geo_conditions.specs.Supported.{NoneRefuted, Supports}

abbrev pub Decided : Type 0 → Type 0
Decided P = P ⊎ (P → ⊥)

-- ---- searches through finitely many

pub search_below : (P : ℕ → Type 0) → ((k : ℕ) → Decided (P k)) → (n : ℕ) → ((k : ℕ) × (k < n) × P k) ⊎ ((k : ℕ) → k < n → P k → ⊥)
search_below P decide zero = inr (λ k h p. absurd (omega arith))
search_below P decide (suc n) = elim (decide n) [
  | inl p ↦ inl (n, omega arith, p)
  | inr never ↦ elim (search_below P decide n) [
    | inl f ↦ inl (f.0, omega (arith, f.1), f.2)
    | inr none ↦ inr (λ k h p. elim (cases_lt k n) [ inl b ↦ none k b p | inr b ↦ let e : k ≡ n = omega arith in never (subst P e p) ])
  ]
]

pub cases_ℤ : (a b : ℤ) → (a <ℤ b) ⊎ (b ≤ℤ a)
cases_ℤ a b = by_lt_z {P = (a <ℤ b) ⊎ (b ≤ℤ a)} a b (λ h. inl h) (λ h. inr h)

back : (l x : ℤ) → l ≤ℤ x → (l +ℤ pos (gap l x)) ≡ x
back l x h = omega (arith, ints)

-- the numbers from l to h
pub search_between : (P : ℤ → Type 0) → ((x : ℤ) → Decided (P x)) → (l h : ℤ) → ((x : ℤ) × (l ≤ℤ x) × (x ≤ℤ h) × P x) ⊎ ((x : ℤ) → l ≤ℤ x → x ≤ℤ h → P x → ⊥)
search_between P decide l h =
    elim (search_below (λ k. ((l +ℤ pos k) ≤ℤ h) × P (l +ℤ pos k)) (λ k. elim (cases_ℤ h (l +ℤ pos k)) [
      | inl b ↦ inr (λ q. let o : (l +ℤ pos k) ≤ℤ h = q.0 in absurd (omega (arith, ints)))
      | inr b ↦ elim (decide (l +ℤ pos k)) [ inl p ↦ inl (b, p) | inr never ↦ inr (λ q. never q.1) ]
    ]) (suc (gap l h))) [
      | inl f ↦ inl (l +ℤ pos f.0, omega (arith, ints), f.2.0, f.2.1)
      | inr none ↦ inr (λ x a b p. let e : (l +ℤ pos (gap l x)) ≡ x = back l x a in
          none (gap l x) (omega (arith, ints)) (subst (λ (y : ℤ). y ≤ℤ h) (sym e) b, subst P (sym e) p))
    ]

in_cons : (x : ℤ) (p : List ℤ) (l h : ℤ) (ls hs : List ℤ) → l ≤ℤ x → x ≤ℤ h → InBox p (record { lo = ls; hi = hs }) → InBox (x ∷ p) (record { lo = l ∷ ls; hi = h ∷ hs })
in_cons x p l h ls hs a b i = record {
  same_lo = ap suc i.same_lo;
  same_hi = ap suc i.same_hi;
  above = λ d. elim d as (λ e. coordinate (l ∷ ls) e ≤ℤ coordinate (x ∷ p) e) [ zero ↦ a | suc e ↦ i.above e ];
  below = λ d. elim d as (λ e. coordinate (x ∷ p) e ≤ℤ coordinate (h ∷ hs) e) [ zero ↦ b | suc e ↦ i.below e ];
}

out_cons : (x : ℤ) (p : List ℤ) (l h : ℤ) (ls hs : List ℤ) → InBox (x ∷ p) (record { lo = l ∷ ls; hi = h ∷ hs }) → InBox p (record { lo = ls; hi = hs })
out_cons x p l h ls hs i = record {
  same_lo = omega (arith, i.same_lo);
  same_hi = omega (arith, i.same_hi);
  above = λ d. i.above (suc d);
  below = λ d. i.below (suc d);
}

-- the points of a box
pub search_box : (lo hi : List ℤ) (P : List ℤ → Type 0) → ((p : List ℤ) → Decided (P p)) → Decided ((p : List ℤ) × InBox p (record { lo = lo; hi = hi }) × P p)
search_box [] [] P decide = elim (decide []) [
  | inl p ↦ inl ([], record { same_lo = refl; same_hi = refl; above = λ d. omega (arith, ints); below = λ d. omega (arith, ints) }, p)
  | inr never ↦ inr (λ q. never (subst P (empty q.0 q.1.same_lo) q.2))
]
  where
    empty : (p : List ℤ) → length p ≡ 0 → p ≡ []
    empty [] h = refl
    empty (x ∷ p) h = absurd (omega arith)
search_box [] (h ∷ hs) P decide = inr (λ q. absurd (omega (arith, q.1.same_lo, q.1.same_hi)))
search_box (l ∷ ls) [] P decide = inr (λ q. absurd (omega (arith, q.1.same_lo, q.1.same_hi)))
search_box (l ∷ ls) (h ∷ hs) P decide =
    elim (search_between (λ x. (p : List ℤ) × InBox p (record { lo = ls; hi = hs }) × P (x ∷ p)) (λ x. search_box ls hs (λ p. P (x ∷ p)) (λ p. decide (x ∷ p))) l h) [
      | inl f ↦ inl (f.0 ∷ f.3.0, in_cons f.0 f.3.0 l h ls hs f.1 f.2 f.3.1, f.3.2)
      | inr none ↦ inr (λ q. cut q.0 q.1 q.2 none)
    ]
  where
    cut : (q : List ℤ) → InBox q (record { lo = l ∷ ls; hi = h ∷ hs }) → P q → ((x : ℤ) → l ≤ℤ x → x ≤ℤ h → ((p : List ℤ) × InBox p (record { lo = ls; hi = hs }) × P (x ∷ p)) → ⊥) → ⊥
    cut [] i p none = absurd (omega (arith, i.same_lo))
    cut (x ∷ q) i p none = none x (i.above 0) (i.below 0) (q, out_cons x q l h ls hs i, p)

-- ---- what is decided

pub decide_true : (b : Bool) → Decided (b ≡ true)
decide_true true = inl refl
decide_true false = inr false≢true

pub decide_ℤ : (a b : ℤ) → Decided (a ≡ b)
decide_ℤ a b = elim (cases_ℤ a b) [
  | inl h ↦ inr (λ e. absurd (omega (arith, ints, e)))
  | inr h ↦ elim (cases_ℤ b a) [ inl k ↦ inr (λ e. absurd (omega (arith, ints, e))) | inr k ↦ inl (omega (arith, ints)) ]
]

decide_both : (P Q : Type 0) → Decided P → Decided Q → Decided (P × Q)
decide_both P Q (inl p) (inl q) = inl (p, q)
decide_both P Q (inl p) (inr n) = inr (λ y. n y.1)
decide_both P Q (inr n) q = inr (λ y. n y.0)

pub decide_refuted : (cs : List Cond) (S : State) → Decided (NoneRefuted cs S)
decide_refuted [] S = inl (All-nil (λ c. possible c S ≡ true))
decide_refuted (c ∷ cs) S = elim (decide_true (possible c S)) [
  | inr n ↦ inr (λ h. n (All-head (λ e. possible e S ≡ true) c cs h))
  | inl h ↦ elim (decide_refuted cs S) [
    | inl k ↦ inl (All-cons (λ e. possible e S ≡ true) c cs h k)
    | inr n ↦ inr (λ k. n (All-tail (λ e. possible e S ≡ true) c cs k))
  ]
]

-- whether a place has a point, and one with a coordinate that is given
pub decide_supports : (cs : List Cond) (S : State) (o s : ℕ) → has S o s ≡ true → Decided ((p : List ℤ) × Supports cs S o s p)
decide_supports cs S o s h =
    elim (search_box (reach S o).region.lo (reach S o).region.hi (λ p. NoneRefuted cs (with_at S o s (just p))) (λ p. decide_refuted cs (with_at S o s (just p)))) [
      | inl f ↦ inl (f.0, record { place = h; point = f.1; unrefuted = f.2 })
      | inr n ↦ inr (λ q. n (q.0, q.1.point, q.1.unrefuted))
    ]

abbrev pub HasEnd : List Cond → State → ℕ → ℕ → ℤ → Type 0
HasEnd cs S o d v = (s : ℕ) × (p : List ℤ) × Supports cs S o s p × (coordinate p d ≡ v)

pub place_bound : (bs : List Bool) (s : ℕ) → place_in bs s ≡ true → s < suc (length bs)
place_bound bs zero h = omega arith
place_bound bs (suc k) h = elim (cases_lt k (length bs)) [ inl b ↦ omega arith | inr b ↦ absurd (false≢true (sym (get_or_past bs k false b) ∙ h)) ]

pub decide_end : (cs : List Cond) (S : State) (o d : ℕ) (v : ℤ) → Decided (HasEnd cs S o d v)
decide_end cs S o d v =
    elim (search_below (λ s. (has S o s ≡ true) × ((p : List ℤ) × InBox p (reach S o).region × (NoneRefuted cs (with_at S o s (just p)) × (coordinate p d ≡ v)))) (λ s. decide_both _ _ (decide_true (has S o s))
    (search_box (reach S o).region.lo (reach S o).region.hi (λ p. NoneRefuted cs (with_at S o s (just p)) × (coordinate p d ≡ v)) (λ p. decide_both _ _ (decide_refuted cs (with_at S o s (just p))) (decide_ℤ (coordinate p d) v))))
    (suc (length (reach S o).places))) [
      | inl f ↦ inl (f.0, f.2.1.0, record { place = f.2.0; point = f.2.1.1; unrefuted = f.2.1.2.0 }, f.2.1.2.1)
      | inr n ↦ inr (λ q. n q.0 (place_bound (reach S o).places q.0 q.2.place) (q.2.place, (q.1, q.2.point, (q.2.unrefuted, q.3))))
    ]
