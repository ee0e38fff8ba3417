-- Sums of sums within the bounds of a form stay within 128 bits.
use Rattle.std.proofs.Common.{◌≡◌, ◌⊎◌, inl, inr, ℕ, suc, ◌+◌, ◌^◌, ◌<◌, ◌≤◌, eqb, ◌&&◌, Bool, true, false, cond, List, [], ◌∷◌, ℤ, pos, negsuc, neg_ℤ, ◌+ℤ◌, ◌*ℤ◌, ◌≤ℤ◌, FitsSigned, arith, tests, refl}
use Rattle.std.specs.List.{All, list_all}
use Rattle.std.specs.Int.{w128}
use Rattle.std.specs.Prelude.{unsigned_abs}
use Rattle.std.proofs.lemmas.Int.{ints, fits_signed_mul}
use Rattle.std.proofs.lemmas.List.Elements.{All-nil, All-cons}
use Rattle.geo_conditions.specs.declared.form.Term.{Term}
use Rattle.geo_conditions.specs.Form.{Sum, IsBounded, StandsBefore}
use Rattle.linear_conditions.specs.Sums.{is_zero, term, unless_zero, same_coordinate, is_before, add_at, add_terms, add_sums, is_bounded, fits_sum}
use Rattle.linear_conditions.specs.Room.{HasRoom, HaveRoom, CanAdd, CanScale}
use Rattle.linear_conditions.proofs.Ordered.{IsOrdered, before_both, both-true, bounds-of}

-- from -m to m
abbrev pub IsUpTo : ℕ → ℤ → Type 0
IsUpTo m z = (neg_ℤ (pos m) ≤ℤ z) × (z ≤ℤ pos m)

abbrev pub AllUpTo : ℕ → List Term → Type 0
AllUpTo m [] = Unit {0}
AllUpTo m (t ∷ ts) = IsUpTo m t.factor × AllUpTo m ts

abbrev pub SumUpTo : ℕ → Sum → Type 0
SumUpTo m f = AllUpTo m f.terms × IsUpTo m f.constant

-- each factor is within m, or its term stands before h and it is within m and n together
abbrev Reaches : ℕ → ℕ → Term → List Term → Type 0
Reaches m n h [] = Unit {0}
Reaches m n h (t ∷ ts) = (IsUpTo m t.factor ⊎ (StandsBefore t h × IsUpTo (m + n) t.factor)) × Reaches m n h ts

up_sum : (m n : ℕ) (x y : ℤ) → IsUpTo m x → IsUpTo n y → IsUpTo (m + n) (x +ℤ y)
up_sum m n x y h k = let a = h.0 in let b = h.1 in let c = k.0 in let d = k.1 in (omega (arith, ints), omega (arith, ints))

up_more : (m n : ℕ) (x : ℤ) → IsUpTo m x → m ≤ n → IsUpTo n x
up_more m n x h l = let a = h.0 in let b = h.1 in (omega (arith, ints), omega (arith, ints))

up_fits : (m : ℕ) (x : ℤ) → IsUpTo m x → m < 2 ^ 127 → FitsSigned w128 x
up_fits m x h l = let a = h.0 in let b = h.1 in omega (arith, ints)

both_equal : (a b c d : ℕ) → (eqb a b && eqb c d) ≡ true → (a ≡ b) × (c ≡ d)
both_equal a b c d h = (grind (arith, tests), grind (arith, tests))

module _ (m n : ℕ) where
  starts : (h : Term) (ts : List Term) → AllUpTo m ts → Reaches m n h ts
  starts h [] u = tt
  starts h (t ∷ ts) u = (inl u.0, starts h ts u.1)

  one_up : (h t : Term) → IsUpTo m t.factor ⊎ (StandsBefore t h × IsUpTo (m + n) t.factor) → IsUpTo (m + n) t.factor
  one_up h t (inl u) = up_more m (m + n) t.factor u (omega arith)
  one_up h t (inr u) = u.1

  ends : (h : Term) (ts : List Term) → Reaches m n h ts → AllUpTo (m + n) ts
  ends h [] r = tt
  ends h (t ∷ ts) r = (one_up h t r.0, ends h ts r.1)

  one_on : (a b t : Term) → StandsBefore a b → IsUpTo m t.factor ⊎ (StandsBefore t a × IsUpTo (m + n) t.factor) → IsUpTo m t.factor ⊎ (StandsBefore t b × IsUpTo (m + n) t.factor)
  one_on a b t s (inl u) = inl u
  one_on a b t s (inr u) = inr (before_both t a b u.0 s, u.1)

  on : (a b : Term) (ts : List Term) → StandsBefore a b → Reaches m n a ts → Reaches m n b ts
  on a b [] s r = tt
  on a b (t ∷ ts) s r = (one_on a b t s r.0, on a b ts s r.1)

  room : (a : Term) (ts : List Term) → m + n + n < 2 ^ 127 → IsUpTo n a.factor → Reaches m n a ts → HasRoom ts a.factor
  room a [] l u r = All-nil (λ t. FitsSigned w128 (t.factor +ℤ a.factor))
  room a (t ∷ ts) l u r =
      All-cons (λ x. FitsSigned w128 (x.factor +ℤ a.factor)) t ts (up_fits (m + n + n) (t.factor +ℤ a.factor) (up_sum (m + n) n t.factor a.factor (one_up a t r.0) u) l) (room a ts l u r.1)

  unless_reaches : (b a : Term) (ts : List Term) (z : Bool) → StandsBefore a b → IsUpTo (m + n) a.factor → Reaches m n b ts → Reaches m n b (cond z ts (a ∷ ts))
  unless_reaches b a ts true s u r = r
  unless_reaches b a ts false s u r = (inr (s, u), r)

  not_itself : (a t : Term) → same_coordinate a t ≡ true → StandsBefore t a → ⊥
  not_itself a t e s =
      let c = both_equal a.object.0 t.object.0 a.dimension t.dimension e in
      let o : t.object.0 ≡ a.object.0 = omega (arith, c.0) in
      let d = s.dimension o in omega (arith, c.1)

  merged : (a t : Term) → same_coordinate a t ≡ true → IsUpTo n a.factor → IsUpTo m t.factor ⊎ (StandsBefore t a × IsUpTo (m + n) t.factor) → IsUpTo (m + n) (t.factor +ℤ a.factor)
  merged a t e u (inl v) = up_sum m n t.factor a.factor v u
  merged a t e u (inr v) = absurd (not_itself a t e v.0)

  same_before : (a b t : Term) (z : ℤ) → same_coordinate a t ≡ true → StandsBefore a b → StandsBefore (term t.object.0 t.dimension z) b
  same_before a b t z e s =
      let c = both_equal a.object.0 t.object.0 a.dimension t.dimension e in
      let p = s.object in
      record { object = omega (arith, c.0); dimension = λ q. (let o : a.object.0 ≡ b.object.0 = omega (arith, c.0) in let d = s.dimension o in omega (arith, c.1)) }

  add_by : (a b t : Term) (ts : List Term) (s c : Bool) → same_coordinate a t ≡ s → StandsBefore a b → IsUpTo n a.factor → Reaches m n a (t ∷ ts) → Reaches m n b (add_at a ts) →
      Reaches m n b (cond s (unless_zero (term t.object.0 t.dimension (t.factor +ℤ a.factor)) ts) (cond c (unless_zero a (t ∷ ts)) (t ∷ add_at a ts)))
  add_by a b t ts true c e s u r ih =
      unless_reaches b (term t.object.0 t.dimension (t.factor +ℤ a.factor)) ts (is_zero (t.factor +ℤ a.factor)) (same_before a b t (t.factor +ℤ a.factor) e s) (merged a t e u r.0) (on a b ts s r.1)
  add_by a b t ts false true e s u r ih = unless_reaches b a (t ∷ ts) (is_zero a.factor) s (up_more n (m + n) a.factor u (omega arith)) (on a b (t ∷ ts) s r)
  add_by a b t ts false false e s u r ih = (one_on a b t s r.0, ih)

  adds : (a b : Term) (ts : List Term) → StandsBefore a b → IsUpTo n a.factor → Reaches m n a ts → Reaches m n b (add_at a ts)
  adds a b [] s u r = unless_reaches b a [] (is_zero a.factor) s (up_more n (m + n) a.factor u (omega arith)) tt
  adds a b (t ∷ ts) s u r = add_by a b t ts (same_coordinate a t) (is_before a t) refl s u r (adds a b ts s u r.1)

  after : (a : Term) → StandsBefore a (term (suc a.object.0) 0 (pos 0))
  after a = record { object = omega arith; dimension = λ e. absurd (omega arith) }

  from : (a : Term) (more ts : List Term) → m + n + n < 2 ^ 127 → Reaches m n a ts → IsOrdered (a ∷ more) → AllUpTo n (a ∷ more) → HaveRoom ts (a ∷ more) × AllUpTo (m + n) (add_terms ts (a ∷ more))
  from a [] ts l r o u =
      let b = term (suc a.object.0) 0 (pos 0) in ((room a ts l u.0 r, tt), ends b (add_at a ts) (adds a b ts (after a) u.0 r))
  from a (b ∷ more) ts l r o u =
      let k = from b more (add_at a ts) l (adds a b ts o.1 u.0 r) o.2 u.1 in ((room a ts l u.0 r, k.0), k.1)

  all_more : (ts : List Term) → AllUpTo m ts → AllUpTo (m + n) ts
  all_more [] u = tt
  all_more (t ∷ ts) u = (up_more m (m + n) t.factor u.0 (omega arith), all_more ts u.1)

  terms-added : (ts more : List Term) → m + n + n < 2 ^ 127 → IsOrdered more → AllUpTo m ts → AllUpTo n more → HaveRoom ts more × AllUpTo (m + n) (add_terms ts more)
  terms-added ts [] l o u v = (tt, all_more ts u)
  terms-added ts (a ∷ more) l o u v = from a more ts l (starts a ts u) o v

  -- a sum within n added to one within m
  pub can-add : (f g : Sum) → m + n + n < 2 ^ 127 → IsOrdered g.terms → SumUpTo m f → SumUpTo n g → CanAdd f g × SumUpTo (m + n) (add_sums f g)
  can-add f g l o u v =
      let r = terms-added f.terms g.terms l o u.0 v.0 in
      let s = up_sum m n f.constant g.constant u.1 v.1 in
      (record { terms = r.0; constant = up_fits (m + n) (f.constant +ℤ g.constant) s (omega arith) }, (r.1, s))

up-bounded : (z : ℤ) → IsBounded z → IsUpTo (10 ^ 15) z
up-bounded z h = let a = h.0 in let b = h.1 in (omega (arith, ints), omega (arith, ints))

factors-up : (ts : List Term) → list_all (λ (t : Term). is_bounded t.factor) ts ≡ true → AllUpTo (10 ^ 15) ts
factors-up [] h = tt
factors-up (t ∷ ts) h =
    let b = both-true (is_bounded t.factor) (list_all (λ (u : Term). is_bounded u.factor) ts) h in (up-bounded t.factor (bounds-of t.factor b.0), factors-up ts b.1)

pub fits-up : (f : Sum) → fits_sum f ≡ true → SumUpTo (10 ^ 15) f
fits-up f h =
    let b = both-true (list_all (λ (t : Term). is_bounded t.factor) f.terms) (is_bounded f.constant) h in (factors-up f.terms b.0, up-bounded f.constant (bounds-of f.constant b.1))

abs-up : (z : ℤ) → IsUpTo (10 ^ 15) z → unsigned_abs z ≤ 10 ^ 15
abs-up (pos k) h = let a = h.1 in omega (arith, ints)
abs-up (negsuc k) h = let a = h.0 in omega (arith, ints)

product-fits : (x y : ℤ) → IsUpTo (10 ^ 15) x → IsUpTo (10 ^ 15) y → FitsSigned w128 (x *ℤ y)
product-fits x y h k = fits_signed_mul w128 x y (10 ^ 15) (10 ^ 15) (abs-up x h) (abs-up y k) (omega arith)

scales : (z : ℤ) (ts : List Term) → IsUpTo (10 ^ 15) z → AllUpTo (10 ^ 15) ts → All (λ t. FitsSigned w128 (z *ℤ t.factor)) ts
scales z [] h u = All-nil (λ t. FitsSigned w128 (z *ℤ t.factor))
scales z (t ∷ ts) h u = All-cons (λ x. FitsSigned w128 (z *ℤ x.factor)) t ts (product-fits z t.factor h u.0) (scales z ts h u.1)

pub can-scale : (z : ℤ) (f : Sum) → IsUpTo (10 ^ 15) z → SumUpTo (10 ^ 15) f → CanScale z f
can-scale z f h u = record { terms = scales z f.terms h u.0; constant = product-fits z f.constant h u.1 }

pub minus-one-up : IsUpTo (10 ^ 15) (negsuc 0)
minus-one-up = (omega (arith, ints), omega (arith, ints))
