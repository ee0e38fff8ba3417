-- The values of sums that were added, scaled or multiplied.
use Rattle.std.proofs.Common.{◌≡◌, ℕ, eqb, ◌&&◌, Bool, true, false, cond, List, [], ◌∷◌, ℤ, pos, negsuc, ◌+ℤ◌, ◌*ℤ◌, neg_ℤ, sym, ap, ◌∙◌, refl, arith, tests}
use Rattle.std.proofs.lemmas.Int.{ints}
use Rattle.std.proofs.Math.IntN.{zero-*ℤ, *ℤ-zero, +ℤ_idl, *ℤ-one, *ℤ_comm, *ℤ-negsuc}
use Rattle.geo_base.specs.Boxes.{coordinate}
use Rattle.geo_base.specs.Tuple.{Tuple, spot}
use Rattle.geo_conditions.specs.declared.form.Term.{Term}
use Rattle.geo_conditions.specs.Form.{Sum}
use Rattle.geo_conditions.specs.Conditions.{sum_of, value}
use Rattle.linear_conditions.specs.Sums.{is_zero, term, unless_zero, same_coordinate, is_before, add_at, add_terms, add_sums, scale_terms, scale, constant_sum, has_terms, times_sum}
use Rattle.linear_conditions.proofs.Rings.{distr, distl, assoc}

-- the number that a coordinate has on a tuple
abbrev pub number_on : Tuple → ℕ → ℕ → ℤ
number_on t o d = coordinate (spot t o).origin d

abbrev pub term_value : Tuple → Term → ℤ
term_value t a = a.factor *ℤ number_on t a.object.0 a.dimension

abbrev pub terms_value : Tuple → List Term → ℤ
terms_value t ts = sum_of (λ a. a.factor *ℤ coordinate (spot t a.object.0).origin a.dimension) ts

pub zero_is : (z : ℤ) → is_zero z ≡ true → z ≡ pos 0
zero_is (pos n) h = grind (arith, tests)
zero_is (negsuc n) h = cc

-- a term that goes where its factor is 0
dropped : (t : Tuple) (o d : ℕ) (z : ℤ) (ts : List Term) (b : Bool) → is_zero z ≡ b →
    terms_value t (cond b ts (term o d z ∷ ts)) ≡ z *ℤ number_on t o d +ℤ terms_value t ts
dropped t o d z ts true h =
    sym (ap (λ y. y *ℤ number_on t o d +ℤ terms_value t ts) (zero_is z h) ∙ ap (λ y. y +ℤ terms_value t ts) (zero-*ℤ (number_on t o d)) ∙ +ℤ_idl (terms_value t ts))
dropped t o d z ts false h = refl

unless_zero-value : (t : Tuple) (o d : ℕ) (z : ℤ) (ts : List Term) → terms_value t (unless_zero (term o d z) ts) ≡ z *ℤ number_on t o d +ℤ terms_value t ts
unless_zero-value t o d z ts = dropped t o d z ts (is_zero z) refl

both_equal : (a b c d : ℕ) → (eqb a b && eqb c d) ≡ true → (a ≡ b) × (c ≡ d)
both_equal a b c d h = (grind (arith, tests), grind (arith, tests))

merged : (x y w u v : ℤ) → x ≡ w +ℤ y → v ≡ x +ℤ u → v ≡ y +ℤ (w +ℤ u)
merged x y w u v e h = omega (arith, ints)

swapped : (a b c : ℤ) → a +ℤ (b +ℤ c) ≡ b +ℤ (a +ℤ c)
swapped a b c = omega (arith, ints)

at_cons : (t : Tuple) (a u : Term) (ts : List Term) (b c : Bool) → same_coordinate a u ≡ b →
    terms_value t (add_at a ts) ≡ term_value t a +ℤ terms_value t ts →
    terms_value t (cond b (unless_zero (term u.object.0 u.dimension (u.factor +ℤ a.factor)) ts) (cond c (unless_zero a (u ∷ ts)) (u ∷ add_at a ts)))
    ≡ term_value t a +ℤ terms_value t (u ∷ ts)
at_cons t a u ts true c h ih =
    let e = both_equal a.object.0 u.object.0 a.dimension u.dimension h in
    merged _ (a.factor *ℤ number_on t u.object.0 u.dimension) _ (terms_value t ts) _
    (distr u.factor a.factor (number_on t u.object.0 u.dimension))
    (unless_zero-value t u.object.0 u.dimension (u.factor +ℤ a.factor) ts)
    ∙ ap (λ y. y +ℤ terms_value t (u ∷ ts)) (ap (λ o. a.factor *ℤ number_on t o u.dimension) (sym e.0) ∙ ap (λ d. a.factor *ℤ number_on t a.object.0 d) (sym e.1))
at_cons t a u ts false true h ih = unless_zero-value t a.object.0 a.dimension a.factor (u ∷ ts)
at_cons t a u ts false false h ih = ap (λ y. term_value t u +ℤ y) ih ∙ swapped (term_value t u) (term_value t a) (terms_value t ts)

pub add_at-value : (t : Tuple) (a : Term) (ts : List Term) → terms_value t (add_at a ts) ≡ term_value t a +ℤ terms_value t ts
add_at-value t a [] = unless_zero-value t a.object.0 a.dimension a.factor []
add_at-value t a (u ∷ ts) = at_cons t a u ts (same_coordinate a u) (is_before a u) refl (add_at-value t a ts)

regroup : (t a b : ℤ) → (a +ℤ t) +ℤ b ≡ t +ℤ (a +ℤ b)
regroup t a b = omega (arith, ints)

pub add_terms-value : (t : Tuple) (ts more : List Term) → terms_value t (add_terms ts more) ≡ terms_value t ts +ℤ terms_value t more
add_terms-value t ts [] = omega (arith, ints)
add_terms-value t ts (a ∷ more) =
    add_terms-value t (add_at a ts) more
    ∙ ap (λ y. y +ℤ terms_value t more) (add_at-value t a ts)
    ∙ regroup (terms_value t ts) (term_value t a) (terms_value t more)

four : (a b c d : ℤ) → (c +ℤ d) +ℤ (a +ℤ b) ≡ (c +ℤ a) +ℤ (d +ℤ b)
four a b c d = omega (arith, ints)

pub add_sums-value : (f g : Sum) (t : Tuple) → value (add_sums f g) t ≡ value f t +ℤ value g t
add_sums-value f g t =
    ap (λ y. (f.constant +ℤ g.constant) +ℤ y) (add_terms-value t f.terms g.terms)
    ∙ four (terms_value t f.terms) (terms_value t g.terms) f.constant g.constant

scale_terms-value : (t : Tuple) (z : ℤ) (ts : List Term) → terms_value t (scale_terms z ts) ≡ z *ℤ terms_value t ts
scale_terms-value t z [] = sym (*ℤ-zero z)
scale_terms-value t z (u ∷ ts) =
    unless_zero-value t u.object.0 u.dimension (z *ℤ u.factor) (scale_terms z ts)
    ∙ ap (λ y. (z *ℤ u.factor) *ℤ number_on t u.object.0 u.dimension +ℤ y) (scale_terms-value t z ts)
    ∙ ap (λ y. y +ℤ z *ℤ terms_value t ts) (assoc z u.factor (number_on t u.object.0 u.dimension))
    ∙ sym (distl z (term_value t u) (terms_value t ts))

pub scale-value : (z : ℤ) (f : Sum) (t : Tuple) → value (scale z f) t ≡ z *ℤ value f t
scale-value z f t = ap (λ y. z *ℤ f.constant +ℤ y) (scale_terms-value t z f.terms) ∙ sym (distl z f.constant (terms_value t f.terms))

pub constant-value : (z : ℤ) (t : Tuple) → value (constant_sum z) t ≡ z
constant-value z t = omega (arith, ints)

pub neg-value : (k : ℤ) → negsuc 0 *ℤ k ≡ neg_ℤ k
unfolding lib.IntN.one
neg-value k = *ℤ_comm (negsuc 0) k ∙ *ℤ-negsuc k 0 ∙ ap neg_ℤ (*ℤ-one k)

pub negated-value : (f : Sum) (t : Tuple) → value (scale (negsuc 0) f) t ≡ neg_ℤ (value f t)
negated-value f t = scale-value (negsuc 0) f t ∙ neg-value (value f t)

pub one-value : (t : Tuple) (o d : ℕ) → value (record { terms = term o d (pos 1) ∷ []; constant = pos 0 }) t ≡ number_on t o d
unfolding lib.IntN.one
one-value t o d =
    let e : pos 1 *ℤ number_on t o d ≡ number_on t o d = *ℤ_comm (pos 1) (number_on t o d) ∙ *ℤ-one (number_on t o d) in omega (arith, ints, e)

-- a sum without terms is its constant
pub bare-value : (f : Sum) (t : Tuple) → has_terms f ≡ false → value f t ≡ f.constant
bare-value f t h = bare f.terms f.constant h
  where
    bare : (ts : List Term) (z : ℤ) → has_terms (record { terms = ts; constant = z }) ≡ false → value (record { terms = ts; constant = z }) t ≡ z
    bare [] z h = constant-value z t
    bare (u ∷ ts) z h = cc

times_by : (f g : Sum) (t : Tuple) (b : Bool) → has_terms f ≡ b → (b ≡ true → has_terms g ≡ false) → value (cond b (scale g.constant f) (scale f.constant g)) t ≡ value f t *ℤ value g t
times_by f g t true h k = scale-value g.constant f t ∙ ap (λ z. z *ℤ value f t) (sym (bare-value g t (k refl))) ∙ *ℤ_comm (value g t) (value f t)
times_by f g t false h k = scale-value f.constant g t ∙ ap (λ z. z *ℤ value g t) (sym (bare-value f t h))

pub times_sum-value : (f g : Sum) (t : Tuple) → (has_terms f ≡ true → has_terms g ≡ false) → value (times_sum f g) t ≡ value f t *ℤ value g t
times_sum-value f g t k = times_by f g t (has_terms f) refl k
