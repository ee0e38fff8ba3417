-- Products and sums of a form stay within 128 bits.
use Rattle.std.proofs.Common.{◌≡◌, ℕ, suc, ◌+◌, ◌*◌, ◌^◌, ◌<◌, ◌≤◌, List, length, get_or, drop, refl, sym, ap, ◌∙◌, subst, arith, true, false, ℤ, pos, negsuc, ◌+ℤ◌, ◌*ℤ◌, ◌≤ℤ◌, ◌<ℤ◌, FitsSigned}
use Rattle.std.specs.Int.{w64, w128}
use Rattle.std.proofs.lemmas.Nat.{mul-le}
use Rattle.std.proofs.lemmas.Int.{ints}
use borrow.Author.Differences.{product_is}
use Rattle.std.proofs.Math.Seq.{drop-cons}
use Rattle.geo_conditions.specs.declared.form.Term.{Term}
use Rattle.geo_conditions.specs.Reach.{State}
use Rattle.geo_conditions.specs.Conditions.{least_product, sum_of, least_term}
use Rattle.geo_conditions.specs.Form.{IsBounded}
use Rattle.geo_conditions.specs.Sums.{InSum}
use Rattle.geo_base.specs.declared.TheConstants.{MAX_DIMS}
use Rattle.geo_conditions.specs.declared.object.TheConstants.{MAX_OBJECTS}
use lib.IntN.{+ℤ_assoc}
use mir.Val.{to_z, of_z}
use lib.Signed.{le_z, lt_z}
use Rattle.std.proofs.Common.{to_z-of_z, add-one}

pub least_product_neg : (a lo hi : ℤ) → a <ℤ pos 0 → least_product a lo hi ≡ a *ℤ hi
least_product_neg (pos n) lo hi h = absurd (omega (arith, ints))
least_product_neg (negsuc n) lo hi h = refl

pub least_product_not_neg : (a lo hi : ℤ) → pos 0 ≤ℤ a → least_product a lo hi ≡ a *ℤ lo
least_product_not_neg (pos n) lo hi h = refl
least_product_not_neg (negsuc n) lo hi h = absurd (omega (arith, ints))

-- one term more
pub sum_step : (S : State) (ts : List Term) (i : ℕ) (d : Term) (s p total : ℤ) → i < length ts → p ≡ least_term S (get_or ts i d) → s +ℤ sum_of (least_term S) (drop i ts) ≡ total → (s +ℤ p) +ℤ sum_of (least_term S) (drop (suc i) ts) ≡ total
sum_step S ts i d s p total h e k =
    ap (λ (x : ℤ). (s +ℤ x) +ℤ sum_of (least_term S) (drop (suc i) ts)) e
    ∙ +ℤ_assoc s (least_term S (get_or ts i d)) (sum_of (least_term S) (drop (suc i) ts))
    ∙ sym (ap (λ (xs : List Term). s +ℤ sum_of (least_term S) xs) (drop-cons ts i d h))
    ∙ k

-- a factor and an end
pub product_in : (a x : ℤ) → IsBounded a → FitsSigned w64 x → InSum 1 (a *ℤ x)
product_in (pos n) (pos m) h k =
    let e : n * m ≤ 10 ^ 15 * 2 ^ 63 = mul-le n m (10 ^ 15) (2 ^ 63) (omega (arith, ints)) (omega (arith, ints)) in
    (omega (arith, ints, product_is (pos n) (pos m)), omega (arith, ints, product_is (pos n) (pos m)))
product_in (pos n) (negsuc m) h k =
    let e : n * suc m ≤ 10 ^ 15 * 2 ^ 63 = mul-le n (suc m) (10 ^ 15) (2 ^ 63) (omega (arith, ints)) (omega (arith, ints)) in
    (omega (arith, ints, product_is (pos n) (negsuc m)), omega (arith, ints, product_is (pos n) (negsuc m)))
product_in (negsuc n) (pos m) h k =
    let e : suc n * m ≤ 10 ^ 15 * 2 ^ 63 = mul-le (suc n) m (10 ^ 15) (2 ^ 63) (omega (arith, ints)) (omega (arith, ints)) in
    (omega (arith, ints, product_is (negsuc n) (pos m)), omega (arith, ints, product_is (negsuc n) (pos m)))
product_in (negsuc n) (negsuc m) h k =
    let e : suc n * suc m ≤ 10 ^ 15 * 2 ^ 63 = mul-le (suc n) (suc m) (10 ^ 15) (2 ^ 63) (omega (arith, ints)) (omega (arith, ints)) in
    (omega (arith, ints, product_is (negsuc n) (negsuc m)), omega (arith, ints, product_is (negsuc n) (negsuc m)))

-- one more product
pub sum_in : (n : ℕ) (a b : ℤ) → InSum n a → InSum 1 b → InSum (n + 1) (a +ℤ b)
sum_in n a b h k = (omega (arith, ints), omega (arith, ints))

-- few products fit
pub sum_fits : (n : ℕ) (a : ℤ) → n ≤ MAX_OBJECTS * MAX_DIMS + 1 → InSum n a → FitsSigned w128 a
sum_fits n a h k = omega (arith, ints)

pub bounded_in : (a : ℤ) → IsBounded a → InSum 1 a
bounded_in a h = (omega (arith, ints), omega (arith, ints))

-- a sum that fits is kept by a cast
pub kept : (z : ℤ) → FitsSigned w128 z → to_z w128 (of_z w128 z) ≡ z
kept z h = to_z-of_z h

pub product_cast : (f e p : ℤ) → IsBounded f → FitsSigned w64 e → FitsSigned w128 p → p ≡ to_z w64 (of_z w64 f) *ℤ to_z w64 (of_z w64 e) → InSum 1 (to_z w128 (of_z w128 p))
product_cast f e p b h k q =
    let bf : FitsSigned w64 f = omega (arith, ints) in
    let q' : f *ℤ e ≡ p = ap (λ (x : ℤ). x *ℤ e) (sym (to_z-of_z bf)) ∙ ap (λ (x : ℤ). to_z w64 (of_z w64 f) *ℤ x) (sym (to_z-of_z h)) ∙ sym q in
    subst (InSum 1) (sym (kept p k)) (subst (InSum 1) q' (product_in f e b h))

-- a factor and an end are the least product of a term
negative : (f : ℤ) → lt_z f (pos 0) ≡ true → f <ℤ pos 0
negative (pos n) e = grind (arith, ints)
negative (negsuc n) e = omega (arith, ints)

not_negative : (f : ℤ) → lt_z f (pos 0) ≡ false → pos 0 ≤ℤ f
not_negative (pos n) e = omega (arith, ints)
not_negative (negsuc n) e = absurd (cc)

casted : (f e p : ℤ) → IsBounded f → FitsSigned w64 e → FitsSigned w128 p → p ≡ to_z w64 (of_z w64 f) *ℤ to_z w64 (of_z w64 e) → to_z w128 (of_z w128 p) ≡ f *ℤ e
casted f e p b h k q =
    let bf : FitsSigned w64 f = omega (arith, ints) in
    kept p k ∙ q ∙ ap (λ (x : ℤ). x *ℤ to_z w64 (of_z w64 e)) (to_z-of_z bf) ∙ ap (λ (x : ℤ). f *ℤ x) (to_z-of_z h)

pub term_below : (f lo hi e p : ℤ) → IsBounded f → FitsSigned w64 e → FitsSigned w128 p → lt_z (to_z w64 (of_z w64 f)) (pos 0) ≡ true → e ≡ hi → p ≡ to_z w64 (of_z w64 f) *ℤ to_z w64 (of_z w64 e) → to_z w128 (of_z w128 p) ≡ least_product f lo hi
term_below f lo hi e p b h k t same q =
    let bf : FitsSigned w64 f = omega (arith, ints) in
    let neg : f <ℤ pos 0 = negative f (ap (λ (x : ℤ). lt_z x (pos 0)) (sym (to_z-of_z bf)) ∙ t) in
    casted f e p b h k q ∙ ap (λ (x : ℤ). f *ℤ x) same ∙ sym (least_product_neg f lo hi neg)

pub term_above : (f lo hi e p : ℤ) → IsBounded f → FitsSigned w64 e → FitsSigned w128 p → lt_z (to_z w64 (of_z w64 f)) (pos 0) ≡ false → e ≡ lo → p ≡ to_z w64 (of_z w64 f) *ℤ to_z w64 (of_z w64 e) → to_z w128 (of_z w128 p) ≡ least_product f lo hi
term_above f lo hi e p b h k t same q =
    let bf : FitsSigned w64 f = omega (arith, ints) in
    let none : pos 0 ≤ℤ f = not_negative f (ap (λ (x : ℤ). lt_z x (pos 0)) (sym (to_z-of_z bf)) ∙ t) in
    casted f e p b h k q ∙ ap (λ (x : ℤ). f *ℤ x) same ∙ sym (least_product_not_neg f lo hi none)

pub step_value : (S : State) (ts : List Term) (i : ℕ) (d : Term) (s r total : ℤ) → i < length ts → i < MAX_OBJECTS * MAX_DIMS → InSum (i + 1) s → InSum 1 r → r ≡ least_term S (get_or ts i d) → s +ℤ sum_of (least_term S) (drop i ts) ≡ total → to_z w128 (of_z w128 (s +ℤ to_z w128 (of_z w128 r))) +ℤ sum_of (least_term S) (drop (i + 1) ts) ≡ total
step_value S ts i d s r total h few a b e k =
    let fr : FitsSigned w128 r = sum_fits 1 r (omega arith) b in
    let fs : FitsSigned w128 (s +ℤ r) = sum_fits (i + 1 + 1) (s +ℤ r) (omega arith) (sum_in (i + 1) s r a b) in
    rw (kept r fr, kept (s +ℤ r) fs, add-one) (sum_step S ts i d s r total h e k)

pub step_bound : (i : ℕ) (s r : ℤ) → i < MAX_OBJECTS * MAX_DIMS → InSum (i + 1) s → InSum 1 r → InSum (i + 1 + 1) (to_z w128 (of_z w128 (s +ℤ to_z w128 (of_z w128 r))))
step_bound i s r few a b =
    let fr : FitsSigned w128 r = sum_fits 1 r (omega arith) b in
    let fs : FitsSigned w128 (s +ℤ r) = sum_fits (i + 1 + 1) (s +ℤ r) (omega arith) (sum_in (i + 1) s r a b) in
    rw (kept r fr, kept (s +ℤ r) fs) (sum_in (i + 1) s r a b)

pub step_fits : (i : ℕ) (s r : ℤ) → i < MAX_OBJECTS * MAX_DIMS → InSum (i + 1) s → InSum 1 r → FitsSigned w128 (s +ℤ to_z w128 (of_z w128 r))
step_fits i s r few a b =
    let fr : FitsSigned w128 r = sum_fits 1 r (omega arith) b in
    rw (kept r fr) (sum_fits (i + 1 + 1) (s +ℤ r) (omega arith) (sum_in (i + 1) s r a b))

pub test_kept : (n r : ℤ) (k : ℕ) → FitsSigned w64 n → k < 2 ^ 64 → r ≡ to_z w64 (of_z w64 n) → le_z (to_z w128 (of_z w128 r)) (to_z w128 k) ≡ le_z n (pos k)
test_kept n r k h b e =
    let e' : r ≡ n = e ∙ to_z-of_z h in
    let fr : FitsSigned w128 r = rw e' (omega (arith, ints, h)) in
    let w : to_z w128 k ≡ pos k = omega (arith, ints) in
    rw (kept r fr, e', w) refl
