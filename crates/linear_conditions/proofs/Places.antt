-- A term that is added, by the place where it belongs.
use Rattle.std.proofs.Common.{◌≡◌, ℕ, zero, suc, ◌<◌, ◌≤◌, ◌||◌, Bool, true, false, cond, List, [], ◌∷◌, ◌++◌, length, get_or, take, drop, pos, ◌+ℤ◌, sym, ap, ◌∙◌, refl, arith, subst}
use Rattle.std.proofs.lemmas.List.Sums.{fails_before_first, passes_at_first}
use Rattle.std.proofs.lemmas.List.{get_or_default}
use Rattle.geo_conditions.specs.declared.form.Term.{Term}
use Rattle.linear_conditions.specs.Sums.{term, unless_zero, same_coordinate, is_before, add_at, place_among, raised}

abbrev pub belongs : Term → Term → Bool
belongs a t = same_coordinate a t || is_before a t

abbrev pub none : Term
none = term 0 0 (pos 0)

-- none of the first k terms stands where a belongs
abbrev AllPassed : Term → List Term → ℕ → Type 0
AllPassed a ts k = (j : ℕ) (d : Term) → j < k → belongs a (get_or ts j d) ≡ false

two_false : (a b : Bool) → (a || b) ≡ false → (a ≡ false) × (b ≡ false)
two_false true b h = cc
two_false false b h = (refl, h)

new_by : (a t : Term) (ts xs ys : List Term) (s b : Bool) → s ≡ false → b ≡ true → cond s xs (cond b (unless_zero a (t ∷ ts)) ys) ≡ unless_zero a (t ∷ ts)
new_by a t ts xs ys true b h k = cc
new_by a t ts xs ys false true h k = refl
new_by a t ts xs ys false false h k = cc

on_by : (t : Term) (xs ys zs : List Term) (s b : Bool) → s ≡ false → b ≡ false → cond s xs (cond b ys (t ∷ zs)) ≡ t ∷ zs
on_by t xs ys zs true b h k = cc
on_by t xs ys zs false true h k = cc
on_by t xs ys zs false false h k = refl

add-on : (a t : Term) (ts : List Term) → belongs a t ≡ false → add_at a (t ∷ ts) ≡ t ∷ add_at a ts
add-on a t ts h = let b = two_false (same_coordinate a t) (is_before a t) h in
    on_by t (unless_zero (term t.object.0 t.dimension (t.factor +ℤ a.factor)) ts) (unless_zero a (t ∷ ts)) (add_at a ts) (same_coordinate a t) (is_before a t) b.0 b.1

add-new : (a : Term) (ts : List Term) (k : ℕ) → k ≤ length ts → AllPassed a ts k → (k < length ts → (d : Term) → (same_coordinate a (get_or ts k d) ≡ false) × (is_before a (get_or ts k d) ≡ true)) →
    add_at a ts ≡ take k ts ++ unless_zero a (drop k ts)
add-new a [] zero l h n = refl
add-new a [] (suc k) l h n = absurd (omega arith)
add-new a (t ∷ ts) zero l h n =
    let b = n (omega arith) none in
    new_by a t ts (unless_zero (term t.object.0 t.dimension (t.factor +ℤ a.factor)) ts) (t ∷ add_at a ts) (same_coordinate a t) (is_before a t) b.0 b.1
add-new a (t ∷ ts) (suc k) l h n =
    add-on a t ts (h 0 none (omega arith))
    ∙ ap (λ xs. t ∷ xs) (add-new a ts k (omega arith) (λ j d m. h (suc j) d (omega arith)) (λ m d. n (omega arith) d))

same_by : (t : Term) (xs ys : List Term) (s : Bool) → s ≡ true → cond s xs ys ≡ xs
same_by t xs ys true h = refl
same_by t xs ys false h = cc

add-same : (a : Term) (ts : List Term) (k : ℕ) → k < length ts → AllPassed a ts k → same_coordinate a (get_or ts k none) ≡ true → add_at a ts ≡ raised a ts k
add-same a [] k l h n = absurd (omega arith)
add-same a (t ∷ ts) zero l h n = same_by t (unless_zero (term t.object.0 t.dimension (t.factor +ℤ a.factor)) ts) (cond (is_before a t) (unless_zero a (t ∷ ts)) (t ∷ add_at a ts)) (same_coordinate a t) n
add-same a (t ∷ ts) (suc k) l h n =
    add-on a t ts (h 0 none (omega arith))
    ∙ ap (λ xs. t ∷ xs) (add-same a ts k (omega arith) (λ j d m. h (suc j) d (omega arith)) n)

passed : (a : Term) (ts : List Term) (k : ℕ) → k ≡ place_among a ts → AllPassed a ts k
passed a ts k e j d l = fails_before_first (belongs a) ts j d (omega (arith, e))

or_second : (s b : Bool) → (s || b) ≡ true → s ≡ false → b ≡ true
or_second true b h k = cc
or_second false b h k = h

pub added-raised : (a : Term) (ts : List Term) (k : ℕ) → k ≡ place_among a ts → k < length ts → same_coordinate a (get_or ts k none) ≡ true → add_at a ts ≡ raised a ts k
added-raised a ts k e l s = add-same a ts k l (passed a ts k e) s

pub added-new : (a : Term) (ts : List Term) (k : ℕ) → k ≡ place_among a ts → k ≤ length ts → (k < length ts → same_coordinate a (get_or ts k none) ≡ false) → add_at a ts ≡ take k ts ++ unless_zero a (drop k ts)
added-new a ts k e l s = add-new a ts k l (passed a ts k e) (λ m d.
    let q : same_coordinate a (get_or ts k d) ≡ false = subst (λ x. same_coordinate a x ≡ false) (get_or_default ts k none d m) (s m) in
    let r : belongs a (get_or ts (place_among a ts) d) ≡ true = passes_at_first (belongs a) ts d (omega (arith, e)) in
    (q, or_second (same_coordinate a (get_or ts k d)) (is_before a (get_or ts k d)) (subst (λ n. belongs a (get_or ts n d) ≡ true) (sym e) r) q))
