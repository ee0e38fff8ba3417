-- When conditions are true: at least one of several, and comparisons of two coordinates.
use Rattle.std.proofs.Common.{◌≡◌, ℕ, ◌+◌, ◌-◌, ◌<◌, ◌≤◌, ◌||◌, Bool, true, false, List, [], ◌∷◌, ◌++◌, ℤ, pos, negsuc, neg_ℤ, ◌+ℤ◌, ◌-ℤ◌, ◌*ℤ◌, refl, sym, ap, ◌∙◌, subst, arith}
use Rattle.std.specs.List.{All, list_any, flat_map, range_with_len}
use Rattle.std.proofs.lemmas.Int.{ints}
use Rattle.std.proofs.lemmas.Bool.Decides.{nat_tests}
use Rattle.std.proofs.lemmas.Bool.{or_parts, or_from}
use Rattle.std.proofs.lemmas.List.FromFn.{length-range_with_len, get_or-range_with_len}
use Rattle.std.proofs.lemmas.List.Elements.{All-nil, All-cons, All-head, All-tail, All-append}
use Rattle.std.proofs.Math.IntN.{*ℤ-one, *ℤ_comm, *ℤ-negsuc}
use lib.Signed.{le_z}
use Rattle.geo_base.specs.Tuple.{Tuple}
use Rattle.geo_conditions.specs.Reach.{count}
use Rattle.linear_conditions.specs.CondTree.{CondTree, at_least, conds, true_on, true_count}

-- ---- at least one of several

some_more : (b j : Bool) (n : ℕ) → le_z (pos 1) (pos n) ≡ j → le_z (pos 1) (pos (count b + n)) ≡ (b || j)
some_more true j n e = grind (arith, nat_tests, ints)
some_more false j n e = grind (arith, nat_tests, ints)

pub one-of : (t : Tuple) (cs : List CondTree) → true_on t (at_least (pos 1) (conds cs)) ≡ list_any (true_on t) cs
one-of t [] = refl
one-of t (c ∷ cs) = some_more (true_on t c) _ (true_count t (conds cs)) (one-of t cs)

or_assoc : (a b c : Bool) → (a || (b || c)) ≡ ((a || b) || c)
or_assoc true b c = refl
or_assoc false b c = refl

pub any-append : {A : Type 0} (f : A → Bool) (xs ys : List A) → list_any f (xs ++ ys) ≡ (list_any f xs || list_any f ys)
any-append f [] ys = refl
any-append f (x ∷ xs) ys = ap (λ (b : Bool). f x || b) (any-append f xs ys) ∙ or_assoc (f x) (list_any f xs) (list_any f ys)

pub any-flat : {A B : Type 0} (f : B → Bool) (g : A → List B) (xs : List A) → list_any f (flat_map g xs) ≡ list_any (λ x. list_any f (g x)) xs
any-flat f g [] = refl
any-flat f g (x ∷ xs) = any-append f (g x) (flat_map g xs) ∙ ap (λ (b : Bool). list_any f (g x) || b) (any-flat f g xs)

-- ---- coordinates once, and with their sign turned

pub once : (x : ℤ) → pos 1 *ℤ x ≡ x
unfolding lib.IntN.one
once x = *ℤ_comm (pos 1) x ∙ *ℤ-one x

pub turned : (x : ℤ) → negsuc 0 *ℤ x ≡ neg_ℤ x
unfolding lib.IntN.one
turned x = *ℤ_comm (negsuc 0) x ∙ *ℤ-negsuc x 0 ∙ ap neg_ℤ (*ℤ-one x)

pub shifted : (d b c : ℤ) → d ≡ b -ℤ c → le_z d (pos 0) ≡ le_z b c
shifted d b c e = grind (arith, ints)

ahead : (c x y p q : ℤ) → p ≡ x → q ≡ neg_ℤ y → (a l b : ℤ) → c ≡ (a +ℤ l) -ℤ b → le_z (c +ℤ (p +ℤ (q +ℤ pos 0))) (pos 0) ≡ le_z ((x +ℤ a) +ℤ l) (y +ℤ b)
ahead c x y p q e f a l b g = shifted (c +ℤ (p +ℤ (q +ℤ pos 0))) ((x +ℤ a) +ℤ l) (y +ℤ b) (omega (arith, ints))

-- the one ends at or before the other's begin: with the terms in either order
pub ends_before : (x y a l b : ℤ) → le_z (((a +ℤ l) -ℤ b) +ℤ (pos 1 *ℤ x +ℤ (negsuc 0 *ℤ y +ℤ pos 0))) (pos 0) ≡ le_z ((x +ℤ a) +ℤ l) (y +ℤ b)
ends_before x y a l b = ahead ((a +ℤ l) -ℤ b) x y (pos 1 *ℤ x) (negsuc 0 *ℤ y) (once x) (turned y) a l b refl

behind : (c x y p q : ℤ) → p ≡ neg_ℤ x → q ≡ y → (a l b : ℤ) → c ≡ (b +ℤ l) -ℤ a → le_z (c +ℤ (p +ℤ (q +ℤ pos 0))) (pos 0) ≡ le_z ((y +ℤ b) +ℤ l) (x +ℤ a)
behind c x y p q e f a l b g = shifted (c +ℤ (p +ℤ (q +ℤ pos 0))) ((y +ℤ b) +ℤ l) (x +ℤ a) (omega (arith, ints))

pub begins_after : (x y a b l : ℤ) → le_z (((b +ℤ l) -ℤ a) +ℤ (negsuc 0 *ℤ x +ℤ (pos 1 *ℤ y +ℤ pos 0))) (pos 0) ≡ le_z ((y +ℤ b) +ℤ l) (x +ℤ a)
begins_after x y a b l = behind ((b +ℤ l) -ℤ a) x y (negsuc 0 *ℤ x) (pos 1 *ℤ y) (turned x) (once y) a l b refl

low : (c x p : ℤ) → p ≡ neg_ℤ x → (lo a : ℤ) → c ≡ lo -ℤ a → le_z (c +ℤ (p +ℤ pos 0)) (pos 0) ≡ le_z lo (x +ℤ a)
low c x p e lo a g = shifted (c +ℤ (p +ℤ pos 0)) lo (x +ℤ a) (omega (arith, ints))

pub low-true : (x lo a : ℤ) → le_z ((lo -ℤ a) +ℤ (negsuc 0 *ℤ x +ℤ pos 0)) (pos 0) ≡ le_z lo (x +ℤ a)
low-true x lo a = low (lo -ℤ a) x (negsuc 0 *ℤ x) (turned x) lo a refl

high : (c x p : ℤ) → p ≡ x → (a l hi : ℤ) → c ≡ ((a +ℤ l) -ℤ pos 1) -ℤ hi → le_z (c +ℤ (p +ℤ pos 0)) (pos 0) ≡ le_z (((x +ℤ a) +ℤ l) -ℤ pos 1) hi
high c x p e a l hi g = shifted (c +ℤ (p +ℤ pos 0)) (((x +ℤ a) +ℤ l) -ℤ pos 1) hi (omega (arith, ints))

pub high-true : (x a l hi : ℤ) → le_z ((((a +ℤ l) -ℤ pos 1) -ℤ hi) +ℤ (pos 1 *ℤ x +ℤ pos 0)) (pos 0) ≡ le_z (((x +ℤ a) +ℤ l) -ℤ pos 1) hi
high-true x a l hi = high (((a +ℤ l) -ℤ pos 1) -ℤ hi) x (pos 1 *ℤ x) (once x) a l hi refl

-- a coordinate that is at most a number, and one that is at least a number

up : (c x p : ℤ) → p ≡ x → (v : ℤ) → c ≡ pos 0 -ℤ v → le_z (c +ℤ (p +ℤ pos 0)) (pos 0) ≡ le_z x v
up c x p e v g = shifted (c +ℤ (p +ℤ pos 0)) x v (omega (arith, ints))

pub up-true : (x v : ℤ) → le_z ((pos 0 -ℤ v) +ℤ (pos 1 *ℤ x +ℤ pos 0)) (pos 0) ≡ le_z x v
up-true x v = up (pos 0 -ℤ v) x (pos 1 *ℤ x) (once x) v refl

down : (c x p : ℤ) → p ≡ neg_ℤ x → le_z (c +ℤ (p +ℤ pos 0)) (pos 0) ≡ le_z c x
down c x p e = shifted (c +ℤ (p +ℤ pos 0)) c x (omega (arith, ints))

pub down-true : (x v : ℤ) → le_z (v +ℤ (negsuc 0 *ℤ x +ℤ pos 0)) (pos 0) ≡ le_z v x
down-true x v = down v x (negsuc 0 *ℤ x) (turned x)

-- ---- each of the items of joined lists

pub all-left : {B : Type 0} (P : B → Type 0) (xs ys : List B) → All P (xs ++ ys) → All P xs
all-left P [] ys h = All-nil P
all-left P (x ∷ xs) ys h = All-cons P x xs (All-head P x (xs ++ ys) h) (all-left P xs ys (All-tail P x (xs ++ ys) h))

pub all-right : {B : Type 0} (P : B → Type 0) (xs ys : List B) → All P (xs ++ ys) → All P ys
all-right P [] ys h = h
all-right P (x ∷ xs) ys h = all-right P xs ys (All-tail P x (xs ++ ys) h)

pub all-flat-out : {A B : Type 0} (P : B → Type 0) (g : A → List B) (xs : List A) → All P (flat_map g xs) → All (λ x. All P (g x)) xs
all-flat-out P g [] h = All-nil (λ x. All P (g x))
all-flat-out P g (x ∷ xs) h = All-cons (λ y. All P (g y)) x xs (all-left P (g x) (flat_map g xs) h) (all-flat-out P g xs (all-right P (g x) (flat_map g xs) h))

pub all-flat-in : {A B : Type 0} (P : B → Type 0) (g : A → List B) (xs : List A) → All (λ x. All P (g x)) xs → All P (flat_map g xs)
all-flat-in P g [] h = All-nil P
all-flat-in P g (x ∷ xs) h = All-append P (g x) (flat_map g xs) (All-head (λ y. All P (g y)) x xs h) (all-flat-in P g xs (All-tail (λ y. All P (g y)) x xs h))

-- the numbers from a on, n of them
pub all-range-out : (P : ℕ → Type 0) (a n : ℕ) → All P (range_with_len a n) → (k : ℕ) → a ≤ k → k < a + n → P k
all-range-out P a n h k l m =
    let i : k - a < n = omega arith in
    let e : a + (k - a) ≡ k = omega arith in
    subst P (get_or-range_with_len a n (k - a) 0 i ∙ e) (h (k - a) 0 (let s = length-range_with_len a n in omega (arith, s, i)))

pub all-range-in : (P : ℕ → Type 0) (a n : ℕ) → ((k : ℕ) → a ≤ k → k < a + n → P k) → All P (range_with_len a n)
all-range-in P a n f i d h =
    let l : i < n = (let s = length-range_with_len a n in omega (arith, s, h)) in
    subst P (sym (get_or-range_with_len a n i d l)) (f (a + i) (omega arith) (omega arith))

-- a test at each number
pub any-out : {A : Type 0} (f : A → Bool) (xs : List A) → list_any f xs ≡ false → All (λ x. f x ≡ false) xs
any-out f [] h = All-nil (λ x. f x ≡ false)
any-out f (x ∷ xs) h = let p = or_parts (f x) (list_any f xs) h in All-cons (λ y. f y ≡ false) x xs p.0 (any-out f xs p.1)

pub none-any : {A : Type 0} (f : A → Bool) (xs : List A) → All (λ x. f x ≡ false) xs → list_any f xs ≡ false
none-any f [] h = refl
none-any f (x ∷ xs) h = or_from (f x) (list_any f xs) (All-head (λ y. f y ≡ false) x xs h) (none-any f xs (All-tail (λ y. f y ≡ false) x xs h))
