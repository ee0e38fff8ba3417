-- How many conditions there are.
use Rattle.std.proofs.Common.{◌≡◌, ℕ, suc, ◌+◌, ◌*◌, ◌≤◌, List, [], ◌∷◌, ◌++◌, length, refl, ap, ◌∙◌, arith}
use Rattle.std.specs.Prelude.{All}
use Rattle.std.specs.List.{flat_map, range_with_len}
use Rattle.std.proofs.lemmas.Nat.{mul-le}
use Rattle.std.proofs.lemmas.List.{length-append, length-map}
use Rattle.std.proofs.lemmas.List.Elements.{All-head, All-tail}
use Rattle.std.proofs.lemmas.List.FromFn.{length-range_with_len}
use Rattle.problem_data.specs.Problem.{BoxData, RangeData, ProblemData}
use Rattle.rule_ground.specs.Shapes.{places}
use Rattle.rule_values.specs.Shapes.{boxes_at}
use Rattle.rule_ground.specs.Apart.{apart_condition, apart_from_box, apart_at_places, apart_at_place, apart_of, apart_behind}
use Rattle.rule_ground.specs.Within.{within_in, within_of_box, within_at_place, within_of}
use Rattle.rule_ground.specs.BoxCounts.{total, box_count}

pub length-flat : {X A : Type 0} (f : X → List A) (xs : List X) → length (flat_map f xs) ≡ total (λ x. length (f x)) xs
length-flat f [] = refl
length-flat f (x ∷ xs) = length-append (f x) (flat_map f xs) ∙ ap (λ (n : ℕ). length (f x) + n) (length-flat f xs)

pub total-same : {X : Type 0} (f g : X → ℕ) (xs : List X) → ((x : X) → f x ≡ g x) → total f xs ≡ total g xs
total-same f g [] e = refl
total-same f g (x ∷ xs) e = λ i. e x i + total-same f g xs e i

spread : (n m k : ℕ) → n + m * n ≡ suc m * n
spread n m k = grind arith

pub total-const : {X : Type 0} (n : ℕ) (xs : List X) → total (λ x. n) xs ≡ length xs * n
total-const n [] = grind arith
total-const n (x ∷ xs) = ap (λ (m : ℕ). n + m) (total-const n xs) ∙ spread n (length xs) 0

-- lists of at most n items, one behind another
total-most : {X : Type 0} (f : X → ℕ) (n : ℕ) (xs : List X) → All (λ x. f x ≤ n) xs → total f xs ≤ total (λ x. n) xs
total-most f n [] h = omega arith
total-most f n (x ∷ xs) h =
    let a = All-head (λ y. f y ≤ n) x xs h in
    let b = total-most f n xs (All-tail (λ y. f y ≤ n) x xs h) in
    omega (arith, a, b)

pub flat-most : {X A : Type 0} (n : ℕ) (f : X → List A) (xs : List X) → All (λ x. length (f x) ≤ n) xs → length (flat_map f xs) ≤ length xs * n
flat-most n f xs h =
    let a = total-most (λ x. length (f x)) n xs h in
    let b = total-const n xs in
    let c = length-flat f xs in
    omega (arith, a, b, c)

left_out : (k a b : ℕ) → k * a + k * b ≡ k * (a + b)
left_out k a b = grind arith

pub total-left : {X : Type 0} (k : ℕ) (f : X → ℕ) (xs : List X) → total (λ x. k * f x) xs ≡ k * total f xs
total-left k f [] = grind arith
total-left k f (x ∷ xs) = ap (λ (m : ℕ). k * f x + m) (total-left k f xs) ∙ left_out k (f x) (total f xs)

right_out : (k a b : ℕ) → a * k + b * k ≡ (a + b) * k
right_out k a b = grind arith

pub total-right : {X : Type 0} (k : ℕ) (f : X → ℕ) (xs : List X) → total (λ x. f x * k) xs ≡ total f xs * k
total-right k f [] = grind arith
total-right k f (x ∷ xs) = ap (λ (m : ℕ). f x * k + m) (total-right k f xs) ∙ right_out k (f x) (total f xs)

pub total-append : {X : Type 0} (f : X → ℕ) (xs ys : List X) → total f (xs ++ ys) ≡ total f xs + total f ys
total-append f [] ys = omega arith
total-append f (x ∷ xs) ys = let e = total-append f xs ys in omega (arith, e)

-- one number more
pub total-more : {X : Type 0} (f : X → ℕ) (xs ys : List X) (x : X) (now new : ℕ) → ys ≡ xs ++ x ∷ [] → now ≡ total f xs → new ≡ now + f x → new ≡ total f ys
total-more f xs ys x now new e h k = let a = total-append f xs (x ∷ []) in let b = ap (total f) e in omega (arith, a, b, h, k)

-- ---- apart

two-shapes : (p : ProblemData) (i s j u : ℕ) → length (apart_at_places p i s j u) ≡ length (boxes_at p i s) * length (boxes_at p j u)
two-shapes p i s j u =
    length-flat (apart_from_box p i s j u) (boxes_at p i s)
    ∙ total-same (λ a. length (apart_from_box p i s j u a)) (λ a. length (boxes_at p j u)) (boxes_at p i s) (λ a. length-map (boxes_at p j u) (apart_condition p i s j u a))
    ∙ total-const (length (boxes_at p j u)) (boxes_at p i s)

one-shape : (p : ProblemData) (i j s : ℕ) → length (apart_at_place p i j s) ≡ length (boxes_at p i s) * box_count p j
one-shape p i j s =
    length-flat (apart_at_places p i s j) (places p j)
    ∙ total-same (λ u. length (apart_at_places p i s j u)) (λ u. length (boxes_at p i s) * length (boxes_at p j u)) (places p j) (two-shapes p i s j)
    ∙ total-left (length (boxes_at p i s)) (λ u. length (boxes_at p j u)) (places p j)

pub two-objects : (p : ProblemData) (i j : ℕ) → length (apart_of p i j) ≡ box_count p i * box_count p j
two-objects p i j =
    length-flat (apart_at_place p i j) (places p i)
    ∙ total-same (λ s. length (apart_at_place p i j s)) (λ s. length (boxes_at p i s) * box_count p j) (places p i) (one-shape p i j)
    ∙ total-right (box_count p j) (λ s. length (boxes_at p i s)) (places p i)

pub objects-behind : (p : ProblemData) (i : ℕ) (js : List ℕ) → length (flat_map (apart_of p i) js) ≡ total (λ j. box_count p i * box_count p j) js
objects-behind p i js = length-flat (apart_of p i) js ∙ total-same (λ j. length (apart_of p i j)) (λ j. box_count p i * box_count p j) js (two-objects p i)

pub all-apart : (p : ProblemData) (js : List ℕ) → length (flat_map (apart_behind p) js) ≡ total (λ i. length (apart_behind p i)) js
all-apart p js = length-flat (apart_behind p) js

-- ---- within

one-box : (p : ProblemData) (ranges : List RangeData) (o s : ℕ) (b : BoxData) → length (within_of_box p ranges o s b) ≡ p.dims * 2
one-box p ranges o s b =
    length-flat (within_in p ranges o s b) (range_with_len 0 p.dims) ∙ total-const 2 (range_with_len 0 p.dims) ∙ ap (λ (n : ℕ). n * 2) (length-range_with_len 0 p.dims)

pub one-object : (p : ProblemData) (ranges : List RangeData) (o : ℕ) → length (within_of p ranges o) ≡ box_count p o * (p.dims * 2)
one-object p ranges o =
    length-flat (within_at_place p ranges o) (places p o)
    ∙ total-same (λ s. length (within_at_place p ranges o s)) (λ s. length (boxes_at p o s) * (p.dims * 2)) (places p o)
    (λ s. length-flat (within_of_box p ranges o s) (boxes_at p o s) ∙ total-same (λ b. length (within_of_box p ranges o s b)) (λ b. p.dims * 2) (boxes_at p o s) (one-box p ranges o s) ∙ total-const (p.dims * 2) (boxes_at p o s))
    ∙ total-right (p.dims * 2) (λ s. length (boxes_at p o s)) (places p o)

pub all-within : (p : ProblemData) (ranges : List RangeData) (os : List ℕ) → length (flat_map (within_of p ranges) os) ≡ total (λ o. box_count p o * (p.dims * 2)) os
all-within p ranges os = length-flat (within_of p ranges) os ∙ total-same (λ o. length (within_of p ranges o)) (λ o. box_count p o * (p.dims * 2)) os (one-object p ranges)

pub product-small : (a b : ℕ) → a ≤ 256 → b ≤ 256 → a * b ≤ 65536
product-small a b h k = mul-le a b 256 256 h k
