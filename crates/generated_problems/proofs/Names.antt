-- The names of shapes and objects: where they stand, that they differ, and that each is the text of
-- a name.
use Rattle.std.proofs.Common.{◌≡◌, ℕ, zero, suc, ◌+◌, ◌-◌, ◌*◌, ◌/◌, ◌%◌, ◌^◌, ◌<◌, ◌≤◌, List, [], ◌∷◌, ◌++◌, map, length, Bool, true, false, ◌==◌, ◌&&◌, inl, inr, refl, sym, ap, ◌∙◌, subst, arith, lit≤}
use Rattle.std.specs.Prelude.{codes, decimal, flat_map, slice_index, slice_index_or, nat_le, nat_lt}
use Rattle.std.specs.Fmt.{digits}
use Rattle.std.specs.List.{range_with_len, prefix_len, list_all}
use Rattle.std.specs.Str.{bytes_eq}
use Rattle.std.proofs.lemmas.Slice.Eq.{bytes_eq-Decides}
use Rattle.std.proofs.lemmas.Fmt.{decimal_injective}
use Rattle.std.proofs.lemmas.Bool.{and_parts, eqb-true, leb-true, ltb-true, cases_lt}
use Rattle.std.proofs.lemmas.List.{take_all}
use Rattle.std.proofs.lemmas.List.FromFn.{get_or-map-range_with_len, length-map-range_with_len}
use Rattle.geo_tokens.specs.declared.token.Keyword.{Keyword}
use Rattle.geo_tokens.specs.declared.token.Keyword.TheVariants as keywords
use Rattle.geo_tokens.specs.Bytes.{is_letter, is_word_byte}
use Rattle.geo_tokens.specs.Class.{word_bytes}
use Rattle.geo_tokens.specs.Names.{IsNameText, AllDifferent}
use Rattle.problem_data.specs.Problem.{ShapeData, ObjectData}
use Rattle.generated_problems.specs.Problem.{shape_name, shapes, object}

-- the names of the shape and of the object at a position
pub name_of_shape : ℕ → List ℕ
name_of_shape m = codes "s" ++ (decimal (m / 2 + 1) ++ (97 + m % 2) ∷ [])

pub name_of_object : ℕ → List ℕ
name_of_object m = codes "o" ++ decimal (m + 1)

-- the first n of each
pub shape_list : ℕ → List (List ℕ)
shape_list n = map name_of_shape (range_with_len 0 n)

pub object_list : ℕ → List (List ℕ)
object_list n = map name_of_object (range_with_len 0 n)

pub name_of_first : (i : ℕ) → 0 < i → name_of_shape (2 * i - 2) ≡ shape_name i (codes "a")
unfolding name_of_shape
name_of_first i some =
    let number : (2 * i - 2) / 2 + 1 ≡ i = omega arith in
    let letter : 97 + (2 * i - 2) % 2 ≡ 97 = omega arith in
    λ k. 115 ∷ (decimal (number k) ++ letter k ∷ [])

pub name_of_second : (i : ℕ) → 0 < i → name_of_shape (2 * i - 1) ≡ shape_name i (codes "b")
unfolding name_of_shape
name_of_second i some =
    let number : (2 * i - 1) / 2 + 1 ≡ i = omega arith in
    let letter : 97 + (2 * i - 1) % 2 ≡ 98 = omega arith in
    λ k. 115 ∷ (decimal (number k) ++ letter k ∷ [])

pub name_of_number : (i : ℕ) → 0 < i → name_of_object (i - 1) ≡ codes "o" ++ decimal i
unfolding name_of_object
name_of_number i some = let number : i - 1 + 1 ≡ i = omega arith in ap (λ n. codes "o" ++ decimal n) number

-- ---- the lists

-- the shapes of n objects from number a + 1 on
shapes_from : (seed a n : ℕ) → map (λ (s : ShapeData). s.name) (flat_map (shapes seed) (range_with_len (a + 1) n)) ≡ map name_of_shape (range_with_len (2 * a) (2 * n))
shapes_from seed a zero = refl
shapes_from seed a (suc n) =
    let two : 2 * suc n ≡ suc (suc (2 * n)) = omega arith in
    let some : 0 < a + 1 = omega arith in
    let first : 2 * (a + 1) - 2 ≡ 2 * a = omega arith in
    let second : 2 * (a + 1) - 1 ≡ 2 * a + 1 = omega arith in
    let on : 2 * (a + 1) ≡ 2 * a + 1 + 1 = omega arith in
    (λ k. sym (name_of_first (a + 1) some) k ∷ sym (name_of_second (a + 1) some) k ∷ shapes_from seed (a + 1) n k)
    ∙ (λ k. name_of_shape (first k) ∷ name_of_shape (second k) ∷ map name_of_shape (range_with_len (on k) (2 * n)))
    ∙ ap (λ m. map name_of_shape (range_with_len (2 * a) m)) (sym two)

pub shapes_are : (seed n : ℕ) → map (λ (s : ShapeData). s.name) (flat_map (shapes seed) (range_with_len 1 n)) ≡ shape_list (2 * n)
unfolding shape_list
shapes_are seed n = shapes_from seed 0 n

objects_from : (a n : ℕ) → map (λ (o : ObjectData). o.name) (map object (range_with_len (a + 1) n)) ≡ map name_of_object (range_with_len a n)
unfolding name_of_object
objects_from a zero = refl
objects_from a (suc n) = ap (λ names. name_of_object a ∷ names) (objects_from (a + 1) n)

pub objects_are : (n : ℕ) → map (λ (o : ObjectData). o.name) (map object (range_with_len 1 n)) ≡ object_list n
unfolding object_list
objects_are n = objects_from 0 n

pub shape_at : (n m : ℕ) (d : List ℕ) → m < n → slice_index_or (shape_list n) m d ≡ name_of_shape m
unfolding shape_list
shape_at n m d less = get_or-map-range_with_len name_of_shape 0 n m m d less (omega arith)

pub object_at : (n m : ℕ) (d : List ℕ) → m < n → slice_index_or (object_list n) m d ≡ name_of_object m
unfolding object_list
object_at n m d less = get_or-map-range_with_len name_of_object 0 n m m d less (omega arith)

pub length-shape_list : (n : ℕ) → length (shape_list n) ≡ n
unfolding shape_list
length-shape_list n = length-map-range_with_len name_of_shape 0 n

pub length-object_list : (n : ℕ) → length (object_list n) ≡ n
unfolding object_list
length-object_list n = length-map-range_with_len name_of_object 0 n

-- ---- no two are the same

not_nothing : (ys : List ℕ) (y : ℕ) → [] ≡ ys ++ y ∷ [] → ⊥
not_nothing [] y e = absurd cc
not_nothing (b ∷ ys) y e = absurd cc

-- texts that end in one byte each
last_same : (xs ys : List ℕ) (x y : ℕ) → xs ++ x ∷ [] ≡ ys ++ y ∷ [] → (xs ≡ ys) × (x ≡ y)
last_same [] [] x y e = (refl, cc)
last_same [] (b ∷ ys) x y e = absurd (let t : [] ≡ ys ++ y ∷ [] = cc in not_nothing ys y t)
last_same (a ∷ xs) [] x y e = absurd (let t : xs ++ x ∷ [] ≡ [] = cc in not_nothing xs x (sym t))
last_same (a ∷ xs) (b ∷ ys) x y e =
    let t : xs ++ x ∷ [] ≡ ys ++ y ∷ [] = cc in
    let h : a ≡ b = cc in
    let r = last_same xs ys x y t in
    ((λ i. h i ∷ r.0 i), r.1)

pub shapes_differ : (j k : ℕ) → j < 1000 → k < 1000 → name_of_shape j ≡ name_of_shape k → j ≡ k
unfolding name_of_shape
shapes_differ j k p q e =
    let t : decimal (j / 2 + 1) ++ (97 + j % 2) ∷ [] ≡ decimal (k / 2 + 1) ++ (97 + k % 2) ∷ [] = cc in
    let r = last_same (decimal (j / 2 + 1)) (decimal (k / 2 + 1)) (97 + j % 2) (97 + k % 2) t in
    let s : j / 2 + 1 < 2 ^ 64 = omega arith in
    let u : k / 2 + 1 < 2 ^ 64 = omega arith in
    let n : j / 2 + 1 ≡ k / 2 + 1 = decimal_injective (j / 2 + 1) (k / 2 + 1) s u r.0 in
    let l : 97 + j % 2 ≡ 97 + k % 2 = r.1 in
    omega arith

pub objects_differ : (j k : ℕ) → j < 1000 → k < 1000 → name_of_object j ≡ name_of_object k → j ≡ k
unfolding name_of_object
objects_differ j k p q e =
    let t : decimal (j + 1) ≡ decimal (k + 1) = cc in
    let s : j + 1 < 2 ^ 64 = omega arith in
    let u : k + 1 < 2 ^ 64 = omega arith in
    let n : j + 1 ≡ k + 1 = decimal_injective (j + 1) (k + 1) s u t in
    omega arith

pub shape_names_differ : (n : ℕ) → n < 1000 → AllDifferent (shape_list n)
shape_names_differ n small j k d less inside e =
    let size : length (shape_list n) ≡ n = length-shape_list n in
    let p : j < n = omega arith in
    let q : k < n = omega arith in
    let a : j < 1000 = omega arith in
    let b : k < 1000 = omega arith in
    let same : j ≡ k = shapes_differ j k a b (sym (shape_at n j d p) ∙ e ∙ shape_at n k d q) in
    omega arith

pub object_names_differ : (n : ℕ) → n < 1000 → AllDifferent (object_list n)
object_names_differ n small j k d less inside e =
    let size : length (object_list n) ≡ n = length-object_list n in
    let p : j < n = omega arith in
    let q : k < n = omega arith in
    let a : j < 1000 = omega arith in
    let b : k < 1000 = omega arith in
    let same : j ≡ k = objects_differ j k a b (sym (object_at n j d p) ∙ e ∙ object_at n k d q) in
    omega arith

-- ---- texts of names

-- a letter, then a byte that is no letter, and then word bytes, 40 at most in all
abbrev looks_like_a_name : List ℕ → Bool
looks_like_a_name bytes = is_letter (slice_index bytes 0) && ((length bytes == prefix_len is_word_byte bytes) && (nat_le (length bytes) 40 && nat_lt (slice_index bytes 1) 97))

-- the second byte of each reserved word is a letter
second_letter : (w : Keyword) → 97 ≤ slice_index (word_bytes w) 1
second_letter w = elim w as (λ v. 97 ≤ slice_index (word_bytes v) 1) [ keywords.Geost ↦ lit≤ tt | _ ↦ lit≤ tt ]

is_name : (bytes : List ℕ) → looks_like_a_name bytes ≡ true → IsNameText bytes
is_name bytes e =
    let a = and_parts (is_letter (slice_index bytes 0)) ((length bytes == prefix_len is_word_byte bytes) && (nat_le (length bytes) 40 && nat_lt (slice_index bytes 1) 97)) e in
    let b = and_parts (length bytes == prefix_len is_word_byte bytes) (nat_le (length bytes) 40 && nat_lt (slice_index bytes 1) 97) a.1 in
    let c = and_parts (nat_le (length bytes) 40) (nat_lt (slice_index bytes 1) 97) b.1 in
    record {
      form = record { begins = a.0; longest = eqb-true (length bytes) (prefix_len is_word_byte bytes) b.0; short = leb-true (length bytes) 40 c.0 };
      free = λ w h. (
          let second : slice_index bytes 1 < 97 = ltb-true (slice_index bytes 1) 97 c.1 in
          let same : bytes ≡ word_bytes w = sym (take_all (length bytes) bytes (omega arith)) ∙ h in
          let letter : 97 ≤ slice_index bytes 1 = subst (λ (u : List ℕ). 97 ≤ slice_index u 1) (sym same) (second_letter w) in
          absurd (omega arith));
    }

-- each item of a list passes
passes : (p : ℕ → Bool) (a n m : ℕ) → list_all p (range_with_len a n) ≡ true → a ≤ m → m < a + n → p m ≡ true
passes p a zero m e low high = absurd (omega arith)
passes p a (suc n) m e low high =
    let parts = and_parts (p a) (list_all p (range_with_len (a + 1) n)) e in
    elim (cases_lt a m) [
      | inl lt ↦ (let l : a + 1 ≤ m = omega arith in let h : m < a + 1 + n = omega arith in passes p (a + 1) n m parts.1 l h)
      | inr le ↦ (let same : a ≡ m = omega arith in subst (λ (j : ℕ). p j ≡ true) same parts.0)
    ]

pub shape_is_name : (m : ℕ) → m < 80 → IsNameText (name_of_shape m)
unfolding name_of_shape digits
shape_is_name m less = is_name (name_of_shape m) (passes (λ j. looks_like_a_name (name_of_shape j)) 0 80 m refl (omega arith) (omega arith))

pub object_is_name : (m : ℕ) → m < 40 → IsNameText (name_of_object m)
unfolding name_of_object digits
object_is_name m less = is_name (name_of_object m) (passes (λ j. looks_like_a_name (name_of_object j)) 0 40 m refl (omega arith) (omega arith))

-- ---- the rules

-- a text that is no reserved word
free_text : (bytes : List ℕ) → ((w : Keyword) → bytes_eq bytes (word_bytes w) ≡ false) → (w : Keyword) → bytes ≡ word_bytes w → ⊥
free_text bytes h w e = let t : bytes_eq bytes (word_bytes w) ≡ true = (bytes_eq-Decides bytes (word_bytes w)).1 e in let z : true ≡ false = sym t ∙ h w in cc

rack_is_free : (w : Keyword) → bytes_eq (codes "rack") (word_bytes w) ≡ false
rack_is_free w = elim w as (λ v. bytes_eq (codes "rack") (word_bytes v) ≡ false) [ keywords.Geost ↦ refl | _ ↦ refl ]

free_is_free : (w : Keyword) → bytes_eq (codes "free") (word_bytes w) ≡ false
free_is_free w = elim w as (λ v. bytes_eq (codes "free") (word_bytes v) ≡ false) [ keywords.Geost ↦ refl | _ ↦ refl ]

pub rack_is_name : IsNameText (codes "rack")
rack_is_name = record { form = record { begins = refl; longest = refl; short = lit≤ tt }; free = free_text (codes "rack") rack_is_free }

pub free_is_name : IsNameText (codes "free")
free_is_name = record { form = record { begins = refl; longest = refl; short = lit≤ tt }; free = free_text (codes "free") free_is_free }
