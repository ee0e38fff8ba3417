-- The lines of the shapes and of the objects are the canonical ones.
use Rattle.std.proofs.Common.{◌≡◌, ℕ, zero, suc, ◌+◌, ◌<◌, ◌≤◌, List, [], ◌∷◌, ◌++◌, map, refl, sym, ap, ◌∙◌, append_assoc, arith}
use Rattle.std.specs.Prelude.{codes, decimal, flat_map, ◌-◌, ◌*◌}
use Rattle.std.specs.Fmt.{digits}
use Rattle.std.specs.List.{range_with_len}
use Rattle.std.proofs.lemmas.List.Folds.{flat_map-map}
use Rattle.problem_data.specs.Problem.{ObjectData}
use Rattle.problem_text.specs.Canonical.{name_at, line_text, shape_spelling, object_spelling}
use Rattle.problem_generator.specs.Made.{width, depth, height, shape_line, drawn_shapes, object_line, all_objects, numbers_to}
use Rattle.generated_problems.specs.Problem.{shape_name, shape, shapes, object}
use Rattle.generated_problems.proofs.Names.{shape_list, shape_at, name_of_first, name_of_second}

-- ---- numbers

zero_text : decimal 0 ≡ 48 ∷ []
unfolding digits
zero_text = refl

nine_text : decimal 9 ≡ 57 ∷ []
unfolding digits
nine_text = refl

nineteen_text : decimal 19 ≡ 49 ∷ 57 ∷ []
unfolding digits
nineteen_text = refl

-- ---- shapes

shape_text : (i : ℕ) (letter : List ℕ) (l1 l2 l3 : ℕ) → line_text (shape_spelling (shape i letter l1 l2 l3)) ≡ shape_line i letter l1 l2 l3
shape_text i letter l1 l2 l3 = simp (append_assoc, zero_text)

pub shapes_text : (seed : ℕ) (ns : List ℕ) → flat_map (drawn_shapes seed) ns ≡ flat_map (λ s. line_text (shape_spelling s)) (flat_map (shapes seed) ns)
shapes_text seed [] = refl
shapes_text seed (i ∷ ns) =
    let w = width seed i in
    let d = depth seed i in
    let h = height seed i in
    append_assoc (shape_line i (codes "a") w d h) (shape_line i (codes "b") d w h) (flat_map (drawn_shapes seed) ns)
    ∙ (λ k. sym (shape_text i (codes "a") w d h) k ++ (sym (shape_text i (codes "b") d w h) k ++ shapes_text seed ns k))

-- ---- objects

-- the line of an object whose shapes have these names
line_with : ℕ → List ℕ → List ℕ → List ℕ
line_with i a b = codes "object o" ++ (decimal i ++ (codes " as " ++ (a ++ (codes ", " ++ (b ++ codes " at 0..19 0..19 0..9 ;\n")))))

at_the_end : (a b c d e f end : List ℕ) → (a ++ (b ++ (c ++ (d ++ (e ++ f))))) ++ end ≡ a ++ (b ++ (c ++ (d ++ (e ++ (f ++ end)))))
at_the_end a b c d e f end = simp append_assoc

line_by_names : (names : List (List ℕ)) (i : ℕ) → line_text (object_spelling names (object i)) ≡ line_with i (name_at names (2 * i - 2)) (name_at names (2 * i - 1))
unfolding line_with
line_by_names names i =
    simp (zero_text, nine_text, nineteen_text) (ap (λ text. codes "object o" ++ text)
    (at_the_end (decimal i) (codes " as ") (name_at names (2 * i - 2)) (codes ", ") (name_at names (2 * i - 1)) (codes " at 0..19 0..19 0..9 ;") (10 ∷ [])))

line_of_names : (i : ℕ) → line_with i (shape_name i (codes "a")) (shape_name i (codes "b")) ≡ object_line i
unfolding line_with
line_of_names i = simp append_assoc

-- what two functions give at each of n numbers from a on
same_lines : (f g : ℕ → List ℕ) (a n : ℕ) → ((i : ℕ) → a ≤ i → i < a + n → f i ≡ g i) → flat_map f (range_with_len a n) ≡ flat_map g (range_with_len a n)
same_lines f g a zero h = refl
same_lines f g a (suc n) h =
    let here : a ≤ a = omega arith in
    let first : a < a + suc n = omega arith in
    λ k. h a here first k ++ same_lines f g (a + 1) n (λ i low high. (let l : a ≤ i = omega arith in let u : i < a + suc n = omega arith in h i l u)) k

-- the names of the shapes of object i
first_name : (i : ℕ) → 1 ≤ i → i ≤ 40 → name_at (shape_list 80) (2 * i - 2) ≡ shape_name i (codes "a")
first_name i low high = let less : 2 * i - 2 < 80 = omega arith in shape_at 80 (2 * i - 2) [] less ∙ name_of_first i low

second_name : (i : ℕ) → 1 ≤ i → i ≤ 40 → name_at (shape_list 80) (2 * i - 1) ≡ shape_name i (codes "b")
second_name i low high = let less : 2 * i - 1 < 80 = omega arith in shape_at 80 (2 * i - 1) [] less ∙ name_of_second i low

object_text : (i : ℕ) → 1 ≤ i → i ≤ 40 → object_line i ≡ line_text (object_spelling (shape_list 80) (object i))
object_text i low high = sym (line_by_names (shape_list 80) i ∙ (λ k. line_with i (first_name i low high k) (second_name i low high k)) ∙ line_of_names i)

pub objects_text : all_objects 40 ≡ flat_map (λ o. line_text (object_spelling (shape_list 80) o)) (map object (numbers_to 40))
unfolding numbers_to
objects_text =
    same_lines object_line (λ i. line_text (object_spelling (shape_list 80) (object i))) 1 40 (λ i low high. object_text i low (omega arith))
    ∙ sym (flat_map-map (λ (o : ObjectData). line_text (object_spelling (shape_list 80) o)) object (range_with_len 1 40))
