-- The text that is made is short.
use Rattle.std.proofs.Common.{ℕ, zero, suc, ◌+◌, ◌*◌, ◌^◌, ◌<◌, ◌≤◌, List, length, arith, lit<}
use Rattle.std.specs.Prelude.{codes, decimal, flat_map}
use Rattle.std.specs.List.{range_with_len}
use Rattle.std.proofs.lemmas.List.{length-append}
use Rattle.std.proofs.lemmas.Fmt.{length-decimal-le}
use Rattle.problem_generator.specs.Made.{width, depth, height, shape_line, drawn_shapes, object_line, numbers_to, all_shapes, all_objects, made_text}
use Rattle.generated_problems.proofs.Parts.{IsLength, width_is, depth_is, height_is}

-- a number below 100 has two digits at most
two_digits : (n : ℕ) → n < 100 → length (decimal n) ≤ 2
two_digits n small = let wide : n < 2 ^ 64 = omega arith in let low : n < 10 ^ 2 = small in length-decimal-le 2 n (lit< tt) low wide

shape_short : (i l1 l2 l3 : ℕ) (letter : List ℕ) → length letter ≤ 1 → i < 100 → IsLength l1 → IsLength l2 → IsLength l3 → length (shape_line i letter l1 l2 l3) ≤ 50
shape_short i l1 l2 l3 letter one small a b c =
    let p : l1 ≤ 3 = a.few in
    let q : l2 ≤ 3 = b.few in
    let r : l3 ≤ 3 = c.few in
    let s : l1 < 100 = omega arith in
    let t : l2 < 100 = omega arith in
    let u : l3 < 100 = omega arith in
    let d0 : length (decimal i) ≤ 2 = two_digits i small in
    let d1 : length (decimal l1) ≤ 2 = two_digits l1 s in
    let d2 : length (decimal l2) ≤ 2 = two_digits l2 t in
    let d3 : length (decimal l3) ≤ 2 = two_digits l3 u in
    simp length-append (omega arith)

shapes_short : (seed i : ℕ) → i < 100 → length (drawn_shapes seed i) ≤ 100
shapes_short seed i small =
    let w = width_is seed i in
    let d = depth_is seed i in
    let h = height_is seed i in
    let a : length (shape_line i (codes "a") (width seed i) (depth seed i) (height seed i)) ≤ 50 = shape_short i (width seed i) (depth seed i) (height seed i) (codes "a") (omega arith) small w d h in
    let b : length (shape_line i (codes "b") (depth seed i) (width seed i) (height seed i)) ≤ 50 = shape_short i (depth seed i) (width seed i) (height seed i) (codes "b") (omega arith) small d w h in
    rw length-append (omega arith)

object_short : (i : ℕ) → i < 100 → length (object_line i) ≤ 100
object_short i small =
    let d : length (decimal i) ≤ 2 = two_digits i small in
    simp length-append (omega arith)

-- short pieces
pieces_short : (f : ℕ → List ℕ) (a n : ℕ) → ((i : ℕ) → i < a + n → length (f i) ≤ 100) → length (flat_map f (range_with_len a n)) ≤ 100 * n
pieces_short f a zero h = omega arith
pieces_short f a (suc n) h =
    let here : a < a + suc n = omega arith in
    let first : length (f a) ≤ 100 = h a here in
    let others : length (flat_map f (range_with_len (a + 1) n)) ≤ 100 * n = pieces_short f (a + 1) n (λ i less. (let u : i < a + suc n = omega arith in h i u)) in
    rw length-append (omega arith)

all_shapes_short : (seed : ℕ) → length (all_shapes seed 40) ≤ 4000
unfolding numbers_to
all_shapes_short seed = pieces_short (drawn_shapes seed) 1 40 (λ i less. shapes_short seed i (omega arith))

all_objects_short : length (all_objects 40) ≤ 4000
unfolding numbers_to
all_objects_short = pieces_short object_line 1 40 (λ i less. object_short i (omega arith))

pub made_short : (seed : ℕ) → length (made_text seed) ≤ 1048576
made_short seed =
    let a : length (all_shapes seed 40) ≤ 4000 = all_shapes_short seed in
    let b : length (all_objects 40) ≤ 4000 = all_objects_short in
    simp length-append (omega arith)
