-- What holds of each shape and of each object that is made.
use Rattle.std.proofs.Common.{◌≡◌, ℕ, zero, suc, ◌+◌, ◌<◌, ◌≤◌, map, arith}
use Rattle.std.specs.Prelude.{codes, flat_map}
use Rattle.std.specs.List.{range_with_len}
use Rattle.problem_data.specs.Problem.{ShapeData, ObjectData}
use Rattle.problem_generator.specs.Made.{width, depth, height, numbers_to}
use Rattle.rule_print.proofs.Respelled.{AllOf}
use Rattle.generated_problems.specs.Problem.{shape, shapes, object, made_problem}
use Rattle.generated_problems.proofs.Names.{shape_list, object_list, shapes_are, objects_are}

-- a length of a shape
pub record IsLength (l : ℕ) : Type 0 where
  pub some : 1 ≤ l
  pub few : l ≤ 3

pub width_is : (seed i : ℕ) → IsLength (width seed i)
width_is seed i = record { some = omega arith; few = omega arith }

pub depth_is : (seed i : ℕ) → IsLength (depth seed i)
depth_is seed i = record { some = omega arith; few = omega arith }

pub height_is : (seed i : ℕ) → IsLength (height seed i)
height_is seed i = record { some = omega arith; few = omega arith }

-- both shapes of object i, whatever its size
abbrev pub BothShapes : (ShapeData → Type 0) → ℕ → Type 0
BothShapes P i = (w d h : ℕ) → IsLength w → IsLength d → IsLength h → P (shape i (codes "a") w d h) × P (shape i (codes "b") d w h)

shapes_from : (P : ShapeData → Type 0) (seed a n : ℕ) → ((i : ℕ) → a ≤ i → i < a + n → BothShapes P i) → AllOf P (flat_map (shapes seed) (range_with_len a n))
shapes_from P seed a zero h = tt
shapes_from P seed a (suc n) h =
    let here : a ≤ a = omega arith in
    let first : a < a + suc n = omega arith in
    let both = h a here first (width seed a) (depth seed a) (height seed a) (width_is seed a) (depth_is seed a) (height_is seed a) in
    (both.0, (both.1, shapes_from P seed (a + 1) n (λ i low high. (let l : a ≤ i = omega arith in let u : i < a + suc n = omega arith in h i l u))))

objects_from : (P : ObjectData → Type 0) (a n : ℕ) → ((i : ℕ) → a ≤ i → i < a + n → P (object i)) → AllOf P (map object (range_with_len a n))
objects_from P a zero h = tt
objects_from P a (suc n) h =
    let here : a ≤ a = omega arith in
    let first : a < a + suc n = omega arith in
    (h a here first, objects_from P (a + 1) n (λ i low high. (let l : a ≤ i = omega arith in let u : i < a + suc n = omega arith in h i l u)))

pub each_shape : (P : ShapeData → Type 0) (seed : ℕ) → ((i : ℕ) → 1 ≤ i → i ≤ 40 → BothShapes P i) → AllOf P (made_problem seed).shapes
unfolding numbers_to
each_shape P seed h = shapes_from P seed 1 40 (λ i low high. (let u : i ≤ 40 = omega arith in h i low u))

pub each_object : (P : ObjectData → Type 0) (seed : ℕ) → ((i : ℕ) → 1 ≤ i → i ≤ 40 → P (object i)) → AllOf P (made_problem seed).objects
unfolding numbers_to
each_object P seed h = objects_from P 1 40 (λ i low high. (let u : i ≤ 40 = omega arith in h i low u))

pub shape_names_are : (seed : ℕ) → map (λ (s : ShapeData). s.name) (made_problem seed).shapes ≡ shape_list 80
unfolding numbers_to
shape_names_are seed = shapes_are seed 40

pub object_names_are : (seed : ℕ) → map (λ (o : ObjectData). o.name) (made_problem seed).objects ≡ object_list 40
unfolding numbers_to
object_names_are seed = objects_are 40
