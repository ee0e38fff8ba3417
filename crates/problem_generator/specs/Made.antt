-- The text of the problem that is made from a seed: forty objects in a rack of 20 by 20 by 10
-- cells. Each has two shapes, as its size was drawn and turned by a quarter.
use Rattle.std.specs.Prelude.{ℕ, ◌+◌, ◌-◌, ◌*◌, List, [], ◌∷◌, ◌++◌, codes, decimal, flat_map}
use Rattle.std.specs.List.{concat, range_with_len}
use Rattle.problem_generator.specs.Draws.{draw}

-- ---- the sizes of object i, counted from 1: the draws 3 i - 2, 3 i - 1 and 3 i

abbrev pub width : ℕ → ℕ → ℕ
width seed i = 1 + draw seed (3 * i - 2) 3

abbrev pub depth : ℕ → ℕ → ℕ
depth seed i = 1 + draw seed (3 * i - 1) 3

abbrev pub height : ℕ → ℕ → ℕ
height seed i = 1 + draw seed (3 * i) 2

-- ---- the lines of object i

-- a shape of three lengths
abbrev pub shape_line : ℕ → List ℕ → ℕ → ℕ → ℕ → List ℕ
shape_line i letter l1 l2 l3 = concat (
    codes "shape s" ∷ decimal i ∷ letter ∷ codes " box 0 0 0 size "
    ∷ decimal l1 ∷ codes " " ∷ decimal l2 ∷ codes " " ∷ decimal l3 ∷ codes " ;\n" ∷ [])

-- its two shapes
abbrev pub shape_lines : ℕ → ℕ → ℕ → ℕ → List ℕ
shape_lines i w d h = shape_line i (codes "a") w d h ++ shape_line i (codes "b") d w h

-- those of its drawn size
abbrev pub drawn_shapes : ℕ → ℕ → List ℕ
drawn_shapes seed i = shape_lines i (width seed i) (depth seed i) (height seed i)

abbrev pub object_line : ℕ → List ℕ
object_line i = concat (
    codes "object o" ∷ decimal i ∷ codes " as s" ∷ decimal i ∷ codes "a, s" ∷ decimal i
    ∷ codes "b at 0..19 0..19 0..9 ;\n" ∷ [])

-- ---- the text

-- the numbers from 1 to n
unfoldable pub numbers_to : ℕ → List ℕ
numbers_to n = range_with_len 1 n

-- the shapes of the first n objects
abbrev pub all_shapes : ℕ → ℕ → List ℕ
all_shapes seed n = flat_map (drawn_shapes seed) (numbers_to n)

abbrev pub all_objects : ℕ → List ℕ
all_objects n = flat_map object_line (numbers_to n)

abbrev pub made_text : ℕ → List ℕ
made_text seed = concat (
    codes "geost 1 dims 3\n" ∷ all_shapes seed 40 ∷ all_objects 40
    ∷ codes "rule rack : within 0..19 0..19 0..9 ;\nrule free : apart ;\nend\n" ∷ [])
