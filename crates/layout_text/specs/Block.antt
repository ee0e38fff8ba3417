-- The token of a tuple, and the layout block: a line for each object in file order, and the token
-- line. Of an absent object the line says that alone; its group has its place and its coordinates.
use Rattle.std.specs.Prelude.{◌++◌, ℕ, ℤ, if◌then◌else◌, List, [], ◌∷◌, length, codes, decimal, flat_map, slice_index_or}
use Rattle.std.specs.Fmt.{signed_decimal}
use Rattle.std.specs.List.{range_with_len}
use Rattle.std.specs.Option.{option_map_or}
use Rattle.problem_data.specs.Problem.{ProblemData}
use Rattle.problem_data.specs.Places.{is_absent_at}
use Rattle.problem_data.specs.Tuple.{Spot, Tuple, spot, object_of, shape_of}

-- the name of the shape that the tuple gives the object
abbrev pub shape_name : ProblemData → Tuple → ℕ → List ℕ
shape_name p t o = option_map_or (λ s. (slice_index_or p.shapes s (record { name = []; boxes = [] })).name) (shape_of p t o) []

-- a number behind a mark
abbrev pub behind : List ℕ → ℤ → List ℕ
behind mark x = mark ++ signed_decimal x

-- the coordinates, each behind the mark
abbrev pub coordinates : List ℕ → List ℤ → List ℕ
coordinates mark xs = flat_map (behind mark) xs

-- NAME as SHAPE at
abbrev pub head_of : ProblemData → Tuple → ℕ → List ℕ
head_of p t o = (object_of p o).name ++ (codes " as " ++ (shape_name p t o ++ codes " at"))

-- NAME as SHAPE at X1 .. XK
abbrev pub placed_line : ProblemData → Tuple → ℕ → List ℕ
placed_line p t o = head_of p t o ++ (coordinates (codes " ") (spot t o).origin ++ codes "\n")

-- NAME absent
abbrev pub absent_line : ProblemData → ℕ → List ℕ
absent_line p o = (object_of p o).name ++ codes " absent\n"

abbrev pub line_of : ProblemData → Tuple → ℕ → List ℕ
line_of p t o = if is_absent_at (object_of p o) (spot t o).place then absent_line p o else placed_line p t o

abbrev pub lines_of : ProblemData → Tuple → List ℕ
lines_of p t = flat_map (line_of p t) (range_with_len 0 (length t))

-- the place in the object's list, and the coordinates
abbrev pub group_of : Spot → List ℕ
group_of s = decimal s.place ++ coordinates (codes ",") s.origin

abbrev pub later_group : Spot → List ℕ
later_group s = codes "/" ++ group_of s

abbrev pub token_of : Tuple → List ℕ
token_of [] = codes "-"
token_of (s ∷ ss) = group_of s ++ flat_map later_group ss

abbrev pub token_line : Tuple → List ℕ
token_line t = codes "token " ++ (token_of t ++ codes "\n")

abbrev pub block_of : ProblemData → Tuple → List ℕ
block_of p t = codes "layout\n" ++ (lines_of p t ++ token_line t)
