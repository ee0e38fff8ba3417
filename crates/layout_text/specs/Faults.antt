-- The tuple that a layout text gives for a problem, and its faults. The object of a line is the one
-- at the same place in file order.
use Rattle.std.specs.Prelude.{◌≡◌, ℕ, ◌+◌, ◌<◌, ℤ, false, List, [], ◌∷◌, length, map, slice_get, slice_index_or, Option, Some, None, ◌⊎◌}
use Rattle.std.specs.List.{Contains, range_with_len}
use Rattle.geo_tokens.specs.declared.fault.FaultWord.TheVariants as words
use Rattle.problem_data.specs.declared.fault.Fault.{Fault}
use Rattle.problem_data.specs.declared.tree.Int.{Int}
use Rattle.geo_base.specs.Boxes.{coordinate}
use Rattle.problem_data.specs.Problem.{RangeData, ObjectData, ProblemData}
use Rattle.problem_data.specs.Pieces.{IsInPieces}
use Rattle.problem_data.specs.Places.{absent_place, first_value}
use Rattle.problem_data.specs.Tuple.{Spot, Tuple}
use Rattle.problem_data.specs.Meaning.{number_of, position_of}
use Rattle.problem_data.specs.Least.{fault}
use Rattle.problem_data.specs.Faults.{Among, Miscounted, int_place}
use Rattle.rule_syntax.specs.declared.tree.PlacedName.{PlacedName}
use Rattle.layout_text.specs.Tree.{PutTree, placed, absent, LineTree, GroupTree, TokenTree, LayoutTree}

-- ---- what lines and groups give

-- the name of a shape, by its position among all shapes
abbrev pub name_of_shape : ProblemData → ℕ → List ℕ
name_of_shape p s = (slice_index_or p.shapes s (record { name = []; boxes = [] })).name

-- the names of the object's shapes, in the order of its list
abbrev pub shape_names : ProblemData → ObjectData → List (List ℕ)
shape_names p o = map (name_of_shape p) o.shapes

-- the first value of each dimension: there lies an object that is absent
abbrev pub first_values : ProblemData → ObjectData → List ℤ
first_values p o = map (first_value p o) (range_with_len 0 p.dims)

-- the spot that a line gives its object: the place of the shape in the object's list, and the
-- coordinates; or the place `absent`, and the first values
abbrev pub put_spot : ProblemData → ObjectData → PutTree → Spot
put_spot p o (placed shape origin) = record { place = position_of (shape_names p o) shape + 1; origin = map number_of origin }
put_spot p o (absent place) = record { place = absent_place o; origin = first_values p o }

abbrev pub spot_of : ProblemData → ObjectData → LineTree → Spot
spot_of p o l = put_spot p o l.put

-- the spots that lines give these objects
abbrev pub spots_of : ProblemData → List ObjectData → List LineTree → Tuple
spots_of p (o ∷ os) (l ∷ ls) = spot_of p o l ∷ spots_of p os ls
spots_of p _ _ = []

abbrev pub tuple_of : ProblemData → List LineTree → Tuple
tuple_of p ls = spots_of p p.objects ls

-- the spot that a group gives
abbrev pub spot_in : GroupTree → Spot
spot_in g = record { place = g.shape; origin = map number_of g.origin }

-- ---- faults of a line

-- `order` at a name that is not the object's
abbrev pub NameFault : ObjectData → LineTree → Fault → Type 0
NameFault o l f = (l.name.name ≡ o.name → ⊥) × (f ≡ fault l.name.place words.Order)

-- `unknown` at the name of a shape that is not in the object's list
abbrev pub ShapeFault : ProblemData → ObjectData → PlacedName → Fault → Type 0
ShapeFault p o shape f = (Contains (shape_names p o) shape.name → ⊥) × (f ≡ fault shape.place words.Unknown)

-- `limit` at the first of coordinates that are not one for each dimension
abbrev pub CountFault : ℕ → List Int → Fault → Type 0
CountFault k = Miscounted int_place k

-- each number lies in a piece of its range
abbrev pub AreInPieces : List (List RangeData) → List ℤ → Type 0
AreInPieces ranges c = (d : ℕ) → d < length ranges → IsInPieces (slice_index_or ranges d []) (coordinate c d)

-- `range` at a coordinate in no piece of its range, where there is one for it
abbrev pub OutsideFault : Option (List RangeData) → Int → Fault → Type 0
OutsideFault None x f = ⊥
OutsideFault (Some pieces) x f = (IsInPieces pieces x.value → ⊥) × (f ≡ fault x.place words.Range)

abbrev pub PiecesFault : List (List RangeData) → List Int → Fault → Type 0
PiecesFault ranges = Among (λ before. OutsideFault (slice_get ranges (length before)))

-- `unknown` at the word `absent` where the object's list does not have it
abbrev pub AbsentFault : ObjectData → ℕ → Fault → Type 0
AbsentFault o place f = (o.may_be_absent ≡ false) × (f ≡ fault place words.Unknown)

-- of where a line puts its object
abbrev pub PutFault : ProblemData → ObjectData → PutTree → Fault → Type 0
PutFault p o (placed shape origin) f = ShapeFault p o shape f ⊎ CountFault p.dims origin f ⊎ PiecesFault o.pieces origin f
PutFault p o (absent place) f = AbsentFault o place f

-- of a line and its object; with no object for it, the line is one too many
abbrev pub LineFault : ProblemData → Option ObjectData → LineTree → Fault → Type 0
LineFault p None l f = f ≡ fault l.name.place words.Order
LineFault p (Some o) l f = NameFault o l f ⊎ PutFault p o l.put f

abbrev pub LinesFault : ProblemData → List LineTree → Fault → Type 0
LinesFault p = Among (λ before. LineFault p (slice_get p.objects (length before)))

-- ---- faults of the whole

-- what stands behind the lines: the word of the token line, or the end of the text
abbrev pub behind_lines : ℕ → Option TokenTree → ℕ
behind_lines end None = end
behind_lines end (Some t) = t.place

-- `order` behind lines that are fewer than the objects
abbrev pub MissingFault : ProblemData → ℕ → LayoutTree → Fault → Type 0
MissingFault p end t f = (length t.lines < length p.objects) × (f ≡ fault (behind_lines end t.token) words.Order)

-- `token` at the word of a token line whose groups do not give the lines' tuple
abbrev pub TokenLineFault : ProblemData → List LineTree → Option TokenTree → Fault → Type 0
TokenLineFault p ls None f = ⊥
TokenLineFault p ls (Some t) f = (map spot_in t.groups ≡ tuple_of p ls → ⊥) × (f ≡ fault t.place words.Token)

-- of a text that ends at `end`
abbrev pub IsFault : ProblemData → ℕ → LayoutTree → Fault → Type 0
IsFault p end t f = LinesFault p t.lines f ⊎ MissingFault p end t f ⊎ TokenLineFault p t.lines t.token f
