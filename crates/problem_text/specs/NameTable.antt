-- The names of a problem. Where some object may be absent the word `absent` stands behind the names
-- of the shapes, for the place at which it is.
use Rattle.std.specs.Prelude.{ℕ, List, [], ◌∷◌, ◌++◌, map, length, Bool, true, false}
use Rattle.std.specs.List.{list_any}
use Rattle.geo_tokens.specs.declared.token.Keyword.TheVariants as keywords
use Rattle.geo_tokens.specs.Class.{word_bytes}
use Rattle.geo_tokens.specs.Names.{NameTable}
use Rattle.problem_data.specs.Problem.{ShapeData, ObjectData, ProblemData}

abbrev pub shape_name : ShapeData → List ℕ
shape_name s = s.name

abbrev pub is_optional : ObjectData → Bool
is_optional o = o.may_be_absent

-- the word, where some object may be absent
abbrev pub absent_names : Bool → List (List ℕ)
absent_names true = word_bytes keywords.Absent ∷ []
absent_names false = []

-- the names of the shapes, and the word
abbrev pub place_names : ProblemData → List (List ℕ)
place_names p = map shape_name p.shapes ++ absent_names (list_any is_optional p.objects)

-- the position of the word behind n shapes, for an object that may be absent
abbrev pub absent_positions : Bool → ℕ → List ℕ
absent_positions true n = n ∷ []
absent_positions false n = []

-- an object's name, and its places by the positions of their names, where there are n shapes
abbrev pub named_object : ℕ → ObjectData → List ℕ × List ℕ
named_object n o = (o.name, o.shapes ++ absent_positions o.may_be_absent n)

-- the number of dimensions, the names of places and the objects, in file order
abbrev pub name_table : ProblemData → NameTable
name_table p = record { dims = p.dims; shapes = place_names p; objects = map (named_object (length p.shapes)) p.objects }
