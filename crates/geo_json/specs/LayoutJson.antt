-- A layout as a value of JSON.
use Rattle.std.specs.Prelude.{ℕ, List, [], codes, length, if◌then◌else◌}
use Rattle.std.specs.List.{range_with_len}
use Rattle.std.specs.Option.{option_map_or}
use Rattle.serde_json.specs.Data.{Data, object, member, no_members}
use Rattle.geo_tokens.specs.declared.token.Keyword.TheVariants as keywords
use Rattle.geo_tokens.specs.Class.{word_bytes}
use Rattle.problem_data.specs.Problem.{ProblemData}
use Rattle.problem_data.specs.Places.{is_absent_at}
use Rattle.problem_data.specs.Tuple.{Tuple, spot, object_of, shape_of}
use Rattle.problem_text.specs.Canonical.{name_at, shape_names}
use Rattle.layout_text.specs.Block.{token_of}
use Rattle.json_parts.specs.Form.{int_json, text_json, list_json}

-- the name of the object's shape, and the word `absent` where the object is absent
abbrev pub shape_word : ProblemData → Tuple → ℕ → List ℕ
shape_word p t o = if is_absent_at (object_of p o) (spot t o).place then word_bytes keywords.Absent else option_map_or (name_at (shape_names p)) (shape_of p t o) []

-- where the object is put
abbrev pub place_json : ProblemData → Tuple → ℕ → Data
place_json p t o =
    object (member (codes "name") (text_json (object_of p o).name) (member (codes "origin") (list_json int_json (spot t o).origin)
    (member (codes "shape") (text_json (shape_word p t o)) no_members)))

abbrev pub layout_json : ProblemData → Tuple → Data
layout_json p t = object (member (codes "layout") (list_json (place_json p t) (range_with_len 0 (length t))) (member (codes "token") (text_json (token_of t)) no_members))
