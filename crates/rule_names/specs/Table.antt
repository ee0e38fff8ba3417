-- Tables of names.
use Rattle.std.specs.Prelude.{◌≡◌, ℕ, List, Option}
use Rattle.std.specs.List.{list_any, position}
use Rattle.std.specs.Str.{bytes_eq}
use Rattle.problem_data.specs.Problem.{ProblemData}
use Rattle.problem_data.specs.Value.{object_position, shape_position, macro_position}
use Rattle.rule_names.specs.Sight.{is_attribute}
use Rattle.rule_names.specs.declared.table.Tables.{Tables}

-- the position that a name has among others
abbrev pub found : List (List ℕ) → List ℕ → Option ℕ
found names n = position (bytes_eq n) names

pub record AreTables (p : ProblemData) (t : Tables) : Type 0 where
  pub objects : (n : List ℕ) → found t.objects.value n ≡ object_position p n
  pub shapes : (n : List ℕ) → found t.shapes.value n ≡ shape_position p n
  pub macros : (n : List ℕ) → found t.macros.value n ≡ macro_position p n
  pub attributes : (n : List ℕ) → list_any (bytes_eq n) t.attributes.value ≡ is_attribute p n
