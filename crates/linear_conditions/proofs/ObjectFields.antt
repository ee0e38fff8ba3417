-- The forms of the fields of objects.
use Rattle.std.proofs.Common.{◌≡◌, ℕ, ◌+◌, Bool, true, false, List, ℤ, pos, refl}
use Rattle.std.specs.Prelude.{if◌then◌else◌, Option, None, Some, codes}
use Rattle.std.specs.Option.{option_map_or}
use Rattle.std.specs.Str.{bytes_eq}
use Rattle.geo_conditions.specs.Form.{Sum}
use Rattle.problem_data.specs.Problem.{ProblemData}
use Rattle.problem_data.specs.Value.{coordinate_of}
use Rattle.rule_values.specs.Fields.{attribute_at, field_at}
use Rattle.rule_values.specs.declared.fields.ObjectField.{ObjectField}
use Rattle.rule_values.specs.declared.fields.ObjectField.TheVariants.{Coordinate, Shape, Constant}
use Rattle.linear_conditions.specs.Fixings.{Fixing, place_of}
use Rattle.linear_conditions.specs.Forms.{constant_sum, coordinate_sum, object_sum}
use Rattle.rule_values.specs.Shapes.{shape_number_at}

-- the form of what a field is
abbrev pub sum_at : ProblemData → List Fixing → ℕ → ObjectField → Sum
sum_at p fix o (Coordinate d) = coordinate_sum p o d
sum_at p fix o Shape = constant_sum (shape_number_at p o (place_of fix o))
sum_at p fix o (Constant z) = constant_sum z

module _ (p : ProblemData) (fix : List Fixing) (o : ℕ) where
  by-name : (z : ℤ) (id sid : Bool) (d : Option ℕ) → sum_at p fix o (if id then Constant (pos (o + 1)) else if sid then Shape else option_map_or Coordinate d (Constant z))
      ≡ (if id then constant_sum (pos (o + 1)) else if sid then constant_sum (shape_number_at p o (place_of fix o)) else option_map_or (coordinate_sum p o) d (constant_sum z))
  by-name z true sid d = refl
  by-name z false true d = refl
  by-name z false false None = refl
  by-name z false false (Some d) = refl

  pub field-sum : (n : List ℕ) → sum_at p fix o (field_at p o n) ≡ object_sum p fix o n
  field-sum n = by-name (attribute_at p o n) (bytes_eq n (codes "id")) (bytes_eq n (codes "sid")) (coordinate_of n)
