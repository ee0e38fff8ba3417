use Rattle.std.proofs.Common.{◌≡◌, ap, ◌∙◌, rules}
use Rattle.std.specs.Int.{w128}
use Rattle.std.proofs.lemmas.Int.{to_z-of_z}
use mir.Val.{to_z, of_z}
use Rattle.linear_conditions.specs.Forms.{constant_sum, object_sum}
use Rattle.linear_conditions.specs.Views.{fixings_view}
use Rattle.linear_conditions.proofs.ObjectFields.{sum_at, field-sum}
use Rattle.linear_conditions.proofs.fields.object_sum.Goals as goal

pub returns-in-Coordinate : goal.returns-in-Coordinate
returns-in-Coordinate c =
    let p = c.args.problem.now in
    let fix = fixings_view c.args.fixings.now in
    c.coordinate_sum.ensures ∙ ap (sum_at p fix c.args.o) c.in-Coordinate.ensures.kind ∙ field-sum p fix c.args.o c.args.name.now

pub returns-in-Shape : goal.returns-in-Shape
returns-in-Shape c =
    let p = c.args.problem.now in
    let fix = fixings_view c.args.fixings.now in
    c.shape_sum.ensures ∙ ap (sum_at p fix c.args.o) c.in-Shape.ensures.kind ∙ field-sum p fix c.args.o c.args.name.now

pub returns-in-Constant : goal.returns-in-Constant
returns-in-Constant c =
    let p = c.args.problem.now in
    let fix = fixings_view c.args.fixings.now in
    let number : constant_sum c.in-Constant.number ≡ object_sum p fix c.args.o c.args.name.now = ap (sum_at p fix c.args.o) c.in-Constant.ensures.kind ∙ field-sum p fix c.args.o c.args.name.now in
    let made : constant_sum (to_z w128 (of_z w128 c.in-Constant.number)) ≡ constant_sum c.in-Constant.number = ap constant_sum (to_z-of_z w128 c.in-Constant.number (search rules)) in
    made ∙ number
