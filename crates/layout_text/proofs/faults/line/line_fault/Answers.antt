use Rattle.std.proofs.Common.{◌≡◌, ◌<◌, List, length, Option, Some, sym, ap, ◌∙◌, subst, arith}
use Rattle.std.specs.Prelude.{slice_get}
use Rattle.std.proofs.lemmas.Option.{slice_get-get_or}
use Rattle.problem_data.specs.Problem.{ObjectData}
use Rattle.problem_data.specs.Least.{IsLeast}
use Rattle.layout_text.specs.View.{line_view}
use Rattle.layout_text.specs.Faults.{LineFault}
use Rattle.layout_text.proofs.faults.line.line_fault.Goals as goal

pub returns : goal.returns
returns c =
    let lt : c.args.index < length c.objects-objects.result.now = omega (arith, c.if-index-objects.false) in
    let there : slice_get c.args.problem.now.objects c.args.index ≡ Some c.index-objects-index.result =
    ap (λ (os : List ObjectData). slice_get os c.args.index) (sym c.objects-objects.ensures) ∙ slice_get-get_or c.objects-objects.result.now c.args.index c.index-objects-index.result lt ∙ ap (λ (o : ObjectData). Some o) (sym c.index-objects-index.is) in
    subst (λ (o : Option ObjectData). IsLeast (LineFault c.args.problem.now o (line_view c.args.line.now)) c.object_line_fault.result) (sym there) c.object_line_fault.ensures
