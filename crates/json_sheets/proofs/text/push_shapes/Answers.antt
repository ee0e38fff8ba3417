use Rattle.std.proofs.Common.{refl}
use Rattle.problem_text.specs.Canonical.{line_text, shape_spelling}
use Rattle.problem_text.proofs.PrintingLists.{joined}
use Rattle.json_sheets.specs.SheetText.{lines}
use Rattle.json_sheets.proofs.text.push_shapes.Goals as goal

pub shapes-preserved : goal.shapes-preserved
shapes-preserved c =
    joined (λ xs. lines shape_spelling xs) (λ x. line_text (shape_spelling x)) (λ x xs. refl) c.args.shapes.now c.shapes.shape-index c.shape-item.result _ _ _ c.shapes-test.true c.shape-item.is (c.in_ok-push_shape.ensures {u = tt}) c.shapes.invariant
