use Rattle.std.proofs.Common.{refl}
use Rattle.std.specs.Prelude.{flat_map}
use Rattle.problem_text.specs.Canonical.{line_text, shape_spelling}
use Rattle.problem_text.proofs.PrintingLists.{joined}
use Rattle.problem_text.proofs.print.text.push_shapes.Goals as goal

pub shapes-preserved : goal.shapes-preserved
shapes-preserved c = joined (λ xs. flat_map (λ s. line_text (shape_spelling s)) xs) (λ s. line_text (shape_spelling s)) (λ x xs. refl) c.args.shapes.now c.shapes.shape-index c.shape-item.result _ _ _ c.shapes-test.true c.shape-item.is (c.in_ok-push_shape.ensures {u = tt}) c.shapes.invariant
