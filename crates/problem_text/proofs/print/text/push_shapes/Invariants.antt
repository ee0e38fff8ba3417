use Rattle.std.proofs.Common.{◌≡◌, ◌++◌, drop}
use Rattle.std.specs.Prelude.{flat_map}
use Rattle.problem_text.specs.Canonical.{line_text, shape_spelling}
use Rattle.problem_text.proofs.print.text.push_shapes.Given as goal

abbrev pub invariant-shapes : goal.invariant-shapes
invariant-shapes l = l.text.items ++ flat_map (λ s. line_text (shape_spelling s)) (drop l.shape-index l.shapes) ≡ l.fn.text.items ++ flat_map (λ s. line_text (shape_spelling s)) l.fn.shapes
