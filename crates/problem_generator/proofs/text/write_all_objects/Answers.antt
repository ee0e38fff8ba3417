use Rattle.std.proofs.Common.{◌++◌, ◌∙◌, ap, arith}
use Rattle.problem_generator.specs.Made.{object_line}
use Rattle.problem_generator.proofs.Steps.{no_lines, lines_next}
use Rattle.problem_generator.proofs.text.write_all_objects.Goals as goal

pub loop-number-init : goal.loop-number-init
loop-number-init c = no_lines object_line _

pub loop-number-preserved : goal.loop-number-preserved
loop-number-preserved c =
    c.in_ok-write_object.ensures ∙ ap (λ t. t ++ object_line c.loop-number.number) c.loop-number.invariant ∙ lines_next object_line _ c.loop-number.number (omega arith)
