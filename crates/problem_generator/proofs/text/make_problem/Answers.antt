use Rattle.std.proofs.Common.{◌∙◌, ap}
use Rattle.problem_generator.proofs.Steps.{four_parts}
use Rattle.problem_generator.proofs.text.make_problem.Goals as goal

pub returns : goal.returns
returns c =
    ap (λ v. v.items) c.into_bytes.ensures.value
    ∙ four_parts _ _ _ _ _ _ _ _ c.in_ok-text.ensures.ok c.in_ok-write_all_shapes.ensures c.in_ok-write_all_objects.ensures c.in_ok-push_str.ensures.bytes
