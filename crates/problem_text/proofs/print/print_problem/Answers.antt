use Rattle.std.proofs.Common.{◌≡◌, ◌∙◌}
use Rattle.problem_text.specs.Canonical.{problem_text}
use Rattle.problem_text.proofs.PrintingSink.{written_as}
use Rattle.problem_text.proofs.CanonicalRight.{said_spelled, said_again}
use Rattle.problem_text.proofs.print.print_problem.Goals as goal

pub returns-clause-bytes : goal.returns-clause-bytes
returns-clause-bytes g c =
    let e : c.as_slice.result.now ≡ problem_text c.args.problem.now = c.as_slice.ensures.value ∙ c.in_ok-text.ensures in
    written_as _ _ c.write_all_bytes.result c.as_slice.result.now (problem_text c.args.problem.now) e c.write_all_bytes.ensures.bytes

pub returns-clause-spelled : goal.returns-clause-spelled
returns-clause-spelled g c = said_spelled c.args.problem.now c.is_said.ensures.said

pub returns-clause-read_back : goal.returns-clause-read_back
returns-clause-read_back g c short = said_again c.args.problem.now c.is_said.ensures.said short

pub returns-in_err-text-clause-spelled : goal.returns-in_err-text-clause-spelled
returns-in_err-text-clause-spelled g c = said_spelled c.args.problem.now c.is_said.ensures.said

pub returns-in_err-text-clause-read_back : goal.returns-in_err-text-clause-read_back
returns-in_err-text-clause-read_back g c short = said_again c.args.problem.now c.is_said.ensures.said short

pub returns-clause-nothing : goal.returns-clause-nothing
returns-clause-nothing g c quiet wants = absurd ((c.write_all_bytes.ensures.quiet quiet).1 wants)

pub returns-clause-cause : goal.returns-clause-cause
returns-clause-cause g c = c.write_all_bytes.ensures.cause
