use Rattle.problem_text.proofs.Answered.{too_long}
use Rattle.problem_text.proofs.read.read_problem.Goals as goal

pub returns-then-text-gt-MOST_BYTES : goal.returns-then-text-gt-MOST_BYTES
returns-then-text-gt-MOST_BYTES c =
    let a = too_long c.args.text.now c.if-text-gt-MOST_BYTES.true in
    record { answer = a.answer; only = a.only }
