use Rattle.command_input.specs.declared.command.Status.TheVariants.{Answered}
use Rattle.command_reply.proofs.Ending.{answers_told, decides_accepted, decides_refused}
use Rattle.command_reply.specs.Reply.{IsSaid}
use Rattle.problem_text.specs.Canonical.{problem_text}
use Rattle.std.proofs.Common.{refl}
use Rattle.text_commands.specs.Show.{ShowAnswer, show_question}
use Rattle.text_commands.proofs.show.ShowDeciding.decide.Goals as goal

pub returns-in_ok-shown-in-Ok-clause-answer : goal.returns-in_ok-shown-in-Ok-clause-answer
returns-in_ok-shown-in-Ok-clause-answer g c =
    let r = c.in_ok-shown-in-Ok.field-0 in
    let p = c.in-Ok.accepted.problem in
    decides_accepted show_question (g.S.Source.left c.args.source.now) (IsSaid r.text.items r.status) c.in_ok-accepted.field-0 c.in-Ok.accepted c.in_ok-accepted.ensures.answer c.in-Ok.is (λ input h.
    answers_told ShowAnswer input (problem_text p) r.text.items Answered r.status c.in_ok-shown-in-Ok.ensures.text c.in_ok-shown-in-Ok.ensures.status (record {
      problem = p;
      accepted = h.accepted;
      says = refl;
    }) tt)

pub returns-in_ok-refuse-in-Err-clause-answer : goal.returns-in_ok-refuse-in-Err-clause-answer
returns-in_ok-refuse-in-Err-clause-answer g c =
    let r = c.in_ok-refuse-in-Err.field-0 in
    decides_refused show_question (g.S.Source.left c.args.source.now) r.text.items r.status c.in_ok-accepted.field-0 c.in-Err.fault c.in_ok-accepted.ensures.answer c.in-Err.is c.in_ok-refuse-in-Err.ensures (λ input text h. h)
