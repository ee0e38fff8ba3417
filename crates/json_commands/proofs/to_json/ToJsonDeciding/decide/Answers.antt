use Rattle.command_input.specs.declared.command.Status.TheVariants.{Answered}
use Rattle.command_reply.proofs.Ending.{answers_told, decides_accepted, decides_refused}
use Rattle.command_reply.specs.Reply.{IsSaid}
use Rattle.std.proofs.Common.{refl}
use Rattle.json_commands.specs.ToJson.{json_line, ToJsonAnswer, to_json_question}
use Rattle.json_commands.proofs.to_json.ToJsonDeciding.decide.Goals as goal

pub returns-in_ok-written-in-Ok-clause-answer : goal.returns-in_ok-written-in-Ok-clause-answer
returns-in_ok-written-in-Ok-clause-answer g c =
    let r = c.in_ok-written-in-Ok.field-0 in
    let p = c.in-Ok.accepted.problem in
    decides_accepted to_json_question (g.S.Source.left c.args.source.now) (IsSaid r.text.items r.status) c.in_ok-accepted.field-0 c.in-Ok.accepted c.in_ok-accepted.ensures.answer c.in-Ok.is (λ input h.
    answers_told ToJsonAnswer input (json_line p) r.text.items Answered r.status c.in_ok-written-in-Ok.ensures.text c.in_ok-written-in-Ok.ensures.status (record {
      problem = p;
      accepted = h.accepted;
      says = refl;
    }) tt)

pub returns-in_ok-refuse-in-Err-clause-answer : goal.returns-in_ok-refuse-in-Err-clause-answer
returns-in_ok-refuse-in-Err-clause-answer g c =
    let r = c.in_ok-refuse-in-Err.field-0 in
    decides_refused to_json_question (g.S.Source.left c.args.source.now) r.text.items r.status c.in_ok-accepted.field-0 c.in-Err.fault c.in_ok-accepted.ensures.answer c.in-Err.is c.in_ok-refuse-in-Err.ensures (λ input text h. h)
