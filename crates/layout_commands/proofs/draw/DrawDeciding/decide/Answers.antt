use Rattle.command_reply.proofs.Ending.{decides_given, decides_refused_pair}
use Rattle.command_reply.specs.Reply.{IsSaid}
use Rattle.layout_commands.specs.Draw.{draw_question}
use Rattle.layout_commands.proofs.draw.DrawDeciding.decide.Goals as goal

pub returns-in_ok-drawn-in-Ok-clause-answer : goal.returns-in_ok-drawn-in-Ok-clause-answer
returns-in_ok-drawn-in-Ok-clause-answer g c =
    let r = c.in_ok-drawn-in-Ok.field-0 in
    decides_given draw_question (g.S.Source.left c.args.source.now) (IsSaid r.text.items r.status) c.in_ok-given.field-0 c.in-Ok.given c.in_ok-given.ensures.answer c.in-Ok.is c.in_ok-drawn-in-Ok.ensures

pub returns-in_ok-refuse-in-Err-clause-answer : goal.returns-in_ok-refuse-in-Err-clause-answer
returns-in_ok-refuse-in-Err-clause-answer g c =
    let r = c.in_ok-refuse-in-Err.field-0 in
    decides_refused_pair draw_question (g.S.Source.left c.args.source.now) r.text.items r.status c.in_ok-given.field-0 c.in-Err.fault c.in_ok-given.ensures.answer c.in-Err.is c.in_ok-refuse-in-Err.ensures (λ input text h. h)
