use Rattle.std.proofs.Common.{Ok, ap, ◌∙◌}
use Rattle.command_reply.proofs.InDimension.{decides_given_in}
use Rattle.command_reply.specs.Reply.{IsSaid}
use Rattle.layout_commands.specs.Load.{load_question}
use Rattle.layout_commands.proofs.load.LoadDeciding.decide.Goals as goal

pub returns-in_ok-loaded-in-Ok-Some-clause-answer : goal.returns-in_ok-loaded-in-Ok-Some-clause-answer
returns-in_ok-loaded-in-Ok-Some-clause-answer g c =
    let r = c.in_ok-loaded-in-Ok-Some.field-0 in
    let d = c.args.self.now.dimension in
    decides_given_in (load_question d) (g.S.Source.left c.args.source.now) d c.in_ok-given.field-0 (IsSaid r.text.items r.status) c.in-Ok-Some.given c.in_ok-given.ensures.answer (c.in-Ok-Some.is ∙ ap Ok c.in-Ok-Some.field-0-is)
    (λ input h there. c.in_ok-loaded-in-Ok-Some.ensures input h)
