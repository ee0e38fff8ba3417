use Rattle.command_reply.proofs.Lifting.{accepted_lifted}
use Rattle.command_reply.proofs.taking.take_problem.Goals as goal

pub returns-clause-answer : goal.returns-clause-answer
returns-clause-answer g c =
    accepted_lifted (g.S.Source.left c.args.source.now) c.in_ok-text.text.items c.deref.result.now c.read_accepted.result c.in_ok-text.ensures.text c.deref.ensures.value c.read_accepted.ensures
