use Rattle.command_reply.proofs.InDimension.{given_in_lifted}
use Rattle.command_reply.proofs.taking.take_given_in.Goals as goal

pub returns-clause-answer : goal.returns-clause-answer
returns-clause-answer g c =
    given_in_lifted c.args.d (g.S.Source.left c.args.source.now) c.in_ok-text.text.items c.deref.result.now c.read_given_in.result c.in_ok-text.ensures.texts c.deref.ensures.value c.read_given_in.ensures
