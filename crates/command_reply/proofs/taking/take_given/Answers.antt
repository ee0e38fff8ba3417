use Rattle.command_reply.proofs.TwoTexts.{given_lifted}
use Rattle.command_reply.proofs.taking.take_given.Goals as goal

pub returns-clause-answer : goal.returns-clause-answer
returns-clause-answer g c =
    given_lifted (g.S.Source.left c.args.source.now) c.in_ok-text.text.items c.deref.result.now c.read_given.result c.in_ok-text.ensures.texts c.deref.ensures.value c.read_given.ensures
