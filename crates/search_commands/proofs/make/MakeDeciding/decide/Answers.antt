use Rattle.command_reply.proofs.Ending.{some_input}
use Rattle.search_commands.proofs.make.MakeDeciding.decide.Goals as goal

pub returns-clause-answer : goal.returns-clause-answer
returns-clause-answer g c =
    let i = some_input (g.S.Source.left c.args._source.now) in
    record { input = i.0; told = i.1; answers = c.in_ok-made.ensures i.0 }
