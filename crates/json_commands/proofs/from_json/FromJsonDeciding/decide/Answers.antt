use Rattle.json_commands.specs.FromJson.{built_question}
use Rattle.json_commands.proofs.JsonAnswers.{decides_json}
use Rattle.json_commands.proofs.Spelled.{built_answered}
use Rattle.json_commands.proofs.from_json.FromJsonDeciding.decide.Goals as goal

pub returns-clause-answer : goal.returns-clause-answer
returns-clause-answer g c =
    decides_json built_question built_answered (g.S.Source.left c.args.source.now) c.in_ok-text.text.items c.as_slice.result.now c.in_ok-reply.field-0.text.items c.in_ok-reply.field-0.status c.in_ok-text.ensures.text
    c.as_slice.ensures.value c.in_ok-reply.ensures
