use Rattle.json_commands.proofs.JsonAnswers.{decides_json}
use Rattle.json_search_commands.specs.FirstJson.{found_question}
use Rattle.json_search_commands.proofs.FirstJsons.{found_answered}
use Rattle.json_search_commands.proofs.first_json.FirstJsonDeciding.decide.Goals as goal

pub returns-clause-answer : goal.returns-clause-answer
returns-clause-answer g c =
    let most = c.args.self.now.most in
    decides_json (found_question most) (found_answered most) (g.S.Source.left c.args.source.now) c.in_ok-text.text.items c.as_slice.result.now c.in_ok-reply.field-0.text.items c.in_ok-reply.field-0.status
    c.in_ok-text.ensures.text c.as_slice.ensures.value c.in_ok-reply.ensures
