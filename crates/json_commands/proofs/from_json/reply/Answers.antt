use Rattle.std.proofs.Common.{ℕ, List, subst}
use Rattle.std.proofs.lemmas.Result.{IfOk-weaker}
use Rattle.command_reply.specs.declared.reply.TextReply.{TextReply}
use Rattle.json_commands.specs.FromJson.{RepliesBuilt}
use Rattle.json_commands.specs.Reading.{AnswersReading, spelled}
use Rattle.json_commands.proofs.JsonAnswers.{replied_unspelled}
use Rattle.json_commands.proofs.from_json.reply.Goals as goal

pub returns-in-Spelled : goal.returns-in-Spelled
returns-in-Spelled c =
    let read = subst (AnswersReading c.args.text.now) c.in-Spelled.is c.in_ok-built.ensures in
    IfOk-weaker c.reply_to_built.result (λ (r : TextReply). RepliesBuilt c.as_slice.result.now r.text.items r.status) _ (λ r h.
    spelled read.0 c.in-Spelled.built.items read.1 (subst (λ (x : List ℕ). RepliesBuilt x r.text.items r.status) c.as_slice.ensures.value h)) c.reply_to_built.ensures

pub returns-in-Refused : goal.returns-in-Refused
returns-in-Refused c =
    let read = subst (AnswersReading c.args.text.now) c.in-Refused.is c.in_ok-built.ensures in
    replied_unspelled RepliesBuilt c.args.text.now c.in-Refused.reply.text.items c.in-Refused.reply.status read
