use Rattle.std.proofs.Common.{Err, refl}
use Rattle.std.proofs.lemmas.Result.{IfOk-weaker}
use Rattle.json_search_commands.proofs.FirstJsons.{found_refused}
use Rattle.json_search_commands.proofs.first_json.reply_to_built.Goals as goal

pub returns-in-Ok : goal.returns-in-Ok
returns-in-Ok c = IfOk-weaker c.first_of.result _ _ (λ r f. f c.args.built.now c.in-Ok.ensures) c.first_of.ensures

pub returns-in-Err : goal.returns-in-Err
returns-in-Err c = IfOk-weaker c.refuse.result _ _ (λ r h. found_refused c.args.most c.args.built.now r.text.items r.status (Err c.in-Err.fault) c.in-Err.fault c.in-Err.ensures refl h) c.refuse.ensures
