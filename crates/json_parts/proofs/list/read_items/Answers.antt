use Rattle.std.proofs.Common.{rules, subst}
use Rattle.serde_json.specs.View.{view}
use Rattle.json_parts.specs.Form.{HasNoForm}
use Rattle.json_parts.proofs.Lists.{no_form_at}
use Rattle.json_parts.proofs.list.read_items.Goals as goal

pub returns-in_err-from_json-clause-form : goal.returns-in_err-from_json-clause-form
returns-in_err-from_json-clause-form g c = λ same ss all e.
    no_form_at view c.args.items.now c.loop-item.item-index c.item-item.result c.loop-item-test.true
    (subst (λ v. HasNoForm g.T.FromJson.IsRight g.T.FromJson.json (view v)) c.item-item.is (c.in_err-from_json.ensures.form (search rules))) ss all e
