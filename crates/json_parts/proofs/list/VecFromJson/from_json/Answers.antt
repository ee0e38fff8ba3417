use Rattle.std.proofs.Common.{map, ap, ◌∙◌}
use Rattle.serde_json.specs.View.{view}
use Rattle.json_parts.proofs.Lists.{listed_values}
use Rattle.json_parts.proofs.list.VecFromJson.from_json.Goals as goal

pub returns-in-Some-clause-form : goal.returns-in-Some-clause-form
returns-in-Some-clause-form g c = λ same s all e.
    c.read_items.ensures.form same s all
    (ap (map view) c.as_slice.ensures.value ∙ listed_values g.T.FromJson.json (view c.args.value.now) (map view c.in-Some.items.now.items) s c.in-Some.ensures e)
