use Rattle.std.proofs.Common.{rules, map}
use Rattle.serde_json.specs.View.{view}
use Rattle.problem_data.specs.ProblemView.{attribute_data}
use Rattle.json_parts.proofs.Lists.{opened, behind}
use Rattle.json_sheets.proofs.Members.{object_formed}
use Rattle.json_sheets.proofs.object.ObjectSheetFromJson.from_json.Goals as goal

pub returns-in_err-attributes-clause-form : goal.returns-in_err-attributes-clause-form
returns-in_err-attributes-clause-form c = λ same x right e.
    c.in_err-attributes.ensures.form (search rules) x.attributes _ right.attributes (opened c.in_ok-members.ensures.ok e)

pub returns-in_err-shapes-clause-form : goal.returns-in_err-shapes-clause-form
returns-in_err-shapes-clause-form c = λ same x right e.
    let first = behind c.in_ok-attributes.ensures.ok (opened c.in_ok-members.ensures.ok e) in
    let third = behind c.in_ok-ranges.ensures.ok (behind c.in_ok-name.ensures.ok first) in
    c.in_err-shapes.ensures.form (search rules) x.shapes _ right.shapes third

pub returns-clause-ok : goal.returns-clause-ok
returns-clause-ok c =
    object_formed (view c.args.value.now) _ _ _ _ _ (map attribute_data c.in_ok-attributes.attributes.items) c.in_ok-name.name c.in_ok-ranges.ranges.items c.in_ok-shapes.shapes.items c.in_ok-members.ensures.ok
    c.in_ok-attributes.ensures.ok c.in_ok-name.ensures.ok c.in_ok-ranges.ensures.ok c.in_ok-shapes.ensures.ok c.in_ok-end.ensures.ok
