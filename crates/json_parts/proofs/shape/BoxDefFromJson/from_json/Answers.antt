use Rattle.std.proofs.Common.{sym, subst}
use Rattle.serde_json.specs.View.{view}
use Rattle.json_parts.specs.Form.{HasForm}
use Rattle.json_parts.specs.Values.{box_json, IsBox}
use Rattle.json_parts.proofs.Shapes.{box_formed}
use Rattle.json_parts.proofs.shape.BoxDefFromJson.from_json.Goals as goal

pub returns-clause-ok : goal.returns-clause-ok
returns-clause-ok c =
    subst (λ b. HasForm IsBox box_json (view c.args.value.now) b) (sym c.new.ensures)
    (box_formed (view c.args.value.now) _ _ _ c.in_ok-offsets.offsets.items c.in_ok-sizes.sizes.items c.in_ok-members.ensures.ok c.in_ok-offsets.ensures.ok c.in_ok-sizes.ensures.ok c.in_ok-end.ensures.ok)
