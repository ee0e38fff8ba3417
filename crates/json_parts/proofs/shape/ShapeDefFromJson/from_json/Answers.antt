use Rattle.std.proofs.Common.{sym, subst}
use Rattle.serde_json.specs.View.{view}
use Rattle.json_parts.specs.Form.{HasForm}
use Rattle.json_parts.specs.Values.{shape_json, IsShape}
use Rattle.json_parts.proofs.Shapes.{shape_formed}
use Rattle.json_parts.proofs.shape.ShapeDefFromJson.from_json.Goals as goal

pub returns-clause-ok : goal.returns-clause-ok
returns-clause-ok c =
    subst (λ s. HasForm IsShape shape_json (view c.args.value.now) s) (sym c.new.ensures)
    (shape_formed (view c.args.value.now) _ _ _ c.in_ok-boxes.boxes.items c.in_ok-name.name c.in_ok-members.ensures.ok c.in_ok-boxes.ensures.ok c.in_ok-name.ensures.ok c.in_ok-end.ensures.ok)
