use Rattle.std.proofs.Common.{map, take}
use Rattle.serde_json.specs.View.{view}
use Rattle.json_parts.specs.Form.{HaveForm}
use Rattle.json_parts.proofs.list.read_items.Given as goal

abbrev pub invariant-loop-item : goal.invariant-loop-item
invariant-loop-item g l = HaveForm g.T.FromJson.IsRight g.T.FromJson.json (map view (take l.item-index l.items)) (map g.T.FromJson.says l.read.items)
