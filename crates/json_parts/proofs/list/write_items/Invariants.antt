use Rattle.std.proofs.Common.{◌≡◌, map, take}
use Rattle.serde_json.specs.View.{view}
use Rattle.json_parts.proofs.list.write_items.Given as goal

abbrev pub invariant-loop-part : goal.invariant-loop-part
invariant-loop-part g l = map view l.values.items ≡ map g.T.ToJson.json (take l.part-index l.list)
