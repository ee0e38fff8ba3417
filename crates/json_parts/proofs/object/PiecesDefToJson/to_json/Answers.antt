use Rattle.std.proofs.Common.{sym, ap, ◌∙◌, map, List}
use Rattle.std.proofs.lemmas.Simd.{map-map}
use Rattle.serde_json.specs.Data.{Data, array}
use Rattle.serde_json.specs.View.{items_of}
use Rattle.problem_data.specs.Problem.{RangeData}
use Rattle.problem_data.specs.ProblemView.{range_data}
use Rattle.json_parts.specs.Form.{list_json}
use Rattle.json_parts.specs.Values.{range_json, pieces_json}
use Rattle.json_parts.proofs.Lists.{seen_as}
use Rattle.json_parts.proofs.object.PiecesDefToJson.to_json.Goals as goal

pub returns : goal.returns
returns c =
    seen_as c.list_to_json.result (list_json (λ r. range_json (range_data r)) c.ranges-2.result.now) (pieces_json c.args.self.now)
    (ap (λ (ds : List Data). array (items_of ds)) (sym (map-map range_json range_data c.ranges-2.result.now) ∙ ap (λ (rs : List RangeData). map range_json rs) c.ranges-2.ensures))
    c.list_to_json.ensures
