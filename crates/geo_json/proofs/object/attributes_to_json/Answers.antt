use Rattle.std.proofs.Common.{List, map, sym, ap, ◌∙◌}
use Rattle.std.specs.Str.{IsAscii}
use Rattle.std.proofs.lemmas.Simd.{map-map}
use Rattle.serde_json.specs.Data.{Data, array}
use Rattle.serde_json.specs.View.{items_of}
use Rattle.problem_data.specs.Problem.{AttributeData}
use Rattle.problem_data.specs.ProblemView.{attribute_data}
use Rattle.json_parts.specs.Form.{list_json}
use Rattle.json_parts.specs.Values.{attribute_json}
use Rattle.json_parts.proofs.Lists.{seen_as}
use Rattle.geo_json.proofs.Ascii.{seen_all}
use Rattle.geo_json.proofs.object.attributes_to_json.Goals as goal

pub list_to_json-requires : goal.list_to_json-requires
list_to_json-requires c = seen_all (λ (a : AttributeData). IsAscii a.name) attribute_data c.attributes.result.now c.args.object.now.attributes c.attributes.ensures c.requires.attributes

pub returns : goal.returns
returns c =
    seen_as c.list_to_json.result (list_json (λ a. attribute_json (attribute_data a)) c.attributes.result.now) (list_json attribute_json c.args.object.now.attributes)
    (ap (λ (ds : List Data). array (items_of ds)) (sym (map-map attribute_json attribute_data c.attributes.result.now) ∙ ap (λ (vs : List AttributeData). map attribute_json vs) c.attributes.ensures))
    c.list_to_json.ensures
