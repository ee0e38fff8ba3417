-- The value of a sheet has no float, and does not nest deep.
use Rattle.std.proofs.Common.{arith}
use Rattle.json_parts.specs.Form.{text_json}
use Rattle.json_parts.specs.Values.{side_json, pieces_json, attribute_json, shape_json}
use Rattle.json_parts.proofs.Plain.{IsPlain, plain_text, plain_count, plain_list, plain_none, plain_member, plain_object, plain_side, plain_pieces, plain_attribute, plain_shape, plain_raised}
use Rattle.json_sheets.specs.Sheet.{ObjectSheetData, RuleSheetData, SheetData, object_json, rule_json, sheet_json}

plain_rule : (r : RuleSheetData) → IsPlain 4 (rule_json r)
plain_rule r = plain_object 3 _ (plain_member 3 _ _ _ (plain_text 3 r.body) (plain_member 3 _ _ _ (plain_text 3 r.name) (plain_none 3)))

plain_own : (o : ObjectSheetData) → IsPlain 4 (object_json o)
plain_own o =
    plain_object 3 _ (plain_member 3 _ _ _ (plain_raised 2 3 _ (omega arith) (plain_list 1 attribute_json plain_attribute o.attributes)) (plain_member 3 _ _ _ (plain_text 3 o.name)
    (plain_member 3 _ _ _ (plain_list 2 pieces_json plain_pieces o.ranges) (plain_member 3 _ _ _ (plain_list 2 text_json (plain_text 2) o.shapes) (plain_none 3)))))

pub sheet_plain : (s : SheetData) → IsPlain 6 (sheet_json s)
sheet_plain s =
    plain_object 5 _ (plain_member 5 _ _ _ (plain_count 5 s.dims) (plain_member 5 _ _ _ (plain_count 5 s.version)
    (plain_member 5 _ _ _ (plain_list 4 text_json (plain_text 4) s.macros) (plain_member 5 _ _ _ (plain_list 4 object_json plain_own s.objects)
    (plain_member 5 _ _ _ (plain_list 4 text_json (plain_text 4) s.order) (plain_member 5 _ _ _ (plain_list 4 rule_json plain_rule s.rules)
    (plain_member 5 _ _ _ (plain_list 4 shape_json plain_shape s.shapes) (plain_member 5 _ _ _ (plain_list 4 side_json (plain_side 4) s.sides) (plain_none 5)))))))))
