-- Values of objects and of whole sheets from their members.
use Rattle.std.proofs.Common.{◌≡◌, ℕ, List, map, codes, ap, ◌∙◌}
use Rattle.serde_json.specs.Data.{Data, object, Members, no_members}
use Rattle.problem_data.specs.declared.tree.Side.{Side}
use Rattle.problem_data.specs.Problem.{ShapeData, RangeData, AttributeData}
use Rattle.json_parts.specs.Form.{HasForm, IsMember, IsCount, IsWord, IsFree, count_json, text_json}
use Rattle.json_parts.specs.Values.{side_json, pieces_json, attribute_json, shape_json, AreRanges, IsAttribute, IsShape}
use Rattle.json_parts.proofs.Lists.{then_member}
use Rattle.json_parts.proofs.Shapes.{ListMember, TextMember, as_it_is}
use Rattle.json_sheets.specs.Sheet.{ObjectSheetData, RuleSheetData, object_json, rule_json, sheet_json, IsObjectSheet, IsRuleSheet, IsSheet}

pub object_formed : (d : Data) (m0 m1 m2 m3 m4 : Members) (vs : List AttributeData) (name : List ℕ) (rs : List (List RangeData)) (ss : List (List ℕ)) → d ≡ object m0
    → ListMember IsAttribute attribute_json (codes "attributes") m0 vs m1 → TextMember IsWord (codes "name") m1 name m2
    → ListMember AreRanges pieces_json (codes "ranges") m2 (map (λ r. r) rs) m3 → ListMember IsWord text_json (codes "shapes") m3 (map (λ n. n) ss) m4 → m4 ≡ no_members
    → HasForm IsObjectSheet object_json d (record { name = name; shapes = ss; ranges = rs; attributes = vs })
object_formed d m0 m1 m2 m3 m4 vs name rs ss e p q r s n =
    let a = as_it_is AreRanges pieces_json (codes "ranges") m2 m3 rs r in
    let b = as_it_is IsWord text_json (codes "shapes") m3 m4 ss s in
    record {
      right = record { attributes = p.right; name = q.right; ranges = a.right; shapes = b.right };
      value = e ∙ ap object (then_member p (then_member q (then_member a (then_member b n))));
    }

abbrev pub CountMember : List ℕ → Members → ℕ → Members → Type 0
CountMember key ms n more = IsMember IsCount count_json key ms n more

pub sheet_formed : (d : Data) (m0 m1 m2 m3 m4 m5 m6 m7 m8 : Members) (dims version : ℕ) (ms : List (List ℕ)) (os : List ObjectSheetData) (ns : List (List ℕ)) (rs : List RuleSheetData) (ss : List ShapeData) (sides : List Side) → d ≡ object m0
    → CountMember (codes "dims") m0 dims m1 → CountMember (codes "geost") m1 version m2
    → ListMember IsFree text_json (codes "macros") m2 (map (λ t. t) ms) m3 → ListMember IsObjectSheet object_json (codes "objects") m3 os m4
    → ListMember IsWord text_json (codes "order") m4 (map (λ n. n) ns) m5 → ListMember IsRuleSheet rule_json (codes "rules") m5 rs m6
    → ListMember IsShape shape_json (codes "shapes") m6 (map (λ s. s) ss) m7 → ListMember (λ s. Unit {0}) side_json (codes "sides") m7 (map (λ s. s) sides) m8 → m8 ≡ no_members
    → HasForm IsSheet sheet_json d (record { version = version; dims = dims; shapes = ss; objects = os; macros = ms; order = ns; sides = sides; rules = rs })
sheet_formed d m0 m1 m2 m3 m4 m5 m6 m7 m8 dims version ms os ns rs ss sides e a b c o n r s t none =
    let c = as_it_is IsFree text_json (codes "macros") m2 m3 ms c in
    let n = as_it_is IsWord text_json (codes "order") m4 m5 ns n in
    let s = as_it_is IsShape shape_json (codes "shapes") m6 m7 ss s in
    let t = as_it_is (λ s. Unit {0}) side_json (codes "sides") m7 m8 sides t in
    record {
      right = record { dims = a.right; version = b.right; macros = c.right; objects = o.right; order = n.right; rules = r.right; shapes = s.right };
      value = e ∙ ap object (then_member a (then_member b (then_member c (then_member o (then_member n (then_member r (then_member s (then_member t none))))))));
    }
