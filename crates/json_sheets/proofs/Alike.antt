-- A value is that of one sheet, and spells one text.
use Rattle.std.proofs.Common.{◌≡◌, ℕ, List, Some, sym, ap, ◌∙◌, subst}
use Rattle.serde_json.specs.Data.{Data}
use Rattle.json_parts.specs.Form.{list_json, count_json, text_json}
use Rattle.json_parts.specs.Values.{side_json, pieces_json, attribute_json, shape_json}
use Rattle.json_parts.proofs.Alike.{IsInjective, one_list, one_text, one_count, one_side, one_pieces, one_attribute, one_shape}
use Rattle.json_sheets.specs.Sheet.{SheetData, object_json, rule_json, sheet_json}
use Rattle.json_sheets.specs.SheetText.{sheet_text, Spells, TextSpells, SpellsNothing}

one_object : IsInjective object_json
one_object a b e =
    let attributes : list_json attribute_json a.attributes ≡ list_json attribute_json b.attributes = cc in
    let name : text_json a.name ≡ text_json b.name = cc in
    let ranges : list_json pieces_json a.ranges ≡ list_json pieces_json b.ranges = cc in
    let shapes : list_json text_json a.shapes ≡ list_json text_json b.shapes = cc in
    λ i. record {
      name = one_text a.name b.name name i;
      shapes = one_list text_json one_text a.shapes b.shapes shapes i;
      ranges = one_list pieces_json one_pieces a.ranges b.ranges ranges i;
      attributes = one_list attribute_json one_attribute a.attributes b.attributes attributes i;
    }

one_rule : IsInjective rule_json
one_rule a b e =
    let body : text_json a.body ≡ text_json b.body = cc in
    let name : text_json a.name ≡ text_json b.name = cc in
    λ i. record { name = one_text a.name b.name name i; body = one_text a.body b.body body i }

pub one_sheet : IsInjective sheet_json
one_sheet a b e =
    let dims : count_json a.dims ≡ count_json b.dims = cc in
    let version : count_json a.version ≡ count_json b.version = cc in
    let macros : list_json text_json a.macros ≡ list_json text_json b.macros = cc in
    let objects : list_json object_json a.objects ≡ list_json object_json b.objects = cc in
    let order : list_json text_json a.order ≡ list_json text_json b.order = cc in
    let rules : list_json rule_json a.rules ≡ list_json rule_json b.rules = cc in
    let shapes : list_json shape_json a.shapes ≡ list_json shape_json b.shapes = cc in
    let sides : list_json side_json a.sides ≡ list_json side_json b.sides = cc in
    λ i. record {
      version = one_count a.version b.version version i;
      dims = one_count a.dims b.dims dims i;
      shapes = one_list shape_json one_shape a.shapes b.shapes shapes i;
      objects = one_list object_json one_object a.objects b.objects objects i;
      macros = one_list text_json one_text a.macros b.macros macros i;
      order = one_list text_json one_text a.order b.order order i;
      sides = one_list side_json one_side a.sides b.sides sides i;
      rules = one_list rule_json one_rule a.rules b.rules rules i;
    }

-- a value that is that of a sheet spells the text of the sheet
pub spelled_is : (d : Data) (text : List ℕ) (s : SheetData) → Spells d text → d ≡ sheet_json s → text ≡ sheet_text s
spelled_is d text s h e = h.says ∙ ap sheet_text (one_sheet h.sheet s (sym h.value ∙ e))

pub one_spelled : (d : Data) (t u : List ℕ) → Spells d t → Spells d u → t ≡ u
one_spelled d t u h g = spelled_is d t g.sheet h g.value ∙ sym g.says

some_same : {A : Type 0} (a b : A) → Some a ≡ Some b → a ≡ b
some_same a b e = cc

-- a text spells one text, and where it does it spells something
pub one_built : (text t u : List ℕ) → TextSpells text t → TextSpells text u → t ≡ u
one_built text t u h g =
    let same : h.value ≡ g.value = some_same h.value g.value (sym h.is_read ∙ g.is_read) in
    one_spelled g.value t u (subst (λ (d : Data). Spells d t) same h.spells) g.spells

pub spells_something : (text t : List ℕ) → TextSpells text t → SpellsNothing text → ⊥
spells_something text t h none = none h.utf8 h.value h.is_read h.spells.sheet h.spells.right h.spells.value
