-- Values without floats, and their lines.
use Rattle.std.proofs.Common.{◌≡◌, ◌∙◌, ◌++◌, ◌∷◌, [], ℕ, List, ap, false, refl, codes}
use Rattle.serde_json.specs.Data.{Data}
use Rattle.serde_json.specs.Written.{compact_text, has_float}
use Rattle.json_parts.specs.Form.{count_json, text_json}
use Rattle.json_search_commands.specs.FirstJson.{json_line, one_member}

pub none_plain : (lines : List ℕ) → has_float (one_member (codes "none") (text_json lines)) ≡ false
none_plain lines = refl

pub budget_plain : (n : ℕ) → has_float (one_member (codes "budget") (count_json n)) ≡ false
budget_plain n = refl

-- the line of a value that is another one without floats
pub line_is : (text : List ℕ) (d e : Data) → d ≡ e → has_float e ≡ false → (has_float d ≡ false → text ≡ compact_text d ++ 10 ∷ []) → text ≡ json_line e
line_is text d e is plain says = says (ap has_float is ∙ plain) ∙ ap json_line is
