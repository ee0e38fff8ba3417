-- The line of a problem's value spells the text of the problem's sheet.
use Rattle.std.proofs.Common.{zero, suc, List, [], ◌∷◌, ◌++◌, map, ◌≤◌, refl, arith}
use Rattle.std.specs.List.{All}
use Rattle.std.specs.Str.{IsAscii}
use Rattle.serde_json.specs.Data.{depth}
use Rattle.serde_json.specs.Read.{max_depth}
use Rattle.serde_json.specs.Written.{compact_text}
use Rattle.problem_data.specs.Problem.{RuleData, ProblemData}
use Rattle.problem_data.specs.Accepted.{IsSaid}
use Rattle.json_sheets.specs.Sheet.{SheetData, sheet_json}
use Rattle.json_sheets.specs.SheetText.{sheet_text, TextSpells}
use Rattle.json_sheets.proofs.Plain.{sheet_plain}
use Rattle.geo_json.specs.Ascii.{IsAsciiMacro, IsAsciiRule}
use Rattle.geo_json.specs.SheetOf.{macro_text, rule_sheet_of, sheet_of}
use Rattle.geo_json.proofs.Ascii.{said_ascii}
use Rattle.json_round_trip.proofs.Right.{sheet_right}
use Rattle.json_round_trip.proofs.Reread.{Rereads, read_line, utf8_line, IsAsciiRuleSheet, sheet_rereads}

all_made : {A B : Type 0} (P : A → Type 0) (Q : B → Type 0) (f : A → B) → ((x : A) → P x → Q (f x)) → (xs : List A) → All P xs → All Q (map f xs)
all_made P Q f each [] h k d l = absurd (omega (arith, l))
all_made P Q f each (x ∷ xs) h zero d l = each x (h 0 x (omega arith))
all_made P Q f each (x ∷ xs) h (suc k) d l = all_made P Q f each xs (λ j z m. h (suc j) z (omega (arith, m))) k d (omega (arith, l))

problem_rereads : (p : ProblemData) → IsSaid p → Rereads (sheet_json (sheet_of p))
problem_rereads p s =
    let plain = said_ascii p s in
    sheet_rereads (sheet_of p) (sheet_right p s) (all_made IsAsciiMacro IsAscii macro_text (λ m h. h) p.macros plain.macros)
    (all_made IsAsciiRule IsAsciiRuleSheet rule_sheet_of (λ (r : RuleData) h. record { body = h.body; name = h.name }) p.rules plain.rules)

pub line_spells : (p : ProblemData) → IsSaid p → TextSpells (compact_text (sheet_json (sheet_of p)) ++ 10 ∷ []) (sheet_text (sheet_of p))
line_spells p s =
    let sheet : SheetData = sheet_of p in
    let again = problem_rereads p s in
    let nests : depth (sheet_json sheet) ≤ max_depth = (let plain = (sheet_plain sheet).nests in omega (arith, plain)) in
    record {
      utf8 = utf8_line (sheet_json sheet) again;
      value = sheet_json sheet;
      is_read = read_line (sheet_json sheet) again nests;
      spells = record { sheet = sheet; right = sheet_right p s; value = refl; says = refl };
    }
