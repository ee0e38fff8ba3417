-- The compact text of a sheet's value is UTF-8, and it is read as that value.
use Rattle.std.proofs.Common.{◌≡◌, ℕ, suc, ◌^◌, ◌<◌, ◌≤◌, max, ℤ, pos, negsuc, Bool, true, false, List, [], ◌∷◌, ◌++◌, map, codes, Option, Some, option_map, option_and_then, IsUtf8, refl, sym, ap, ◌∙◌, append-nil, arith}
use Rattle.std.specs.List.{All}
use Rattle.std.specs.Str.{IsAscii}
use Rattle.std.proofs.lemmas.Int.{ints}
use Rattle.std.proofs.lemmas.Fmt.{IsAscii-decimal, IsAscii-signed}
use Rattle.std.proofs.lemmas.Str.{IsUtf8-append, IsUtf8-from_ascii}
use Rattle.json.specs.Json as json
use Rattle.json.specs.Tree as tree
use Rattle.json.specs.Tree.{json_tokens, HasNumbers, ItemsHaveNumbers, MembersHaveNumbers}
use Rattle.json.specs.Lex.{tokens}
use Rattle.json.specs.Print.{quoted}
use Rattle.json.proofs.Printed.Decimals.{IsNumber-decimal, IsNumber-signed_decimal}
use Rattle.json.proofs.Printed.Tokens.{tokens-print}
use Rattle.json.proofs.Printed.Trees.{value-json_tokens, ArePrintable-json_tokens}
use Rattle.json.proofs.Printed.Utf8.{IsUtf8-quoted, IsUtf8-are_ascii}
use Rattle.serde_json.specs.Data.{Data, null, boolean, number, string, array, object, Items, no_items, item, Members, no_members, member, put, depth, items_depth, members_depth}
use Rattle.serde_json.specs.Read.{read, max_depth, of_json, of_items, of_members}
use Rattle.serde_json.specs.View.{items_of}
use Rattle.serde_json.specs.Written.{outline, items_outline, members_outline, compact_text, items_text, members_text, comma_if}
use Rattle.serde_json.proofs.Numbers.{number_of-decimal, number_of-negative}
use Rattle.serde_json.proofs.Texts.{print-outline}
use Rattle.problem_data.specs.declared.tree.Side.{Side}
use Rattle.problem_data.specs.declared.tree.Side.TheVariants.{Low, High}
use Rattle.problem_data.specs.Problem.{BoxData, ShapeData, RangeData, AttributeData}
use Rattle.json_parts.specs.Form.{list_json, pair_json, int_json, count_json, text_json, IsInt, IsCount, IsWord}
use Rattle.json_parts.specs.Values.{side_json, range_json, pieces_json, attribute_json, box_json, shape_json, IsRange, AreRanges, IsAttribute, IsBox, IsShape}
use Rattle.json_parts.proofs.Trailing.{read_fed}
use Rattle.json_parts.proofs.Words.{word_ascii}
use Rattle.json_sheets.specs.Sheet.{ObjectSheetData, RuleSheetData, SheetData, object_json, rule_json, sheet_json, IsObjectSheet, IsSheet}
use Rattle.geo_json.proofs.Shown.{is_plain, plain_ascii}

-- ---- how deep the outline nests

mutual
  outline_depth : (d : Data) → tree.depth (outline d) ≡ depth d
  outline_depth null = refl
  outline_depth (boolean b) = refl
  outline_depth (number n) = refl
  outline_depth (string s) = refl
  outline_depth (array ds) = ap suc (items_outline_depth ds)
  outline_depth (object ms) = ap suc (members_outline_depth ms)

  items_outline_depth : (ds : Items) → tree.items_depth (items_outline ds) ≡ items_depth ds
  items_outline_depth no_items = refl
  items_outline_depth (item d ds) = λ i. max (outline_depth d i) (items_outline_depth ds i)

  members_outline_depth : (ms : Members) → tree.members_depth (members_outline ms) ≡ members_depth ms
  members_outline_depth no_members = refl
  members_outline_depth (member k d ms) = λ i. max (outline_depth d i) (members_outline_depth ms i)

-- ---- what is asked of a value

-- its outline is that of this value alone, with numbers that can be read; and its text is UTF-8
pub record Rereads (d : Data) : Type 0 where
  pub again : of_json (outline d) ≡ Some d
  pub numbers : HasNumbers (outline d)
  pub utf8 : IsUtf8 (compact_text d)

pub read_again : (d : Data) → Rereads d → depth d ≤ max_depth → read (compact_text d) ≡ Some d
read_again d h shallow =
    let j : json.Json = outline d in
    let cut : tokens (compact_text d) ≡ json_tokens j = ap tokens (sym (print-outline d)) ∙ tokens-print (json_tokens j) (ArePrintable-json_tokens j h.numbers) in
    let nests : tree.depth j ≤ max_depth = (let same : tree.depth j ≡ depth d = outline_depth d in omega (arith, same, shallow)) in
    ap (λ o. option_and_then of_json (option_and_then (λ p. json.if_last p.0 p.1) o)) (ap (json.value max_depth) (cut ∙ sym (append-nil (json_tokens j))) ∙ value-json_tokens j max_depth [] nests)
    ∙ h.again

-- the same behind a line feed
pub read_line : (d : Data) → Rereads d → depth d ≤ max_depth → read (compact_text d ++ 10 ∷ []) ≡ Some d
read_line d h shallow = read_fed (compact_text d) ∙ read_again d h shallow

line_feed : IsUtf8 (10 ∷ [])
line_feed = IsUtf8-are_ascii (10 ∷ []) refl

pub utf8_line : (d : Data) → Rereads d → IsUtf8 (compact_text d ++ 10 ∷ [])
utf8_line d h = IsUtf8-append (compact_text d) (10 ∷ []) h.utf8 line_feed

-- ---- texts and numbers

pub text_rereads : (text : List ℕ) → IsAscii text → Rereads (text_json text)
text_rereads text h = record { again = refl; numbers = tt; utf8 = IsUtf8-quoted text (IsUtf8-from_ascii text h) }

word_rereads : (text : List ℕ) → IsWord text → Rereads (text_json text)
word_rereads text h = text_rereads text (word_ascii text h)

count_rereads : (n : ℕ) → IsCount n → Rereads (count_json n)
count_rereads n h =
    let small : n < 2 ^ 64 = omega (arith, h) in
    record { again = ap (option_map number) (number_of-decimal n small); numbers = IsNumber-decimal n small; utf8 = IsUtf8-from_ascii _ (IsAscii-decimal n small) }

int_rereads : (z : ℤ) → IsInt z → Rereads (int_json z)
int_rereads (pos n) h = count_rereads n (omega (arith, ints, h.0, h.1))
int_rereads (negsuc n) h =
    let small : n < 1000000000 = omega (arith, ints, h.0) in
    record {
      again = ap (option_map number) (number_of-negative n (omega (arith, small)));
      numbers = IsNumber-signed_decimal (negsuc n) (omega (arith, small));
      utf8 = IsUtf8-from_ascii _ (IsAscii-signed (negsuc n) (omega (arith, small)));
    }

-- ---- lists

comma_utf8 : (later : Bool) → IsUtf8 (comma_if later)
comma_utf8 true = IsUtf8-are_ascii (44 ∷ []) refl
comma_utf8 false = IsUtf8-are_ascii [] refl

record ItemsReread (ds : Items) : Type 0 where
  again : of_items (items_outline ds) ≡ Some ds
  numbers : ItemsHaveNumbers (items_outline ds)
  utf8 : (later : Bool) → IsUtf8 (items_text later ds)

module _ {A : Type 0} (P : A → Type 0) (json_of : A → Data) (each : (x : A) → P x → Rereads (json_of x)) where
  items_reread : (xs : List A) → All P xs → ItemsReread (items_of (map json_of xs))
  items_reread [] h = record { again = refl; numbers = tt; utf8 = λ later. IsUtf8-are_ascii (93 ∷ []) refl }
  items_reread (x ∷ xs) h =
      let own = each x (h 0 x (omega arith)) in
      let rest = items_reread xs (λ k d l. h (suc k) d (omega (arith, l))) in
      let ds : Items = items_of (map json_of xs) in
      record {
        again = ap (option_and_then (λ d. option_map (item d) (of_items (items_outline ds)))) own.again ∙ ap (option_map (item (json_of x))) rest.again;
        numbers = (own.numbers, rest.numbers);
        utf8 = λ later. IsUtf8-append (comma_if later) (compact_text (json_of x) ++ items_text true ds) (comma_utf8 later) (IsUtf8-append (compact_text (json_of x)) (items_text true ds) own.utf8 (rest.utf8 true));
      }

  pub list_rereads : (xs : List A) → All P xs → Rereads (list_json json_of xs)
  list_rereads xs h =
      let all = items_reread xs h in
      record {
        again = ap (option_map array) all.again;
        numbers = all.numbers;
        utf8 = IsUtf8-append (91 ∷ []) (items_text false (items_of (map json_of xs))) (IsUtf8-are_ascii (91 ∷ []) refl) (all.utf8 false);
      }

pair_rereads : (a b : Data) → Rereads a → Rereads b → Rereads (pair_json a b)
pair_rereads a b h g = record {
  again = ap (λ (o : Option Data). option_map array (option_and_then (λ d. option_map (item d) (option_and_then (λ e. option_map (item e) (Some no_items)) (of_json (outline b)))) o)) h.again
      ∙ ap (λ (o : Option Data). option_map array (option_map (item a) (option_and_then (λ e. option_map (item e) (Some no_items)) o))) g.again;
  numbers = (h.numbers, (g.numbers, tt));
  utf8 = IsUtf8-append (91 ∷ []) _ (IsUtf8-are_ascii (91 ∷ []) refl) (IsUtf8-append (compact_text a) _ h.utf8 (IsUtf8-append (44 ∷ []) _ (IsUtf8-are_ascii (44 ∷ []) refl) (IsUtf8-append (compact_text b) (93 ∷ []) g.utf8 (IsUtf8-are_ascii (93 ∷ []) refl))));
}

-- ---- objects

-- the members go behind those that were found, which gives these
record MembersReread (found ms all : Members) : Type 0 where
  again : of_members (members_outline ms) found ≡ Some all
  numbers : MembersHaveNumbers (members_outline ms)
  utf8 : (later : Bool) → IsUtf8 (members_text later ms)

no_more : (found : Members) → MembersReread found no_members found
no_more found = record { again = refl; numbers = tt; utf8 = λ later. IsUtf8-are_ascii (125 ∷ []) refl }

one_more : (found all : Members) (k : List ℕ) (d : Data) (ms : Members) → IsUtf8 (quoted k) → Rereads d → MembersReread (put k d found) ms all → MembersReread found (member k d ms) all
one_more found all k d ms key own rest = record {
  again = ap (option_and_then (λ e. of_members (members_outline ms) (put k e found))) own.again ∙ rest.again;
  numbers = (own.numbers, rest.numbers);
  utf8 = λ later. IsUtf8-append (comma_if later) (quoted k ++ 58 ∷ (compact_text d ++ members_text true ms)) (comma_utf8 later) (IsUtf8-append (quoted k) (58 ∷ (compact_text d ++ members_text true ms)) key
      (IsUtf8-append (58 ∷ []) (compact_text d ++ members_text true ms) (IsUtf8-are_ascii (58 ∷ []) refl) (IsUtf8-append (compact_text d) (members_text true ms) own.utf8 (rest.utf8 true))));
}

object_rereads : (ms : Members) → MembersReread no_members ms ms → Rereads (object ms)
object_rereads ms h = record {
  again = ap (option_map object) h.again;
  numbers = h.numbers;
  utf8 = IsUtf8-append (123 ∷ []) (members_text false ms) (IsUtf8-are_ascii (123 ∷ []) refl) (h.utf8 false);
}

-- ---- parts of problems

side_rereads : (s : Side) → Rereads (side_json s)
side_rereads Low = text_rereads (codes "low") (plain_ascii (codes "low") refl)
side_rereads High = text_rereads (codes "high") (plain_ascii (codes "high") refl)

range_rereads : (r : RangeData) → IsRange r → Rereads (range_json r)
range_rereads r h = pair_rereads (int_json r.low) (int_json r.high) (int_rereads r.low h.low) (int_rereads r.high h.high)

pieces_reread : (rs : List RangeData) → AreRanges rs → Rereads (pieces_json rs)
pieces_reread rs h = list_rereads IsRange range_json range_rereads rs h

attribute_rereads : (a : AttributeData) → IsAttribute a → Rereads (attribute_json a)
attribute_rereads a h = pair_rereads (text_json a.name) (int_json a.value) (word_rereads a.name h.name) (int_rereads a.value h.value)

-- a key is ASCII
key : (k : List ℕ) → is_plain k ≡ true → IsUtf8 (quoted k)
key k e = IsUtf8-quoted k (IsUtf8-from_ascii k (plain_ascii k e))

box_rereads : (b : BoxData) → IsBox b → Rereads (box_json b)
box_rereads b h =
    object_rereads _ (one_more _ _ _ _ _ (key (codes "offset") refl) (list_rereads IsInt int_json int_rereads b.offsets h.offsets)
    (one_more _ _ _ _ _ (key (codes "size") refl) (list_rereads IsInt int_json int_rereads b.sizes h.sizes) (no_more _)))

shape_rereads : (s : ShapeData) → IsShape s → Rereads (shape_json s)
shape_rereads s h =
    object_rereads _ (one_more _ _ _ _ _ (key (codes "boxes") refl) (list_rereads IsBox box_json box_rereads s.boxes h.boxes) (one_more _ _ _ _ _ (key (codes "name") refl) (word_rereads s.name h.name) (no_more _)))

object_sheet_rereads : (o : ObjectSheetData) → IsObjectSheet o → Rereads (object_json o)
object_sheet_rereads o h =
    object_rereads _ (one_more _ _ _ _ _ (key (codes "attributes") refl) (list_rereads IsAttribute attribute_json attribute_rereads o.attributes h.attributes)
    (one_more _ _ _ _ _ (key (codes "name") refl) (word_rereads o.name h.name)
    (one_more _ _ _ _ _ (key (codes "ranges") refl) (list_rereads AreRanges pieces_json pieces_reread o.ranges h.ranges)
    (one_more _ _ _ _ _ (key (codes "shapes") refl) (list_rereads IsWord text_json word_rereads o.shapes h.shapes) (no_more _)))))

-- a rule whose texts are ASCII
pub record IsAsciiRuleSheet (r : RuleSheetData) : Type 0 where
  pub body : IsAscii r.body
  pub name : IsAscii r.name

rule_rereads : (r : RuleSheetData) → IsAsciiRuleSheet r → Rereads (rule_json r)
rule_rereads r h = object_rereads _ (one_more _ _ _ _ _ (key (codes "body") refl) (text_rereads r.body h.body) (one_more _ _ _ _ _ (key (codes "name") refl) (text_rereads r.name h.name) (no_more _)))

pub sheet_rereads : (s : SheetData) → IsSheet s → All IsAscii s.macros → All IsAsciiRuleSheet s.rules → Rereads (sheet_json s)
sheet_rereads s h macros rules =
    object_rereads _ (one_more _ _ _ _ _ (key (codes "dims") refl) (count_rereads s.dims h.dims) (one_more _ _ _ _ _ (key (codes "geost") refl) (count_rereads s.version h.version)
    (one_more _ _ _ _ _ (key (codes "macros") refl) (list_rereads IsAscii text_json text_rereads s.macros macros)
    (one_more _ _ _ _ _ (key (codes "objects") refl) (list_rereads IsObjectSheet object_json object_sheet_rereads s.objects h.objects)
    (one_more _ _ _ _ _ (key (codes "order") refl) (list_rereads IsWord text_json word_rereads s.order h.order)
    (one_more _ _ _ _ _ (key (codes "rules") refl) (list_rereads IsAsciiRuleSheet rule_json rule_rereads s.rules rules)
    (one_more _ _ _ _ _ (key (codes "shapes") refl) (list_rereads IsShape shape_json shape_rereads s.shapes h.shapes)
    (one_more _ _ _ _ _ (key (codes "sides") refl) (list_rereads (λ s. Unit {0}) side_json (λ s u. side_rereads s) s.sides (λ k d l. tt)) (no_more _)))))))))
