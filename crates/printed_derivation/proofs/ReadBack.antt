-- What is printed of a derivation is read back as its events, also behind white space and comments.
use Rattle.std.proofs.Common.{◌≡◌, ℕ, ◌+◌, ◌≤◌, List, [], ◌∷◌, ◌++◌, length, map, None, refl, sym, ap, ◌∙◌, subst, append_assoc, arith, lit≤}
use Rattle.std.specs.Prelude.{codes}
use Rattle.std.specs.List.{All}
use Rattle.std.proofs.lemmas.List.{length-append}
use Rattle.std.proofs.Math.Nat.{le_trans}
use Rattle.std.proofs.Math.Seq.{take-length}
use Rattle.geo_tokens.specs.declared.token.Token.{Token}
use Rattle.geo_tokens.specs.declared.token.Kind.{Kind}
use Rattle.geo_tokens.specs.Bytes.{bytes_of}
use Rattle.geo_tokens.specs.Cut.{Cut, white}
use Rattle.geo_tokens.specs.Names.{NameTable, IsNameText, IsNameTable}
use Rattle.geo_tokens.proofs.Cuts.{gap_more}
use Rattle.geo_tokens.proofs.Spellings.{reserved}
use Rattle.blank_texts.specs.Blank.{IsBlank, moved}
use Rattle.blank_texts.proofs.Lines.{blank_stays}
use Rattle.blank_texts.proofs.Moved.{gaps_then, bytes_moved, tokens_moved}
use Rattle.rule_print.specs.Canonical.{Written, name, kind_of, spelling}
use Rattle.rule_print.proofs.ShownTokens.{Stands}
use Rattle.layout_text.proofs.TextParts as parts
use Rattle.layout_text.proofs.TextParts.{Part, all_bytes, tokens_from, parts_are_tokens, parts_stand_whole}
use Rattle.geo_conditions.specs.declared.cond.Cond.{Cond}
use Rattle.geo_conditions.specs.Reach.{State}
use Rattle.derivation.specs.declared.event.Event.{Event}
use Rattle.derivation.specs.Nodes.{Node, node_events}
use Rattle.derivation_text.specs.Lines.{AreNamed}
use Rattle.derivation_reading.specs.Terminals.{Lexeme, terminal_of, name_by, lexeme, lexemes}
use Rattle.derivation_reading.specs.Grammar.{lookup}
use Rattle.derivation_reading.specs.Machine.{Spells}
use Rattle.derivation_reading.specs.FirstFault.{most_bytes, IsText}
use Rattle.derivation_reading.proofs.Cuttings.{cut_length}
use Rattle.derivation_round_trip.specs.Limits.{IsLimited}
use Rattle.derivation_round_trip.proofs.LineParts.{text_parts, text_bytes, text_fits}
use Rattle.derivation_round_trip.proofs.Places.{seen}
use Rattle.derivation_round_trip.proofs.Words.{words, words_read}
use Rattle.whole_derivation.specs.Whole.{IsDerivation}
use Rattle.printed_derivation.specs.Printable.{IsPrintable}
use Rattle.printed_derivation.specs.Tables.{IsTableOf}
use Rattle.printed_derivation.specs.Laws.{printed, printed_behind}
use Rattle.printed_derivation.proofs.Named.{named}
use Rattle.printed_derivation.proofs.Limited.{limited}
use Rattle.printed_derivation.proofs.FirstWord.{behind_none}

-- ---- lexemes

same_lexeme : (k l : Kind) (b c : List ℕ) → k ≡ l → b ≡ c → (let x : Lexeme = record { is = terminal_of k; name = name_by k b } in x) ≡ record { is = terminal_of l; name = name_by l c }
same_lexeme k l b c e f =
    ap (λ (m : Kind). let x : Lexeme = record { is = terminal_of m; name = name_by m b } in x) e ∙ ap (λ (v : List ℕ). let x : Lexeme = record { is = terminal_of l; name = name_by l v } in x) f

-- the grammar sees in tokens what they stand for
stand_seen : (text : List ℕ) (ws : List Written) (ts : List Token) → Stands text ws ts → lexemes text ts ≡ map seen ws
stand_seen text [] [] h = refl
stand_seen text [] (t ∷ ts) h = absurd h
stand_seen text (w ∷ ws) [] h = absurd h
stand_seen text (w ∷ ws) (t ∷ ts) h =
    ap (λ (x : Lexeme). x ∷ lexemes text ts) (same_lexeme t.kind (kind_of w) (bytes_of text t) (spelling w) h.0 h.1) ∙ ap (λ (xs : List Lexeme). seen w ∷ xs) (stand_seen text ws ts h.2)

-- it sees the same in tokens that stand behind other bytes
moved_seen : (before text : List ℕ) (ts : List Token) → lexemes (before ++ text) (map (moved (length before)) ts) ≡ lexemes text ts
moved_seen before text [] = refl
moved_seen before text (t ∷ ts) =
    ap (λ (b : List ℕ). (let x : Lexeme = record { is = terminal_of t.kind; name = name_by t.kind b } in x) ∷ lexemes (before ++ text) (map (moved (length before)) ts)) (bytes_moved before text t)
    ∙ ap (λ (xs : List Lexeme). lexeme text t ∷ xs) (moved_seen before text ts)

-- ---- the word `none` and a derivation

none_text : IsNameText (codes "none")
none_text = record {
  form = record { begins = refl; longest = refl; short = lit≤ tt };
  free = λ w q. reserved (length (codes "none")) None (codes "none") refl refl w (sym (take-length (codes "none")) ∙ q);
}

abbrev none_parts : NameTable → List Event → List Part
none_parts n es = parts.lexeme (name (codes "none")) ∷ parts.blank 10 ∷ text_parts n es

module _ (n : NameTable) (table : IsNameTable n) (root : Node) (h : AreNamed n 0 (node_events root)) (l : All IsLimited (node_events root)) where
  none_bytes : all_bytes (none_parts n (node_events root)) ≡ printed n (node_events root)
  none_bytes = ap (λ (u : List ℕ). codes "none\n" ++ u) (text_bytes n (node_events root))

  none_spells : Spells (lookup n) (words (none_parts n (node_events root))) (node_events root)
  none_spells = behind_none n root (node_events root) (words_read n table root h)

  none_is_text : length (all_bytes (none_parts n (node_events root))) ≤ most_bytes → IsText n (all_bytes (none_parts n (node_events root))) (node_events root)
  none_is_text short =
      let ps : List Part = none_parts n (node_events root) in
      record {
        tokens = tokens_from 0 ps;
        end = length (all_bytes ps);
        rest = [];
        cut = parts_are_tokens ps (none_text, refl, (refl, text_fits n table (node_events root) h l));
        short = short;
        spells = subst (λ (ws : List Lexeme). Spells (lookup n) ws (node_events root)) (sym (stand_seen (all_bytes ps) (parts.lexemes ps) (tokens_from 0 ps) (parts_stand_whole ps))) none_spells;
      }

  node_back : length (printed n (node_events root)) ≤ most_bytes → IsText n (printed n (node_events root)) (node_events root)
  node_back short =
      subst (λ (text : List ℕ). IsText n text (node_events root)) none_bytes (none_is_text (subst (λ (text : List ℕ). length text ≤ most_bytes) (sym none_bytes) short))

pub read_back : (n : NameTable) (S : State) (cs : List Cond) (es : List Event) → IsNameTable n → IsTableOf n S → IsDerivation cs S es → length cs ≤ 1000000000
    → length (printed n es) ≤ most_bytes → IsText n (printed n es) es
read_back n S cs es names table d few =
    subst (λ (fs : List Event). length (printed n fs) ≤ most_bytes → IsText n (printed n fs) fs) (sym d.events)
    (node_back n names d.root (named n S (length cs) d.root table d.fits) (limited S (length cs) few d.root d.fits))

-- ---- behind white space and comments

module _ (n : NameTable) (es : List Event) (blank text : List ℕ) (front : IsBlank blank) (r : IsText n text es) where
  -- the text and all that stands in front of it
  abbrev before : List ℕ
  before = blank ++ 10 ∷ []

  same_text : before ++ text ≡ blank ++ (10 ∷ text)
  same_text = append_assoc blank (10 ∷ []) text

  size : length before ≡ length blank + 1
  size = length-append blank (10 ∷ [])

  gaps : Cut (length before) text 0 (blank ++ (10 ∷ text)) []
  gaps = subst (λ (m : ℕ). Cut m text 0 (blank ++ (10 ∷ text)) []) (sym size) (gap_more (length blank) 1 (10 ∷ text) (white refl refl) 0 (blank ++ (10 ∷ text)) [] (blank_stays text (length blank) 0 blank front))

  tokens_behind : Cut (length before + r.end) r.rest 0 (blank ++ (10 ∷ text)) (map (moved (length before)) r.tokens)
  tokens_behind =
      gaps_then (length before) (length before + r.end) text r.rest (map (moved (length before)) r.tokens)
      (tokens_moved before text r.rest r.end r.tokens r.cut) 0 (blank ++ (10 ∷ text)) gaps

  pub behind_blank : length (blank ++ (10 ∷ text)) ≤ most_bytes → IsText n (blank ++ (10 ∷ text)) es
  behind_blank short = record {
    tokens = map (moved (length before)) r.tokens;
    end = length before + r.end;
    rest = r.rest;
    cut = tokens_behind;
    short = (let all : length before + r.end + length r.rest ≡ 0 + length (blank ++ (10 ∷ text)) = cut_length (length before + r.end) r.rest 0 (blank ++ (10 ∷ text)) (map (moved (length before)) r.tokens) tokens_behind in
        let some : length before + r.end ≤ length (blank ++ (10 ∷ text)) = omega arith in
        le_trans some short);
    spells = subst (λ (ws : List Lexeme). Spells (lookup n) ws es)
        (sym (ap (λ (u : List ℕ). lexemes u (map (moved (length before)) r.tokens)) (sym same_text) ∙ moved_seen before text r.tokens)) r.spells;
  }

-- what can be printed of a tree's events
pub read_printable_behind : (n : NameTable) (root : Node) (es : List Event) (blank : List ℕ) → IsNameTable n → es ≡ node_events root → IsPrintable n es
    → IsBlank blank → length (printed_behind blank n es) ≤ most_bytes → IsText n (printed_behind blank n es) es
read_printable_behind n root es blank names e p front short =
    let all : length (printed_behind blank n es) ≡ length blank + length (10 ∷ printed n es) = length-append blank (10 ∷ printed n es) in
    let some : length (printed n es) ≤ length (printed_behind blank n es) = omega arith in
    let reads = subst (λ (fs : List Event). IsPrintable n fs → length (printed n fs) ≤ most_bytes → IsText n (printed n fs) fs) (sym e) (λ q. node_back n names root q.named q.limited) in
    behind_blank n es blank (printed n es) front (reads p (le_trans some short)) short

-- the events of a derivation can be printed
pub is_printed : (n : NameTable) (S : State) (cs : List Cond) (es : List Event) → IsTableOf n S → IsDerivation cs S es → length cs ≤ 1000000000 → IsPrintable n es
is_printed n S cs es table d few = subst (IsPrintable n) (sym d.events) (record {
  named = named n S (length cs) d.root table d.fits;
  limited = limited S (length cs) few d.root d.fits;
})

pub read_back_behind : (n : NameTable) (S : State) (cs : List Cond) (es : List Event) (blank : List ℕ) → IsNameTable n → IsTableOf n S → IsDerivation cs S es
    → length cs ≤ 1000000000 → IsBlank blank → length (printed_behind blank n es) ≤ most_bytes → IsText n (printed_behind blank n es) es
read_back_behind n S cs es blank names table d few front short = read_printable_behind n d.root es blank names d.events (is_printed n S cs es table d few) front short
