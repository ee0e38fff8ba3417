-- The text of a derivation is read back as its events.
use Rattle.std.proofs.Common.{◌≡◌, ℕ, ◌≤◌, List, [], ◌∷◌, length, map, refl, sym, ap, ◌∙◌, subst}
use Rattle.std.specs.List.{All}
use Rattle.geo_tokens.specs.declared.token.Token.{Token}
use Rattle.geo_tokens.specs.declared.token.Kind.{Kind}
use Rattle.geo_tokens.specs.Names.{NameTable, IsNameTable}
use Rattle.geo_tokens.specs.Bytes.{bytes_of}
use Rattle.rule_print.specs.Canonical.{Written, kind_of, spelling}
use Rattle.rule_print.proofs.ShownTokens.{Stands}
use Rattle.layout_text.proofs.TextParts as parts
use Rattle.layout_text.proofs.TextParts.{Part, all_bytes, tokens_from, parts_are_tokens, parts_stand_whole}
use Rattle.derivation.specs.declared.event.Event.{Event}
use Rattle.derivation.specs.Nodes.{Node, node_events}
use Rattle.derivation_text.specs.Lines.{derivation_text, AreNamed}
use Rattle.derivation_reading.specs.Terminals.{Lexeme, terminal_of, name_by, lexemes}
use Rattle.derivation_reading.specs.Grammar.{lookup}
use Rattle.derivation_reading.specs.Machine.{Spells}
use Rattle.derivation_reading.specs.FirstFault.{most_bytes, IsText}
use Rattle.derivation_round_trip.specs.Limits.{IsLimited}
use Rattle.derivation_round_trip.proofs.LineParts.{text_parts, text_bytes, text_fits}
use Rattle.derivation_round_trip.proofs.Places.{seen}
use Rattle.derivation_round_trip.proofs.Words.{words, words_read}

same_lexeme : (k l : Kind) (b c : List ℕ) → k ≡ l → b ≡ c → (let x : Lexeme = record { is = terminal_of k; name = name_by k b } in x) ≡ record { is = terminal_of l; name = name_by l c }
same_lexeme k l b c e f =
    ap (λ (m : Kind). let x : Lexeme = record { is = terminal_of m; name = name_by m b } in x) e ∙ ap (λ (v : List ℕ). let x : Lexeme = record { is = terminal_of l; name = name_by l v } in x) f

-- the grammar sees in tokens what they stand for
stand_seen : (text : List ℕ) (ws : List Written) (ts : List Token) → Stands text ws ts → lexemes text ts ≡ map seen ws
stand_seen text [] [] h = refl
stand_seen text [] (t ∷ ts) h = absurd h
stand_seen text (w ∷ ws) [] h = absurd h
stand_seen text (w ∷ ws) (t ∷ ts) h =
    ap (λ (x : Lexeme). x ∷ lexemes text ts) (same_lexeme t.kind (kind_of w) (bytes_of text t) (spelling w) h.0 h.1) ∙ ap (λ (xs : List Lexeme). seen w ∷ xs) (stand_seen text ws ts h.2)

-- a text that is put together of parts is one of these events, where their words are read so
parts_text : (n : NameTable) (ps : List Part) (es : List Event) → parts.Fits ps [] → Spells (lookup n) (words ps) es → length (all_bytes ps) ≤ most_bytes → IsText n (all_bytes ps) es
parts_text n ps es h d short = record {
  tokens = tokens_from 0 ps;
  end = length (all_bytes ps);
  rest = [];
  cut = parts_are_tokens ps h;
  short = short;
  spells = subst (λ (ws : List Lexeme). Spells (lookup n) ws es) (sym (stand_seen (all_bytes ps) (parts.lexemes ps) (tokens_from 0 ps) (parts_stand_whole ps))) d;
}

pub reads_back : (n : NameTable) → IsNameTable n → (root : Node) → AreNamed n 0 (node_events root) → All IsLimited (node_events root)
    → length (derivation_text n (node_events root)) ≤ most_bytes → IsText n (derivation_text n (node_events root)) (node_events root)
reads_back n table root h l short =
    let es = node_events root in
    let same = text_bytes n es in
    subst (λ (text : List ℕ). IsText n text es) same
    (parts_text n (text_parts n es) es (text_fits n table es h l) (words_read n table root h) (subst (λ (text : List ℕ). length text ≤ most_bytes) (sym same) short))
