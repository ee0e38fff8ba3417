-- The texts of a problem are ASCII.
use Rattle.std.proofs.Common.{◌≡◌, ℕ, ◌<◌, List, [], ◌∷◌, ◌++◌, Bool, true, false, Option, Some, None, refl, arith}
use Rattle.std.specs.Prelude.{if◌then◌else◌, nat_lt}
use Rattle.std.specs.List.{list_all}
use Rattle.std.specs.Str.{IsAscii}
use Rattle.std.proofs.lemmas.Fmt.{IsAscii-decimal}
use Rattle.std.proofs.lemmas.Str.{IsAscii-append}
use Rattle.std.proofs.lemmas.Str.Ascii.{IsAscii-nil, IsAscii-cons}
use Rattle.geo_tokens.specs.declared.token.Keyword.{Keyword}
use Rattle.geo_tokens.specs.declared.token.Keyword.TheVariants as keywords
use Rattle.geo_tokens.specs.declared.token.Sym.{Sym}
use Rattle.geo_tokens.specs.declared.token.Sym.TheVariants as symbols
use Rattle.geo_tokens.specs.Class.{word_bytes, symbol_bytes}
use Rattle.rule_print.specs.Canonical.{Written, name, number, word, symbol, sign, spelling, close, gap, shown_behind, shown}
use Rattle.rule_print.proofs.Lexemes.{IsWritten}
use Rattle.rule_print.proofs.ShownTokens.{AllWritten}
use Rattle.json_parts.proofs.Words.{name_word, word_ascii}

-- ---- lexemes

-- each byte is below 128, by computing
abbrev pub is_plain : List ℕ → Bool
is_plain bytes = list_all (λ b. nat_lt b 128) bytes

plain_byte : (b : ℕ) (bs : List ℕ) → is_plain (b ∷ bs) ≡ true → b < 128
plain_byte b bs e = grind arith

plain_rest : (b : ℕ) (bs : List ℕ) → is_plain (b ∷ bs) ≡ true → is_plain bs ≡ true
plain_rest b bs e = grind arith

pub plain_ascii : (bytes : List ℕ) → is_plain bytes ≡ true → IsAscii bytes
plain_ascii [] e = IsAscii-nil
plain_ascii (b ∷ bs) e = IsAscii-cons b bs (plain_byte b bs e) (plain_ascii bs (plain_rest b bs e))

word_plain : (w : Keyword) → is_plain (word_bytes w) ≡ true
word_plain keywords.Geost = refl
word_plain keywords.Dims = refl
word_plain keywords.Shape = refl
word_plain keywords.Box = refl
word_plain keywords.Size = refl
word_plain keywords.Object = refl
word_plain keywords.As = refl
word_plain keywords.At = refl
word_plain keywords.With = refl
word_plain keywords.Order = refl
word_plain keywords.Sides = refl
word_plain keywords.Low = refl
word_plain keywords.High = refl
word_plain keywords.Macro = refl
word_plain keywords.Means = refl
word_plain keywords.Is = refl
word_plain keywords.Rule = refl
word_plain keywords.Apart = refl
word_plain keywords.Within = refl
word_plain keywords.End = refl
word_plain keywords.True = refl
word_plain keywords.False = refl
word_plain keywords.Not = refl
word_plain keywords.And = refl
word_plain keywords.Or = refl
word_plain keywords.Implies = refl
word_plain keywords.Iff = refl
word_plain keywords.ForAll = refl
word_plain keywords.Exists = refl
word_plain keywords.AtLeast = refl
word_plain keywords.AtMost = refl
word_plain keywords.In = refl
word_plain keywords.Objects = refl
word_plain keywords.Boxes = refl
word_plain keywords.Of = refl
word_plain keywords.Div = refl
word_plain keywords.Mod = refl
word_plain keywords.Min = refl
word_plain keywords.Max = refl
word_plain keywords.Int = refl
word_plain keywords.Layout = refl
word_plain keywords.Token = refl
word_plain keywords.Absent = refl
word_plain keywords.Qed = refl

symbol_plain : (s : Sym) → is_plain (symbol_bytes s) ≡ true
symbol_plain symbols.DotDot = refl
symbol_plain symbols.Dot = refl
symbol_plain symbols.Comma = refl
symbol_plain symbols.Colon = refl
symbol_plain symbols.Semicolon = refl
symbol_plain symbols.ParenOpen = refl
symbol_plain symbols.ParenClose = refl
symbol_plain symbols.BracketOpen = refl
symbol_plain symbols.BracketClose = refl
symbol_plain symbols.Plus = refl
symbol_plain symbols.Minus = refl
symbol_plain symbols.Star = refl
symbol_plain symbols.Slash = refl
symbol_plain symbols.LessEqual = refl
symbol_plain symbols.Less = refl
symbol_plain symbols.GreaterEqual = refl
symbol_plain symbols.Greater = refl
symbol_plain symbols.Equal = refl
symbol_plain symbols.NotEqual = refl
symbol_plain symbols.At = refl
symbol_plain symbols.Dollar = refl

lexeme_ascii : (q : Written) → IsWritten q → IsAscii (spelling q)
lexeme_ascii (name bytes) h = word_ascii bytes (name_word bytes h)
lexeme_ascii (number n) h = IsAscii-decimal n (omega (arith, h))
lexeme_ascii (word w) h = plain_ascii (word_bytes w) (word_plain w)
lexeme_ascii (symbol s) h = plain_ascii (symbol_bytes s) (symbol_plain s)
lexeme_ascii sign h = plain_ascii (symbol_bytes symbols.Minus) refl

gap_ascii : (p : Option Written) (q : Written) → IsAscii (gap p q)
gap_ascii None q = IsAscii-nil
gap_ascii (Some p) q = by (close p q)
  where
    by : (b : Bool) → IsAscii (if b then [] else 32 ∷ [])
    by true = IsAscii-nil
    by false = plain_ascii (32 ∷ []) refl

shown_behind_ascii : (p : Option Written) (qs : List Written) → AllWritten qs → IsAscii (shown_behind p qs)
shown_behind_ascii p [] h = IsAscii-nil
shown_behind_ascii p (q ∷ qs) h =
    IsAscii-append (gap p q) (spelling q ++ shown_behind (Some q) qs) (gap_ascii p q) (IsAscii-append (spelling q) (shown_behind (Some q) qs) (lexeme_ascii q h.0) (shown_behind_ascii (Some q) qs h.1))

-- what is shown of lexemes that can be written
pub shown_ascii : (qs : List Written) → AllWritten qs → IsAscii (shown qs)
shown_ascii qs h = shown_behind_ascii None qs h
