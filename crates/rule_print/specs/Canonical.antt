-- Canonical texts: lists of lexemes, and the bytes that they are shown with. One space stands between two lexemes, but for
-- the pairs that `close` names.
use Rattle.std.specs.Prelude.{ℕ, List, [], ◌∷◌, ◌++◌, Option, Some, None, Bool, true, false, ◌||◌, ◌&&◌, decimal, if◌then◌else◌}
use Rattle.geo_tokens.specs.declared.token.Kind.{Kind}
use Rattle.geo_tokens.specs.declared.token.Kind.TheVariants as kinds
use Rattle.geo_tokens.specs.declared.token.Keyword.{Keyword}
use Rattle.geo_tokens.specs.declared.token.Keyword.TheVariants as keywords
use Rattle.geo_tokens.specs.declared.token.Sym.{Sym}
use Rattle.geo_tokens.specs.declared.token.Sym.TheVariants as syms
use Rattle.geo_tokens.specs.Class.{word_bytes, symbol_bytes}
use Rattle.rule_print.specs.declared.lexeme.Lexeme.{Lexeme}
use Rattle.rule_print.specs.declared.lexeme.Lexeme.TheVariants as lexemes

-- A token as it is written. `sign` is the '-' of an int, which stands close to its number; a formula's '-' is a symbol.
pub data Written : Type 0 where
  name : List ℕ → Written
  number : ℕ → Written
  word : Keyword → Written
  symbol : Sym → Written
  sign : Written

-- what kind of token it is
abbrev pub kind_of : Written → Kind
kind_of (name bytes) = kinds.Name
kind_of (number n) = kinds.Number n
kind_of (word w) = kinds.Word w
kind_of (symbol s) = kinds.Symbol s
kind_of sign = kinds.Symbol syms.Minus

-- its bytes
abbrev pub spelling : Written → List ℕ
spelling (name bytes) = bytes
spelling (number n) = decimal n
spelling (word w) = word_bytes w
spelling (symbol s) = symbol_bytes s
spelling sign = symbol_bytes syms.Minus

-- '..', '@', '$', '(' and the sign of an int: no space stands behind them
abbrev pub opens : Written → Bool
opens (symbol syms.DotDot) = true
opens (symbol syms.At) = true
opens (symbol syms.Dollar) = true
opens (symbol syms.ParenOpen) = true
opens sign = true
opens _ = false

-- '..', '.', ',' and ')': no space stands before them
abbrev pub closes : Written → Bool
closes (symbol syms.DotDot) = true
closes (symbol syms.Dot) = true
closes (symbol syms.Comma) = true
closes (symbol syms.ParenClose) = true
closes _ = false

-- a name, 'min' and 'max': no space stands between them and the '(' of their list
abbrev pub is_called : Written → Bool
is_called (name bytes) = true
is_called (word keywords.Min) = true
is_called (word keywords.Max) = true
is_called _ = false

abbrev pub is_open : Written → Bool
is_open (symbol syms.ParenOpen) = true
is_open _ = false

abbrev pub is_dot : Written → Bool
is_dot (symbol syms.Dot) = true
is_dot _ = false

abbrev pub is_name : Written → Bool
is_name (name bytes) = true
is_name _ = false

-- No space stands between p and q. (Behind a '.' stands a name.)
abbrev pub close : Written → Written → Bool
close p q = if is_dot p then is_name q else (opens p || (closes q || (is_called p && is_open q)))

-- what stands between them
abbrev pub gap : Option Written → Written → List ℕ
gap None q = []
gap (Some p) q = if close p q then [] else 32 ∷ []

-- the bytes that these are shown with behind p, if something stands there
abbrev pub shown_behind : Option Written → List Written → List ℕ
shown_behind p [] = []
shown_behind p (q ∷ qs) = gap p q ++ (spelling q ++ shown_behind (Some q) qs)

-- the bytes that these are shown with
abbrev pub shown : List Written → List ℕ
shown qs = shown_behind None qs

-- what a lexeme of the code writes
abbrev pub written : Lexeme → Written
written (lexemes.Name bytes) = name bytes.now
written (lexemes.Number n) = number n
written (lexemes.Word w) = word w
written (lexemes.Symbol s) = symbol s
written lexemes.Sign = sign
