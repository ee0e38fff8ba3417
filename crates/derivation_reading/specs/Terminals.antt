-- The tokens of a derivation's text.
use Rattle.std.specs.Prelude.{ℕ, List, [], map}
use Rattle.geo_tokens.specs.declared.token.Token.{Token}
use Rattle.geo_tokens.specs.declared.token.Kind.{Kind}
use Rattle.geo_tokens.specs.declared.token.Kind.TheVariants as kinds
use Rattle.geo_tokens.specs.declared.token.Keyword.TheVariants as keywords
use Rattle.geo_tokens.specs.declared.token.Sym.TheVariants as symbols
use Rattle.geo_tokens.specs.Bytes.{bytes_of}
use Rattle.derivation_reading.specs.declared.symbol.Terminal.{Terminal}
use Rattle.derivation_reading.specs.declared.symbol.Terminal.TheVariants as terminals

abbrev pub terminal_of : Kind → Terminal
terminal_of kinds.Name = terminals.Name
terminal_of (kinds.Number v) = terminals.Number v
terminal_of (kinds.Word keywords.Shape) = terminals.Shape
terminal_of (kinds.Word keywords.Absent) = terminals.Absent
terminal_of (kinds.Word keywords.Qed) = terminals.Qed
terminal_of (kinds.Symbol symbols.Minus) = terminals.Minus
terminal_of (kinds.Symbol symbols.BracketOpen) = terminals.Open
terminal_of (kinds.Symbol symbols.BracketClose) = terminals.Close
terminal_of _ = terminals.Other

-- the bytes of a name, and none of another token
abbrev pub name_by : Kind → List ℕ → List ℕ
name_by kinds.Name bytes = bytes
name_by _ bytes = []

-- a token as the grammar sees it: what it is, and the bytes of a name
pub record Lexeme : Type 0 where
  pub is : Terminal
  pub name : List ℕ

abbrev pub lexeme : List ℕ → Token → Lexeme
lexeme text t = record { is = terminal_of t.kind; name = name_by t.kind (bytes_of text t) }

abbrev pub lexemes : List ℕ → List Token → List Lexeme
lexemes text ts = map (lexeme text) ts
