-- Kinds of tokens: how the reserved words and the symbols are spelled, and a number for each kind. A set of kinds
-- is a list of such numbers, so that two sets can be compared by computing.
use Rattle.std.specs.Prelude.{ℕ, List, codes}
use Rattle.geo_tokens.specs.declared.token.Keyword.{Keyword}
use Rattle.geo_tokens.specs.declared.token.Keyword.TheVariants as keywords
use Rattle.geo_tokens.specs.declared.token.Sym.{Sym}
use Rattle.geo_tokens.specs.declared.token.Sym.TheVariants as symbols
use Rattle.geo_tokens.specs.declared.token.Kind.{Kind}
use Rattle.geo_tokens.specs.declared.token.Kind.TheVariants.{Name, Number, Word, Symbol}

-- how a reserved word is spelled
abbrev pub word_bytes : Keyword → List ℕ
word_bytes keywords.Geost = codes "geost"
word_bytes keywords.Dims = codes "dims"
word_bytes keywords.Shape = codes "shape"
word_bytes keywords.Box = codes "box"
word_bytes keywords.Size = codes "size"
word_bytes keywords.Object = codes "object"
word_bytes keywords.As = codes "as"
word_bytes keywords.At = codes "at"
word_bytes keywords.With = codes "with"
word_bytes keywords.Order = codes "order"
word_bytes keywords.Sides = codes "sides"
word_bytes keywords.Low = codes "low"
word_bytes keywords.High = codes "high"
word_bytes keywords.Macro = codes "macro"
word_bytes keywords.Means = codes "means"
word_bytes keywords.Is = codes "is"
word_bytes keywords.Rule = codes "rule"
word_bytes keywords.Apart = codes "apart"
word_bytes keywords.Within = codes "within"
word_bytes keywords.End = codes "end"
word_bytes keywords.True = codes "true"
word_bytes keywords.False = codes "false"
word_bytes keywords.Not = codes "not"
word_bytes keywords.And = codes "and"
word_bytes keywords.Or = codes "or"
word_bytes keywords.Implies = codes "implies"
word_bytes keywords.Iff = codes "iff"
word_bytes keywords.ForAll = codes "forall"
word_bytes keywords.Exists = codes "exists"
word_bytes keywords.AtLeast = codes "atleast"
word_bytes keywords.AtMost = codes "atmost"
word_bytes keywords.In = codes "in"
word_bytes keywords.Objects = codes "objects"
word_bytes keywords.Boxes = codes "boxes"
word_bytes keywords.Of = codes "of"
word_bytes keywords.Div = codes "div"
word_bytes keywords.Mod = codes "mod"
word_bytes keywords.Min = codes "min"
word_bytes keywords.Max = codes "max"
word_bytes keywords.Int = codes "int"
word_bytes keywords.Layout = codes "layout"
word_bytes keywords.Token = codes "token"
word_bytes keywords.Absent = codes "absent"
word_bytes keywords.Qed = codes "qed"

-- how a symbol is spelled
abbrev pub symbol_bytes : Sym → List ℕ
symbol_bytes symbols.DotDot = codes ".."
symbol_bytes symbols.Dot = codes "."
symbol_bytes symbols.Comma = codes ","
symbol_bytes symbols.Colon = codes ":"
symbol_bytes symbols.Semicolon = codes ";"
symbol_bytes symbols.ParenOpen = codes "("
symbol_bytes symbols.ParenClose = codes ")"
symbol_bytes symbols.BracketOpen = codes "["
symbol_bytes symbols.BracketClose = codes "]"
symbol_bytes symbols.Plus = codes "+"
symbol_bytes symbols.Minus = codes "-"
symbol_bytes symbols.Star = codes "*"
symbol_bytes symbols.Slash = codes "/"
symbol_bytes symbols.LessEqual = codes "<="
symbol_bytes symbols.Less = codes "<"
symbol_bytes symbols.GreaterEqual = codes ">="
symbol_bytes symbols.Greater = codes ">"
symbol_bytes symbols.Equal = codes "="
symbol_bytes symbols.NotEqual = codes "!="
symbol_bytes symbols.At = codes "@"
symbol_bytes symbols.Dollar = codes "$"

-- the number of a reserved word
abbrev pub word_class : Keyword → ℕ
word_class keywords.Geost = 2
word_class keywords.Dims = 3
word_class keywords.Shape = 4
word_class keywords.Box = 5
word_class keywords.Size = 6
word_class keywords.Object = 7
word_class keywords.As = 8
word_class keywords.At = 9
word_class keywords.With = 10
word_class keywords.Order = 11
word_class keywords.Sides = 12
word_class keywords.Low = 13
word_class keywords.High = 14
word_class keywords.Macro = 15
word_class keywords.Means = 16
word_class keywords.Is = 17
word_class keywords.Rule = 18
word_class keywords.Apart = 19
word_class keywords.Within = 20
word_class keywords.End = 21
word_class keywords.True = 22
word_class keywords.False = 23
word_class keywords.Not = 24
word_class keywords.And = 25
word_class keywords.Or = 26
word_class keywords.Implies = 27
word_class keywords.Iff = 28
word_class keywords.ForAll = 29
word_class keywords.Exists = 30
word_class keywords.AtLeast = 31
word_class keywords.AtMost = 32
word_class keywords.In = 33
word_class keywords.Objects = 34
word_class keywords.Boxes = 35
word_class keywords.Of = 36
word_class keywords.Div = 37
word_class keywords.Mod = 38
word_class keywords.Min = 39
word_class keywords.Max = 40
word_class keywords.Int = 41
word_class keywords.Layout = 42
word_class keywords.Token = 43
word_class keywords.Absent = 44
word_class keywords.Qed = 45

-- the number of a symbol
abbrev pub symbol_class : Sym → ℕ
symbol_class symbols.DotDot = 46
symbol_class symbols.Dot = 47
symbol_class symbols.Comma = 48
symbol_class symbols.Colon = 49
symbol_class symbols.Semicolon = 50
symbol_class symbols.ParenOpen = 51
symbol_class symbols.ParenClose = 52
symbol_class symbols.BracketOpen = 53
symbol_class symbols.BracketClose = 54
symbol_class symbols.Plus = 55
symbol_class symbols.Minus = 56
symbol_class symbols.Star = 57
symbol_class symbols.Slash = 58
symbol_class symbols.LessEqual = 59
symbol_class symbols.Less = 60
symbol_class symbols.GreaterEqual = 61
symbol_class symbols.Greater = 62
symbol_class symbols.Equal = 63
symbol_class symbols.NotEqual = 64
symbol_class symbols.At = 65
symbol_class symbols.Dollar = 66

-- the number of a kind
abbrev pub class_of : Kind → ℕ
class_of Name = 0
class_of (Number n) = 1
class_of (Word w) = word_class w
class_of (Symbol s) = symbol_class s

-- the value of a number
abbrev pub number_in : Kind → ℕ
number_in (Number n) = n
number_in _ = 0
