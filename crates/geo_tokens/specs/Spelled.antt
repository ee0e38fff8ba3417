-- Which of some things is spelled so.
use Rattle.std.specs.Prelude.{ℕ, List, [], ◌∷◌, length, filter, Option, Some, None, Bool, false, ◌==◌, ◌||◌, if◌then◌else◌}
use Rattle.std.specs.Str.{bytes_eq}
use Rattle.geo_tokens.specs.declared.token.Keyword.{Keyword}
use Rattle.geo_tokens.specs.declared.token.Keyword.TheVariants as keywords
use Rattle.geo_tokens.specs.declared.token.Sym.{Sym}
use Rattle.geo_tokens.specs.declared.token.Sym.TheVariants as symbols
use Rattle.geo_tokens.specs.Class.{word_bytes}

-- the first of them that is spelled so
abbrev pub spelled_as : {A : Type 0} → (A → List ℕ) → List A → List ℕ → Option A
spelled_as spell [] bytes = None
spelled_as spell (x ∷ xs) bytes = if bytes_eq bytes (spell x) then Some x else spelled_as spell xs bytes

-- all reserved words
abbrev pub all_words : List Keyword
all_words = keywords.Geost ∷ keywords.Dims ∷ keywords.Shape ∷ keywords.Box ∷ keywords.Size ∷ keywords.Object ∷ keywords.As ∷ keywords.At ∷ keywords.With ∷ keywords.Order ∷ keywords.Sides ∷ keywords.Low ∷ keywords.High ∷ keywords.Macro ∷ keywords.Means ∷ keywords.Is ∷ keywords.Rule ∷ keywords.Apart ∷ keywords.Within ∷ keywords.End ∷ keywords.True ∷ keywords.False ∷ keywords.Not ∷ keywords.And ∷ keywords.Or ∷ keywords.Implies ∷ keywords.Iff ∷ keywords.ForAll ∷ keywords.Exists ∷ keywords.AtLeast ∷ keywords.AtMost ∷ keywords.In ∷ keywords.Objects ∷ keywords.Boxes ∷ keywords.Of ∷ keywords.Div ∷ keywords.Mod ∷ keywords.Min ∷ keywords.Max ∷ keywords.Int ∷ keywords.Layout ∷ keywords.Token ∷ keywords.Absent ∷ keywords.Qed ∷ []

-- the reserved words of n bytes
abbrev pub words_of : ℕ → List Keyword
words_of n = filter (λ w. length (word_bytes w) == n) all_words

-- whether a reserved word of n bytes begins with this byte
abbrev pub begins_word : ℕ → ℕ → Bool
begins_word n b =
    if n == 2 then b == 97 || b == 105 || b == 111
    else if n == 3 then b == 97 || b == 98 || b == 100 || b == 101 || b == 105 || b == 108 || b == 109 || b == 110 || b == 113
    else if n == 4 then b == 100 || b == 104 || b == 114 || b == 115 || b == 116 || b == 119
    else if n == 5 then b == 97 || b == 98 || b == 102 || b == 103 || b == 109 || b == 111 || b == 115 || b == 116
    else if n == 6 then b == 97 || b == 101 || b == 102 || b == 108 || b == 111 || b == 119
    else if n == 7 then b == 97 || b == 105 || b == 111
    else false

-- the symbols of two bytes, and those of one
abbrev pub long_symbols : List Sym
long_symbols = symbols.DotDot ∷ symbols.LessEqual ∷ symbols.GreaterEqual ∷ symbols.NotEqual ∷ []

abbrev pub short_symbols : List Sym
short_symbols = symbols.Dot ∷ symbols.Comma ∷ symbols.Colon ∷ symbols.Semicolon ∷ symbols.ParenOpen ∷ symbols.ParenClose ∷ symbols.BracketOpen ∷ symbols.BracketClose ∷ symbols.Plus ∷ symbols.Minus ∷ symbols.Star ∷ symbols.Slash ∷ symbols.Less ∷ symbols.Greater ∷ symbols.Equal ∷ symbols.At ∷ symbols.Dollar ∷ []
