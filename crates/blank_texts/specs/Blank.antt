-- White space and comments, and what stands behind a line feed.
use Rattle.std.specs.Prelude.{◌≡◌, ◌+◌, ℕ, List, [], ◌++◌, length, map, codes}
use Rattle.geo_tokens.specs.declared.token.Token.{Token}
use Rattle.geo_tokens.specs.Bytes.{bytes_of}
use Rattle.geo_tokens.specs.Cut.{Cut, IsTokens}
use Rattle.geo_tokens.specs.FirstEnd.{IsFirstEnd}

-- white space and comments: there is no token
abbrev pub IsBlank : List ℕ → Type 0
IsBlank text = IsTokens text []

-- the token, where its text begins at the place k
abbrev pub moved : ℕ → Token → Token
moved k t = record { kind = t.kind; start = k + t.start; end = k + t.end }

-- A line feed ends white space and comments, whatever stands behind it.
abbrev pub BlanksEnd : Type 0
BlanksEnd = (blank more : List ℕ) → IsBlank blank
    → Cut (length blank) (codes "\n" ++ more) 0 (blank ++ (codes "\n" ++ more)) []

-- A first word `end` stays the first one where a line feed and more is put behind the text.
abbrev pub FirstEndsStay : Type 0
FirstEndsStay = (text more : List ℕ) (end : ℕ) → IsFirstEnd text end
    → IsFirstEnd (text ++ (codes "\n" ++ more)) end

-- The tokens of a text stand as far behind as the text does, and each is still the same bytes.
abbrev pub TokensMove : Type 0
TokensMove = (before text rest : List ℕ) (end : ℕ) (ts : List Token) → Cut end rest 0 text ts
    → Cut (length before + end) rest (length before) text (map (moved (length before)) ts)
    × ((t : Token) → bytes_of (before ++ text) (moved (length before) t) ≡ bytes_of text t)
