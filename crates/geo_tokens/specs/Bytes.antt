-- Bytes of a text: white space, digits, letters, and the part of a text that a token stands for.
use Rattle.std.specs.Prelude.{ℕ, ◌+◌, ◌*◌, ◌-◌, List, [], ◌∷◌, take, drop, Bool, ◌==◌, ◌||◌, ◌&&◌, not, nat_le}
use Rattle.geo_tokens.specs.declared.token.Token.{Token}

-- space, tab, line feed or carriage return
abbrev pub is_white : ℕ → Bool
is_white b = (b == 32) || (b == 9) || (b == 10) || (b == 13)

-- 0 to 9
abbrev pub is_digit : ℕ → Bool
is_digit b = nat_le 48 b && nat_le b 57

-- a to z, A to Z, or _
abbrev pub is_letter : ℕ → Bool
is_letter b = (nat_le 97 b && nat_le b 122) || (nat_le 65 b && nat_le b 90) || (b == 95)

-- what a word is made of
abbrev pub is_word_byte : ℕ → Bool
is_word_byte b = is_letter b || is_digit b

-- what a comment goes on through: all but a line feed
abbrev pub is_line_byte : ℕ → Bool
is_line_byte b = not (b == 10)

-- the number that digits write, where v was written before them
abbrev pub value_from : ℕ → List ℕ → ℕ
value_from v [] = v
value_from v (d ∷ ds) = value_from (10 * v + (d - 48)) ds

-- the number that digits write
abbrev pub value_of : List ℕ → ℕ
value_of ds = value_from 0 ds

-- the bytes of a text from the token's start to below its end
abbrev pub bytes_of : List ℕ → Token → List ℕ
bytes_of text t = take (t.end - t.start) (drop t.start text)
