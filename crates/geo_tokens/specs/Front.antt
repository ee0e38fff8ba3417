-- What a function found at the front of some bytes is what stands there.
use Rattle.std.specs.Prelude.{ℕ, ◌<◌, ◌≤◌, List}
use Rattle.geo_tokens.specs.declared.front.Front.{Front}
use Rattle.geo_tokens.specs.declared.front.Front.TheVariants.{Gap, Token, Bad}
use Rattle.geo_tokens.specs.Cut.{IsGap, IsToken, IsBad}

abbrev pub IsFront : Front → List ℕ → Type 0
IsFront (Gap n) bytes = IsGap n bytes
IsFront (Token kind n) bytes = IsToken kind n bytes
IsFront (Bad word) bytes = IsBad word bytes

-- it takes a byte at least, and no more than m
abbrev pub IsInside : Front → ℕ → Type 0
IsInside (Gap n) m = (0 < n) × (n ≤ m)
IsInside (Token kind n) m = (0 < n) × (n ≤ m)
IsInside (Bad word) m = Unit {0}
