-- When a list of tokens is a whole text of a language, where `limit` levels may be open at a time.
use Rattle.std.specs.Prelude.{ℕ, List, Some}
use Rattle.geo_tokens.specs.declared.token.Token.{Token}
use Rattle.geo_tokens.specs.Words.{Lang}
use Rattle.geo_tokens.specs.Deep.{IsText}

-- The tokens spell the value within the limit, and they spell nothing else, whatever levels they open.
pub record IsWhole {A : Type 0} (L : ℕ → Lang A) (limit : ℕ) (list : List Token) (a : A) : Type 0 where
  pub within : L limit (Some a) list
  pub text : IsText L list a
