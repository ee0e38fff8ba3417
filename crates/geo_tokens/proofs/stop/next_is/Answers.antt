use Rattle.std.proofs.Common.{◌≡◌, ◌≤◌, ℕ, List, [], ◌∷◌, length, get_or, eqb, arith}
use Rattle.std.proofs.lemmas.Grind.{common_steps}
use Rattle.geo_tokens.specs.declared.token.Token.{Token}
use Rattle.geo_tokens.specs.Class.{class_of}
use Rattle.geo_tokens.specs.Reading.{next_is}
use Rattle.geo_tokens.proofs.stop.next_is.Goals as goal

-- the first token is of this kind, or it is not
front : (k : ℕ) (w : List Token) (d : Token) → 1 ≤ length w → eqb (class_of (get_or w 0 d).kind) k ≡ next_is (k ∷ []) w
front k [] d h = absurd (omega arith)
front k (t ∷ w) d h = grind (arith, common_steps)

pub returns-in-len1-up : goal.returns-in-len1-up
returns-in-len1-up c = rw (c.class_of.ensures, c.class_of-in-len1-up.ensures) (front (class_of c.args.kind) c.args.tokens.now _ c.in-len1-up.len_at_least)
