use Rattle.std.proofs.Common.{◌≡◌, ◌-◌, ◌≤◌, ℕ, List, [], ◌∷◌, length, take, drop, get_or, Some, true, sym, ap, ◌∙◌, arith}
use Rattle.std.proofs.lemmas.Grind.{common_steps}
use Rattle.geo_tokens.specs.declared.token.Token.{Token}
use Rattle.geo_tokens.specs.Class.{class_of}
use Rattle.geo_tokens.specs.Reading.{Got, next_is, token_at}
use Rattle.geo_tokens.proofs.stop.behind.Goals as goal

-- the first token is of this kind
fits : (k : ℕ) (t : Token) (w : List Token) → class_of t.kind ≡ k → (next_is (k ∷ []) (t ∷ w) ≡ true) × (token_at (k ∷ []) (t ∷ w) ≡ Got (Some t) w)
fits k t w e = (grind (arith, common_steps), grind (arith, common_steps))

front : (k : ℕ) (w : List Token) (d : Token) → 1 ≤ length w → class_of (get_or w 0 d).kind ≡ k
    → (t : Token) × (next_is (k ∷ []) w ≡ true) × (token_at (k ∷ []) w ≡ Got (Some t) (take (length w - 1) (drop 1 w)))
front k [] d h e = absurd (omega arith)
front k (t ∷ w) d h e =
    let f = fits k t w e in
    let back : take (length (t ∷ w) - 1) (drop 1 (t ∷ w)) ≡ w = grind (arith, common_steps) in
    (t, f.0, f.1 ∙ ap (λ (v : List Token). Got (Some t) v) (sym back))

pub returns-then-class_of : goal.returns-then-class_of
returns-then-class_of c = front (class_of c.args.kind) c.args.tokens.now _ c.in-len1-up.len_at_least (sym c.class_of.ensures ∙ c.if-class_of.true ∙ c.class_of-in-len1-up.ensures)
