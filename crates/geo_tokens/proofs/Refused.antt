-- A refusal is what reading a token gives that opens a level too many.
use Rattle.std.proofs.Common.{◌∙◌, List, [], ◌∷◌, Bool, ap, sym}
use Rattle.std.specs.Prelude.{None, if◌then◌else◌}
use Rattle.geo_tokens.specs.declared.token.Token.{Token}
use Rattle.geo_tokens.specs.declared.stop.Stop.{Stop}
use Rattle.geo_tokens.specs.declared.stop.Stop.TheVariants as stops
use Rattle.geo_tokens.specs.Words.{Kinds}
use Rattle.geo_tokens.specs.Reading.{Got, Wrong, cut_at}
use Rattle.geo_tokens.specs.Gives.{Fails, Refuses}

pub refused_fails : (A : Type 0) (ks : Kinds) (w : List Token) (s : Stop) → Refuses ks w s → Fails {A = A} s (cut_at {A = A} ks w)
refused_fails A ks w stops.Memory h = absurd h
refused_fails A ks [] (stops.Wrong rest) h = ap Wrong (sym h.1)
refused_fails A ks (t ∷ w) (stops.Wrong rest) h =
    ap (λ (b : Bool). if b then Got None w else Wrong (t ∷ w)) h.0 ∙ ap Wrong (sym h.1)
refused_fails A ks [] (stops.Deep rest) h = absurd (cc h.0)
refused_fails A ks (t ∷ w) (stops.Deep rest) h =
    ap (λ (b : Bool). if b then Got None w else Wrong (t ∷ w)) h.0 ∙ ap (Got None) (sym h.1)
