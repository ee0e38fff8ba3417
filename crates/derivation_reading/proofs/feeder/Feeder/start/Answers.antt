use Rattle.std.proofs.Common.{[], ◌∷◌, reverse, refl, sym, ap, arith}
use Rattle.derivation_reading.specs.declared.symbol.Symbol.TheVariants.{Text}
use Rattle.geo_tokens.specs.Cut as cuts
use Rattle.derivation_reading.specs.Machine.{here}
use Rattle.derivation_reading.proofs.feeder.Feeder.start.Goals as goal

pub returns : goal.returns
returns c =
    let opens = here (Text ∷ []) [] [] (ap (λ ss. Text ∷ reverse ss) (sym c.new.ensures.items)) refl refl in
    record {
      names = refl;
      place = refl;
      low = c.requires.place;
      far = record { tokens = []; has = c.start.ensures; opens = opens; short = omega arith };
      events = λ more. record { tokens = []; place = 0; rest = more; symbols = Text ∷ reverse c.new.result.items; cut = cuts.here 0 more [] refl refl refl; opens = opens };
    }
