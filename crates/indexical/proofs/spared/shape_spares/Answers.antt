use Rattle.std.proofs.Common.{◌≡◌, Bool, true, false, not, refl}
use Rattle.geo_conditions.specs.Conditions.{possible}
use Rattle.geo_conditions.specs.Reach.{just, with_at}
use Rattle.indexical.proofs.spared.shape_spares.Goals as goal

some : (b r : Bool) → not r ≡ true → r ≡ not b → b ≡ true
some true r h e = refl
some false r h e = cc

pub returns : goal.returns
returns g c = λ h p. some (possible c.args.c.now (with_at c.args.s.now c.args.o.0 c.args.place (just p))) c.shape_refuted.result h (c.shape_refuted.ensures (just p))
