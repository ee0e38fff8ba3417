use Rattle.std.proofs.Common.{◌∙◌, sym, ap}
use Rattle.derivation_check.specs.declared.saved.Saved.{Saved}
use Rattle.derivation_check.specs.Machine.{undo}
use Rattle.derivation_check.proofs.saved.put_back.Goals as goal

pub returns-in-Places : goal.returns-in-Places
returns-in-Places g c = c.set_places.ensures ∙ ap (λ (t : Saved). undo t c.args.s.now) (sym c.in-Places.is)
