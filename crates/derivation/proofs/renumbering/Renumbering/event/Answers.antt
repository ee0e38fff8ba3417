use Rattle.std.proofs.Common.{sym, ap, ◌∙◌}
use Rattle.derivation.specs.declared.event.Event.TheVariants.{Dead}
use Rattle.derivation.specs.Renumbered.{renumbered}
use Rattle.derivation.proofs.renumbering.Renumbering.event.Goals as goal

pub returns-in-Dead : goal.returns-in-Dead
returns-in-Dead c = ap Dead c.number-in-Dead.ensures ∙ ap (renumbered c.args.self.now) (sym c.in-Dead.is)
