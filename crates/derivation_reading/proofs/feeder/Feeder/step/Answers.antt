use Rattle.std.proofs.Common.{ap, refl, sym, subst}
use Rattle.derivation_reading.specs.declared.feeder.Feeder.{Feeder}
use Rattle.derivation_reading.specs.Grammar.{Next}
use Rattle.derivation_reading.specs.Feeding.{Accepts}
use Rattle.derivation_reading.proofs.feeder.Feeder.step.Goals as goal

pub returns-in-Wrong-clause-accepts : goal.returns-in-Wrong-clause-accepts
returns-in-Wrong-clause-accepts c =
    let before = c.args.out.now.events in
    rw (sym c.terminal_of.ensures, sym c.name_for-name.ensures)
    (subst (λ (x : Next). Accepts c.args.self.now c.fail.new.self x c.args.token.start before before) (c.in-Wrong.ensures {u = tt})
    (ap (λ (f : Feeder). f.progress) c.fail.ensures, refl))
