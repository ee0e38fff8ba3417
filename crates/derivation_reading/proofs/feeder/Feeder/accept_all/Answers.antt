use Rattle.std.proofs.Common.{sym, subst}
use Rattle.token_stream.specs.declared.stream.Taken.{Taken}
use Rattle.derivation_reading.specs.Feeding.{Reaches}
use Rattle.derivation_reading.proofs.Reached.{reaches_nothing, reaches_fault, reaches_both}
use Rattle.derivation_reading.proofs.feeder.Feeder.accept_all.Goals as goal

pub returns-in-Nothing-clause-reaches : goal.returns-in-Nothing-clause-reaches
returns-in-Nothing-clause-reaches c =
    let f = c.args.self.now in
    let before = c.args.out.now.events in
    subst (λ (x : Taken). Reaches f f c.args.symbol x before before) (sym c.in-Nothing.is) (reaches_nothing f c.args.symbol before c.requires.«open»)

pub returns-in-Fault-clause-reaches : goal.returns-in-Fault-clause-reaches
returns-in-Fault-clause-reaches c =
    let f = c.args.self.now in
    let before = c.args.out.now.events in
    subst (λ (x : Taken). Reaches f c.fail.new.self c.args.symbol x before before) (sym c.in-Fault.is)
    (reaches_fault f c.fail.new.self c.args.symbol c.in-Fault.place c.in-Fault.word before c.fail.ensures)

pub returns-in-TokenAndFault-clause-reaches : goal.returns-in-TokenAndFault-clause-reaches
returns-in-TokenAndFault-clause-reaches c =
    let f = c.args.self.now in
    let accepted = c.accept-in-TokenAndFault in
    let before = c.args.out.now.events in
    let later = accepted.new.out.events in
    subst (λ (x : Taken). Reaches f c.fail_open.new.self c.args.symbol x before later) (sym c.in-TokenAndFault.is)
    (reaches_both f accepted.new.self c.fail_open.new.self c.args.symbol c.in-TokenAndFault.token c.in-TokenAndFault.place before later
    accepted.ensures.keeps accepted.ensures.reaches c.fail_open.ensures)
