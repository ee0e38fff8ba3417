use Rattle.std.proofs.Common.{List, sym, ap, subst}
use Rattle.derivation.specs.declared.event.Event.{Event}
use Rattle.derivation_reading.specs.declared.feeder.Feeder.{Feeder}
use Rattle.derivation_reading.specs.Feeding.{Ends, StaysClosed}
use Rattle.derivation_reading.proofs.Pieces.{ends_closed}
use Rattle.derivation_reading.proofs.Staying.{stays_open, stays_as_is, answered}
use Rattle.derivation_reading.proofs.Recorded.{ends_fitting, ends_tree}
use Rattle.derivation_reading.proofs.feeder.Feeder.finish.Goals as goal
use Rattle.derivation_reading.proofs.feeder.Feeder.finish.Goals.{in-Open, in_default}

all_ended : (c : goal.After-answer) → Ends c.args.self.now c.match-self.self c.args.out.now.events c.match-self.out.events
all_ended c =
    let f = c.args.self.now in
    let before = c.args.out.now.events in
    elim c.match-self.branch [
      | in-Open w ↦ subst (λ (x : Feeder). Ends f x before c.match-self.out.events) (sym w.self-is)
          (subst (λ (x : List Event). Ends f w.end.new.self before x) (sym (ap (λ k. k.events) w.out-is)) w.end.ensures)
      | in_default w ↦ subst (λ (x : Feeder). Ends f x before c.match-self.out.events) (sym w.self-is)
          (subst (λ (x : List Event). Ends f f before x) (sym (ap (λ k. k.events) w.out-is)) (ends_closed f before w.in_default.not-Open))
    ]

pub returns-clause-ended : goal.returns-clause-ended
returns-clause-ended c = all_ended c

pub returns-clause-fits : goal.returns-clause-fits
returns-clause-fits c = ends_fitting c.args.self.now c.match-self.self c.args.out.now.events c.match-self.out.events c.dims-dims.ensures.whole (all_ended c)

pub returns-clause-tree : goal.returns-clause-tree
returns-clause-tree c = ends_tree c.args.self.now c.match-self.self c.answer.result c.args.out.now.events c.match-self.out.events c.answer.ensures (all_ended c)

closed : (c : goal.After-answer) → StaysClosed c.args.self.now.progress c.match-self.self.progress c.args.out.now.events c.match-self.out.events
closed c =
    let p = c.args.self.now.progress in
    let before = c.args.out.now.events in
    elim c.match-self.branch [
      | in-Open w ↦ stays_open p w.in-Open.symbol c.match-self.self.progress before c.match-self.out.events w.in-Open.is
      | in_default w ↦ subst (λ (x : Feeder). StaysClosed p x.progress before c.match-self.out.events) (sym w.self-is)
          (subst (λ (x : List Event). StaysClosed p p before x) (sym (ap (λ k. k.events) w.out-is)) (stays_as_is p before))
    ]

pub returns-clause-stays : goal.returns-clause-stays
returns-clause-stays c =
    answered c.args.self.now.progress c.match-self.self c.answer.result c.args.out.now.events c.match-self.out.events c.answer.ensures (closed c)
