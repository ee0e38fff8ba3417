use Rattle.geo_conditions.specs.Reach.{State, reach, without}
use Rattle.std.proofs.Common.{set}
use Rattle.plain_propagate.proofs.Narrowed.{place_mended}
use Rattle.plain_propagate.proofs.Recorded.{led_from}
use Rattle.derivation.proofs.Continuing.{growth_failed}
use Rattle.plain_propagate.proofs.mending.take.Goals as goal

pub returns-clause-narrower : goal.returns-clause-narrower
returns-clause-narrower g c = place_mended c.args.cs.now c.args.t.now.state c.drop_shape.new.self.state c.args.o.0 c.args.place c.requires.defect c.drop_shape.ensures.state

pub returns-clause-led : goal.returns-clause-led
returns-clause-led g c = λ kept.
    led_from c.args.cs.now c.args.t.now.state c.state.result.now c.drop_shape.new.self.state (λ (X : State). set X c.args.o.0 (without (reach X c.args.o.0) c.args.place)) _ _ c.state.ensures.value c.drop_shape.ensures.state (c.in_ok-record_drop.ensures.led kept)

pub returns-in_err-record_drop-clause-grows : goal.returns-in_err-record_drop-clause-grows
returns-in_err-record_drop-clause-grows g c = growth_failed c.in_err-record_drop.ensures.grows _ c.from_residual.ensures.0

pub returns-clause-grows : goal.returns-clause-grows
returns-clause-grows g c = c.in_ok-record_drop.ensures.grows
