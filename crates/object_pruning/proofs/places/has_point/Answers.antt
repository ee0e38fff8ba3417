use Rattle.std.proofs.Common.{map, refl}
use Rattle.derivation.proofs.Continuing.{growth_none, growth_failed}
use Rattle.sweep.specs.Picks.{picked}
use Rattle.object_pruning.specs.Pruning.{CanBe}
use Rattle.object_pruning.proofs.Cases.{from_none, from_some}
use Rattle.object_pruning.proofs.Supports.{supports_found}
use Rattle.object_pruning.proofs.places.has_point.Goals as goal

pub returns-in-Some-clause-point : goal.returns-in-Some-clause-point
returns-in-Some-clause-point g c = (c.in-Some.point.coordinates, from_some _ _ c.in_ok-point.field-0 c.in-Some.point c.in-Some.is c.in_ok-point.ensures.point)

pub returns-in-Some-clause-led : goal.returns-in-Some-clause-led
returns-in-Some-clause-led g c = λ keeps. from_some _ _ c.in_ok-point.field-0 c.in-Some.point c.in-Some.is (c.in_ok-point.ensures.led keeps)

pub returns-in-Some-clause-kept : goal.returns-in-Some-clause-kept
returns-in-Some-clause-kept g c =
    let cs = picked (map g.I.Indexical.cond c.args.list.now) c.args.picks.now in
    let S = c.args.s.now in
    let o = c.args.o.0 in
    let there : CanBe cs S o c.args.place c.in-Some.point.coordinates = from_some _ _ c.in_ok-point.field-0 c.in-Some.point c.in-Some.is c.in_ok-point.ensures.point in
    supports_found cs S S o c.knows_place.new.kept c.keep_found.new.kept c.place_slot.result (record { place = c.args.place; point = c.in-Some.point }) refl there.point.unrefuted c.knows_place.ensures.kept c.keep_found.ensures

pub returns-in-None-clause-point : goal.returns-in-None-clause-point
returns-in-None-clause-point g c = from_none _ _ c.in_ok-point.field-0 c.in-None.is c.in_ok-point.ensures.point

pub returns-in-None-clause-led : goal.returns-in-None-clause-led
returns-in-None-clause-led g c = λ keeps. from_none _ _ c.in_ok-point.field-0 c.in-None.is (c.in_ok-point.ensures.led keeps)

pub returns-then-knows_place-clause-grows : goal.returns-then-knows_place-clause-grows
returns-then-knows_place-clause-grows g c = growth_none _ _ _

pub returns-in_err-point-clause-grows : goal.returns-in_err-point-clause-grows
returns-in_err-point-clause-grows g c = growth_failed (c.in_err-point.ensures.grows) _ c.from_residual.ensures.0

pub returns-in-Some-clause-grows : goal.returns-in-Some-clause-grows
returns-in-Some-clause-grows g c = c.in_ok-point.ensures.grows

pub returns-in-None-clause-grows : goal.returns-in-None-clause-grows
returns-in-None-clause-grows g c = c.in_ok-point.ensures.grows
