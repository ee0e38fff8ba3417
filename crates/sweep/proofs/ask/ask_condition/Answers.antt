use Rattle.std.proofs.Common.{◌≡◌, true, map}
use Rattle.geo_conditions.specs.declared.cond.Cond.{Cond}
use Rattle.geo_conditions.specs.Conditions.{possible}
use Rattle.geo_conditions.specs.Reach.{with_at, just}
use Rattle.sweep.specs.Picks.{PicksAt}
use Rattle.sweep.proofs.PickedConditions.{mapped_picks, none_with, picked_box, picked_none}
use Rattle.sweep.proofs.ask.ask_condition.Goals as goal

pub returns-clause-forbidden : goal.returns-clause-forbidden
returns-clause-forbidden g c =
    picked_box g.row.K (map g.I.Indexical.cond c.args.list.now) c.args.picks.now c.args.s.now c.args.o.0 c.args.place c.args.c.now.coordinates c.args.region.now c.args.k (g.I.Indexical.cond c.condition_of.result.now) c.forbid.result
    (mapped_picks g.I.Indexical.cond c.args.list.now c.args.picks.now c.requires.picks) c.condition_of.ensures.pick c.forbid.ensures.has c.forbid.ensures.within c.forbid.ensures.refuted c.forbid.ensures.whole

pub returns-clause-none : goal.returns-clause-none
returns-clause-none g c =
    let T = with_at c.args.s.now c.args.o.0 c.args.place (just c.args.c.now.coordinates) in
    let cs = map g.I.Indexical.cond c.args.list.now in
    let x = g.I.Indexical.cond c.condition_of.result.now in
    none_with c.forbid.result (possible x T ≡ true) ((y : Cond) → PicksAt cs c.args.picks.now c.args.k y → possible y T ≡ true) (picked_none cs c.args.picks.now c.args.k x T true c.condition_of.ensures.pick) c.forbid.ensures.none
