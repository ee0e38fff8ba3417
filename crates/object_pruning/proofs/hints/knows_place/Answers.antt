use Rattle.std.proofs.Common.{ℕ, map, refl, subst}
use Rattle.sweep.specs.Picks.{picked}
use Rattle.object_pruning.specs.Pruning.{CanBe}
use Rattle.object_pruning.proofs.Supports.{supports_found}
use Rattle.object_pruning.proofs.hints.knows_place.Goals as goal

pub returns-then-place_stands-clause-point : goal.returns-then-place_stands-clause-point
returns-then-place_stands-clause-point g c = λ t. c.place_stands.ensures c.if-place_stands.true (picked (map g.I.Indexical.cond c.args.list.now) c.args.picks.now) c.requires.kept

pub returns-in-Some-clause-point : goal.returns-in-Some-clause-point
returns-in-Some-clause-point g c = λ t. (c.in-Some.q.point.coordinates, subst (λ (s : ℕ). CanBe (picked (map g.I.Indexical.cond c.args.list.now) c.args.picks.now) c.args.s.now c.args.o.0 s c.in-Some.q.point.coordinates) c.in-Some.ensures.0 c.in-Some.ensures.1)

pub returns-in-Some-clause-kept : goal.returns-in-Some-clause-kept
returns-in-Some-clause-kept g c =
    let S = c.args.s.now in
    supports_found (picked (map g.I.Indexical.cond c.args.list.now) c.args.picks.now) S S c.args.o.0 c.args.kept.now c.keep.new.kept c.place_slot.result c.in-Some.q refl c.in-Some.ensures.1.point.unrefuted c.requires.kept c.keep.ensures
