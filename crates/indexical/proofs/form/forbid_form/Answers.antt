use Rattle.std.proofs.Common.{◌≡◌, Bool, true, false, pos, suc, ap, ◌∙◌, arith}
use Rattle.std.proofs.lemmas.Int.{ints}
use Rattle.geo_base.specs.declared.point.Point.{Point}
use Rattle.geo_conditions.specs.Conditions.{least_value}
use Rattle.geo_conditions.specs.Reach.{just, with_at}
use Rattle.geo_conditions.specs.Regions.{region_of}
use Rattle.indexical.proofs.Widened.{Grown, both_sides, grown_has, grown_within, above_0, far_sides, begins_at}
use Rattle.indexical.proofs.WholePart.{has_whole}
use Rattle.indexical.proofs.form.forbid_form.Goals as goal
use Rattle.indexical.proofs.form.forbid_form.Goals.{After-widen_all-2}

-- the box of the point alone
begins : (g : _) (c : After-widen_all-2 g) → region_of c.new-b.result ≡ just c.args.c.now.coordinates
begins g c = ap (λ (x : Point g.row.K). region_of (record { lo = x; hi = c.new-b.result.hi })) c.new-b.ensures.lo ∙ ap (λ (x : Point g.row.K). region_of (record { lo = c.args.c.now; hi = x })) c.new-b.ensures.hi

-- the box on both sides
grown : (g : _) (c : After-widen_all-2 g) (h : Bool) → Grown g.row.K c.args.f.now c.args.o.0 h (region_of c.args.region.now) (just c.args.c.now.coordinates) (region_of c.widen_all-2.new.b) c.widen_all-2.new.purse
grown g c h = both_sides g.row.K c.args.way.now.lead c.args.f.now c.args.o.0 (region_of c.args.region.now) (just c.args.c.now.coordinates) (region_of c.widen_all.new.b) (region_of c.widen_all-2.new.b) _ c.widen_all.new.purse c.widen_all-2.new.purse c.args.way.now.lead_in c.up-up.result h
    (begins_at g.row.K c.args.way.now.lead 0 c.args.f.now c.args.o.0 c.up-up.result (region_of c.args.region.now) (region_of c.new-b.result) (just c.args.c.now.coordinates) (region_of c.widen_all.new.b) _ c.widen_all.new.purse (begins g c) c.widen_all.ensures) c.widen_all-2.ensures

pub returns-clause-has : goal.returns-clause-has
returns-clause-has g c =
    let a = (goal.at.returns-clause-has g c).After-widen_all-2 in
    grown_has g.row.K c.args.way.now.lead c.args.f.now c.args.o.0 (region_of c.args.region.now) (just c.args.c.now.coordinates) (region_of c.widen_all.new.b) (region_of c.widen_all-2.new.b) 0 c.widen_all.new.purse c.widen_all-2.new.purse c.args.way.now.lead_in c.args.c.now.coordinates (grown g a true) (grown g a false)

pub returns-clause-within : goal.returns-clause-within
returns-clause-within g c =
    let a = (goal.at.returns-clause-within g c).After-widen_all-2 in
    grown_within g.row.K c.args.way.now.lead c.args.f.now c.args.o.0 (region_of c.args.region.now) (just c.args.c.now.coordinates) (region_of c.widen_all.new.b) (region_of c.widen_all-2.new.b) 0 c.widen_all.new.purse c.widen_all-2.new.purse c.args.way.now.lead_in c.args.c.now.coordinates c.requires.inside (grown g a true) (grown g a false)

pub returns-clause-whole : goal.returns-clause-whole
returns-clause-whole g c = λ one q has refuted.
    let a = (goal.at.returns-clause-whole g c).After-widen_all-2 in
    let first = c.widen_all.ensures.value c.args.s.now c.args.place c.requires.object in
    let second = c.widen_all-2.ensures.value c.args.s.now c.args.place c.requires.object in
    let value : least_value c.args.f.now (with_at c.args.s.now c.args.o.0 c.args.place (region_of c.widen_all-2.new.b)) ≡ pos (suc c.widen_all-2.new.purse) =
    omega (arith, ints, first, second, c.widen_all.ensures.paid, c.widen_all-2.ensures.paid, c.least_value_at-least.ensures) in
    has_whole c.args.s.now c.args.o.0 c.args.place g.row.K c.requires.object c.args.f.now (region_of c.widen_all-2.new.b) (region_of c.args.region.now) c.widen_all-2.new.purse value one
    (far_sides g.row.K c.args.f.now c.args.o.0 (region_of c.args.region.now) (just c.args.c.now.coordinates) (region_of c.widen_all-2.new.b) c.widen_all-2.new.purse (grown g a true) (grown g a false))
    q (above_0 _ refuted) has
