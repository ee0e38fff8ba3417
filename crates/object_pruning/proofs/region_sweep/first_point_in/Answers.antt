use Rattle.std.proofs.Common.{◌≡◌, ℕ, true, List, Option, map, take, subst}
use Rattle.std.specs.Prelude.{MatchOption, IfOk}
use Rattle.std.proofs.lemmas.Result.{IfOk-weaker}
use Rattle.geo_base.specs.declared.point.Point.{Point}
use Rattle.geo_conditions.specs.Regions.{region_of}
use Rattle.geo_conditions.specs.Supported.{HasNoPoint, IsFirstPoint}
use Rattle.sweep.specs.Picks.{picked}
use Rattle.sweep.specs.Sweep.{IsCovered, part_before}
use Rattle.object_pruning.proofs.LivePicks.{point_of_all, cover_of_all}
use Rattle.object_pruning.proofs.region_sweep.first_point_in.Goals as goal

pub returns-in-Some-clause-point : goal.returns-in-Some-clause-point
returns-in-Some-clause-point g c =
    let K = g.row.K in
    let cs = map g.I.Indexical.cond c.args.list.now in
    let S = c.args.s.now in
    let o = c.args.o.0 in
    let s = c.args.place in
    let b = region_of c.args.region.now in
    let lead = c.args.way.now.lead in
    let up = c.args.way.now.up in
    let n = c.in-Some.count in
    let live = c.gather.new.live in
    IfOk-weaker c.sweep_region.result
    (λ (r : Option (Point K)). MatchOption r (HasNoPoint (picked cs (take n live)) S o s b) (λ p. IsFirstPoint K lead up (picked cs (take n live)) S o s b p.coordinates))
    (λ (r : Option (Point K)). MatchOption r (HasNoPoint (picked cs c.args.picks.now) S o s b) (λ p. IsFirstPoint K lead up (picked cs c.args.picks.now) S o s b p.coordinates))
    (λ r h. point_of_all K cs S o s b c.args.picks.now live n c.in-Some.ensures.room c.in-Some.ensures.gathered lead up (λ (p : Point K). p.coordinates) r h)
    (subst (λ (those : List ℕ). IfOk c.sweep_region.result (λ r. MatchOption r (HasNoPoint (picked cs those) S o s b) (λ p. IsFirstPoint K lead up (picked cs those) S o s b p.coordinates))) c.gathered-those.ensures.those c.sweep_region.ensures.point)

pub returns-in-Some-clause-covered : goal.returns-in-Some-clause-covered
returns-in-Some-clause-covered g c =
    let K = g.row.K in
    let cs = map g.I.Indexical.cond c.args.list.now in
    let S = c.args.s.now in
    let o = c.args.o.0 in
    let s = c.args.place in
    let b = region_of c.args.region.now in
    let part = λ (p : Point K). part_before c.args.way.now.lead c.args.way.now.up p.coordinates b in
    let old = g.R.Recorder.list c.args.rec.now in
    let new = g.R.Recorder.list c.sweep_region.new.rec in
    let n = c.in-Some.count in
    let live = c.gather.new.live in
    IfOk-weaker c.sweep_region.result
    (λ (r : Option (Point K)). g.R.Recorder.keeps ≡ true → MatchOption r (IsCovered K cs (take n live) S o s b old new) (λ p. IsCovered K cs (take n live) S o s (part p) old new))
    (λ (r : Option (Point K)). g.R.Recorder.keeps ≡ true → MatchOption r (IsCovered K cs c.args.picks.now S o s b old new) (λ p. IsCovered K cs c.args.picks.now S o s (part p) old new))
    (λ r h k. cover_of_all K cs S o s b c.args.picks.now live n c.in-Some.ensures.room c.in-Some.ensures.gathered part old new r (h k))
    (subst (λ (those : List ℕ). IfOk c.sweep_region.result (λ r. g.R.Recorder.keeps ≡ true → MatchOption r (IsCovered K cs those S o s b old new) (λ p. IsCovered K cs those S o s (part p) old new))) c.gathered-those.ensures.those c.sweep_region.ensures.covered)
