use Rattle.std.proofs.Common.{map}
use Rattle.geo_base.specs.declared.point.Point.{Point}
use Rattle.geo_conditions.specs.Regions.{region_of}
use Rattle.sweep.proofs.Found.{point_of, covered_of}
use Rattle.sweep.proofs.first_point.sweep_parts.Goals as goal

pub returns-clause-point : goal.returns-clause-point
returns-clause-point g c =
    point_of g.row.K c.args.way.now.lead c.args.way.now.up g.R.Recorder.keeps (map g.I.Indexical.cond c.args.list.now) c.args.picks.now c.args.s.now c.args.o.0 c.args.place (region_of c.args.region.now) (g.R.Recorder.list c.args.rec.now) (g.R.Recorder.list c.sweep_region.new.rec)
    (λ (p : Point g.row.K). p.coordinates) c.sweep_region.result c.sweep_region.ensures.found

pub returns-clause-covered : goal.returns-clause-covered
returns-clause-covered g c =
    covered_of g.row.K c.args.way.now.lead c.args.way.now.up g.R.Recorder.keeps (map g.I.Indexical.cond c.args.list.now) c.args.picks.now c.args.s.now c.args.o.0 c.args.place (region_of c.args.region.now) (g.R.Recorder.list c.args.rec.now) (g.R.Recorder.list c.sweep_region.new.rec)
    (λ (p : Point g.row.K). p.coordinates) c.sweep_region.result c.sweep_region.ensures.found
