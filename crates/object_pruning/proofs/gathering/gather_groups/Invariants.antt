use Rattle.std.proofs.Common.{map}
use Rattle.object_pruning.specs.Gathered.{GoesOn, HoldParts}
use Rattle.object_pruning.specs.Runs.{HaveBetween}
use Rattle.geo_conditions.specs.Regions.{region_of}
use Rattle.object_pruning.proofs.gathering.gather_groups.Given as goal

abbrev pub invariant-loop-k : goal.invariant-loop-k
invariant-loop-k g l = record {
  goes : GoesOn g.row.K (map g.I.Indexical.cond l.list) l.s l.o.0 l.place (region_of l.region) (HaveBetween l.groups l.run.first l.k) l.fn.count l.fn.live l.gathered l.live;
  parts : HoldParts g.row.K (map g.I.Indexical.cond l.list) l.s l.o.0 l.place (region_of l.region) l.live l.parts;
}
