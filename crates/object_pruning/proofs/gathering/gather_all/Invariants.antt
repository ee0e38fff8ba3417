use Rattle.std.proofs.Common.{map}
use Rattle.geo_conditions.specs.Regions.{region_of}
use Rattle.object_pruning.specs.Gathered.{GoesOn, HoldParts}
use Rattle.object_pruning.proofs.LivePicks.{IsBelow}
use Rattle.object_pruning.proofs.gathering.gather_all.Given as goal

abbrev pub invariant-loop-k : goal.invariant-loop-k
invariant-loop-k g l = record {
  goes : GoesOn g.row.K (map g.I.Indexical.cond l.list) l.s l.o.0 l.place (region_of l.region) (IsBelow l.picks l.k) 0 l.fn.live l.count l.live;
  parts : HoldParts g.row.K (map g.I.Indexical.cond l.list) l.s l.o.0 l.place (region_of l.region) l.live l.parts;
}
