use Rattle.std.proofs.Common.{◌<◌, map}
use Rattle.object_pruning.specs.Gathered.{GoesOn, HoldParts}
use Rattle.object_pruning.specs.InRows.{IsInGroup}
use Rattle.geo_conditions.specs.Regions.{region_of}
use Rattle.object_pruning.proofs.gathering.gather_numbers.Given as goal

abbrev pub invariant-loop-i : goal.invariant-loop-i
invariant-loop-i g l = record {
  goes : GoesOn g.row.K (map g.I.Indexical.cond l.list) l.s l.o.0 l.place (region_of l.region) (λ i. IsInGroup l.group i × (i < l.i)) l.fn.count l.fn.live l.gathered l.live;
  parts : HoldParts g.row.K (map g.I.Indexical.cond l.list) l.s l.o.0 l.place (region_of l.region) l.live l.parts;
}
