use Rattle.std.proofs.Common.{map}
use Rattle.object_pruning.specs.Gathered.{GoesOn, HoldParts}
use Rattle.object_pruning.specs.Runs.{HaveBetween, start_at}
use Rattle.geo_conditions.specs.Regions.{region_of}
use Rattle.object_pruning.proofs.gathering.gather_row.Given as goal

abbrev pub invariant-loop-j : goal.invariant-loop-j
invariant-loop-j g l = record {
  goes : GoesOn g.row.K (map g.I.Indexical.cond l.list) l.s l.o.0 l.place (region_of l.region) (HaveBetween l.groups 0 (start_at 0 l.runs l.j)) l.fn.count l.fn.live l.gathered l.live;
  parts : HoldParts g.row.K (map g.I.Indexical.cond l.list) l.s l.o.0 l.place (region_of l.region) l.live l.parts;
}
