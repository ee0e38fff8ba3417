use Rattle.std.proofs.Common.{◌≡◌, map}
use Rattle.object_pruning.specs.Near.{AreRefutedNear}
use Rattle.object_pruning.proofs.NearRows.{HaveBesideBelow}
use Rattle.object_pruning.proofs.near_making.near_groups.Given as goal

abbrev pub invariant-loop-k : goal.invariant-loop-k
invariant-loop-k g l = record {
  dims : l.near.dims ≡ g.row.K;
  numbers : AreRefutedNear (map (λ x. x.cond) l.list) l.o.0 (HaveBesideBelow l.groups l.k) l.near;
}
