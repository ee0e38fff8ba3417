use Rattle.std.proofs.Common.{◌≡◌, ◌<◌, map}
use Rattle.object_pruning.specs.Near.{AreRefutedNear, IsWider}
use Rattle.object_pruning.specs.Runs.{IsInGroup}
use Rattle.object_pruning.proofs.near_making.near_group.Given as goal

abbrev pub invariant-loop-i : goal.invariant-loop-i
invariant-loop-i g l = record {
  wider : IsWider l.near l.wider;
  numbers : AreRefutedNear (map (λ x. x.cond) l.list) l.o.0 (λ i u. IsInGroup l.group i × (i < l.i) × (u ≡ l.u)) l.wider;
}
