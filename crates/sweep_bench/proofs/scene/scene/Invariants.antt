use Rattle.std.proofs.Common.{◌<◌, length}
use Rattle.sweep_bench.proofs.scene.scene.Given as goal

abbrev pub invariant-objects : goal.invariant-objects
invariant-objects l = 0 < length l.s
