use Rattle.std.proofs.Common.{◌<◌, ℕ}
use Rattle.plain_propagate.specs.Defects.{EndsFine}
use Rattle.plain_propagate.proofs.defects.object_defect.Given as goal

abbrev pub invariant-loop-d : goal.invariant-loop-d
invariant-loop-d g l = (e : ℕ) → e < l.d → EndsFine l.cs l.s l.o.0 e
