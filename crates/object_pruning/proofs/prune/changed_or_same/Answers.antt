use Rattle.std.proofs.Common.{sym, ap}
use Rattle.object_pruning.specs.Pruning.{outcome}
use Rattle.object_pruning.proofs.prune.changed_or_same.Goals as goal

pub returns-then-dropped-moved : goal.returns-then-dropped-moved
returns-then-dropped-moved c = ap outcome (sym c.if-dropped-moved.true)

pub returns-else-dropped-moved : goal.returns-else-dropped-moved
returns-else-dropped-moved c = ap outcome (sym c.if-dropped-moved.false)
