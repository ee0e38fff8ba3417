use Rattle.std.proofs.Common.{map}
use Rattle.object_pruning.specs.InRows.{AreRowsBelow}
use Rattle.object_pruning.proofs.row_making.rows_of.Given as goal

abbrev pub invariant-loop-k : goal.invariant-loop-k
invariant-loop-k g l = AreRowsBelow (map (λ x. x.cond) l.list) l.fn.o.0 l.picks l.k l.rows.items
