use Rattle.std.proofs.Common.{vec_len}
use Rattle.derivation_trim.proofs.walk.Walk.leave.Given as goal

abbrev pub decreases-loop-node : goal.decreases-loop-node
decreases-loop-node g l = vec_len l.self.nodes
