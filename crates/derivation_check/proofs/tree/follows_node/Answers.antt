use Rattle.std.proofs.Common.{refl}
use Rattle.derivation_check.proofs.tree.follows_node.Goals as goal

pub returns-in-Gone : goal.returns-in-Gone
returns-in-Gone c = rw c.in-Gone.is refl
