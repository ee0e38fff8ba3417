use Rattle.std.proofs.Common.{◌-◌, ◌≤◌}
use Rattle.fixpoint.proofs.Linking.{LinkedBelow}
use Rattle.fixpoint.proofs.links.link_each.Given as goal

abbrev pub invariant-loop-o : goal.invariant-loop-o
invariant-loop-o g l = LinkedBelow l.x.cond l.number l.next l.named.items l.fn.picks l.picks × (l.next ≤ l.objects)

abbrev pub decreases-loop-o : goal.decreases-loop-o
decreases-loop-o g l = l.objects - l.next
