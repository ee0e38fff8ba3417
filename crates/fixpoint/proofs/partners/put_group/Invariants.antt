use Rattle.std.proofs.Common.{◌<◌}
use Rattle.object_pruning.specs.InRows.{IsInGroup}
use Rattle.fixpoint.specs.Partners.{PutsNumbers}
use Rattle.fixpoint.proofs.partners.put_group.Given as goal

abbrev pub invariant-loop-i : goal.invariant-loop-i
invariant-loop-i l = PutsNumbers l.named l.o (λ j. IsInGroup l.group j × (j < l.i)) l.fn.few l.fn.many.items l.few l.many.items
