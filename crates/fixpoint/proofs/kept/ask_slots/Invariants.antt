use Rattle.std.proofs.Common.{map}
use Rattle.object_pruning.specs.InRows.{IsInGroup}
use Rattle.fixpoint.specs.Kept.{IsKnown}
use Rattle.fixpoint.proofs.Asked.{SlotsBelow}
use Rattle.fixpoint.proofs.kept.ask_slots.Given as goal

abbrev pub invariant-loop-i : goal.invariant-loop-i
invariant-loop-i g l = SlotsBelow (map (λ x. x.cond) l.list) l.s l.o.0 (IsInGroup l.group) l.i l.fn.kept l.kept × IsKnown (map (λ x. x.cond) l.list) l.s l.o.0 (IsInGroup l.group) l.known
