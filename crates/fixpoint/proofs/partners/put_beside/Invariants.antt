use Rattle.std.proofs.Common.{◌≢◌}
use Rattle.fixpoint.specs.Partners.{PutsAt}
use Rattle.fixpoint.proofs.Partnering.{AmongFirst}
use Rattle.fixpoint.proofs.partners.put_beside.Given as goal

abbrev pub invariant-loop-k : goal.invariant-loop-k
invariant-loop-k l = PutsAt l.number (λ v. AmongFirst l.those l.k v × (v ≢ l.o)) l.fn.few l.few
