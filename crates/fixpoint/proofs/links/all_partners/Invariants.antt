use Rattle.fixpoint.specs.Partners.{HavePartners}
use Rattle.fixpoint.proofs.links.all_partners.Given as goal

abbrev pub invariant-loop-o : goal.invariant-loop-o
invariant-loop-o l = HavePartners l.named l.pairs l.objects l.o l.partners.items
