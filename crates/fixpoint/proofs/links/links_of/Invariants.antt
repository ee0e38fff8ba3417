use Rattle.std.proofs.Common.{map}
use Rattle.fixpoint.proofs.Linking.{LinksBelow}
use Rattle.fixpoint.proofs.links.links_of.Given as goal

abbrev pub invariant-loop-i : goal.invariant-loop-i
invariant-loop-i g l = LinksBelow (map (λ x. x.cond) l.list) l.fn.objects l.i l.named.items l.picks.items l.bare.items
