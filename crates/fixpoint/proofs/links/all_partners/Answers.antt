use Rattle.std.proofs.Common.{◌+◌, ◌<◌, List, length, get_or, sym, subst, arith}
use Rattle.std.proofs.lemmas.List.{get_or_default}
use Rattle.fixpoint.specs.declared.pairs.Pairs.{Pairs}
use Rattle.fixpoint.specs.declared.pairs.RowGroup.{RowGroup}
use Rattle.fixpoint.specs.declared.partners.Partners.{Partners}
use Rattle.fixpoint.specs.Pairs.{HaveIn}
use Rattle.fixpoint.specs.Partners.{ArePartners, HavePartners}
use Rattle.fixpoint.proofs.Partnering.{partners_more}
use Rattle.fixpoint.proofs.links.all_partners.Goals as goal

pub loop-o-preserved : goal.loop-o-preserved
loop-o-preserved c =
    let pairs = c.args.pairs.now in
    let named = c.args.named.now in
    let n = length pairs in
    let o = c.loop-o.o in
    let q = c.in_ok-own.own in
    let h : o < n = omega (arith, c.loop-o-test.true, c.loop-o.auto.o-end) in
    let here : Pairs = get_or pairs o c.index-pairs-o.result in
    let own : ArePartners named o n (HaveIn here.others.items) q = subst (λ (bs : List RowGroup). ArePartners named o n (HaveIn bs) q) c.deref.ensures.value c.in_ok-own.ensures in
    let one : (p : Pairs) → ArePartners named o n (HaveIn (get_or pairs o p).others.items) q = λ p. subst (λ (x : Pairs). ArePartners named o n (HaveIn x.others.items) q) (get_or_default pairs o c.index-pairs-o.result p h) own in
    subst (λ (ps : List Partners). HavePartners named pairs n (o + 1) ps) (sym c.in_ok-push.ensures.items) (partners_more named pairs n o c.loop-o.partners.items q c.loop-o.invariant one)
