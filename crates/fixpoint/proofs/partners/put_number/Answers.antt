use Rattle.std.proofs.Common.{◌≡◌, ◌<◌, ◌-◌, length, ap, sym, ◌∙◌}
use Rattle.smallvec.specs.SmallVec.{SmallVec}
use Rattle.geo_conditions.specs.declared.object.ObjId.{ObjId}
use Rattle.fixpoint.specs.Pairs.{names_at}
use Rattle.fixpoint.proofs.Linking.{names_get}
use Rattle.fixpoint.proofs.Partnering.{numbers_few, numbers_many}
use Rattle.fixpoint.proofs.partners.put_number.Goals as goal

pub returns-then-names_few : goal.returns-then-names_few
returns-then-names_few c =
    let named = c.args.named.now in
    let i = c.args.number in
    let k = c.saturating_sub-k.result in
    let same : k ≡ i - 1 = c.saturating_sub-k.ensures in
    let h : k < length named = c.names_few.ensures c.if-names_few.true in
    let items : c.as_slice.result.now ≡ names_at named (i - 1) = c.as_slice.ensures ∙ ap (λ (v : SmallVec ObjId). v.items) c.index-named-k.is ∙ sym (names_get named k c.index-named-k.result h) ∙ ap (names_at named) same in
    numbers_few named c.args.o i c.as_slice.result.now c.args.few.now c.put_beside.new.few c.args.many.now.items items c.in_ok-put_beside.ensures

pub returns : goal.returns
returns c = numbers_many c.args.named.now c.args.o c.args.number c.args.few.now c.args.many.now.items c.push.new.self.items c.in_ok-push.ensures.items
