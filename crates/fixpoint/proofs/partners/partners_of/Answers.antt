use Rattle.std.proofs.Common.{◌≡◌, [], ◌<◌, ◌+◌, ◌≤◌, List, None, length, get_or, sym, subst, arith, ap, ◌∙◌, eqb-true, Vec, Global, ℕ}
use Rattle.std.proofs.lemmas.List.{with_items_is}
use Rattle.std.specs.Vec.{with_items}
use Rattle.object_pruning.specs.InRows.{IsInGroup}
use Rattle.fixpoint.specs.declared.pairs.RowGroup.{RowGroup}
use Rattle.fixpoint.specs.Partners.{PutsNumbers}
use Rattle.fixpoint.proofs.Asked.{InBelow}
use Rattle.fixpoint.proofs.Partnering.{NumbersBelow, numbers_none, numbers_group, numbers_groups}
use Rattle.fixpoint.proofs.partners.partners_of.Goals as goal
use Rattle.fixpoint.proofs.partners.partners_of.Goals.{then-is_empty, else-is_empty}

pub loop-k-init : goal.loop-k-init
loop-k-init c =
    let named = c.args.named.now in
    let bs = c.args.groups.now in
    let start = c.in_ok-few.few.items in
    subst (λ (l : List ℕ). NumbersBelow named c.args.o bs 0 c.if-is_empty.found start l) (sym c.new-many.ensures.items)
    (start, c.in_ok-few.ensures.0, c.in_ok-few.ensures.1, numbers_none named c.args.o (InBelow bs 0) start [] (λ j w. absurd (omega (arith, w.2))))

pub loop-k-preserved : goal.loop-k-preserved
loop-k-preserved c =
    let named = c.args.named.now in
    let bs = c.args.groups.now in
    let k = c.loop-k.k in
    let old = c.loop-k.few in
    let more = c.loop-k.many.items in
    let new = c.put_group.new.few in
    let most = c.put_group.new.many.items in
    let value : c.deref_mut.result.now ≡ old.items = c.deref_mut.ensures.value in
    let long : length new ≡ length old.items = c.put_group.auto.few ∙ ap length value in
    let back : (with_items old new).items ≡ new = with_items_is old new (omega (arith, long, old.ok)) in
    let none : RowGroup = record { row = 0; group = record { other = None; other_place = 0; first = 0; last = 0 } } in
    let put : PutsNumbers named c.args.o (IsInGroup (get_or bs k none).group) old.items more new most = subst (λ (lists : List (Vec ℕ Global)). PutsNumbers named c.args.o (IsInGroup (get_or bs k none).group) lists more new most) value c.in_ok-put_group.ensures in
    subst (λ (lists : List (Vec ℕ Global)). NumbersBelow named c.args.o bs (k + 1) c.if-is_empty.found lists most) (sym back) (numbers_group named c.args.o bs k c.if-is_empty.found none old.items new more most c.loop-k-test.true c.loop-k.invariant put)

pub returns : goal.returns
returns c =
    let n = c.args.objects in
    let bs = c.args.groups.now in
    let found = c.if-is_empty.found in
    let low : found ≤ n = elim c.if-is_empty.branch [ then-is_empty w ↦ omega (arith, w.found-is) | else-is_empty w ↦ omega (arith, w.found-is) ] in
    let all : 0 < length bs → found ≡ n = λ h. elim c.if-is_empty.branch [
      | then-is_empty w ↦ let none : length bs ≡ 0 = eqb-true (length bs) 0 (sym c.is_empty.ensures ∙ w.if-is_empty.true) in absurd (omega (arith, h, none))
      | else-is_empty w ↦ w.found-is
    ] in
    numbers_groups c.args.named.now c.args.o bs c.loop-k.k n found _ c.loop-k-test.false low all c.loop-k.invariant
