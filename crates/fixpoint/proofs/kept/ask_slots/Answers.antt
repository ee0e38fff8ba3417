use Rattle.std.proofs.Common.{◌≡◌, ◌<◌, None, length, map, get_or, arith, subst, Option}
use Rattle.std.proofs.lemmas.List.{get_or_default}
use Rattle.indexical.specs.declared.any.AnyIndexical.{AnyIndexical}
use Rattle.object_pruning.specs.declared.kept.Placed.{Placed}
use Rattle.object_pruning.specs.InRows.{IsInGroup}
use Rattle.fixpoint.specs.Kept.{AsksSlot}
use Rattle.fixpoint.proofs.Asked.{slots_start, slots_more, those_slots}
use Rattle.fixpoint.proofs.kept.ask_slots.Goals as goal

pub loop-i-init : goal.loop-i-init
loop-i-init g c = (slots_start (map (λ (x : AnyIndexical g.row.K). x.cond) c.args.list.now) c.args.s.now c.args.o.0 (IsInGroup c.args.group.now) c.args.kept.now, λ q e. absurd (cc))

pub loop-i-preserved : goal.loop-i-preserved
loop-i-preserved g c =
    let cs = map (λ (x : AnyIndexical g.row.K). x.cond) c.args.list.now in
    let S = c.args.s.now in
    let o = c.args.o.0 in
    let P = IsInGroup c.args.group.now in
    let mid = c.loop-i.kept in
    let i = c.loop-i.i in
    let x = c.ask_slot.new.slot in
    let h : i < length mid = omega (arith, c.loop-i-test.true, c.loop-i.auto.kept) in
    let was : get_or mid i c.index-kept-i.result ≡ get_or mid i None = get_or_default mid i c.index-kept-i.result None h in
    let asks : AsksSlot cs S o P (get_or mid i None) x = subst (λ (y : Option (Placed g.row.K)). AsksSlot cs S o P y x) was c.ask_slot.ensures.asks in
    (slots_more cs S o P i c.args.kept.now mid x h c.loop-i.invariant.0 asks, c.ask_slot.ensures.known)

pub returns : goal.returns
returns g c = λ marks. those_slots (map (λ (x : AnyIndexical g.row.K). x.cond) c.args.list.now) c.args.s.now c.args.o.0 marks (IsInGroup c.args.group.now) c.loop-i.i c.args.kept.now c.loop-i.kept (omega (arith, c.loop-i-test.false, c.loop-i.auto.kept)) c.loop-i.invariant.0

pub ask_slot-requires : goal.ask_slot-requires
ask_slot-requires g c = (omega arith, (omega arith, (omega arith, (c.requires.k, (c.requires.fits, (c.requires.object, (c.requires.group, c.loop-i.invariant.1)))))))
