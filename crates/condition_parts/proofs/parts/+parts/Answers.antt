use Rattle.std.proofs.Common.{◌≡◌, ℕ, ◌-◌, length, take, pos, refl, arith, subst, sym, ap, ◌∙◌}
use Rattle.geo_conditions.specs.declared.cond.Cond.{AtLeast}
use Rattle.condition_parts.specs.Literals.{AddsAll}
use Rattle.condition_parts.specs.Parts.{PutsUnder, PutsUnderAll}
use Rattle.condition_parts.proofs.Either.{weaker}
use Rattle.condition_parts.proofs.Under.{puts_more, puts_all, under_all, under_either}
use Rattle.condition_parts.proofs.parts.+parts.Goals as goal

pub put_each-loop-c-preserved : goal.put_each-loop-c-preserved
put_each-loop-c-preserved t c =
    puts_more c.args.before.now c.as_slice-c-items.result.now c.args.parts.now.items c.loop-c.parts.items c.put_parts.new.parts.items c.loop-c.c-index c.c-item.result
    c.loop-c-test.true c.c-item.is c.loop-c.invariant (c.in_ok-put_parts.ensures c.if-not-branch.false)

pub put_each-returns : goal.put_each-returns
put_each-returns t c = λ e.
    subst (λ xs. PutsUnderAll c.args.before.now xs c.args.parts.now.items c.loop-c.parts.items) c.as_slice-c-items.ensures
    (puts_all c.args.before.now c.as_slice-c-items.result.now c.args.parts.now.items c.loop-c.parts.items c.loop-c.c-index c.loop-c-test.false c.loop-c.invariant)

pub put_either-returns-in-Some : goal.put_either-returns-in-Some
put_either-returns-in-Some t c =
    let xs = c.as_slice-conditions.result.now in
    let old = c.args.parts.now.items in
    let new = c.put_parts.new.parts.items in
    let last = length xs - 1 in
    let x = c.index-conditions-last.result in
    let literals = c.as_slice.result.now in
    let whole = AtLeast (pos 1) c.args.children.now in
    let before = c.args.before.now in
    let firsts = take (last - 0) xs in
    let front : firsts ≡ take last xs = ap (λ (n : ℕ). take n xs) (omega arith) in
    let h : AddsAll firsts before c.in-Some.literals.items = rw c.in-Some.is at c.in_ok-literals.ensures in
    let added : AddsAll firsts before literals = subst (AddsAll firsts before) (sym c.as_slice.ensures.value) h in
    weaker (PutsUnder literals x old new) (PutsUnder before whole old new)
    (under_either before literals (pos 1) c.args.children.now whole xs firsts old new last x refl refl c.as_slice-conditions.ensures front (omega (arith, c.if-count-eq0.false)) c.index-conditions-last.is added)
    c.put_parts.result c.put_parts.ensures

pub put_parts-returns-then-is_count : goal.put_parts-returns-then-is_count
put_parts-returns-then-is_count t c =
    let xs = c.in-AtLeast.children.items.items in
    let old = c.args.parts.now.items in
    let new = c.put_each.new.parts.items in
    let all : c.in-AtLeast.n ≡ pos (length xs) = c.is_count.ensures c.if-is_count.true ∙ ap pos c.len.ensures in
    weaker (PutsUnderAll c.args.before.now xs old new) (PutsUnder c.args.before.now c.args.c.now old new)
    (under_all c.args.before.now c.in-AtLeast.n c.in-AtLeast.children c.args.c.now xs old new c.in-AtLeast.is refl all) c.put_each.result c.put_each.ensures
