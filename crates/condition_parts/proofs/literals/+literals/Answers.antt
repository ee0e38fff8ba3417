use Rattle.std.proofs.Common.{◌≡◌, pos, arith}
use Rattle.std.proofs.lemmas.Int.{ints}
use Rattle.condition_parts.specs.Literals.{AddsTo, AddsAll}
use Rattle.condition_parts.proofs.Either.{adds_more, adds_all, adds_children, weaker}
use Rattle.condition_parts.proofs.literals.+literals.Goals as goal

pub put_all-loop-c-preserved : goal.put_all-loop-c-preserved
put_all-loop-c-preserved t c =
    adds_more c.args.conditions.now c.args.literals.now.items c.loop-c.literals.items c.put_literals.new.literals.items c.loop-c.c-index c.c-item.result
    c.loop-c-test.true c.c-item.is c.loop-c.invariant (c.in_ok-put_literals.ensures c.if-not-branch.false)

pub put_all-returns : goal.put_all-returns
put_all-returns t c = λ e. adds_all c.args.conditions.now c.args.literals.now.items c.loop-c.literals.items c.loop-c.c-index c.loop-c-test.false c.loop-c.invariant

pub put_literals-returns-else-n-ne1 : goal.put_literals-returns-else-n-ne1
put_literals-returns-else-n-ne1 t c =
    let xs = c.as_slice.result.now in
    let old = c.args.literals.now.items in
    let new = c.put_all.new.literals.items in
    let one : c.in-AtLeast.n ≡ pos 1 = omega (arith, ints, c.if-n-ne1.false) in
    weaker (AddsAll xs old new) (AddsTo c.args.c.now old new) (adds_children c.in-AtLeast.n c.in-AtLeast.children c.args.c.now xs old new c.in-AtLeast.is c.as_slice.ensures one) c.put_all.result c.put_all.ensures
