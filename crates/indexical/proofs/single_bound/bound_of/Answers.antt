use Rattle.std.proofs.Common.{◌≡◌, pos, sym, ◌∙◌, arith}
use Rattle.std.proofs.lemmas.Int.{ints}
use Rattle.indexical.proofs.Bounds.{two_of, found_bound, found_form}
use Rattle.indexical.proofs.single_bound.bound_of.Goals as goal

pub returns-in-Lin : goal.returns-in-Lin
returns-in-Lin g c = found_form c.args.c.now c.bound_of_form.result c.bound_of_form.ensures.form c.bound_of_form.ensures.asked c.bound_of_form.ensures.until

pub returns-then-parts-eq2 : goal.returns-then-parts-eq2
returns-then-parts-eq2 g c =
    let one : c.in-AtLeast.n ≡ pos 1 = omega (arith, ints, c.if-n-eq1.true) in
    let x = c.index-parts-0.result in
    let y = c.index-parts-1.result in
    found_bound c.args.c.now c.in-AtLeast.n c.in-AtLeast.parts x y c.bound_of_two.result c.in-AtLeast.is one
    (sym c.as_slice-parts.ensures ∙ two_of c.as_slice-parts.result.now x y c.if-parts-eq2.true c.index-parts-0.is c.index-parts-1.is)
    c.bound_of_two.ensures
