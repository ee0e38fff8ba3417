use Rattle.std.proofs.Common.{◌≡◌, ℕ, sym, ◌∙◌, subst, Option, arith}
use Rattle.std.specs.Prelude.{IfSome}
use Rattle.std.proofs.lemmas.Int.{ints}
use Rattle.geo_conditions.specs.declared.cond.Cond.{NotShape}
use Rattle.indexical.proofs.Faces.{faces_part}
use Rattle.indexical.proofs.facing.facing_of_tree.Goals as goal

pub returns-then-n-gt1 : goal.returns-then-n-gt1
returns-then-n-gt1 c = c.unknown-nothing.ensures c.args.c.now c.args.o.0

pub returns-in_default : goal.returns-in_default
returns-in_default c = c.unknown-nothing.ensures c.args.c.now c.args.o.0

pub returns-after-loop-child : goal.returns-after-loop-child
returns-after-loop-child c = c.unknown-nothing.ensures c.args.c.now c.args.o.0

pub returns-in-Some : goal.returns-in-Some
returns-in-Some c =
    let xs = c.as_slice-child-items.result.now in
    let x = c.child-item.result in
    let says : x ≡ NotShape c.args.o c.in-Some.place = subst (λ (r : Option ℕ). IfSome r (λ p. x ≡ NotShape c.args.o p)) c.in-Some.is c.spared_place.ensures in
    faces_part c.args.c.now c.in-AtLeast.n c.in-AtLeast.children xs c.loop-child.child-index x c.args.o c.in-Some.place c.at.result
    c.in-AtLeast.is c.as_slice-child-items.ensures (omega (arith, ints, c.if-n-gt1.false)) c.loop-child-test.true (sym c.child-item.is ∙ says) c.at.ensures.place c.at.ensures.other
