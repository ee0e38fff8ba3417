use Rattle.std.proofs.Common.{ap, sym, ◌∙◌}
use Rattle.std.specs.List.{list_any}
use Rattle.indexical.specs.Names.{names}
use Rattle.indexical.proofs.Children.{names_at_least}
use Rattle.indexical.proofs.NextNamed.{next_end, next_reached, next_same}
use Rattle.indexical.proofs.first_named.+next_named.Goals as goal

pub returns-after-loop-child : goal.returns-after-loop-child
returns-after-loop-child t c =
    let xs = c.as_slice-child-items.result.now in
    next_same (λ o. names o c.args.c.now) (λ o. list_any (names o) xs) c.args.from c.args.end c.loop-child.next
    (λ o. ap (names o) c.in-AtLeast.is ∙ names_at_least c.in-AtLeast.field-0 c.in-AtLeast.children o ∙ ap (list_any (names o)) (sym c.as_slice-child-items.ensures))
    (next_end names xs c.loop-child.child-index c.args.from c.args.end c.loop-child.next c.loop-child-test.false c.loop-child.invariant)

pub returns-then-next-from : goal.returns-then-next-from
returns-then-next-from t c =
    let xs = c.as_slice-child-items.result.now in
    next_same (λ o. names o c.args.c.now) (λ o. list_any (names o) xs) c.args.from c.args.end c.loop-child.next
    (λ o. ap (names o) c.in-AtLeast.is ∙ names_at_least c.in-AtLeast.field-0 c.in-AtLeast.children o ∙ ap (list_any (names o)) (sym c.as_slice-child-items.ensures))
    (next_reached names xs c.loop-child.child-index c.args.from c.args.end c.loop-child.next c.if-next-from.true c.loop-child.invariant)
