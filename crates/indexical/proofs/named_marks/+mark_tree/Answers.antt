use Rattle.std.proofs.Common.{ap, sym, ◌∙◌}
use Rattle.std.specs.List.{list_any}
use Rattle.indexical.specs.Names.{names}
use Rattle.indexical.proofs.Children.{names_at_least}
use Rattle.indexical.proofs.MarkedNames.{marks_end, marks_same}
use Rattle.indexical.proofs.named_marks.+mark_tree.Goals as goal

pub returns-after-loop-child : goal.returns-after-loop-child
returns-after-loop-child t c =
    let xs = c.as_slice-child-items.result.now in
    let old = c.args.marks.now in
    marks_same (λ o. names o c.args.c.now) (λ o. list_any (names o) xs) old c.loop-child.marks
    (λ o. ap (names o) c.in-AtLeast.is ∙ names_at_least c.in-AtLeast.field-0 c.in-AtLeast.children o ∙ ap (list_any (names o)) (sym c.as_slice-child-items.ensures))
    (marks_end names xs c.loop-child.child-index old c.loop-child.marks c.loop-child-test.false c.loop-child.invariant)
