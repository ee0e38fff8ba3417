use Rattle.std.proofs.Common.{◌≡◌, suc, true, drop, get_or, sym, ap, ◌∙◌, arith}
use Rattle.std.specs.List.{list_any}
use Rattle.std.proofs.Math.Seq.{drop-cons}
use Rattle.std.proofs.lemmas.Bool.{or_left}
use Rattle.std.proofs.lemmas.List.{drop_all}
use Rattle.indexical.specs.Names.{names}
use Rattle.indexical.proofs.Children.{names_at_least}
use Rattle.indexical.proofs.spared.+is_named.Goals as goal

pub returns-then-is_named : goal.returns-then-is_named
returns-then-is_named t c =
    let o = c.args.o.0 in
    let xs = c.as_slice-child-items.result.now in
    let i = c.loop-child.child-index in
    let x = c.child-item.result in
    let here : names o (get_or xs i x) ≡ true = ap (names o) (sym c.child-item.is) ∙ sym c.is_named.ensures ∙ c.if-is_named.true in
    sym (ap (names o) c.in-AtLeast.is ∙ names_at_least c.in-AtLeast.field-0 c.in-AtLeast.children o ∙ ap (list_any (names o)) (sym c.as_slice-child-items.ensures)
    ∙ c.loop-child.invariant ∙ ap (list_any (names o)) (drop-cons xs i x c.loop-child-test.true) ∙ or_left (names o (get_or xs i x)) (list_any (names o) (drop (suc i) xs)) here)

pub returns-after-loop-child : goal.returns-after-loop-child
returns-after-loop-child t c =
    let o = c.args.o.0 in
    let xs = c.as_slice-child-items.result.now in
    let i = c.loop-child.child-index in
    sym (ap (names o) c.in-AtLeast.is ∙ names_at_least c.in-AtLeast.field-0 c.in-AtLeast.children o ∙ ap (list_any (names o)) (sym c.as_slice-child-items.ensures)
    ∙ c.loop-child.invariant ∙ ap (list_any (names o)) (drop_all i xs (omega (arith, c.loop-child-test.false))))
