use Rattle.std.proofs.Common.{◌+◌, ◌<◌, List, length, get_or, sym, ◌∙◌, subst, arith}
use Rattle.std.proofs.lemmas.List.{get_or_default}
use Rattle.object_pruning.specs.declared.rows.Rows.{Rows}
use Rattle.fixpoint.specs.declared.pairs.Pairs.{Pairs}
use Rattle.fixpoint.specs.Pairs.{SortsRows}
use Rattle.fixpoint.specs.Links.{SortAllRows}
use Rattle.fixpoint.proofs.Paired.{sort_more}
use Rattle.fixpoint.proofs.links.all_pairs.Goals as goal

pub loop-o-preserved : goal.loop-o-preserved
loop-o-preserved c =
    let rows = c.args.rows.now in
    let named = c.args.named.now in
    let o = c.loop-o.o in
    let p = c.in_ok-own.own in
    let h : o < length rows = omega (arith, c.loop-o-test.true, c.loop-o.auto.o-end) in
    let one : (d : Rows) → SortsRows named o (get_or rows o d) (length rows) p = λ d. subst (λ (r : Rows). SortsRows named o r (length rows) p) (c.index-rows-o.is ∙ get_or_default rows o c.index-rows-o.result d h) c.in_ok-own.ensures in
    subst (λ (ps : List Pairs). SortAllRows named rows (o + 1) ps) (sym c.in_ok-push.ensures.items) (sort_more named rows o c.loop-o.pairs.items p c.loop-o.invariant one)
