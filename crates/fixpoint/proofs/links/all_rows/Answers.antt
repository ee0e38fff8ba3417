use Rattle.std.proofs.Common.{◌≡◌, ◌<◌, ◌+◌, ℕ, List, length, map, ap, sym, ◌∙◌, subst, arith, rules, Vec, Global}
use Rattle.indexical.specs.declared.any.AnyIndexical.{AnyIndexical}
use Rattle.sweep.specs.Picks.{ArePicks}
use Rattle.object_pruning.specs.declared.rows.Rows.{Rows}
use Rattle.object_pruning.specs.InRows.{AreRows}
use Rattle.fixpoint.specs.Links.{row, HaveRows}
use Rattle.fixpoint.proofs.Linking.{row_get, have_more}
use Rattle.fixpoint.proofs.links.all_rows.Goals as goal

pub rows_of-requires : goal.rows_of-requires
rows_of-requires g c =
    let picks = c.args.picks.now in
    let o = c.loop-o.o in
    let h : o < length picks = omega (arith, c.loop-o-test.true, c.loop-o.auto.o-end) in
    let e : c.deref.result.now ≡ row picks o = c.deref.ensures.value ∙ ap (λ (v : Vec ℕ Global). v.items) c.index-picks-o.is ∙ sym (row_get picks o c.index-picks-o.result h) in
    let within : ArePicks (length c.args.list.now) c.deref.result.now = subst (ArePicks (length c.args.list.now)) (sym e) (c.requires.picks o h) in
    search rules

pub loop-o-preserved : goal.loop-o-preserved
loop-o-preserved g c =
    let cs = map (λ (x : AnyIndexical g.row.K). x.cond) c.args.list.now in
    let picks = c.args.picks.now in
    let o = c.loop-o.o in
    let r = c.in_ok-own.own in
    let h : o < length picks = omega (arith, c.loop-o-test.true, c.loop-o.auto.o-end) in
    let e : c.deref.result.now ≡ row picks o = c.deref.ensures.value ∙ ap (λ (v : Vec ℕ Global). v.items) c.index-picks-o.is ∙ sym (row_get picks o c.index-picks-o.result h) in
    let one : AreRows cs o (row picks o) r = subst (λ (p : List ℕ). AreRows cs o p r) e c.in_ok-own.ensures in
    subst (λ (rs : List Rows). HaveRows cs picks (o + 1) rs) (sym c.in_ok-push.ensures.items) (have_more cs picks o c.loop-o.rows.items r c.loop-o.invariant one)
