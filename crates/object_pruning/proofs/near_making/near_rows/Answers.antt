use Rattle.std.proofs.Common.{◌≡◌, ◌+◌, ◌∙◌, ℕ, List, Option, map, length, ap, sym, subst}
use Rattle.std.specs.Prelude.{IfSome, slice_get}
use Rattle.std.specs.declared.vec.Vec.{Vec}
use Rattle.std.specs.declared.alloc.Global.{Global}
use Rattle.indexical.specs.declared.any.AnyIndexical.{AnyIndexical}
use Rattle.object_pruning.specs.declared.near.Near.{Near}
use Rattle.object_pruning.specs.declared.rows.Group.{Group}
use Rattle.object_pruning.specs.Near.{IsNearRow}
use Rattle.object_pruning.specs.Runs.{row}
use Rattle.object_pruning.proofs.InRows.{length_more, row_get}
use Rattle.object_pruning.proofs.NearRows.{near_more}
use Rattle.object_pruning.proofs.near_making.near_rows.Goals as goal

pub loop-r-preserved : goal.loop-r-preserved
loop-r-preserved g c =
    let cs = map (λ (x : AnyIndexical g.row.K). x.cond) c.args.list.now in
    let o = c.args.o.0 in
    let rows = c.args.rows.now in
    let r = c.loop-r.r in
    let old = c.loop-r.near.items in
    let v = c.near_row.result in
    let items = c.in_ok-push.ensures.items in
    let i = c.loop-r.invariant in
    let here : c.deref.result.now ≡ row rows r = c.deref.ensures.value ∙ ap (λ (w : Vec Group Global). w.items) c.index-rows-r.is ∙ sym (row_get rows r c.index-rows-r.result c.loop-r-test.true) in
    let at : row rows r ≡ row rows (length old) = ap (row rows) (sym i.0) in
    let one : IfSome v (IsNearRow cs o (row rows (length old))) = subst (λ (gs : List Group). IfSome v (IsNearRow cs o gs)) (here ∙ at) c.near_row.ensures in (
      ap length items ∙ length_more old v ∙ ap (λ (m : ℕ). m + 1) i.0,
      λ q n e. near_more (λ k m. IsNearRow cs o (row rows k) m) old v i.1 one q n (sym (ap (λ (vs : List (Option Near)). slice_get vs q) items) ∙ e),
    )
