use Rattle.std.proofs.Common.{◌≡◌, ◌+◌, ℕ, length, ap, sym, ◌∙◌, subst, List, arith}
use Rattle.std.specs.declared.vec.Vec.{Vec}
use Rattle.std.specs.declared.alloc.Global.{Global}
use Rattle.object_pruning.specs.declared.rows.Group.{Group}
use Rattle.object_pruning.specs.declared.rows.Run.{Run}
use Rattle.object_pruning.specs.Runs.{AreRuns, row}
use Rattle.object_pruning.proofs.InRows.{length_more, row_get}
use Rattle.object_pruning.proofs.Runs.{more_runs, whole_runs}
use Rattle.object_pruning.proofs.run_making.all_runs.Goals as goal

pub loop-r-preserved : goal.loop-r-preserved
loop-r-preserved c =
    let rows = c.args.rows.now in
    let runs = c.loop-r.runs.items in
    let r = c.loop-r.r in
    let v = c.in_ok-runs_of.field-0 in
    let more = c.in_ok-push.ensures.items in
    let here : c.deref.result.now ≡ row rows r = c.deref.ensures.value ∙ ap (λ (w : Vec Group Global). w.items) c.index-rows-r.is ∙ sym (row_get rows r c.index-rows-r.result c.loop-r-test.true) in
    let one : AreRuns (row rows r) v.items = subst (λ (gs : List Group). AreRuns gs v.items) here c.in_ok-runs_of.ensures in (
      ap length more ∙ length_more runs v ∙ ap (λ (m : ℕ). m + 1) c.loop-r.invariant.0,
      λ q h. subst (λ (vs : List (Vec Run Global)). AreRuns (row rows q) (row vs q)) (sym more) (more_runs rows runs v r c.loop-r.invariant.0 c.loop-r.invariant.1 one q h),
    )

pub returns : goal.returns
returns c =
    let rows = c.args.rows.now in
    let end : c.loop-r.r ≡ length rows = omega (arith, c.loop-r-test.false, c.loop-r.auto.r-end) in
    whole_runs rows c.loop-r.runs.items (c.loop-r.invariant.0 ∙ end) (λ q h. c.loop-r.invariant.1 q (omega (arith, h, end)))
