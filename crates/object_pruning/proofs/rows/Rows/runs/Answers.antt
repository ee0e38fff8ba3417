use Rattle.std.proofs.Common.{◌<◌, ◌≤◌, List, length, ap, sym, ◌∙◌, arith, subst}
use Rattle.std.specs.declared.vec.Vec.{Vec}
use Rattle.std.specs.declared.alloc.Global.{Global}
use Rattle.object_pruning.specs.declared.rows.Run.{Run}
use Rattle.object_pruning.specs.Runs.{AreRuns, row}
use Rattle.object_pruning.proofs.InRows.{row_get, row_past}
use Rattle.object_pruning.proofs.rows.Rows.runs.Goals as goal

pub returns-then-r-runs : goal.returns-then-r-runs
returns-then-r-runs c =
    let vs = c.as_slice-runs.result.now in
    let r = c.args.r in
    let v = c.index-runs-r.result in
    let h : r < length vs = omega (arith, c.if-r-runs.true) in
    subst (AreRuns (row c.args.self.now.rows.items r)) (sym (c.as_slice.ensures.value ∙ ap (λ (w : Vec Run Global). w.items) c.index-runs-r.is ∙ sym (row_get vs r v h) ∙ ap (λ (ws : List (Vec Run Global)). row ws r) c.as_slice-runs.ensures.value)) (c.args.self.now.in_runs r)

pub returns-else-r-runs : goal.returns-else-r-runs
returns-else-r-runs c =
    let long = ap length c.as_slice-runs.ensures.value in
    let h : length c.args.self.now.runs.items ≤ c.args.r = omega (arith, c.if-r-runs.false, long) in
    subst (AreRuns (row c.args.self.now.rows.items c.args.r)) (row_past c.args.self.now.runs.items c.args.r h) (c.args.self.now.in_runs c.args.r)
