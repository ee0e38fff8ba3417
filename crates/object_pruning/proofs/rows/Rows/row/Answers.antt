use Rattle.std.proofs.Common.{◌<◌, ◌≤◌, List, length, ap, sym, ◌∙◌, arith}
use Rattle.std.specs.declared.vec.Vec.{Vec}
use Rattle.std.specs.declared.alloc.Global.{Global}
use Rattle.object_pruning.specs.declared.rows.Group.{Group}
use Rattle.object_pruning.specs.InRows.{row}
use Rattle.object_pruning.proofs.InRows.{row_get, row_past}
use Rattle.object_pruning.proofs.rows.Rows.row.Goals as goal

pub returns-then-r-rows : goal.returns-then-r-rows
returns-then-r-rows c =
    let vs = c.as_slice-rows.result.now in
    let r = c.args.r in
    let v = c.index-rows-r.result in
    let h : r < length vs = omega (arith, c.if-r-rows.true) in
    c.as_slice.ensures.value ∙ ap (λ (w : Vec Group Global). w.items) c.index-rows-r.is ∙ sym (row_get vs r v h) ∙ ap (λ (ws : List (Vec Group Global)). row ws r) c.as_slice-rows.ensures.value

pub returns-else-r-rows : goal.returns-else-r-rows
returns-else-r-rows c =
    let long = ap length c.as_slice-rows.ensures.value in
    let h : length c.args.self.now.rows.items ≤ c.args.r = omega (arith, c.if-r-rows.false, long) in
    sym (row_past c.args.self.now.rows.items c.args.r h)
