use Rattle.std.proofs.Common.{◌≡◌, ◌+◌, List, length, map, ap, sym, ◌∙◌, subst, arith}
use Rattle.std.specs.declared.vec.Vec.{Vec}
use Rattle.std.specs.declared.alloc.Global.{Global}
use Rattle.std.proofs.lemmas.List.{with_items_is}
use Rattle.indexical.specs.declared.any.AnyIndexical.{AnyIndexical}
use Rattle.object_pruning.specs.declared.rows.Group.{Group}
use Rattle.object_pruning.specs.InRows.{AreRowsBelow}
use Rattle.object_pruning.proofs.InRows.{rows_made, rows_start}
use Rattle.object_pruning.proofs.row_making.rows_of.Goals as goal

pub loop-k-init : goal.loop-k-init
loop-k-init g c = rows_start (map (λ (y : AnyIndexical g.row.K). y.cond) c.args.list.now) c.args.o.0 c.args.picks.now c.in_ok-rows.rows.items c.in_ok-rows.ensures.0 c.in_ok-rows.ensures.1

pub loop-k-preserved : goal.loop-k-preserved
loop-k-preserved g c =
    let cs = map (λ (y : AnyIndexical g.row.K). y.cond) c.args.list.now in
    let new = c.put_pick.new.rows in
    let long : length new ≡ length c.loop-k.rows.items = c.put_pick.auto.rows ∙ ap length c.deref_mut.ensures.value in
    let back = with_items_is c.loop-k.rows new (omega (arith, long, c.loop-k.rows.ok)) in
    subst (λ (vs : List (Vec Group Global)). AreRowsBelow cs c.args.o.0 c.args.picks.now (c.loop-k.k + 1) vs) (sym back) c.in_ok-put_pick.ensures

pub returns : goal.returns
returns g c =
    let cs = map (λ (y : AnyIndexical g.row.K). y.cond) c.args.list.now in
    let all : c.loop-k.k ≡ length c.args.picks.now = omega (arith, c.loop-k-test.false, c.loop-k.auto.k-end) in
    rows_made cs c.args.o.0 c.args.picks.now c.loop-k.k c.loop-k.rows.items c.deref.result.now c.in_ok-near.near.items all c.loop-k.invariant c.deref.ensures.value c.in_ok-near.ensures c.with_runs.result c.with_runs.ensures.rows c.with_runs.ensures.near
