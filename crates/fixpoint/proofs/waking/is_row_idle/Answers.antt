use Rattle.std.proofs.Common.{map}
use Rattle.indexical.specs.declared.any.AnyIndexical.{AnyIndexical}
use Rattle.object_pruning.proofs.LivePicks.{rows_some}
use Rattle.std.proofs.Common.{refl}
use Rattle.fixpoint.specs.Links.{row}
use Rattle.fixpoint.proofs.Idle.{idle_free}
use Rattle.fixpoint.proofs.waking.is_row_idle.Goals as goal

pub returns-in-Some : goal.returns-in-Some
returns-in-Some g c = λ test.
    let cs = map (λ (x : AnyIndexical g.row.K). x.cond) c.args._list.now in
    let S = c.args.s.now in
    let u = c.args.u.0 in
    let r = c.args.r in
    let a = c.requires.rows in
    let rows = c.args.rows.now in
    idle_free cs S u c.requires.fits c.requires.object c.in-Some.near.now (c.is_idle.ensures test) (row rows.rows.items r)
    (rows_some cs S u c.requires.fits c.requires.object a.0 rows a.2 a.1 r (row rows.rows.items r) refl)
    (a.2.near r c.in-Some.near.now c.in-Some.ensures)
