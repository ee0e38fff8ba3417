use Rattle.std.proofs.Common.{◌≡◌, ◌<◌, ◌∙◌, ℕ, List, length, map, sym, subst, arith, rules, true, Some}
use Rattle.std.specs.Prelude.{slice_get}
use Rattle.indexical.specs.declared.any.AnyIndexical.{AnyIndexical}
use Rattle.object_pruning.specs.declared.rows.Group.{Group}
use Rattle.object_pruning.specs.declared.rows.Rows.{Rows}
use Rattle.object_pruning.specs.InRows.{AreRows, HaveNumber, IsSomeGroup}
use Rattle.object_pruning.proofs.LivePicks.{rows_some}
use Rattle.fixpoint.specs.Links.{AreLinks, AreSomeRows, IsByPlace, row}
use Rattle.fixpoint.specs.Marks.{IsSquare, MarksAt}
use Rattle.fixpoint.specs.Near.{LeavesPairsFree, UnhinderedBy}
use Rattle.fixpoint.specs.Queue.{Queues}
use Rattle.fixpoint.proofs.Woken.{queues_both, marks_both, free_end}
use Rattle.fixpoint.proofs.waking.wake.Goals as goal

pub wake_row-requires : goal.wake_row-requires
wake_row-requires g c =
    let cs = map (λ (x : AnyIndexical g.row.K). x.cond) c.args.list.now in
    let u = c.args.u in
    let l = c.args.links.now in
    let own = c.index-rows.result.now in
    let are : AreRows cs u (row l.picks.items u) own = subst (AreRows cs u (row l.picks.items u)) (sym c.index-rows.ensures) (c.requires.links.rows.each u own c.requires.object.0) in
    let there : u < length c.args.s.now = omega (arith, c.requires.object.0, c.requires.object.1) in
    let some : (k : ℕ) (h : Group) → slice_get c.row.result.now k ≡ Some h → IsSomeGroup cs u h = rows_some cs c.args.s.now u c.requires.fits there (row l.picks.items u) own are (c.requires.links.picks u c.requires.object.0).within 0 c.row.result.now c.row.ensures in
    let idle : c.is_row_idle-idle.result ≡ true → LeavesPairsFree cs c.args.s.now u c.row.result.now = λ t. subst (LeavesPairsFree cs c.args.s.now u) (sym c.row.ensures) (c.is_row_idle-idle.ensures t) in
    search rules

pub is_row_idle-idle-requires : goal.is_row_idle-idle-requires
is_row_idle-idle-requires g c =
    let cs = map (λ (x : AnyIndexical g.row.K). x.cond) c.args.list.now in
    let u = c.args.u in
    let l = c.args.links.now in
    let own = c.index-rows.result.now in
    let are : AreRows cs u (row l.picks.items u) own = subst (AreRows cs u (row l.picks.items u)) (sym c.index-rows.ensures) (c.requires.links.rows.each u own c.requires.object.0) in
    let some : AreSomeRows cs u own = (row l.picks.items u, (c.requires.links.picks u c.requires.object.0).within, are) in
    let there : u < length c.args.s.now = omega (arith, c.requires.object.0, c.requires.object.1) in
    search rules

pub wake_by_place-requires : goal.wake_by_place-requires
wake_by_place-requires g c =
    let cs = map (λ (x : AnyIndexical g.row.K). x.cond) c.args.list.now in
    let n = length c.args.queued.now in
    let u = c.args.u in
    let l = c.args.links.now in
    let own = c.index-rows.result.now in
    let q = c.wake_row.new.queued in
    let dirty = c.wake_row.new.dirty in
    let are : AreRows cs u (row l.picks.items u) own = subst (AreRows cs u (row l.picks.items u)) (sym c.index-rows.ensures) (c.requires.links.rows.each u own c.requires.object.0) in
    let some : AreSomeRows cs u own = (row l.picks.items u, (c.requires.links.picks u c.requires.object.0).within, are) in
    let long : length q ≡ n = c.wake_row.auto.queued in
    let links : AreLinks cs (length q) l = subst (λ (m : ℕ). AreLinks cs m l) (sym long) c.requires.links in
    let square : IsSquare (length q) dirty = subst (λ (m : ℕ). IsSquare m dirty) (sym long) c.wake_row.ensures.square in
    let there : (u < length q) × (length q ≡ length c.args.s.now) = (omega (arith, long, c.requires.object.0), long ∙ c.requires.object.1) in
    search rules

pub returns-clause-queued : goal.returns-clause-queued
returns-clause-queued g c =
    let cs = map (λ (x : AnyIndexical g.row.K). x.cond) c.args.list.now in
    let S = c.args.s.now in
    let n = length c.args.queued.now in
    let u = c.args.u in
    let l = c.args.links.now in
    let own = c.index-rows.result.now in
    let old = c.args.queued.now in
    let mid = c.wake_row.new.queued in
    let new = c.wake_by_place.new.queued in
    let row_first = subst (λ (gs : List Group). Queues (UnhinderedBy cs S (HaveNumber gs)) u old mid) c.row.ensures c.wake_row.ensures.queued in
    let first = subst (λ (r : Rows). Queues (UnhinderedBy cs S (HaveNumber (row r.rows.items 0))) u old mid) c.index-rows.ensures row_first in
    let second = subst (λ (r : Rows). Queues (UnhinderedBy cs S (IsByPlace r)) u mid new) c.index-rows.ensures c.wake_by_place.ensures.queued in
    queues_both _ _ _ u old mid new (λ o. free_end cs S o n u l own c.requires.links c.requires.object.0) first second

pub returns-clause-marked : goal.returns-clause-marked
returns-clause-marked g c =
    let cs = map (λ (x : AnyIndexical g.row.K). x.cond) c.args.list.now in
    let S = c.args.s.now in
    let n = length c.args.queued.now in
    let u = c.args.u in
    let l = c.args.links.now in
    let own = c.index-rows.result.now in
    let old = c.args.dirty.now in
    let mid = c.wake_row.new.dirty in
    let new = c.wake_by_place.new.dirty in
    let row_first = subst (λ (gs : List Group). MarksAt (UnhinderedBy cs S (HaveNumber gs)) u old mid) c.row.ensures c.wake_row.ensures.marked in
    let first = subst (λ (r : Rows). MarksAt (UnhinderedBy cs S (HaveNumber (row r.rows.items 0))) u old mid) c.index-rows.ensures row_first in
    let second = subst (λ (r : Rows). MarksAt (UnhinderedBy cs S (IsByPlace r)) u mid new) c.index-rows.ensures c.wake_by_place.ensures.marked in
    marks_both _ _ _ u old mid new c.wake_row.auto.dirty (λ o. free_end cs S o n u l own c.requires.links c.requires.object.0) first second
