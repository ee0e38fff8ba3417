use Rattle.std.proofs.Common.{◌≡◌, ◌<◌, ℕ, length, map, get_or, sym, ◌∙◌, subst, arith}
use Rattle.std.proofs.lemmas.Option.{slice_get-get_or}
use Rattle.indexical.specs.declared.any.AnyIndexical.{AnyIndexical}
use Rattle.object_pruning.specs.declared.rows.Group.{Group}
use Rattle.object_pruning.specs.InRows.{IsSomeGroup}
use Rattle.fixpoint.specs.Links.{AreLinks}
use Rattle.fixpoint.specs.Marks.{IsSquare}
use Rattle.fixpoint.proofs.Woken.{queues_none, queues_both, queues_weaker, marks_none, marks_both, marks_weaker, free_group, free_groups}
use Rattle.fixpoint.proofs.waking.wake_row.Goals as goal

pub loop-k-init : goal.loop-k-init
loop-k-init g c = record {
  queued = queues_none _ c.args.u.0 c.args.queued.now (λ o n h i x p e. absurd (omega (arith, p.2)));
  marked = marks_none _ c.args.u.0 c.args.dirty.now (λ o n h i x p e. absurd (omega (arith, p.2)));
  square = c.requires.square;
}

pub wake_group-requires : goal.wake_group-requires
wake_group-requires g c =
    let cs = map (λ (x : AnyIndexical g.row.K). x.cond) c.args.list.now in
    let gs = c.args.groups.now in
    let k = c.loop-k.k in
    let q = c.loop-k.queued in
    let some : (d : Group) → IsSomeGroup cs c.args.u.0 (get_or gs k d) = λ d. c.requires.groups k (get_or gs k d) (slice_get-get_or gs k d c.loop-k-test.true) in
    let links : AreLinks cs (length q) c.args.links.now = subst (λ (m : ℕ). AreLinks cs m c.args.links.now) (sym c.loop-k.auto.queued) c.requires.links in
    let there : (c.args.u.0 < length q) × (length q ≡ length c.args.s.now) = (omega (arith, c.requires.object.0, c.loop-k.auto.queued), c.loop-k.auto.queued ∙ c.requires.object.1) in
    let square : IsSquare (length q) c.loop-k.dirty = subst (λ (z : ℕ). IsSquare z c.loop-k.dirty) (sym c.loop-k.auto.queued) c.loop-k.invariant.square in
    (omega arith, (omega arith, (c.requires.fits, (links, (some _, ((λ t v e. c.requires.idle t k (get_or gs k _) v (slice_get-get_or gs k _ c.loop-k-test.true) e), (there, square)))))))

pub loop-k-preserved : goal.loop-k-preserved
loop-k-preserved g c =
    let cs = map (λ (x : AnyIndexical g.row.K). x.cond) c.args.list.now in
    let S = c.args.s.now in
    let u = c.args.u.0 in
    let gs = c.args.groups.now in
    let k = c.loop-k.k in
    let i = c.loop-k.invariant in
    record {
      queued = queues_both _ _ _ u c.args.queued.now c.loop-k.queued c.wake_group.new.queued (λ o. free_group cs S o gs k _ c.loop-k-test.true) i.queued c.wake_group.ensures.queued;
      marked = marks_both _ _ _ u c.args.dirty.now c.loop-k.dirty c.wake_group.new.dirty c.loop-k.auto.dirty (λ o. free_group cs S o gs k _ c.loop-k-test.true) i.marked c.wake_group.ensures.marked;
      square = subst (λ (z : ℕ). IsSquare z c.wake_group.new.dirty) c.loop-k.auto.queued c.wake_group.ensures.square;
    }

pub returns-clause-queued : goal.returns-clause-queued
returns-clause-queued g c =
    let cs = map (λ (x : AnyIndexical g.row.K). x.cond) c.args.list.now in
    queues_weaker _ _ c.args.u.0 c.args.queued.now c.loop-k.queued (λ o ne h. free_groups cs c.args.s.now o c.args.groups.now c.loop-k.k (omega (arith, c.loop-k-test.false))) c.loop-k.invariant.queued

pub returns-clause-marked : goal.returns-clause-marked
returns-clause-marked g c =
    let cs = map (λ (x : AnyIndexical g.row.K). x.cond) c.args.list.now in
    marks_weaker _ _ c.args.u.0 c.args.dirty.now c.loop-k.dirty (λ o ne h. free_groups cs c.args.s.now o c.args.groups.now c.loop-k.k (omega (arith, c.loop-k-test.false))) c.loop-k.invariant.marked
