use Rattle.std.proofs.Common.{◌≡◌, ◌<◌, ◌+◌, true, ℕ, map, set, length, sym, ◌∙◌, subst, arith, rules}
use Rattle.std.proofs.Math.ListN.{length-set}
use Rattle.indexical.specs.declared.any.AnyIndexical.{AnyIndexical}
use Rattle.fixpoint.specs.Links.{AreLinks}
use Rattle.fixpoint.specs.Marks.{MarkRows, IsSquare}
use Rattle.fixpoint.proofs.Woken.{CaughtBelow, caught_start, caught_same, caught_more, caught_end, NotedBelow, noted_start, noted_same, noted_more, noted_end}
use Rattle.fixpoint.proofs.Watching.{LaterBelow, below_start, below_same, below_more, below_end}
use Rattle.fixpoint.proofs.differences.queue_changed.Goals as goal
use Rattle.fixpoint.proofs.differences.queue_changed.Goals.{then-not-is_same, else-not-is_same}

pub loop-u-init : goal.loop-u-init
loop-u-init g c = record {
  caught = caught_start _ c.args.from.now c.args.to.now c.args.queued.now;
  noted = noted_start _ c.args.from.now c.args.to.now c.args.dirty.now;
  square = c.requires.square;
  later = below_start c.args.from.now c.args.to.now c.args.watches.now;
}

pub wake-requires : goal.wake-requires
wake-requires g c =
    let cs = map (λ (x : AnyIndexical g.row.K). x.cond) c.args.list.now in
    let T = c.args.to.now in
    let o = c.requires.objects in
    let q = set c.loop-u.queued c.loop-u.u true in
    let long : length q ≡ length c.args.queued.now = length-set c.loop-u.queued c.loop-u.u true ∙ c.loop-u.auto.queued in
    let links : AreLinks cs (length q) c.args.links.now = subst (λ (n : ℕ). AreLinks cs n c.args.links.now) (sym long) c.requires.links in
    let square : IsSquare (length q) c.loop-u.dirty = subst (λ (n : ℕ). IsSquare n c.loop-u.dirty) (sym long) c.loop-u.invariant.square in
    let object : c.loop-u.u < length q = omega (arith, c.loop-u-test.true, length-set c.loop-u.queued c.loop-u.u true) in
    let objects : length q ≡ length T = long ∙ o.1 in
    search rules

pub loop-u-preserved : goal.loop-u-preserved
loop-u-preserved g c =
    let cs = map (λ (x : AnyIndexical g.row.K). x.cond) c.args.list.now in
    let S = c.args.from.now in
    let T = c.args.to.now in
    let old = c.args.queued.now in
    let q = c.loop-u.queued in
    let u = c.loop-u.u in
    let i = c.loop-u.invariant in
    let rows : length c.loop-u.dirty ≡ length S = i.square.rows ∙ c.requires.objects.1 ∙ sym c.requires.objects.0 in
    elim c.if-not-is_same.branch [
      | then-not-is_same w ↦
          let long : length (set q u true) ≡ length old = length-set q u true ∙ c.loop-u.auto.queued in
          record {
            caught = subst (CaughtBelow cs (u + 1) S T old) (sym w.queued-is) (caught_more cs u S T old q w.wake.new.queued i.caught (omega (arith, c.loop-u-test.true, c.loop-u.auto.queued)) w.wake.ensures.queued);
            noted = subst (NotedBelow cs (u + 1) S T c.args.dirty.now) (sym w.dirty-is) (noted_more cs u S T c.args.dirty.now c.loop-u.dirty w.wake.new.dirty i.noted rows w.wake.ensures.marked);
            square = subst (λ (ms : MarkRows). IsSquare (length old) ms) (sym w.dirty-is) (subst (λ (n : ℕ). IsSquare n w.wake.new.dirty) long w.wake.ensures.square);
            later = subst (LaterBelow (u + 1) S T c.args.watches.now) (sym w.watches-is) (below_more u S T c.args.watches.now c.loop-u.watches w.change.new.self i.later w.change.ensures);
          }
      | else-not-is_same w ↦
          let same = c.is_same.ensures.0 w.if-not-is_same.false in
          record {
            caught = subst (CaughtBelow cs (u + 1) S T old) (sym w.queued-is) (caught_same cs u S T old q i.caught same);
            noted = subst (NotedBelow cs (u + 1) S T c.args.dirty.now) (sym w.dirty-is) (noted_same cs u S T c.args.dirty.now c.loop-u.dirty i.noted same);
            square = subst (λ (ms : MarkRows). IsSquare (length old) ms) (sym w.dirty-is) i.square;
            later = subst (LaterBelow (u + 1) S T c.args.watches.now) (sym w.watches-is) (below_same u S T c.args.watches.now c.loop-u.watches i.later same);
          }
    ]

pub returns-clause-queued : goal.returns-clause-queued
returns-clause-queued g c =
    let o = c.requires.objects in
    caught_end _ c.loop-u.u c.args.from.now c.args.to.now c.args.queued.now c.loop-u.queued (o.0 ∙ sym o.1) (omega (arith, c.loop-u-test.false)) c.loop-u.invariant.caught

pub change-requires : goal.change-requires
change-requires g c = omega (arith, c.loop-u-test.true, c.loop-u.auto.queued, c.requires.objects.1, c.requires.watches, c.loop-u.invariant.later.objects)

pub returns-clause-later : goal.returns-clause-later
returns-clause-later g c =
    let o = c.requires.objects in
    below_end c.loop-u.u c.args.from.now c.args.to.now c.args.watches.now c.loop-u.watches o.0 (omega (arith, c.loop-u-test.false, c.loop-u.auto.queued, o.0, o.1)) c.loop-u.invariant.later

pub returns-clause-noted : goal.returns-clause-noted
returns-clause-noted g c =
    let o = c.requires.objects in
    noted_end _ c.loop-u.u c.args.from.now c.args.to.now c.args.dirty.now c.loop-u.dirty (omega (arith, c.loop-u-test.false, c.loop-u.auto.queued, o.0, o.1)) c.loop-u.invariant.noted
