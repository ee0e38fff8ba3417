use Rattle.std.proofs.Common.{◌≡◌, ◌+◌, ◌++◌, ◌∷◌, [], ℕ, Bool, false, List, length, take, get_or, refl, sym, subst, rules}
use Rattle.std.proofs.lemmas.List.{take_more, take_all}
use Rattle.geo_conditions.specs.declared.object.ObjId.{ObjId}
use Rattle.fixpoint.specs.Links.{is_among}
use Rattle.fixpoint.specs.Marks.{MarkRows, IsSquare, MarksAt}
use Rattle.fixpoint.specs.Queue.{Queues}
use Rattle.fixpoint.proofs.Woken.{Marked, marked_put, marked_skip, queues_none, marks_none}
use Rattle.fixpoint.proofs.waking.mark.Goals as goal
use Rattle.fixpoint.proofs.waking.mark.Goals.{then-o-u, else-o-u}

pub loop-o-init : goal.loop-o-init
loop-o-init c = record {
  queued = queues_none _ c.args.u c.args.queued.now (λ o n h. refl);
  marked = marks_none _ c.args.u c.args.dirty.now (λ o n h. refl);
  square = c.requires.square;
}

pub wake_at-requires : goal.wake_at-requires
wake_at-requires c =
    let i = c.loop-o.o-index in
    let m = c.loop-o.invariant in
    let there = c.requires.list i (record { 0 = 0 }) c.loop-o-test.true in
    let square : IsSquare (length c.loop-o.queued) c.loop-o.dirty = subst (λ (n : ℕ). IsSquare n c.loop-o.dirty) (sym c.loop-o.auto.queued) m.square in
    search rules

pub loop-o-preserved : goal.loop-o-preserved
loop-o-preserved c =
    let list = c.args.list.now in
    let i = c.loop-o.o-index in
    let o : ObjId = get_or list i (record { 0 = 0 }) in
    let u = c.args.u in
    let q = c.loop-o.queued in
    let marks = c.loop-o.dirty in
    let m = c.loop-o.invariant in
    let more : take (i + 1) list ≡ take i list ++ o ∷ [] = take_more list i (record { 0 = 0 }) c.loop-o-test.true in
    subst (λ (l : List ObjId). Marked u l c.args.queued.now c.if-o-u.queued c.args.dirty.now c.if-o-u.dirty) (sym more) (elim c.if-o-u.branch [
      | then-o-u w ↦
          let new = w.wake_at.new.queued in
          let after = w.wake_at.new.dirty in
          let square : IsSquare (length c.args.queued.now) after = subst (λ (n : ℕ). IsSquare n after) c.loop-o.auto.queued w.wake_at.ensures.square in
          subst (λ (xs : List Bool). Marked u (take i list ++ o ∷ []) c.args.queued.now xs c.args.dirty.now c.if-o-u.dirty) (sym w.queued-is) (
          subst (λ (ms : MarkRows). Marked u (take i list ++ o ∷ []) c.args.queued.now new c.args.dirty.now ms) (sym w.dirty-is)
          (marked_put u (take i list) o c.args.queued.now q new c.args.dirty.now marks after c.loop-o.auto.dirty w.wake_at.ensures.queued w.wake_at.ensures.marked square m))
      | else-o-u w ↦
          subst (λ (xs : List Bool). Marked u (take i list ++ o ∷ []) c.args.queued.now xs c.args.dirty.now c.if-o-u.dirty) (sym w.queued-is) (
          subst (λ (ms : MarkRows). Marked u (take i list ++ o ∷ []) c.args.queued.now q c.args.dirty.now ms) (sym w.dirty-is)
          (marked_skip u (take i list) o c.args.queued.now q c.args.dirty.now marks w.if-o-u.false m.queued m.marked m.square))
    ])

pub returns-clause-queued : goal.returns-clause-queued
returns-clause-queued c = subst (λ (l : List ObjId). Queues (λ o. is_among o l ≡ false) c.args.u c.args.queued.now c.loop-o.queued) (take_all c.loop-o.o-index c.args.list.now c.loop-o-test.false) c.loop-o.invariant.queued

pub returns-clause-marked : goal.returns-clause-marked
returns-clause-marked c = subst (λ (l : List ObjId). MarksAt (λ o. is_among o l ≡ false) c.args.u c.args.dirty.now c.loop-o.dirty) (take_all c.loop-o.o-index c.args.list.now c.loop-o-test.false) c.loop-o.invariant.marked
