use Rattle.std.proofs.Common.{◌≡◌, ℕ, ◌<◌, ◌+◌, ◌-◌, length, map, get_or, ap, sym, ◌∙◌, subst, inl, inr, arith}
use Rattle.std.proofs.lemmas.Bool.{cases_eq}
use Rattle.std.proofs.lemmas.List.{length-map, get_or-map}
use Rattle.smallvec.specs.SmallVec.{SmallVec}
use Rattle.geo_conditions.specs.declared.cond.Cond.{Cond}
use Rattle.geo_conditions.specs.declared.object.ObjId.{ObjId}
use Rattle.geo_conditions.specs.Conditions.{FitsIn}
use Rattle.indexical.specs.declared.any.AnyIndexical.{AnyIndexical}
use Rattle.object_pruning.proofs.LivePicks.{at_number}
use Rattle.object_pruning.specs.InRows.{IsInGroup}
use Rattle.fixpoint.specs.Links.{NamedBy}
use Rattle.fixpoint.specs.Marks.{IsSquare}
use Rattle.fixpoint.specs.Near.{Unhinders, UnhinderedBy}
use Rattle.fixpoint.specs.Pairs.{names_at}
use Rattle.fixpoint.proofs.Linking.{names_get}
use Rattle.fixpoint.proofs.Woken.{queues_none, queues_both, queues_weaker, marks_none, marks_both, marks_weaker, free_both, free_one}
use Rattle.fixpoint.proofs.waking.wake_others.Goals as goal

pub loop-i-init : goal.loop-i-init
loop-i-init g c = record {
  queued = queues_none _ c.args.u.0 c.args.queued.now (λ o n h i x p e. absurd (omega (arith, p.0.0, p.1)));
  marked = marks_none _ c.args.u.0 c.args.dirty.now (λ o n h i x p e. absurd (omega (arith, p.0.0, p.1)));
  square = c.requires.square;
}

pub index-requires : goal.index-requires
index-requires g c =
    let b = (c.requires.numbers c.loop-i.i (omega arith, omega arith)).1 in
    let n = length-map c.args.list.now (λ (x : AnyIndexical g.row.K). x.cond) in
    omega (arith, b, n, c.requires.links.conditions, c.args.links.now.named.ok.0)

pub wake_named-requires : goal.wake_named-requires
wake_named-requires g c =
    let f = λ (x : AnyIndexical g.row.K). x.cond in
    let cs = map f c.args.list.now in
    let S = c.args.s.now in
    let l = c.args.links.now in
    let a = c.requires.links in
    let u = c.args.u.0 in
    let i = c.loop-i.i - 1 in
    let m : i < length c.args.list.now = (c.requires.numbers c.loop-i.i (omega arith, omega arith)).1 in
    let n : length cs ≡ length c.args.list.now = length-map c.args.list.now (λ x. x.cond) in
    let b : i < length l.named.items = omega (arith, m, n, a.conditions) in
    let x = c.index-list-i.result in
    let at : (d : Cond) → get_or cs i d ≡ x.cond = λ d. get_or-map f c.args.list.now i x d m ∙ ap f (sym c.index-list-i.is) in
    let q : c.as_slice-named.result.now ≡ names_at l.named.items i = c.as_slice-named.ensures ∙ ap (λ (v : SmallVec ObjId). v.items) c.index.ensures ∙ sym (names_get l.named.items i c.index.result.now b) in
    let fits : FitsIn x.cond S = subst (λ (y : Cond). FitsIn y S) (at x.cond) (c.requires.fits i x.cond (omega (arith, m, n))) in
    let here : NamedBy x.cond (length c.args.queued.now) c.as_slice-named.result.now = subst (λ (y : Cond). NamedBy y (length c.args.queued.now) c.as_slice-named.result.now) (at x.cond) (subst (NamedBy (get_or cs i x.cond) (length c.args.queued.now)) (sym q) (a.named i x.cond (omega (arith, m, n)))) in
    let named : NamedBy x.cond (length c.loop-i.queued) c.as_slice-named.result.now = subst (λ (z : ℕ). NamedBy x.cond z c.as_slice-named.result.now) (sym c.loop-i.auto.queued) here in
    let square : IsSquare (length c.loop-i.queued) c.loop-i.dirty = subst (λ (z : ℕ). IsSquare z c.loop-i.dirty) (sym c.loop-i.auto.queued) c.loop-i.invariant.square in
    let there : u < length c.loop-i.queued = omega (arith, c.requires.object, c.loop-i.auto.queued) in
    (omega arith, (omega arith, (fits, (named, (there, square)))))

pub loop-i-preserved : goal.loop-i-preserved
loop-i-preserved g c =
    let f = λ (x : AnyIndexical g.row.K). x.cond in
    let cs = map f c.args.list.now in
    let S = c.args.s.now in
    let u = c.args.u.0 in
    let group = c.args.group.now in
    let k = c.loop-i.i in
    let i = k - 1 in
    let m : i < length c.args.list.now = (c.requires.numbers k (omega arith, omega arith)).1 in
    let x = c.index-list-i.result in
    let at = at_number f c.args.list.now i x m c.index-list-i.is in
    let v = c.loop-i.invariant in
    let next : (o : ℕ) → UnhinderedBy cs S (λ j. IsInGroup group j × (j < k)) o → Unhinders x.cond S o → UnhinderedBy cs S (λ j. IsInGroup group j × (j < k + 1)) o = λ o f h. free_both cs S o (λ j. IsInGroup group j × (j < k)) (λ j. j ≡ k) (λ j. IsInGroup group j × (j < k + 1)) (λ j r. elim (cases_eq j k) [ inl e ↦ inr e | inr ne ↦ inl (r.0, omega (arith, r.1, ne)) ]) f (free_one cs S o k x.cond at h) in
    record {
      queued = queues_both _ _ _ u c.args.queued.now c.loop-i.queued c.wake_named.new.queued next v.queued c.wake_named.ensures.queued;
      marked = marks_both _ _ _ u c.args.dirty.now c.loop-i.dirty c.wake_named.new.dirty c.loop-i.auto.dirty next v.marked c.wake_named.ensures.marked;
      square = subst (λ (z : ℕ). IsSquare z c.wake_named.new.dirty) c.loop-i.auto.queued c.wake_named.ensures.square;
    }

pub returns-clause-queued : goal.returns-clause-queued
returns-clause-queued g c = queues_weaker _ _ c.args.u.0 c.args.queued.now c.loop-i.queued (λ o ne h f i x a e. f i x (a, omega (arith, a.1, c.loop-i-test.false)) e) c.loop-i.invariant.queued

pub returns-clause-marked : goal.returns-clause-marked
returns-clause-marked g c = marks_weaker _ _ c.args.u.0 c.args.dirty.now c.loop-i.dirty (λ o ne h f i x a e. f i x (a, omega (arith, a.1, c.loop-i-test.false)) e) c.loop-i.invariant.marked

pub overflow_sub-i : goal.overflow_sub-i
overflow_sub-i g c = let b = (c.requires.numbers c.loop-i.i (omega arith, omega arith)).0 in omega (arith, b)

pub overflow_sub-i-in-loop-i : goal.overflow_sub-i-in-loop-i
overflow_sub-i-in-loop-i g c = let b = (c.requires.numbers c.loop-i.i (omega arith, omega arith)).0 in omega (arith, b)

pub bounds-list-i : goal.bounds-list-i
bounds-list-i g c = (c.requires.numbers c.loop-i.i (omega arith, omega arith)).1

pub returns-clause-square : goal.returns-clause-square
returns-clause-square g c = c.loop-i.invariant.square
