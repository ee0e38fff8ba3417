use Rattle.std.proofs.Common.{◌≡◌, ℕ, false, map, get_or, sym, ◌∙◌, subst, arith}
use Rattle.std.proofs.lemmas.Bool.{false≢true}
use Rattle.indexical.specs.declared.any.AnyIndexical.{AnyIndexical}
use Rattle.object_pruning.specs.InRows.{IsInGroup}
use Rattle.fixpoint.specs.Marks.{is_marked}
use Rattle.fixpoint.proofs.Woken.{queues_stay, queues_weaker, marks_stay, marks_weaker, by_pair}
use Rattle.fixpoint.proofs.waking.wake_one.Goals as goal

pub returns-then-v-changed-clause-queued : goal.returns-then-v-changed-clause-queued
returns-then-v-changed-clause-queued g c =
    let cs = map (λ (x : AnyIndexical g.row.K). x.cond) c.args.list.now in
    queues_stay _ c.args.u.0 c.args.queued.now (λ o ne f. by_pair cs c.args.s.now (IsInGroup c.args.group.now) c.args.u.0 c.args.v c.requires.pair o ne (λ e. ne (e ∙ c.if-v-changed.true)))

pub returns-then-v-changed-clause-marked : goal.returns-then-v-changed-clause-marked
returns-then-v-changed-clause-marked g c =
    let cs = map (λ (x : AnyIndexical g.row.K). x.cond) c.args.list.now in
    marks_stay _ c.args.u.0 c.args.dirty.now (λ o ne f. by_pair cs c.args.s.now (IsInGroup c.args.group.now) c.args.u.0 c.args.v c.requires.pair o ne (λ e. ne (e ∙ c.if-v-changed.true)))

pub returns-then-is_woken-clause-queued : goal.returns-then-is_woken-clause-queued
returns-then-is_woken-clause-queued g c =
    let cs = map (λ (x : AnyIndexical g.row.K). x.cond) c.args.list.now in
    let woken = (c.is_woken.ensures c.if-is_woken.true).0 in
    queues_stay _ c.args.u.0 c.args.queued.now (λ o ne f. by_pair cs c.args.s.now (IsInGroup c.args.group.now) c.args.u.0 c.args.v c.requires.pair o ne (λ e. false≢true (sym (subst (λ (z : ℕ). get_or c.args.queued.now z false ≡ false) e f) ∙ woken)))

pub returns-then-is_woken-clause-marked : goal.returns-then-is_woken-clause-marked
returns-then-is_woken-clause-marked g c =
    let cs = map (λ (x : AnyIndexical g.row.K). x.cond) c.args.list.now in
    let woken = (c.is_woken.ensures c.if-is_woken.true).1 in
    marks_stay _ c.args.u.0 c.args.dirty.now (λ o ne f. by_pair cs c.args.s.now (IsInGroup c.args.group.now) c.args.u.0 c.args.v c.requires.pair o ne (λ e. false≢true (sym (subst (λ (z : ℕ). is_marked c.args.dirty.now z c.args.u.0 ≡ false) e f) ∙ woken)))

pub returns-then-may_hinder-clause-queued : goal.returns-then-may_hinder-clause-queued
returns-then-may_hinder-clause-queued g c =
    let cs = map (λ (x : AnyIndexical g.row.K). x.cond) c.args.list.now in
    queues_weaker _ _ c.args.u.0 c.args.queued.now c.wake_at.new.queued (λ o ne h f. by_pair cs c.args.s.now (IsInGroup c.args.group.now) c.args.u.0 c.args.v c.requires.pair o ne f) c.wake_at.ensures.queued

pub returns-then-may_hinder-clause-marked : goal.returns-then-may_hinder-clause-marked
returns-then-may_hinder-clause-marked g c =
    let cs = map (λ (x : AnyIndexical g.row.K). x.cond) c.args.list.now in
    marks_weaker _ _ c.args.u.0 c.args.dirty.now c.wake_at.new.dirty (λ o ne h f. by_pair cs c.args.s.now (IsInGroup c.args.group.now) c.args.u.0 c.args.v c.requires.pair o ne f) c.wake_at.ensures.marked

pub returns-else-may_hinder-clause-queued : goal.returns-else-may_hinder-clause-queued
returns-else-may_hinder-clause-queued g c = queues_stay _ c.args.u.0 c.args.queued.now (λ o ne f. c.may_hinder.ensures c.if-may_hinder.false o ne)

pub returns-else-may_hinder-clause-marked : goal.returns-else-may_hinder-clause-marked
returns-else-may_hinder-clause-marked g c = marks_stay _ c.args.u.0 c.args.dirty.now (λ o ne f. c.may_hinder.ensures c.if-may_hinder.false o ne)

pub returns-then-v-changed-clause-square : goal.returns-then-v-changed-clause-square
returns-then-v-changed-clause-square g c = c.requires.square

pub returns-then-is_woken-clause-square : goal.returns-then-is_woken-clause-square
returns-then-is_woken-clause-square g c = c.requires.square

pub returns-then-may_hinder-clause-square : goal.returns-then-may_hinder-clause-square
returns-then-may_hinder-clause-square g c = c.wake_at.ensures.square

pub returns-else-may_hinder-clause-square : goal.returns-else-may_hinder-clause-square
returns-else-may_hinder-clause-square g c = c.requires.square

pub returns-then-idle-clause-queued : goal.returns-then-idle-clause-queued
returns-then-idle-clause-queued g c = queues_stay _ c.args.u.0 c.args.queued.now (λ o ne f. c.requires.idle c.if-idle.true o ne)

pub returns-then-idle-clause-marked : goal.returns-then-idle-clause-marked
returns-then-idle-clause-marked g c = marks_stay _ c.args.u.0 c.args.dirty.now (λ o ne f. c.requires.idle c.if-idle.true o ne)

pub returns-then-idle-clause-square : goal.returns-then-idle-clause-square
returns-then-idle-clause-square g c = c.requires.square

pub is_woken-requires : goal.is_woken-requires
is_woken-requires g c = record { objects = c.requires.objects; square = c.requires.square }

pub may_hinder-requires : goal.may_hinder-requires
may_hinder-requires g c = (omega arith, (omega arith, (c.requires.fits, c.requires.numbers)))

pub wake_at-requires : goal.wake_at-requires
wake_at-requires g c = record { objects = (c.requires.objects.0, c.requires.objects.1, c.if-v-changed.false); square = c.requires.square }
