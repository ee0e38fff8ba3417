use Rattle.std.proofs.Common.{◌≡◌, ℕ, false, get_or, sym, ◌∙◌, subst}
use Rattle.std.proofs.lemmas.Bool.{false≢true}
use Rattle.fixpoint.specs.Marks.{is_marked}
use Rattle.fixpoint.proofs.Woken.{queues_stay, marks_stay}
use Rattle.fixpoint.proofs.waking.wake_at.Goals as goal

pub returns-then-is_woken-clause-queued : goal.returns-then-is_woken-clause-queued
returns-then-is_woken-clause-queued c =
    let woken = (c.is_woken.ensures c.if-is_woken.true).0 in
    queues_stay _ c.args.u c.args.queued.now (λ o ne f e. false≢true (sym (subst (λ (z : ℕ). get_or c.args.queued.now z false ≡ false) e f) ∙ woken))

pub returns-then-is_woken-clause-marked : goal.returns-then-is_woken-clause-marked
returns-then-is_woken-clause-marked c =
    let woken = (c.is_woken.ensures c.if-is_woken.true).1 in
    marks_stay _ c.args.u c.args.dirty.now (λ o ne f e. false≢true (sym (subst (λ (z : ℕ). is_marked c.args.dirty.now z c.args.u ≡ false) e f) ∙ woken))
