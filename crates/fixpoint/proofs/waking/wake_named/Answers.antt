use Rattle.std.proofs.Common.{sym, ◌∙◌, arith}
use Rattle.std.proofs.lemmas.Bool.{false≢true}
use Rattle.fixpoint.proofs.Woken.{queues_none, queues_weaker, marks_none, marks_weaker}
use Rattle.fixpoint.proofs.waking.wake_named.Goals as goal

pub returns-then-surely_leaves_free-clause-queued : goal.returns-then-surely_leaves_free-clause-queued
returns-then-surely_leaves_free-clause-queued g c = queues_none _ c.args.u.0 c.args.queued.now (λ o ne h n s p. (c.surely_leaves_free.ensures c.if-surely_leaves_free.true) o s p ne n)

pub returns-then-surely_leaves_free-clause-marked : goal.returns-then-surely_leaves_free-clause-marked
returns-then-surely_leaves_free-clause-marked g c = marks_none _ c.args.u.0 c.args.dirty.now (λ o ne h n s p. (c.surely_leaves_free.ensures c.if-surely_leaves_free.true) o s p ne n)

pub returns-clause-queued : goal.returns-clause-queued
returns-clause-queued g c = queues_weaker _ _ c.args.u.0 c.args.queued.now c.mark.new.queued (λ o ne h f n. absurd (false≢true (sym f ∙ c.requires.named.each o h ∙ n))) c.mark.ensures.queued

pub returns-clause-marked : goal.returns-clause-marked
returns-clause-marked g c = marks_weaker _ _ c.args.u.0 c.args.dirty.now c.mark.new.dirty (λ o ne h f n. absurd (false≢true (sym f ∙ c.requires.named.each o (omega (arith, h, c.requires.square.rows)) ∙ n))) c.mark.ensures.marked

pub returns-then-surely_leaves_free-clause-square : goal.returns-then-surely_leaves_free-clause-square
returns-then-surely_leaves_free-clause-square g c = c.requires.square

pub returns-clause-square : goal.returns-clause-square
returns-clause-square g c = c.mark.ensures.square

pub surely_leaves_free-requires : goal.surely_leaves_free-requires
surely_leaves_free-requires g c = (omega arith, (omega arith, c.requires.fits))

pub mark-requires : goal.mark-requires
mark-requires g c = record { list = c.requires.named.below; object = c.requires.object; square = c.requires.square }
