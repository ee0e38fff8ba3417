use Rattle.std.proofs.Common.{◌≢◌, arith}
use Rattle.fixpoint.proofs.Partnering.{AmongFirst, at_none, at_more, at_list}
use Rattle.fixpoint.proofs.partners.put_beside.Goals as goal

pub loop-k-init : goal.loop-k-init
loop-k-init c = at_none c.args.number (λ v. AmongFirst c.args.those.now 0 v × (v ≢ c.args.o)) c.args.few.now (λ v p h. absurd (omega (arith, p.0.2)))

pub loop-k-preserved : goal.loop-k-preserved
loop-k-preserved c = at_more c.args.number c.args.o c.args.those.now c.loop-k.k _ c.args.few.now c.loop-k.few c.put_at.new.few c.loop-k-test.true c.loop-k.invariant c.in_ok-put_at.ensures

pub returns : goal.returns
returns c = at_list c.args.number c.args.o c.args.those.now c.loop-k.k c.args.few.now c.loop-k.few c.loop-k-test.false c.loop-k.invariant
