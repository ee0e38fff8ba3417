use Rattle.object_pruning.proofs.Record.{gone_recorded}
use Rattle.derivation.proofs.Continuing.{growth_added, growth_refused, growth_on, growth_failed}
use Rattle.object_pruning.proofs.prune.record_gone.Goals as goal

pub returns-in-Ok-clause-gone : goal.returns-in-Ok-clause-gone
returns-in-Ok-clause-gone g c = λ kept cs S there none.
    let list = g.R.Recorder.list in
    gone_recorded cs S c.args.o.0 (list c.args.rec.now) (list c.add.new.self) (list c.add-2.new.self) there none (c.in_ok-add.ensures.ok kept) (c.in-Ok.ensures.ok kept)

pub returns-in_err-add-clause-grows : goal.returns-in_err-add-clause-grows
returns-in_err-add-clause-grows g c = growth_failed (growth_refused c.in_err-add.ensures.err c.add.ensures.refusals c.in_err-add.ensures.refused c.in_err-add.ensures.no_record) _ c.from_residual.ensures.0

pub returns-in-Ok-clause-grows : goal.returns-in-Ok-clause-grows
returns-in-Ok-clause-grows g c = growth_on (growth_added _ c.in_ok-add.ensures.ok c.add.ensures.refusals) (growth_added _ c.in-Ok.ensures.ok c.add-2.ensures.refusals)

pub returns-in-Err-clause-grows : goal.returns-in-Err-clause-grows
returns-in-Err-clause-grows g c = growth_on (growth_added _ c.in_ok-add.ensures.ok c.add.ensures.refusals) (growth_refused c.in-Err.ensures.err c.add-2.ensures.refusals c.in-Err.ensures.refused c.in-Err.ensures.no_record)
