use Rattle.std.proofs.Common.{ap, length, ◌∙◌, arith}
use Rattle.std.proofs.Math.Numerals.{add-one}
use Rattle.std.proofs.lemmas.List.{length-append}
use Rattle.derivation.specs.declared.event.Event.{Event}
use Rattle.geo_base.specs.Ways.{key}
use Rattle.derivation.proofs.Continuing.{growth_none, growth_added, growth_refused, growth_on, growth_failed}
use Rattle.sweep.proofs.RecordSteps.{IsOpen-deeper}
use Rattle.sweep.proofs.record.open_chains.Goals as goal

pub loop-p-init : goal.loop-p-init
loop-p-init g c = record { recorded = λ kept T base o. o; length_is = λ kept. omega arith; grows = growth_none _ _ _ }

pub loop-p-preserved : goal.loop-p-preserved
loop-p-preserved g c =
    let way = c.args.way.now in
    let k = key g.row.K way.lead way.up in
    record {
      recorded = λ kept T base o.
          let was = c.loop-p.invariant.recorded kept T base o in
          rw (c.in_ok-add.ensures.ok kept, add-one) (IsOpen-deeper g.row.K way.lead way.up T (k c.args.first.now.coordinates) (k c.args.past.now.coordinates) base c.loop-p.p (k c.args.c.now.coordinates) (k c.args.n.now.coordinates) c.loop-p.marks.places c.set.new.self.places (g.R.Recorder.list c.loop-p.rec) c.cut_before.result
          (omega arith) (c.requires.fresh _ (omega arith) (omega arith)) (c.set.ensures.same ∙ c.mark.ensures.kept kept) c.set.ensures.others was);
      length_is = λ kept. omega (arith, c.loop-p.invariant.length_is kept, ap length (c.in_ok-add.ensures.ok kept), length-append {A = Event});
      grows = growth_on c.loop-p.invariant.grows (growth_added _ c.in_ok-add.ensures.ok c.add.ensures.refusals);
    }

pub returns-in_err-add-clause-few : goal.returns-in_err-add-clause-few
returns-in_err-add-clause-few g c = λ kept. omega (arith, c.loop-p.invariant.length_is kept, ap length (c.in_err-add.ensures.err kept))

pub returns-in_err-add-clause-grows : goal.returns-in_err-add-clause-grows
returns-in_err-add-clause-grows g c =
    growth_failed (growth_on c.loop-p.invariant.grows (growth_refused c.in_err-add.ensures.err c.add.ensures.refusals c.in_err-add.ensures.refused c.in_err-add.ensures.no_record)) _ c.from_residual.ensures.0

pub returns-clause-grows : goal.returns-clause-grows
returns-clause-grows g c = c.loop-p.invariant.grows
