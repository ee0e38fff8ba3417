use Rattle.std.proofs.Common.{List, [], ◌∷◌, ◌++◌, ap, ◌∙◌, append_assoc, length, arith}
use Rattle.std.proofs.lemmas.List.{length-append}
use Rattle.derivation.specs.declared.event.Event.{Event}
use Rattle.derivation.specs.declared.event.Event.TheVariants.{By}
use Rattle.derivation.proofs.Continuing.{growth_added, growth_refused, growth_on, growth_failed}
use Rattle.sweep.proofs.record.record_found.Goals as goal

pub returns-in_err-add-clause-few : goal.returns-in_err-add-clause-few
returns-in_err-add-clause-few g c = λ kept. omega (arith, ap length (c.in_err-add.ensures.err kept))

pub returns-in_err-add-clause-grows : goal.returns-in_err-add-clause-grows
returns-in_err-add-clause-grows g c = growth_failed (growth_refused c.in_err-add.ensures.err c.add.ensures.refusals c.in_err-add.ensures.refused c.in_err-add.ensures.no_record) _ c.from_residual.ensures.0

pub returns-in_err-add-2-clause-few : goal.returns-in_err-add-2-clause-few
returns-in_err-add-2-clause-few g c = λ kept. omega (arith, ap length (c.in_ok-add.ensures.ok kept), ap length (c.in_err-add-2.ensures.err kept), length-append {A = Event})

pub returns-in_err-add-2-clause-grows : goal.returns-in_err-add-2-clause-grows
returns-in_err-add-2-clause-grows g c =
    growth_failed (growth_on (growth_added _ c.in_ok-add.ensures.ok c.add.ensures.refusals) (growth_refused c.in_err-add-2.ensures.err c.add-2.ensures.refusals c.in_err-add-2.ensures.refused c.in_err-add-2.ensures.no_record)) _ c.from_residual-in_err-add-2.ensures.0

pub returns-clause-few : goal.returns-clause-few
returns-clause-few g c = λ kept. omega (arith, ap length (c.in_ok-add.ensures.ok kept), ap length (c.in_ok-add-2.ensures.ok kept), length-append {A = Event})

pub returns-clause-grows : goal.returns-clause-grows
returns-clause-grows g c = growth_on (growth_added _ c.in_ok-add.ensures.ok c.add.ensures.refusals) (growth_added _ c.in_ok-add-2.ensures.ok c.add-2.ensures.refusals)

pub returns-clause-ok : goal.returns-clause-ok
returns-clause-ok g c = λ kept.
    let cut = c.cut_before.result in (
      cut,
      c.cut_before.ensures,
      c.in_ok-add-2.ensures.ok kept
          ∙ ap (λ (es : List Event). es ++ By c.args.number ∷ []) (c.in_ok-add.ensures.ok kept) ∙ append_assoc (g.R.Recorder.list c.args.rec.now) (cut ∷ []) (By c.args.number ∷ []),
    )
