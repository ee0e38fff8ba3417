use Rattle.std.proofs.Common.{rules, ◌≡◌, Result, Ok, Err, sym, ap, ◌∙◌, subst}
use Rattle.geo_tokens.specs.declared.fault.TextFault.{TextFault}
use Rattle.derivation.specs.Events.{Kept}
use Rattle.derivation_reading.specs.FirstFault.{IsText, AnswersDerivation}
use Rattle.derivation_reading.proofs.Answering.{come, end, fault_come, text_come, fault_ended, text_ended, only}
use Rattle.derivation_reading.proofs.Recorded.{of_grammar}
use Rattle.derivation_reading.proofs.feeder.read_derivation.Goals as goal
use Rattle.derivation_reading.proofs.feeder.read_derivation.Goals.{then-not-branch+in_ok-finish, else-not-branch}

feed_failed : (c : goal.After-drop-log) → AnswersDerivation c.from_residual.result c.args.names.now c.args.place c.args.text.now
feed_failed c =
    let n = c.args.names.now in
    let fault = c.in_err-feed.field-0.0 in
    let same : c.from_residual.result ≡ Err fault = search rules in
    let failed : c.feed.result ≡ Err fault = search rules in
    let came = come n c.args.place c.args.text.now c.start-feeder.result c.feed.new.self c.new-log.result.events c.feed.new.out.events c.new-log.ensures.events c.start-feeder.ensures
    c.feed.ensures.come in
    subst (λ (r : Result Kept TextFault). AnswersDerivation r n c.args.place c.args.text.now) (sym same)
    (fault_come n c.args.place c.args.text.now c.feed.new.self c.feed.new.out.events c.feed.result c.feed.ensures.answer fault failed came)

pub returns-in_err-feed-clause-answer : goal.returns-in_err-feed-clause-answer
returns-in_err-feed-clause-answer c = feed_failed c

pub returns-in_err-feed-clause-only : goal.returns-in_err-feed-clause-only
returns-in_err-feed-clause-only c = only c.args.names.now c.args.place c.args.text.now c.from_residual.result (feed_failed c)

finish_failed : (c : goal.After-drop-log-in_err-finish) → AnswersDerivation c.from_residual-in_err-finish.result c.args.names.now c.args.place c.args.text.now
finish_failed c =
    let n = c.args.names.now in
    let fault = c.in_err-finish.field-0.0 in
    let same : c.from_residual-in_err-finish.result ≡ Err fault = search rules in
    let failed : c.finish.result ≡ Err fault = search rules in
    let came = come n c.args.place c.args.text.now c.start-feeder.result c.feed.new.self c.new-log.result.events c.feed.new.out.events c.new-log.ensures.events c.start-feeder.ensures
    c.feed.ensures.come in
    let ended = end n c.args.place c.args.text.now c.feed.new.self c.finish.new.self c.feed.new.out.events c.finish.new.out.events came c.finish.ensures.ended in
    subst (λ (r : Result Kept TextFault). AnswersDerivation r n c.args.place c.args.text.now) (sym same)
    (fault_ended n c.args.place c.args.text.now c.finish.new.self c.finish.new.out.events c.finish.result c.finish.ensures.answer fault failed ended)

pub returns-in_err-finish-clause-answer : goal.returns-in_err-finish-clause-answer
returns-in_err-finish-clause-answer c = finish_failed c

pub returns-in_err-finish-clause-only : goal.returns-in_err-finish-clause-only
returns-in_err-finish-clause-only c = only c.args.names.now c.args.place c.args.text.now c.from_residual-in_err-finish.result (finish_failed c)

whole : (c : goal.After-drop-feeder-2) → IsText c.args.names.now c.args.text.now c.if-not-branch.log.events
whole c =
    let n = c.args.names.now in
    let text = c.args.text.now in
    let came = come n c.args.place text c.start-feeder.result c.feed.new.self c.new-log.result.events c.feed.new.out.events c.new-log.ensures.events c.start-feeder.ensures
    c.feed.ensures.come in
    elim c.if-not-branch.branch [
      | then-not-branch+in_ok-finish w ↦ (
          let there : w.finish.result ≡ Ok w.in_ok-finish.field-0 = search rules in
          let ended = end n c.args.place text c.feed.new.self w.finish.new.self c.feed.new.out.events w.finish.new.out.events came w.finish.ensures.ended in
          subst (λ (k : Kept). IsText n text k.events) (sym w.log-is)
          (text_ended n c.args.place text w.finish.new.self w.finish.new.out.events w.finish.result w.finish.ensures.answer w.in_ok-finish.field-0 there ended))
      | else-not-branch w ↦ (
          let there : c.feed.result ≡ Ok c.in_ok-feed.field-0 = search rules in
          subst (λ (k : Kept). IsText n text k.events) (sym w.log-is)
          (text_come n c.args.place text c.feed.new.self c.feed.new.out.events c.feed.result c.feed.ensures.answer (there ∙ ap Ok w.if-not-branch.false) came))
    ]

pub returns-clause-answer : goal.returns-clause-answer
returns-clause-answer c = whole c

pub returns-clause-only : goal.returns-clause-only
returns-clause-only c = only c.args.names.now c.args.place c.args.text.now (Ok c.if-not-branch.log) (whole c)

pub returns-clause-grammar : goal.returns-clause-grammar
returns-clause-grammar c = of_grammar c.args.names.now c.args.text.now c.if-not-branch.log.events (whole c)
