use Rattle.std.proofs.Common.{List, subst}
use Rattle.geo_conditions.specs.declared.cond.Cond.{Cond}
use Rattle.command_input.proofs.Taking.{sum_most}
use Rattle.check_commands.specs.Check.{check_question}
use Rattle.check_commands.specs.Checks.{FindsBehind, bytes_before}
use Rattle.check_commands.specs.Claims.{no_layout}
use Rattle.check_commands.proofs.Behind.{decides, decides_refused, finds_behind, taken_front}
use Rattle.check_commands.proofs.Serving.{serves_none}
use Rattle.check_commands.proofs.check.CheckDeciding.decide.Goals as goal

pub returns-in-Err-clause-answer : goal.returns-in-Err-clause-answer
returns-in-Err-clause-answer g c =
    let r = c.in_ok-reply_to-in-Err.field-0 in
    decides_refused no_layout check_question (λ i t s a. a) (g.S.Source.left c.args.source.now) r.text.items r.status (g.S.Source.left c.take_front.new.source) c.in_ok-front.field-0 c.in-Err.fault c.in-Err.is c.in_ok-front.ensures.answer c.in_ok-reply_to-in-Err.ensures

pub returns-clause-answer : goal.returns-clause-answer
returns-clause-answer g c =
    let left = g.S.Source.left c.args.source.now in
    let new = g.S.Source.left c.take_front.new.source in
    let r = c.in_ok-reply_to.field-0 in
    let f = c.in-Ok.front in
    let front = taken_front left new c.in_ok-front.field-0 f c.in-Ok.is c.in_ok-front.ensures.answer in
    decides no_layout check_question (λ i t s a. a) left r.text.items r.status c.in_ok-found.found c.in_ok-reply_to.ensures
    (finds_behind left new f front no_layout f.accepted.conditions.items (serves_none (bytes_before f.second) f.accepted front.problem) c.in_ok-found.found
    (subst (λ (cs : List Cond). FindsBehind f.accepted.problem cs f.second new c.in_ok-found.found) c.as_slice-conditions.ensures.value c.in_ok-found.ensures.answer))

pub returns-in_err-found-clause-most : goal.returns-in_err-found-clause-most
returns-in_err-found-clause-most g c = sum_most 1048577 1099511631872 (g.S.Source.left c.args.source.now) (g.S.Source.left c.take_front.new.source) _ c.in_ok-front.ensures.most c.check_second.ensures.most

pub returns-in_err-reply_to-clause-most : goal.returns-in_err-reply_to-clause-most
returns-in_err-reply_to-clause-most g c = sum_most 1048577 1099511631872 (g.S.Source.left c.args.source.now) (g.S.Source.left c.take_front.new.source) _ c.in_ok-front.ensures.most c.check_second.ensures.most

pub returns-clause-most : goal.returns-clause-most
returns-clause-most g c = sum_most 1048577 1099511631872 (g.S.Source.left c.args.source.now) (g.S.Source.left c.take_front.new.source) _ c.in_ok-front.ensures.most c.check_second.ensures.most
