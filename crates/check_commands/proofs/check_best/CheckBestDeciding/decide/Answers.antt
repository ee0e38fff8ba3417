use Rattle.std.proofs.Common.{List, ℕ, ℤ, subst, arith}
use Rattle.command_input.proofs.Taking.{sum_most}
use Rattle.command_input.specs.Reading.{Tells}
use Rattle.check_commands.specs.CheckBest.{check_best_question}
use Rattle.check_commands.specs.Checks.{FindsIn}
use Rattle.check_commands.specs.Claims.{none_below}
use Rattle.check_commands.proofs.Behind.{decides, decides_refused, fewer_behind, taken_front}
use Rattle.check_commands.proofs.Serving.{extent_kept}
use Rattle.check_commands.proofs.ChecksBest.{as_best, decides_fewer}
use Rattle.check_commands.proofs.check_best.CheckBestDeciding.decide.Goals as goal

pub returns-in-Err-clause-answer : goal.returns-in-Err-clause-answer
returns-in-Err-clause-answer g c =
    let r = c.in_ok-reply_to-in-Err.field-0 in
    let d = c.args.self.now.dimension in
    let e = c.args.self.now.extent in
    decides_refused (none_below d e) (check_best_question d e) (as_best d e) (g.S.Source.left c.args.source.now) r.text.items r.status (g.S.Source.left c.take_front.new.source) c.in_ok-front.field-0 c.in-Err.fault c.in-Err.is
    c.in_ok-front.ensures.answer c.in_ok-reply_to-in-Err.ensures

pub returns-then-dims-self-clause-answer : goal.returns-then-dims-self-clause-answer
returns-then-dims-self-clause-answer g c =
    let left = g.S.Source.left c.args.source.now in
    let new = g.S.Source.left c.take_front.new.source in
    let r = c.in_ok-bad_dimension.field-0 in
    let d = c.args.self.now.dimension in
    let front = taken_front left new c.in_ok-front.field-0 c.in-Ok.front c.in-Ok.is c.in_ok-front.ensures.answer in
    decides_fewer d c.args.self.now.extent left r.text.items r.status c.in_ok-bad_dimension.ensures.text c.in_ok-bad_dimension.ensures.status
    (fewer_behind left new c.in-Ok.front front d (let l = c.if-dims-self.true in let same = c.dims.ensures in omega (arith, l, same)))

pub returns-clause-answer : goal.returns-clause-answer
returns-clause-answer g c =
    let left = g.S.Source.left c.args.source.now in
    let new = g.S.Source.left c.take_front.new.source in
    let r = c.in_ok-reply_to.field-0 in
    let d = c.args.self.now.dimension in
    let e = c.args.self.now.extent in
    let front = taken_front left new c.in_ok-front.field-0 c.in-Ok.front c.in-Ok.is c.in_ok-front.ensures.answer in
    decides (none_below d e) (check_best_question d e) (as_best d e) left r.text.items r.status c.in_ok-found.found c.in_ok-reply_to.ensures
    (subst (λ (z : ℤ). (input : List ℕ) × Tells left input × FindsIn (none_below d z) input c.in_ok-found.found) (extent_kept e c.args.self.now.bounded) (c.in_ok-found.ensures.answer left front))

pub returns-in_err-found-clause-most : goal.returns-in_err-found-clause-most
returns-in_err-found-clause-most g c = sum_most 1048577 1099511631872 (g.S.Source.left c.args.source.now) (g.S.Source.left c.take_front.new.source) _ c.in_ok-front.ensures.most c.check_below.ensures.most

pub returns-in_err-reply_to-clause-most : goal.returns-in_err-reply_to-clause-most
returns-in_err-reply_to-clause-most g c = sum_most 1048577 1099511631872 (g.S.Source.left c.args.source.now) (g.S.Source.left c.take_front.new.source) _ c.in_ok-front.ensures.most c.check_below.ensures.most

pub returns-clause-most : goal.returns-clause-most
returns-clause-most g c = sum_most 1048577 1099511631872 (g.S.Source.left c.args.source.now) (g.S.Source.left c.take_front.new.source) _ c.in_ok-front.ensures.most c.check_below.ensures.most
