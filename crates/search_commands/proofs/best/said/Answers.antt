use Rattle.std.proofs.Common.{◌∙◌, ℤ, List, Some, ap, sym, subst}
use Rattle.std.proofs.lemmas.Result.{IfOk-weaker}
use Rattle.geo_conditions.specs.declared.cond.Cond.{Cond}
use Rattle.geo_best.specs.Rounds.{IsSmallBest, ShowsBest}
use Rattle.geo_best.specs.declared.one_round.Best.{Best}
use Rattle.geo_best.proofs.EndsKept.{kept-end}
use Rattle.search_commands.specs.Best.{extent_lines}
use Rattle.search_commands.specs.First.{ShowsNone}
use Rattle.search_commands.proofs.Ends.{says-least, shows-none}
use Rattle.search_commands.proofs.best.said.Goals as goal

pub refuted-requires-clause-shows : goal.refuted-requires-clause-shows
refuted-requires-clause-shows c =
    let p = c.args.problem.now in
    let cs = c.args.rounds.conditions.items in
    let h = subst (λ (b : Best). ShowsBest p c.args.d cs b) c.in-Refused.is c.requires.shows in
    subst (λ (ds : List Cond). ShowsNone p ds c.in-Refused.log.events) (sym c.as_slice.ensures.value) (shows-none p c.args.d _ cs c.in-Refused.log c.is_said.ensures.formed h)

pub refuted-requires-in-Least-clause-shows : goal.refuted-requires-in-Least-clause-shows
refuted-requires-in-Least-clause-shows c =
    let p = c.args.problem.now in
    let cs = c.args.rounds.conditions.items in
    let h = subst (λ (b : Best). ShowsBest p c.args.d cs b) c.in-Least.is c.requires.shows in
    subst (λ (ds : List Cond). ShowsNone p ds c.in-Least.log.events) (sym c.as_slice-in-Least.ensures.value) (shows-none p c.args.d _ cs c.in-Least.log c.is_said.ensures.formed h)

pub returns-clause-says : goal.returns-clause-says
returns-clause-says c =
    let p = c.args.problem.now in
    let cs = c.args.rounds.conditions.items in
    let same = c.as_slice-in-Least.ensures.value in
    let small = subst IsSmallBest c.in-Least.is c.requires.small in
    IfOk-weaker c.refuted-in-Least.result _ _ (λ reply h text status said.
    says-least p c.args.d c.args.most c.args.rounds.best c.in-Least.end c.in-Least.layout c.in-Least.log cs c.as_slice-in-Least.result.now c.in_ok-lines-in-Least.lines.text.items text status c.in_ok-lines-in-Least.lines.status c.in-Least.is same c.requires.shows
    (c.in_ok-lines-in-Least.ensures.text ∙ ap (λ (e : ℤ). extent_lines p (Some (record { end = e; layout = c.in-Least.layout }))) (kept-end c.in-Least.end small)) c.in_ok-lines-in-Least.ensures.status (h text status said)) c.refuted-in-Least.ensures.says
