use Rattle.std.proofs.Common.{◌∙◌, List, refl, sym, subst}
use Rattle.derivation.specs.Events.{Kept}
use Rattle.geo_conditions.specs.declared.cond.Cond.{Cond}
use Rattle.layout_search.specs.FirstLayout.{Derives, Finds}
use Rattle.layout_search.specs.declared.first.Outcome.{Outcome}
use Rattle.problem_data.proofs.Accepted.{accepted_well_formed}
use Rattle.search_commands.specs.First.{ShowsNone}
use Rattle.search_commands.proofs.Shown.{shown}
use Rattle.json_search_commands.specs.FirstJson.{SaysNoneJson}
use Rattle.json_search_commands.proofs.FirstJsons.{ok_both, tells_layout, tells_none, tells_spent}
use Rattle.json_search_commands.proofs.first_json.first_of.Goals as goal

pub layout_json_line-requires : goal.layout_json_line-requires
layout_json_line-requires c =
    let found = subst (λ (o : Outcome Kept). Finds c.args.accepted.problem o) c.in-Found.is c.in_ok-searched.ensures.layout in
    found.layout.tuple

pub refuted-requires-clause-shows : goal.refuted-requires-clause-shows
refuted-requires-clause-shows c =
    let p = c.args.accepted.problem in
    let cs = c.args.accepted.conditions.items in
    let es = c.in-Nothing.log.events in
    let d = subst (λ (o : Outcome Kept). Derives p cs (λ log. log.events) o) c.in-Nothing.is c.in_ok-searched.ensures.derivation in
    let shows = shown p cs es (accepted_well_formed c.requires.0 p c.requires.1.accepted.spells) d.0 d.1 in
    subst (λ (ds : List Cond). ShowsNone p ds es) (sym (c.as_slice.ensures.value ∙ c.in_ok-searched.ensures.conditions)) shows

pub returns-in-Found : goal.returns-in-Found
returns-in-Found c = λ input h.
    tells_layout {R = Kept} c.args.most input c.args.accepted h c.in_ok-searched.searched.outcome c.in_ok-searched.ensures.walk c.in_ok-searched.ensures.layout _ _ c.in-Found.layout c.in-Found.is
    c.in_ok-layout_json_line-in-Found.ensures.text refl

pub returns-in-Nothing : goal.returns-in-Nothing
returns-in-Nothing c =
    let p = c.args.accepted.problem in
    ok_both c.refuted.result c.refuted.ensures.text c.refuted.ensures.status (λ r says ends input h.
    tells_none {R = Kept} c.args.most input c.args.accepted h c.in_ok-searched.searched.outcome c.in_ok-searched.ensures.walk c.in_ok-searched.ensures.layout r.text.items r.status c.in-Nothing.log c.in-Nothing.is
    (subst (λ (ds : List Cond). SaysNoneJson p ds r.text.items) (c.as_slice.ensures.value ∙ c.in_ok-searched.ensures.conditions) says) ends)

pub returns : goal.returns
returns c =
    ok_both c.spent_reply.result c.spent_reply.ensures.text c.spent_reply.ensures.status (λ r says ends input h.
    tells_spent {R = Kept} c.args.most input c.args.accepted h c.in_ok-searched.searched.outcome c.in_ok-searched.ensures.walk c.in_ok-searched.ensures.layout r.text.items r.status c.in-OutOfBudget.is says ends)
