use Rattle.std.proofs.Common.{◌∙◌, List, sym, subst}
use Rattle.derivation.specs.Events.{Kept}
use Rattle.geo_conditions.specs.declared.cond.Cond.{Cond}
use Rattle.layout_search.specs.FirstLayout.{Derives}
use Rattle.layout_search.specs.declared.first.Outcome.{Outcome}
use Rattle.problem_data.proofs.Accepted.{accepted_well_formed}
use Rattle.search_commands.specs.First.{ShowsNone}
use Rattle.search_commands.proofs.Shown.{shown}
use Rattle.search_commands.proofs.first.first_of.Goals as goal

pub refuted-requires-clause-shows : goal.refuted-requires-clause-shows
refuted-requires-clause-shows c =
    let p = c.args.accepted.problem in
    let cs = c.args.accepted.conditions.items in
    let es = c.in-Nothing.log.events in
    let d = subst (λ (o : Outcome Kept). Derives p cs (λ log. log.events) o) c.in-Nothing.is c.in_ok-searched.ensures.derivation in
    let shows = shown p cs es (accepted_well_formed c.requires.0 p c.requires.1.accepted.spells) d.0 d.1 in
    subst (λ (ds : List Cond). ShowsNone p ds es) (sym (c.as_slice.ensures.value ∙ c.in_ok-searched.ensures.conditions)) shows
