use Rattle.std.proofs.Common.{◌≡◌, ◌^◌, ◌<◌, ◌≤ℤ◌, ◌+ℤ◌, ◌-ℤ◌, ℤ, pos, negsuc, Some, sym, subst, ap, ◌∙◌, refl, to_z, of_z, to_z-of_z, arith}
use Rattle.std.specs.Prelude.{take}
use Rattle.derivation.specs.Events.{Kept}
use Rattle.extent_caps.specs.Capped.{AddsCaps}
use Rattle.layout_search.specs.FirstLayout.{Derives, FindsSolution, Lists}
use Rattle.layout_search.specs.declared.first.Outcome.{Outcome}
use Rattle.geo_best.specs.Turns.{IsRound, number_of, room}
use Rattle.geo_best.proofs.EndsKept.{kept-below, kept-end}
use Rattle.geo_best.proofs.Steps.{leads-on, leads-to-bare, leads-to-budget, leads-to-nothing}
use Rattle.geo_best.proofs.one_round.search_round.Goals as goal

pub returns-in-Some : goal.returns-in-Some
returns-in-Some g c =
    let p = c.args.problem.now in
    let cs = c.args.round.conditions.items in
    let given = c.in_ok-outcome.field-0.conditions.items in
    let e = c.in-Some.end in
    let small = c.in-Some.ensures.small in
    let lists = subst (λ (o : Outcome Kept). Lists p cs c.args.budget o) c.in-Found.is c.in_ok-outcome.ensures.walk in
    let finds = subst (λ (o : Outcome Kept). FindsSolution p cs o) c.in-Found.is c.in_ok-outcome.ensures.solution in
    let caps = subst (λ (z : ℤ). AddsCaps p c.args.d z (take c.args.own given) c.in_ok-conditions-in-Some.conditions.items) (kept-below e small) c.in_ok-conditions-in-Some.ensures in
    subst (λ (z : ℤ). IsRound p c.args.d c.args.budget c.args.own (record { last = Some (record { end = z; layout = c.in-Found.layout }); conditions = c.in_ok-conditions-in-Some.conditions }) × (number_of (z +ℤ pos 2000000) < room c.args.round.last)) (sym (kept-end e small))
    (leads-on p c.args.d c.args.budget c.args.own c.args.round c.is_said.ensures.formed c.requires.round given c.in_ok-outcome.ensures.conditions c.in-Found.layout e c.in_ok-conditions-in-Some.conditions lists finds c.in-Some.ensures.end small caps)

pub returns-in-Found : goal.returns-in-Found
returns-in-Found g c =
    let p = c.args.problem.now in
    let cs = c.args.round.conditions.items in
    let lists = subst (λ (o : Outcome Kept). Lists p cs c.args.budget o) c.in-Found.is c.in_ok-outcome.ensures.walk in
    let finds = subst (λ (o : Outcome Kept). FindsSolution p cs o) c.in-Found.is c.in_ok-outcome.ensures.solution in
    leads-to-bare p c.args.d c.args.budget c.args.own c.args.round c.is_said.ensures.formed c.requires.round c.in_ok-outcome.field-0.conditions.items c.in_ok-outcome.ensures.conditions c.in-Found.layout c.in_ok-outcome.field-0.conditions lists finds c.in-None.ensures.end

pub returns-in-Nothing : goal.returns-in-Nothing
returns-in-Nothing g c =
    let p = c.args.problem.now in
    let cs = c.args.round.conditions.items in
    let lists = subst (λ (o : Outcome Kept). Lists p cs c.args.budget o) c.in-Nothing.is c.in_ok-outcome.ensures.walk in
    let finds = subst (λ (o : Outcome Kept). FindsSolution p cs o) c.in-Nothing.is c.in_ok-outcome.ensures.solution in
    let shown = subst (λ (o : Outcome Kept). Derives p cs (λ log. log.events) o) c.in-Nothing.is c.in_ok-outcome.ensures.derivation in
    leads-to-nothing p c.args.d c.args.budget c.args.own c.args.round c.is_said.ensures.formed c.requires.round c.in_ok-outcome.field-0.conditions.items c.in_ok-outcome.ensures.conditions c.in-Nothing.log c.stopped.result c.in_ok-outcome.field-0.conditions refl lists finds shown c.stopped.ensures

pub returns : goal.returns
returns g c =
    let p = c.args.problem.now in
    let cs = c.args.round.conditions.items in
    let lists = subst (λ (o : Outcome Kept). Lists p cs c.args.budget o) c.in-OutOfBudget.is c.in_ok-outcome.ensures.walk in
    let finds = subst (λ (o : Outcome Kept). FindsSolution p cs o) c.in-OutOfBudget.is c.in_ok-outcome.ensures.solution in
    leads-to-budget p c.args.d c.args.budget c.args.own c.args.round c.is_said.ensures.formed c.requires.round c.in_ok-outcome.field-0.conditions.items c.in_ok-outcome.ensures.conditions c.in_ok-outcome.field-0.conditions lists finds
