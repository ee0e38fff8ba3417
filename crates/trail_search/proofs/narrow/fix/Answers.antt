use Rattle.std.proofs.Common.{◌∙◌, ap, subst, refl, ℤ}
use Rattle.geo_conditions.specs.Walk.{IsFixed}
use Rattle.geo_state.proofs.Numbers.{kept64}
use Rattle.trail_search.specs.Cursor.{Narrows}
use Rattle.trail_search.specs.Record.{with_first}
use Rattle.trail_search.specs.Variables.{variable_of}
use Rattle.trail_search.proofs.Cases.{fixed_already, has_later, has_no_later}
use Rattle.trail_search.proofs.narrow.fix.Goals as goal

pub returns-then-has_after-clause-narrows : goal.returns-then-has_after-clause-narrows
returns-then-has_after-clause-narrows g c =
    let S = c.args.t.now.state in
    subst (λ (z : ℤ). Narrows S c.keep_first.new.t.state (λ T. IsFixed T (variable_of c.args.x) z)) (kept64 c.args.u c.ranges.u.sfits) c.keep_first.ensures.narrows

pub returns-then-has_after-clause-fixed : goal.returns-then-has_after-clause-fixed
returns-then-has_after-clause-fixed g c =
    let S = c.args.t.now.state in
    let later = has_later c.state.result.now S (variable_of c.args.x) _ c.args.u c.has_after.result c.has_after.ensures c.state.ensures.value (kept64 c.args.u c.ranges.u.sfits) c.if-has_after.true in
    (λ y. c.keep_first.ensures.first ∙ ap (λ (z : ℤ). with_first (variable_of c.args.x) z S) (kept64 c.args.u c.ranges.u.sfits), λ none. absurd (none later))

pub returns-else-has_after-clause-fixed : goal.returns-else-has_after-clause-fixed
returns-else-has_after-clause-fixed g c =
    let S = c.args.t.now.state in
    let none = has_no_later c.state.result.now S (variable_of c.args.x) _ c.args.u c.has_after.result c.has_after.ensures c.state.ensures.value (kept64 c.args.u c.ranges.u.sfits) c.if-has_after.false in
    (λ y. absurd (none y), λ n. refl)

pub returns-else-has_after-clause-narrows : goal.returns-else-has_after-clause-narrows
returns-else-has_after-clause-narrows g c =
    let S = c.args.t.now.state in
    let none = has_no_later c.state.result.now S (variable_of c.args.x) _ c.args.u c.has_after.result c.has_after.ensures c.state.ensures.value (kept64 c.args.u c.ranges.u.sfits) c.if-has_after.false in
    fixed_already S (variable_of c.args.x) c.args.u c.requires.object c.requires.first none
