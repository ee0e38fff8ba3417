use Rattle.std.proofs.Common.{◌≡◌, length, sym, ◌∙◌, arith}
use Rattle.linear_conditions.specs.Views.{wide_term}
use Rattle.linear_conditions.proofs.WideSteps.{nothing, place-found, place-ended}
use Rattle.linear_conditions.proofs.wide.place_for.Goals as goal

pub returns-then-belongs_at : goal.returns-then-belongs_at
returns-then-belongs_at c = place-found (wide_term c.args.a.now) c.args.terms.now c.loop-place.place nothing c.loop-place-test.true c.loop-place.invariant (sym c.belongs_at.ensures ∙ c.if-belongs_at.true)

pub returns : goal.returns
returns c =
    let e : length c.args.terms.now ≡ c.loop-place.place = omega arith in
    e ∙ place-ended (wide_term c.args.a.now) c.args.terms.now c.loop-place.place nothing (sym e) c.loop-place.invariant
