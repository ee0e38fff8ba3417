use Rattle.std.proofs.Common.{◌≡◌, ◌<◌, ◌≤◌, ◌+◌, length, true, pos, sym, ap, ◌∙◌, arith}
use Rattle.problem_data.specs.Truth.{is_there}
use Rattle.problem_data.specs.Value.{Number}
use Rattle.rule_expand.specs.PlainView.{plain_formula_view}
use Rattle.rule_values.specs.Elements.{element_at, elements_view}
use Rattle.rule_values.specs.View.{env_view}
use Rattle.geo_meaning.specs.Quantified.{holds_for}
use Rattle.geo_meaning.proofs.Present.{one_more_fits}
use Rattle.geo_meaning.proofs.Steps.{all-step, some-step}
use Rattle.geo_meaning.proofs.truth.+truth.Goals as goal

pub all_hold-loop-f-preserved : goal.all_hold-loop-f-preserved
all_hold-loop-f-preserved t c =
    all-step c.args.problem.now c.args.layout.now (env_view c.args.env.now) c.args.fs.now c.loop-f.f-index c.f-item.result _ c.loop-f-test.true c.f-item.is c.loop-f.invariant (sym c.holds.ensures ∙ c.if-not-holds.false)

pub some_holds-loop-f-preserved : goal.some_holds-loop-f-preserved
some_holds-loop-f-preserved t c =
    some-step c.args.problem.now c.args.layout.now (env_view c.args.env.now) c.args.fs.now c.loop-f.f-index c.f-item.result _ c.loop-f-test.true c.f-item.is c.loop-f.invariant (sym c.holds.ensures ∙ c.if-holds.false)

pub how_many-overflow_add-count : goal.how_many-overflow_add-count
how_many-overflow_add-count t c =
    let p = c.args.problem.now in
    let xs = elements_view c.args.elements.now in
    let there = is_there p c.args.layout.now in
    let test = holds_for p c.args.layout.now (plain_formula_view c.args.f.now) c.args.v (env_view c.args.env.now) in
    let size : c.len-i-end.result ≡ length xs = c.len-i-end.ensures in
    let lt : c.loop-i.i < length xs = (let l = c.loop-i-test.true in omega (arith, l, size)) in
    let here : there (element_at xs c.loop-i.i) ≡ true = ap there (sym c.at.ensures) ∙ sym c.is_there-there.ensures ∙ c.if-there.true in
    let holds : test (element_at xs c.loop-i.i) ≡ true = sym c.holds_at.ensures ∙ c.if-holds_at.true in
    let few : c.loop-i.count + 1 ≤ length xs = one_more_fits there test xs c.loop-i.i (Number (pos 0)) lt c.loop-i.count c.loop-i.invariant here holds in
    let fits = c.len-i-end.type_inv in
    omega (arith, few, size, fits)
