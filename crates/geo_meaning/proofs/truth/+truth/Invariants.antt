use Rattle.std.proofs.Common.{◌≡◌, ◌+◌, drop}
use Rattle.std.specs.List.{count_by, filter, list_all, list_any}
use Rattle.problem_data.specs.Truth.{is_there}
use Rattle.rule_expand.specs.PlainTruth.{plain_all, plain_some}
use Rattle.rule_expand.specs.PlainView.{plain_formula_view, plain_formulas_view}
use Rattle.rule_values.specs.Elements.{elements_view}
use Rattle.rule_values.specs.View.{env_view}
use Rattle.geo_meaning.specs.Quantified.{holds_for}
use Rattle.geo_meaning.proofs.Left.{AllLeft, SomeLeft}
use Rattle.geo_meaning.proofs.truth.+truth.Given as goal

abbrev pub invariant-all_hold-loop-f : goal.invariant-all_hold-loop-f
invariant-all_hold-loop-f l = AllLeft l.problem l.layout (env_view l.env) (plain_formulas_view (drop l.f-index l.fs)) (plain_all l.problem l.layout (plain_formulas_view l.fs) (env_view l.env))

abbrev pub invariant-some_holds-loop-f : goal.invariant-some_holds-loop-f
invariant-some_holds-loop-f l = SomeLeft l.problem l.layout (env_view l.env) (plain_formulas_view (drop l.f-index l.fs)) (plain_some l.problem l.layout (plain_formulas_view l.fs) (env_view l.env))

abbrev pub invariant-for_all-loop-i : goal.invariant-for_all-loop-i
invariant-for_all-loop-i l =
    let test = holds_for l.problem l.layout (plain_formula_view l.f) l.v (env_view l.env) in
    let there = is_there l.problem l.layout in
    list_all test (filter there (drop l.i (elements_view l.elements))) ≡ list_all test (filter there (elements_view l.elements))

abbrev pub invariant-for_some-loop-i : goal.invariant-for_some-loop-i
invariant-for_some-loop-i l =
    let test = holds_for l.problem l.layout (plain_formula_view l.f) l.v (env_view l.env) in
    let there = is_there l.problem l.layout in
    list_any test (filter there (drop l.i (elements_view l.elements))) ≡ list_any test (filter there (elements_view l.elements))

abbrev pub invariant-how_many-loop-i : goal.invariant-how_many-loop-i
invariant-how_many-loop-i l =
    let test = holds_for l.problem l.layout (plain_formula_view l.f) l.v (env_view l.env) in
    let there = is_there l.problem l.layout in
    l.count + count_by test (filter there (drop l.i (elements_view l.elements))) ≡ count_by test (filter there (elements_view l.elements))
