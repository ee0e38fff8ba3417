use Rattle.std.proofs.Common.{ℕ, List, ◌≡◌, ◌<◌, ◌∙◌, ap, sym, length, arith, refl}
use Rattle.std.specs.Prelude.{Some}
use Rattle.rule_names.proofs.Sights.{macro-inside, macro-at}
use Rattle.rule_syntax.specs.View.{expr_view, formula_view}
use Rattle.problem_data.specs.Tree.{means, equals}
use Rattle.problem_data.specs.View.{body_view}
use Rattle.problem_data.specs.Value.{macro_position}
use Rattle.problem_data.specs.Truth.{macro_of}
use Rattle.rule_names.specs.Table.{found}
use Rattle.rule_expand.proofs.Called.{value-called, value-uncalled, cost-called}
use Rattle.rule_expand.proofs.scope.value_macro.Goals as goal

pub returns-then-index-in_sight : goal.returns-then-index-in_sight
returns-then-index-in_sight c =
    let e : macro_position c.args.source.now.problem.now c.args.name.now ≡ Some c.in-Some.index = sym (c.requires.names.macros c.args.name.now) ∙ sym (ap (λ (ns : List (List ℕ)). found ns c.args.name.now) c.deref.ensures) ∙ sym (ap (found c.deref.result.now) c.as_bytes.ensures) ∙ sym c.position_of.ensures ∙ c.in-Some.is in
    λ ms. value-uncalled c.args.source.now.problem.now c.args.in_sight c.in-Some.index c.args.name.now e (omega arith) ms

pub returns-in-Is : goal.returns-in-Is
returns-in-Is c =
    let e : macro_position c.args.source.now.problem.now c.args.name.now ≡ Some c.in-Some.index = sym (c.requires.names.macros c.args.name.now) ∙ sym (ap (λ (ns : List (List ℕ)). found ns c.args.name.now) c.deref.ensures) ∙ sym (ap (found c.deref.result.now) c.as_bytes.ensures) ∙ sym c.position_of.ensures ∙ c.in-Some.is in
    let inside : c.in-Some.index < length c.macros-macros.result.now = omega (arith, macro-inside c.args.source.now.problem.now c.args.name.now c.in-Some.index e, ap length c.macros-macros.ensures) in
    let m : c.index-macros-index.result ≡ macro_of c.args.source.now.problem.now c.in-Some.index = macro-at c.args.source.now.problem.now c.macros-macros.result.now c.in-Some.index c.index-macros-index.result inside c.macros-macros.ensures c.index-macros-index.is in
    let b : equals (expr_view c.in-Is.body) ≡ c.index-macros-index.result.body = sym (ap body_view c.in-Is.is) ∙ c.body.ensures in
    record {
      at = e;
      in_sight = omega arith;
      expands = λ ms. value-called c.args.source.now.problem.now c.args.in_sight c.in-Some.index c.args.name.now c.index-macros-index.result (equals (expr_view c.in-Is.body)) _ e (omega arith) m b c.params.ensures ms;
      ends = λ ks. cost-called c.args.source.now.problem.now c.args.in_sight c.in-Some.index c.args.name.now c.index-macros-index.result (equals (expr_view c.in-Is.body)) _ e (omega arith) m b c.params.ensures ks;
    }

pub returns-in-Means : goal.returns-in-Means
returns-in-Means c =
    let e : macro_position c.args.source.now.problem.now c.args.name.now ≡ Some c.in-Some.index = sym (c.requires.names.macros c.args.name.now) ∙ sym (ap (λ (ns : List (List ℕ)). found ns c.args.name.now) c.deref.ensures) ∙ sym (ap (found c.deref.result.now) c.as_bytes.ensures) ∙ sym c.position_of.ensures ∙ c.in-Some.is in
    let inside : c.in-Some.index < length c.macros-macros.result.now = omega (arith, macro-inside c.args.source.now.problem.now c.args.name.now c.in-Some.index e, ap length c.macros-macros.ensures) in
    let m : c.index-macros-index.result ≡ macro_of c.args.source.now.problem.now c.in-Some.index = macro-at c.args.source.now.problem.now c.macros-macros.result.now c.in-Some.index c.index-macros-index.result inside c.macros-macros.ensures c.index-macros-index.is in
    let b : means (formula_view c.in-Means.field-0) ≡ c.index-macros-index.result.body = sym (ap body_view c.in-Means.is) ∙ c.body.ensures in
    λ ms. value-called c.args.source.now.problem.now c.args.in_sight c.in-Some.index c.args.name.now c.index-macros-index.result (means (formula_view c.in-Means.field-0)) c.index-macros-index.result.params e (omega arith) m b refl ms
