use Rattle.std.proofs.Common.{◌≡◌, ◌∙◌, ap, sym, map, length}
use Rattle.std.specs.Prelude.{Some}
use Rattle.rule_syntax.specs.Tree.{ExprTree}
use Rattle.problem_data.specs.ProblemView.{param_data}
use Rattle.problem_data.specs.Value.{macro_position}
use Rattle.rule_names.specs.Table.{found}
use Rattle.rule_expand.specs.Expansion.{expansions_of, expr_expanded, give_all}
use Rattle.rule_syntax.proofs.Views.{param-seen, call-seen}
use Rattle.rule_expand.proofs.HandedOn.{call-case}
use Rattle.rule_expand.proofs.handed.+handed.Goals as goal

pub parameter_of_call-returns-in-Some-handed_index : goal.parameter_of_call-returns-in-Some-handed_index
parameter_of_call-returns-in-Some-handed_index t c =
    let e : macro_position c.args.problem.now c.args.m.now.name ≡ Some c.in-Some.position = sym (c.requires.table c.args.m.now.name) ∙ sym (ap (found c.args.macros.now) c.as_bytes.ensures) ∙ sym c.position_of.ensures ∙ c.in-Some.is in
    call-case c.args.problem.now c.args.handed.now c.in-Some.position c.in-Some-handed_index.i 0 c.args.m.now c.args.params.now c.args.args.now c.index-args-i.result c.parameter_of.result
    c.requires.handed c.in-Some-handed_index.ensures e c.parameter_of.ensures

pub parameter_of-returns-in-Some : goal.parameter_of-returns-in-Some
parameter_of-returns-in-Some t c = λ ms h.
    ap (λ (v : ExprTree). expr_expanded (expansions_of c.args.problem.now (length c.args.handed.now)) c.args.problem.now v (give_all (map param_data c.args.params.now) ms)) (param-seen c.in-Param.a c.in-Param.is) ∙ c.in-Some.ensures {u = tt} c.args.problem.now ms h

pub parameter_of-returns-in-Some-parameter_of_call : goal.parameter_of-returns-in-Some-parameter_of_call
parameter_of-returns-in-Some-parameter_of_call t c = λ ms h.
    ap (λ (v : ExprTree). expr_expanded (expansions_of c.args.problem.now (length c.args.handed.now)) c.args.problem.now v (give_all (map param_data c.args.params.now) ms)) (call-seen c.in-CallValue.field-0 c.in-CallValue.m c.in-CallValue.args c.in-CallValue.is c.deref.ensures.value) ∙ c.in-Some-parameter_of_call.ensures {u = tt} ms h
