use Rattle.std.proofs.Common.{List, map, subst, ◌∙◌, ap}
use Rattle.problem_data.specs.declared.tree.ParamText.{ParamText}
use Rattle.problem_data.specs.Limits.{most_params}
use Rattle.problem_data.specs.View.{body_view}
use Rattle.problem_data.specs.Least.{IsLeast}
use Rattle.problem_data.specs.Divisors.{body_zeros}
use Rattle.problem_data.specs.Faults.{NamesFault, DivisorFault, param_name, divisor_at}
use Rattle.problem_data.proofs.Firsts.{joined}
use Rattle.statement_faults.proofs.ZeroFaults.{least_zero}
use Rattle.statement_faults.proofs.rules.macro_fault.Goals as goal

pub returns : goal.returns
returns c =
    joined (NamesFault most_params (map param_name c.args.said.now.params.items)) (DivisorFault (body_zeros (body_view c.args.said.now.body))) _ _ _ c.earlier.ensures
    (subst (λ (ps : List ParamText). IsLeast (NamesFault most_params (map param_name ps)) c.in_ok-names.names) c.as_slice.ensures.value c.in_ok-names.ensures)
    (least_zero (body_zeros (body_view c.args.said.now.body)) _ (c.divisor_fault-divisor.ensures ∙ ap divisor_at c.body_zero.ensures))
