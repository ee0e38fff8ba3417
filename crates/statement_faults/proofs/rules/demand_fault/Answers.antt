use Rattle.std.proofs.Common.{List, subst, sym, ◌∙◌, ap}
use Rattle.problem_data.specs.declared.tree.RuleBody.{RuleBody}
use Rattle.problem_data.specs.View.{demand_view}
use Rattle.rule_syntax.specs.View.{formula_view}
use Rattle.problem_data.specs.declared.tree.RangeText.{RangeText}
use Rattle.problem_data.specs.Least.{IsLeast}
use Rattle.problem_data.specs.Divisors.{formula_zeros}
use Rattle.problem_data.specs.Faults.{DemandFault, RangesFault, divisor_at}
use Rattle.statement_faults.proofs.ZeroFaults.{least_zero}
use Rattle.statement_faults.proofs.rules.demand_fault.Goals as goal

pub returns-in-Within : goal.returns-in-Within
returns-in-Within c =
    subst (λ (b : RuleBody). IsLeast (DemandFault c.args.k (demand_view b)) c.ranges_fault.result) (sym c.in-Within.is)
    (subst (λ (rs : List RangeText). IsLeast (RangesFault c.args.k rs) c.ranges_fault.result) c.as_slice.ensures.value c.ranges_fault.ensures)

pub returns-in-Plain : goal.returns-in-Plain
returns-in-Plain c =
    subst (λ (b : RuleBody). IsLeast (DemandFault c.args.k (demand_view b)) c.divisor_fault.result) (sym c.in-Plain.is)
    (least_zero (formula_zeros (formula_view c.in-Plain.formula)) _ (c.divisor_fault.ensures ∙ ap divisor_at c.formula_zero.ensures))
