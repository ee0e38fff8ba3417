use Rattle.std.proofs.Common.{◌⊎◌, List, map, subst}
use Rattle.problem_data.specs.declared.tree.SidesText.{SidesText}
use Rattle.problem_data.specs.declared.tree.MacroText.{MacroText}
use Rattle.problem_data.specs.declared.tree.RuleText.{RuleText}
use Rattle.problem_data.specs.View.{sides_view, macro_view, rule_view}
use Rattle.problem_data.specs.Parts.{Parts, parts_view}
use Rattle.problem_data.specs.Least.{IsLeast}
use Rattle.problem_data.specs.Faults.{Among, SidesFault, MacrosFault, RulesFault}
use Rattle.problem_data.proofs.Firsts.{joined}
use Rattle.statement_faults.proofs.first.tail_fault.Goals as goal

pub returns : goal.returns
returns c =
    let p : Parts = parts_view c.args.said.now in
    joined (Among (SidesFault c.args.k) p.sides) (λ f. MacrosFault p.macros f ⊎ RulesFault c.args.k p.rules f) _ _ _ c.earlier.ensures
    (subst (λ (ss : List SidesText). IsLeast (Among (SidesFault c.args.k) (map sides_view ss)) c.sides_fault-sides.result) c.as_slice.ensures.value c.sides_fault-sides.ensures)
    (joined (MacrosFault p.macros) (RulesFault c.args.k p.rules) _ _ _ c.earlier-others.ensures
    (subst (λ (ms : List MacroText). IsLeast (MacrosFault (map macro_view ms)) c.in_ok-macros.macros) c.as_slice-2.ensures.value c.in_ok-macros.ensures)
    (subst (λ (rs : List RuleText). IsLeast (RulesFault c.args.k (map rule_view rs)) c.in_ok-rules.rules) c.as_slice-3.ensures.value c.in_ok-rules.ensures))
