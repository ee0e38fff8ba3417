use Rattle.std.proofs.Common.{List, map, sym, subst}
use Rattle.rule_syntax.specs.declared.tree.PlacedName.{PlacedName}
use Rattle.problem_data.specs.Limits.{most_rules}
use Rattle.problem_data.specs.Least.{IsLeast}
use Rattle.problem_data.specs.View.{rule_view}
use Rattle.problem_data.specs.Faults.{Among, NamesFault, RuleFault, rule_name}
use Rattle.problem_data.proofs.Firsts.{joined}
use Rattle.problem_data.proofs.InLists.{least_view, map_twice}
use Rattle.statement_faults.proofs.rules.rules_fault.Goals as goal

pub returns : goal.returns
returns c =
    joined (NamesFault most_rules (map rule_name (map rule_view c.args.rules.now))) (Among (λ before. RuleFault c.args.k) (map rule_view c.args.rules.now)) _ _ _ c.earlier.ensures
    (subst (λ (ns : List PlacedName). IsLeast (NamesFault most_rules ns) c.in_ok-names.names) (sym (map_twice rule_name rule_view c.args.rules.now)) c.in_ok-names.ensures)
    (least_view rule_view (λ before. RuleFault c.args.k) c.args.rules.now _ c.each_fault-each.ensures)
