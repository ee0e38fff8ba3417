use Rattle.std.proofs.Common.{List, map, sym, subst}
use Rattle.rule_syntax.specs.declared.tree.PlacedName.{PlacedName}
use Rattle.problem_data.specs.Limits.{most_macros}
use Rattle.problem_data.specs.Least.{IsLeast}
use Rattle.problem_data.specs.View.{macro_view}
use Rattle.problem_data.specs.Faults.{Among, NamesFault, MacroFault, macro_name}
use Rattle.problem_data.proofs.Firsts.{joined}
use Rattle.problem_data.proofs.InLists.{least_view, map_twice}
use Rattle.statement_faults.proofs.rules.macros_fault.Goals as goal

pub returns : goal.returns
returns c =
    joined (NamesFault most_macros (map macro_name (map macro_view c.args.macros.now))) (Among (λ before. MacroFault) (map macro_view c.args.macros.now)) _ _ _ c.earlier.ensures
    (subst (λ (ns : List PlacedName). IsLeast (NamesFault most_macros ns) c.in_ok-names.names) (sym (map_twice macro_name macro_view c.args.macros.now)) c.in_ok-names.ensures)
    (least_view macro_view (λ before. MacroFault) c.args.macros.now _ c.in_ok-each.ensures)
