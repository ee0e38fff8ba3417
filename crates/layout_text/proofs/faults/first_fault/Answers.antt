use Rattle.std.proofs.Common.{◌⊎◌, List, map, subst}
use Rattle.problem_data.specs.Least.{IsLeast}
use Rattle.problem_data.proofs.Firsts.{joined}
use Rattle.layout_text.specs.declared.tree.LineText.{LineText}
use Rattle.layout_text.specs.View.{line_view, layout_view, token_views}
use Rattle.layout_text.specs.Faults.{LinesFault, MissingFault, TokenLineFault}
use Rattle.layout_text.proofs.faults.first_fault.Goals as goal

pub returns : goal.returns
returns c =
    joined (LinesFault c.args.problem.now (layout_view c.args.said.now).lines) (λ f. MissingFault c.args.problem.now c.args.end (layout_view c.args.said.now) f ⊎ TokenLineFault c.args.problem.now (layout_view c.args.said.now).lines (token_views c.args.said.now.token) f) _ _ _ c.earlier.ensures
    (subst (λ (ls : List LineText). IsLeast (LinesFault c.args.problem.now (map line_view ls)) c.lines_fault-lines.result) c.as_slice.ensures.value c.lines_fault-lines.ensures)
    (joined (MissingFault c.args.problem.now c.args.end (layout_view c.args.said.now)) (TokenLineFault c.args.problem.now (layout_view c.args.said.now).lines (token_views c.args.said.now.token)) _ _ _ c.earlier-last.ensures c.missing_fault-missing.ensures c.token_fault-token.ensures)
