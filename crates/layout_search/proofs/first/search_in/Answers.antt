use Rattle.std.proofs.lemmas.Result.{IfOk-weaker}
use Rattle.layout_search.specs.FirstLayout.{Finds, FindsSolution}
use Rattle.layout_search.proofs.Solutions.{solutions-are-layouts}
use Rattle.layout_search.proofs.first.search_in.Goals as goal

pub returns-clause-layout : goal.returns-clause-layout
returns-clause-layout g c =
    let p = c.args.problem.now in
    let cs = c.args.conditions.items in
    IfOk-weaker c.first_solution.result (λ s. FindsSolution p cs s.outcome) (λ s. Finds p s.outcome) (λ s h. solutions-are-layouts p cs c.is_said.ensures.formed c.requires.conditions s.outcome h) c.first_solution.ensures.solution
