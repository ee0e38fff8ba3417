use Rattle.std.proofs.Common.{List, sym, subst}
use Rattle.geo_conditions.specs.declared.cond.Cond.{Cond}
use Rattle.problem_data.specs.Problem.{ProblemData}
use Rattle.geo_core.specs.Cores.{Refutes}
use Rattle.search_commands.specs.First.{ShowsNone}
use Rattle.search_commands.proofs.Ends.{layouts-shaped, refutes-none}
use Rattle.search_commands.proofs.why.left.Goals as goal

pub core_lines-requires-clause-layouts : goal.core_lines-requires-clause-layouts
core_lines-requires-clause-layouts c = layouts-shaped c.args.problem.now c.args.rules.now c.args.layouts.now c.requires.core

pub refuted-requires-clause-shows : goal.refuted-requires-clause-shows
refuted-requires-clause-shows c =
    let q = c.in_ok-part.part in
    let cs = c.in_ok-conditions.conditions.items in
    let es = c.args.log.events in
    let h = subst (λ (z : ProblemData). Refutes z es) (sym c.in_ok-part.ensures) c.requires.refutes in
    subst (λ (ds : List Cond). ShowsNone q ds es) (sym c.as_slice.ensures.value) (refutes-none q cs es c.is_said.ensures.formed c.in_ok-conditions.ensures h)
