use Rattle.layout_search.proofs.Solutions.{solutions-are-layouts}
use Rattle.layout_search.proofs.first.unrecorded_in.Goals as goal

pub returns-clause-layout : goal.returns-clause-layout
returns-clause-layout g c = solutions-are-layouts c.args.problem.now c.args.conditions.items c.is_said.ensures.formed c.requires.conditions c.in_ok-searched.searched.outcome c.in_ok-searched.ensures.solution
