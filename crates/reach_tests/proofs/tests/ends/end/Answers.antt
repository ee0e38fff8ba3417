use Rattle.problem_data.proofs.Hulls.{tuple_is_wide}
use Rattle.reach_tests.proofs.tests.ends.end.Goals as goal

pub end_of-requires-clause-layout : goal.end_of-requires-clause-layout
end_of-requires-clause-layout c = tuple_is_wide c.in_ok-problem.problem c.in_ok-layout.layout c.is_said.ensures.formed c.in_ok-layout.ensures.tuple
