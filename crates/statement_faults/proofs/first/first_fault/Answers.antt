use Rattle.problem_data.specs.Parts.{parts_view}
use Rattle.statement_faults.proofs.AllFaults.{all_groups}
use Rattle.statement_faults.proofs.first.first_fault.Goals as goal

pub returns : goal.returns
returns c = all_groups (parts_view c.args.said.now) _ _ _ _ _ _ c.count_of-k.ensures c.earlier-others.ensures c.earlier.ensures c.head_fault-head.ensures c.in_ok-naming.ensures c.in_ok-tail.ensures
