use Rattle.std.proofs.Common.{◌+◌, map}
use Rattle.linear_conditions.specs.CondTree.{cond_view}
use Rattle.problem_data.specs.ProblemView.{range_data}
use Rattle.linear_conditions.specs.Counts.{within_limits}
use Rattle.linear_conditions.proofs.CounterSteps.{past-fault}
use Rattle.rule_ground.specs.Within.{within_conditions}
use Rattle.rule_ground.proofs.RuleSteps.{leaves-given, leaves-fault}
use Rattle.rule_ground.proofs.ground.ground_within.Goals as goal

pub returns-in-Err : goal.returns-in-Err
returns-in-Err c =
    leaves-fault (within_conditions c.args.problem.now (map range_data c.args.ranges.now)) c.args.counter.now c.count_within.result c.in-Err.e (c.count_within.ensures.value (map range_data c.args.ranges.now))
    (past-fault (within_limits (record c.args.counter.now { leaves = c.args.counter.now.leaves + c.count_within.result })) c.in-Err.e c.in-Err.ensures)

pub returns-in-Ok : goal.returns-in-Ok
returns-in-Ok c =
    leaves-given (within_conditions c.args.problem.now (map range_data c.args.ranges.now)) c.args.counter.now c.add_leaves.new.self c.count_within.result (map cond_view c.args.out.now.items) (map cond_view c.push_within.new.out.items) (c.count_within.ensures.value (map range_data c.args.ranges.now)) c.in_default.ensures c.in-Ok.ensures
