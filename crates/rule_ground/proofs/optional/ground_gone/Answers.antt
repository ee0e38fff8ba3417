use Rattle.std.proofs.Common.{◌∙◌, ap, sym}
use Rattle.linear_conditions.specs.CondTree.{CondTree}
use Rattle.linear_conditions.specs.Counts.{Counts, Done, visit}
use Rattle.linear_conditions.specs.Folding.{certain}
use Rattle.linear_conditions.proofs.CounterSteps.{past-fault}
use Rattle.rule_ground.specs.Grounding.{absent_truth}
use Rattle.rule_ground.proofs.Behind.{then-done, then-fault}
use Rattle.rule_ground.proofs.optional.ground_gone.Goals as goal

pub returns-in-Ok : goal.returns-in-Ok
returns-in-Ok c =
    then-done Counts CondTree (visit c.args.counter.now) (λ k same. Done (certain (absent_truth c.args.manner)) k) c.visit.new.self c.visit.new.self c.in-Ok.ensures
    ∙ ap (λ x. Done x c.visit.new.self) (sym (c.certain.ensures ∙ ap certain c.absent_truth.ensures))

pub returns-in-Err : goal.returns-in-Err
returns-in-Err c = then-fault Counts CondTree (visit c.args.counter.now) _ c.in-Err.e (past-fault (visit c.args.counter.now) c.in-Err.e c.in-Err.ensures)
