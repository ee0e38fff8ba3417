use Rattle.std.proofs.Common.{◌∙◌, ap, refl, sym}
use Rattle.linear_conditions.specs.CondTree.{CondTree}
use Rattle.linear_conditions.specs.Counts.{Counts, Done, visits, and_then}
use Rattle.linear_conditions.specs.Folding.{certain}
use Rattle.rule_ground.proofs.Arms.{appends-one}
use Rattle.rule_ground.proofs.Behind.{alone-fault, then-done, then-fault}
use Rattle.rule_ground.proofs.Busy.{busied, idle-passed}
use Rattle.linear_conditions.proofs.CounterSteps.{past-fault}
use Rattle.rule_ground.proofs.formulas.add_told.Goals as goal

pub returns-in-Err : goal.returns-in-Err
returns-in-Err c =
    alone-fault _ c.in-Err.e (then-fault Counts CondTree (visits c.args.told.visits c.args.counter.now) _ c.in-Err.e (past-fault (visits c.args.told.visits c.args.counter.now) c.in-Err.e c.in-Err.ensures))

pub returns-then-is_idle : goal.returns-then-is_idle
returns-then-is_idle c =
    idle-passed c.args.manner c.args.children.now.items _ (and_then Counts CondTree (visits c.args.told.visits c.args.counter.now) (λ k same. Done (certain c.args.told.holds) k)) c.args.told.holds c.visit_often.new.self
    (then-done Counts CondTree (visits c.args.told.visits c.args.counter.now) (λ k same. Done (certain c.args.told.holds) k) c.visit_often.new.self c.visit_often.new.self c.in_default.ensures)
    (sym c.is_idle.ensures ∙ c.if-is_idle.true) refl

pub returns : goal.returns
returns c =
    busied c.args.manner c.args.children.now.items c.add_cond.new.parts.items _ c.visit_often.new.self c.add_cond.result
    (appends-one c.args.children.now.items c.add_cond.new.parts.items (and_then Counts CondTree (visits c.args.told.visits c.args.counter.now) (λ k same. Done (certain c.args.told.holds) k)) c.certain.result c.visit_often.new.self c.add_cond.result
    (then-done Counts CondTree (visits c.args.told.visits c.args.counter.now) (λ k same. Done (certain c.args.told.holds) k) c.visit_often.new.self c.visit_often.new.self c.in_default.ensures
    ∙ ap (λ x. Done x c.visit_often.new.self) (sym c.certain.ensures))
    c.add_cond.ensures)
