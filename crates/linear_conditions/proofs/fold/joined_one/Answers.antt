use Rattle.std.proofs.Common.{sym, ◌∙◌}
use Rattle.linear_conditions.specs.CondTree.{cond_view}
use Rattle.linear_conditions.proofs.JoinSteps.{one-holds, one-fails, one-open}
use Rattle.linear_conditions.proofs.fold.joined_one.Goals as goal

pub returns-in-Holds : goal.returns-in-Holds
returns-in-Holds c = λ all. c.certain.ensures ∙ one-holds all (cond_view c.args.c) (sym c.verdict.ensures ∙ c.in-Holds.is)

pub returns-in-Fails : goal.returns-in-Fails
returns-in-Fails c = λ all. c.certain-in-Fails.ensures ∙ one-fails all (cond_view c.args.c) (sym c.verdict.ensures ∙ c.in-Fails.is)

pub returns-in-Open : goal.returns-in-Open
returns-in-Open c = λ all. one-open all (cond_view c.args.c) (sym c.verdict.ensures ∙ c.in-Open.is)
