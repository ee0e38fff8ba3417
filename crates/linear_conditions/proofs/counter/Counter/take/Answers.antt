use Rattle.std.proofs.Common.{sym, ◌∙◌}
use Rattle.linear_conditions.proofs.CounterSteps.{within-done, within-past}
use Rattle.linear_conditions.proofs.counter.Counter.take.Goals as goal

pub returns-then-not-are_within : goal.returns-then-not-are_within
returns-then-not-are_within c = within-past (record { visits = c.args.visits; leaves = c.args.leaves; terms = c.args.terms }) (sym c.are_within.ensures ∙ c.if-not-are_within.true)

pub returns : goal.returns
returns c = within-done (record { visits = c.args.visits; leaves = c.args.leaves; terms = c.args.terms }) (sym c.are_within.ensures ∙ c.if-not-are_within.false)
