use Rattle.std.proofs.Common.{◌≡◌}
use Rattle.std.specs.Prelude.{replicate}
use Rattle.problem_data.specs.declared.tree.Side.TheVariants.{Low}
use Rattle.problem_text.proofs.build.order.low_sides.Given as goal

-- what was made so far
abbrev pub invariant-loop-turn : goal.invariant-loop-turn
invariant-loop-turn l = l.made.items ≡ replicate l._turn Low
