use Rattle.std.proofs.Common.{◌<◌, ℕ}
use Rattle.geo_meaning.specs.Judged.{RuleHolds}
use Rattle.geo_meaning.proofs.judging.judge_rules.Given as goal

-- the rules before hold
abbrev pub invariant-loop-i : goal.invariant-loop-i
invariant-loop-i l = (k : ℕ) → k < l.i → RuleHolds l.problem l.layout k
