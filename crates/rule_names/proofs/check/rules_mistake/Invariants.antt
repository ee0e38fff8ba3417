use Rattle.std.proofs.Common.{◌≡◌, drop}
use Rattle.rule_names.specs.Mistakes.{earlier, first_of}
use Rattle.rule_names.specs.Names.{rules_mistakes}
use Rattle.rule_names.proofs.check.rules_mistake.Given as goal

-- the first so far, and that of the rest
abbrev pub invariant-each : goal.invariant-each
invariant-each l = earlier l.found (first_of (rules_mistakes l.problem (drop l.rule-index l.rules))) ≡ first_of (rules_mistakes l.problem l.rules)
