use Rattle.std.proofs.Common.{◌≡◌, drop}
use Rattle.rule_names.specs.Mistakes.{earlier, first_of}
use Rattle.rule_names.specs.Names.{macros_mistakes}
use Rattle.rule_names.proofs.check.macros_mistake.Given as goal

-- the first so far, and that of the rest
abbrev pub invariant-each : goal.invariant-each
invariant-each l = earlier l.found (first_of (macros_mistakes l.problem (drop l.one-index l.macros))) ≡ first_of (macros_mistakes l.problem l.macros)
