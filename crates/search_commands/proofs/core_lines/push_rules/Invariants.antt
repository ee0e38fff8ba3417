use Rattle.std.proofs.Common.{◌≡◌, ◌++◌, take}
use Rattle.search_commands.specs.Why.{rule_lines}
use Rattle.search_commands.proofs.core_lines.push_rules.Given as goal

-- the lines of the rules before it
abbrev pub invariant-loop-k : goal.invariant-loop-k
invariant-loop-k l = l.text.items ≡ l.initial.text.items ++ rule_lines l.problem (take l.k l.rules)
