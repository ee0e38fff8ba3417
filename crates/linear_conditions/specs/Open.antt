-- Conditions of which nothing is certain.
use Rattle.std.specs.Prelude.{Bool, true, false}
use Rattle.linear_conditions.specs.declared.verdict.Verdict.TheVariants.{Holds, Fails, Open}
use Rattle.linear_conditions.specs.CondTree.{CondTree}
use Rattle.linear_conditions.specs.Folding.{verdict}

-- nothing is certain of the condition
abbrev pub is_open : CondTree → Bool
is_open c = elim (verdict c) [ Holds ↦ false | Fails ↦ false | Open ↦ true ]
