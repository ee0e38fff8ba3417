-- What the check answers.
use Rattle.std.specs.Prelude.{ℕ, List, Option, Some, None}
use Rattle.geo_conditions.specs.declared.cond.Cond.{Cond}
use Rattle.geo_conditions.specs.Reach.{State}
use Rattle.derivation.specs.Nodes.{Node}
use Rattle.derivation.specs.Valid.{Valid, FailsFirst}
use Rattle.derivation_check.specs.declared.progress.Checked.{Checked}
use Rattle.derivation_check.specs.declared.progress.Checked.TheVariants.{Yes, No}

-- yes: the derivation is valid; no, with a number: that node is the first that fails
abbrev pub Judges : List Cond → State → Node → Checked → Type 0
Judges cs S root Yes = Valid cs S root
Judges cs S root (No n) = FailsFirst cs S root n

-- the answer where that node was the first that failed
abbrev pub answer : Option ℕ → Checked
answer None = Yes
answer (Some n) = No n
