-- What is certain without a condition.
use Rattle.std.specs.Prelude.{◌≡◌, ℕ, Bool}
use Rattle.linear_conditions.specs.CondTree.{CondTree}
use Rattle.linear_conditions.specs.Counts.{Counts, Outcome, Done, and_then, visits}
use Rattle.linear_conditions.specs.Folding.{certain}

-- grounding takes n visits and nothing else, and its condition is certain
pub record IsCertain (ground : Counts → Outcome CondTree) (n : ℕ) (holds : Bool) : Type 0 where
  pub gives : (k : Counts) → ground k ≡ and_then Counts CondTree (visits n k) (λ j same. Done (certain holds) j)
