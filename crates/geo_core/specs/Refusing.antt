-- Rules that refuse together, and none of which can be left out.
use Rattle.std.specs.Prelude.{◌≡◌, ◌<◌, ℕ, List, [], length, slice_index_or}
use Rattle.geo_base.specs.Tuple.{Tuple}
use Rattle.problem_data.specs.Problem.{ProblemData}
use Rattle.problem_data.specs.Layouts.{IsLayout}
use Rattle.problem_data.specs.SomeRules.{AreRules, with_rules}
use Rattle.layout_search.specs.FirstLayout.{HasNoLayout}
use Rattle.geo_core.specs.Cores.{without}
use Rattle.geo_core.specs.declared.leaving.Core.{Core}
use Rattle.geo_core.specs.declared.leaving.Core.TheVariants.{Found, Budget, Left}

-- with the rules R the problem has no layout; without any one of them it has the layout that stands
-- in the same place
pub record IsCore (p : ProblemData) (R : List ℕ) (ts : List Tuple) : Type 0 where
  pub rules : AreRules p R
  pub some : 0 < length R
  pub refuses : HasNoLayout (with_rules p R)
  pub alike : length ts ≡ length R
  pub each : (k : ℕ) → k < length R → IsLayout (with_rules p (without (slice_index_or R k 0) R)) (slice_index_or ts k [])

abbrev pub Refuse : ProblemData → Core → Type 0
Refuse p (Found t) = Unit {0}
Refuse p Budget = Unit {0}
Refuse p (Left R ts log) = IsCore p R.items ts.items
