-- What the rounds come to is one thing, but for the derivation.
use Rattle.std.specs.Prelude.{◌≡◌, ℕ}
use Rattle.problem_data.specs.Problem.{ProblemData}
use Rattle.problem_data.specs.WellFormed.{IsWellFormed}
use Rattle.geo_core.specs.Cores.{ComesTo}
use Rattle.geo_core.specs.declared.leaving.Core.{Core}
use Rattle.geo_core.specs.declared.leaving.Core.TheVariants.{Found, Budget, Left}

-- the same, whatever the log is
abbrev pub SameCore : Core → Core → Type 0
SameCore (Found t) (Found u) = t ≡ u
SameCore Budget Budget = Unit {0}
SameCore (Left R ts log) (Left Q us other) = (R.items ≡ Q.items) × (ts.items ≡ us.items)
SameCore (Found t) Budget = ⊥
SameCore (Found t) (Left R ts log) = ⊥
SameCore Budget (Found t) = ⊥
SameCore Budget (Left R ts log) = ⊥
SameCore (Left R ts log) (Found t) = ⊥
SameCore (Left R ts log) Budget = ⊥

abbrev pub RoundsAreOne : Type 0
RoundsAreOne = (p : ProblemData) (n : ℕ) (c d : Core) → IsWellFormed p → ComesTo p n c → ComesTo p n d → SameCore c d
