-- Which tuples are layouts of a problem.
use Rattle.std.specs.Prelude.{◌≡◌, true, All}
use Rattle.problem_data.specs.Problem.{DemandData, apart, within, plain, ProblemData}
use Rattle.problem_data.specs.Tuple.{Tuple}
use Rattle.problem_data.specs.Truth.{formula_holds}
use Rattle.problem_data.specs.Cells.{IsApart, IsWithin, IsTuple}

-- what a rule asks for is so on the tuple
abbrev pub DemandHolds : ProblemData → Tuple → DemandData → Type 0
DemandHolds p t apart = IsApart p t
DemandHolds p t (within ranges) = IsWithin p ranges t
DemandHolds p t (plain f) = formula_holds p t f ≡ true

-- a tuple on which every rule holds
pub record IsLayout (p : ProblemData) (t : Tuple) : Type 0 where
  pub tuple : IsTuple p t
  pub rules : All (λ r. DemandHolds p t r.demand) p.rules
