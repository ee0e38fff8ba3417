-- What one round begins with and what it leads to.
use Rattle.std.specs.Prelude.{◌≡◌, ◌<◌, ◌++◌, ◌+ℤ◌, ◌-ℤ◌, ℕ, ℤ, pos, negsuc, List, [], length, Option, None, Some}
use Rattle.geo_conditions.specs.declared.cond.Cond.{Cond}
use Rattle.derivation.specs.Events.{Kept}
use Rattle.problem_data.specs.Problem.{ProblemData}
use Rattle.extent_caps.specs.Capped.{AreCaps, IsReachable}
use Rattle.geo_best.specs.declared.extent.Extent.{Extent}
use Rattle.geo_best.specs.declared.one_round.Best.{Best}
use Rattle.geo_best.specs.declared.one_round.Best.TheVariants.{Refused, Least}
use Rattle.geo_best.specs.declared.one_round.Round.{Round}
use Rattle.geo_best.specs.declared.one_round.Rounds.{Rounds}
use Rattle.geo_best.specs.declared.one_round.Turn.{Turn}
use Rattle.geo_best.specs.declared.one_round.Turn.TheVariants.{On, Over}
use Rattle.geo_best.specs.Rounds.{AreOwn, Comes, IsBest, IsSmallBest, PromisesLeast, ShowsBest}

-- behind no layout there are no caps; behind another those below its end
abbrev pub CapsBelow : ProblemData → ℕ → Option Extent → List Cond → Type 0
CapsBelow p d None cs = cs ≡ []
CapsBelow p d (Some x) cs = AreCaps p d (x.end -ℤ pos 1) cs

-- the conditions of a round: the problem's own, of which there are so many, and caps behind them
pub record AreOfRound (p : ProblemData) (d own : ℕ) (r : Option Extent) (cs : List Cond) : Type 0 where
  pub first : List Cond
  pub caps : List Cond
  pub both : cs ≡ first ++ caps
  pub count : length first ≡ own
  pub are_own : AreOwn p first
  pub are_caps : CapsBelow p d r caps

-- its layout ends where a layout may end
abbrev pub IsSmallEnd : Option Extent → Type 0
IsSmallEnd None = Unit {0}
IsSmallEnd (Some x) = IsReachable x.end

-- the rounds come to this one, and these are its conditions
pub record IsRound (p : ProblemData) (d n own : ℕ) (round : Round) : Type 0 where
  pub number : ℕ
  pub comes : Comes p d n number round.last
  pub small : IsSmallEnd round.last
  pub conditions : AreOfRound p d own round.last round.conditions.items

-- how many rounds there may be yet, by the last layout
abbrev pub number_of : ℤ → ℕ
number_of (pos n) = n
number_of (negsuc n) = 0

abbrev pub room : Option Extent → ℕ
room None = 5000001
room (Some x) = number_of (x.end +ℤ pos 2000000)

-- what the rounds come to at one that finds nothing
abbrev pub stopped : Option Extent → Kept → Best
stopped None log = Refused log
stopped (Some x) log = Least x.end x.layout log

-- the rounds are over
pub record AreOver (p : ProblemData) (d n : ℕ) (rounds : Rounds) : Type 0 where
  pub best : IsBest p d n rounds.best
  pub least : PromisesLeast p d rounds.best
  pub small : IsSmallBest rounds.best
  pub shows : ShowsBest p d rounds.conditions.items rounds.best

-- another round comes, and fewer than before; or they are over
abbrev pub Turns : ProblemData → ℕ → ℕ → ℕ → Round → Turn → Type 0
Turns p d n own round (On next) = IsRound p d n own next × (room next.last < room round.last)
Turns p d n own round (Over rounds) = AreOver p d n rounds
