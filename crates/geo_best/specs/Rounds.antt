-- The least extent: which rounds there are, what they come to, and what is promised of it.
use Rattle.std.specs.Prelude.{◌≡◌, ◌⊎◌, ◌≤◌, ◌^◌, ◌++◌, ◌-ℤ◌, ℕ, zero, suc, ℤ, pos, List, [], length, map, Option, None, Some}
use Rattle.geo_base.specs.Tuple.{Tuple}
use Rattle.geo_conditions.specs.declared.cond.Cond.{Cond}
use Rattle.geo_conditions.specs.Conditions.{AllFit}
use Rattle.derivation.specs.Events.{Kept}
use Rattle.whole_derivation.specs.Whole.{IsDerivation}
use Rattle.linear_conditions.specs.CondTree.{CondTree, cond_view}
use Rattle.problem_data.specs.Problem.{ProblemData}
use Rattle.problem_data.specs.Layouts.{IsLayout}
use Rattle.rule_ground.specs.Ground.{conditions, most_conditions}
use Rattle.rule_ground.specs.Order.{ComesBefore}
use Rattle.rule_ground.specs.Start.{first_state}
use Rattle.extent_caps.specs.Capped.{IsReachable}
use Rattle.extent_caps.specs.Extents.{IsEnd, EndsBy, caps}
use Rattle.layout_search.specs.FirstLayout.{AreConditionsOf, Lists, HasNoLayout}
use Rattle.layout_search.specs.declared.first.Outcome.{Outcome}
use Rattle.layout_search.specs.declared.first.Outcome.TheVariants.{Found, Nothing, OutOfBudget}
use Rattle.geo_best.specs.declared.extent.Extent.{Extent}
use Rattle.geo_best.specs.declared.one_round.Best.{Best}
use Rattle.geo_best.specs.declared.one_round.Best.TheVariants.{Refused, Budget, Bare, Least}

-- ---- rounds

-- these are the problem's own conditions
pub record AreOwn (p : ProblemData) (cs : List Cond) : Type 0 where
  pub are : map cond_view cs ≡ conditions p
  pub of : AreConditionsOf p cs
  pub few : length cs ≤ most_conditions

-- the conditions that no layout ends before this one does
abbrev pub caps_below : ProblemData → ℕ → Option Extent → List CondTree
caps_below p d None = []
caps_below p d (Some x) = caps p d (x.end -ℤ pos 1)

-- the conditions of a round: those of the problem, and behind a layout the caps below its end
abbrev pub round_conditions : ProblemData → ℕ → Option Extent → List CondTree
round_conditions p d r = conditions p ++ caps_below p d r

-- what a round looks for: a layout, and behind another one a layout that ends before it does
abbrev pub IsOfRound : ProblemData → ℕ → Option Extent → Tuple → Type 0
IsOfRound p d None t = IsLayout p t
IsOfRound p d (Some x) t = IsLayout p t × EndsBy p t d (x.end -ℤ pos 1)

-- the first one was found, or there is none
abbrev pub FindsFirst : ProblemData → ℕ → Option Extent → Outcome Kept → Type 0
FindsFirst p d r (Found t) = IsOfRound p d r t × ((u : Tuple) → IsOfRound p d r u → (u ≡ t) ⊎ ComesBefore p t u)
FindsFirst p d r (Nothing log) = (t : Tuple) → IsOfRound p d r t → ⊥
FindsFirst p d r OutOfBudget = Unit {0}

-- the round behind a layout ends so: the listing of one layout among the first n members of the
-- walk
pub record EndsRound (p : ProblemData) (d n : ℕ) (r : Option Extent) (o : Outcome Kept) : Type 0 where
  pub conditions : List Cond
  pub are : map cond_view conditions ≡ round_conditions p d r
  pub listing : Lists p conditions n o
  pub finds : FindsFirst p d r o

-- The rounds come to the round of this number, from 0, which stands behind this layout: the first
-- behind none, and behind one that found a layout with an end the next.
abbrev pub Comes : ProblemData → ℕ → ℕ → ℕ → Option Extent → Type 0
Comes p d n zero r = r ≡ None
Comes p d n (suc k) r = (s : Option Extent) × (x : Extent) × Comes p d n k s × EndsRound p d n s (Found x.layout) × IsEnd p x.layout d (Some x.end) × (r ≡ Some x)

-- some round behind this layout is come to, and it ends so
abbrev pub RoundsEnd : ProblemData → ℕ → ℕ → Option Extent → Outcome Kept → Type 0
RoundsEnd p d n r o = (k : ℕ) × Comes p d n k r × EndsRound p d n r o

-- what the rounds come to: the first finds nothing; one is spent; one finds a layout without a box;
-- or one finds nothing behind another layout
abbrev pub IsBest : ProblemData → ℕ → ℕ → Best → Type 0
IsBest p d n (Refused log) = RoundsEnd p d n None (Nothing log)
IsBest p d n Budget = (r : Option Extent) × RoundsEnd p d n r OutOfBudget
IsBest p d n (Bare t) = (r : Option Extent) × RoundsEnd p d n r (Found t) × IsEnd p t d None
IsBest p d n (Least e t log) = RoundsEnd p d n (Some (record { end = e; layout = t })) (Nothing log)

-- ---- what is promised of it

-- a layout without a box, the first of those
pub record IsBare (p : ProblemData) (d : ℕ) (t : Tuple) : Type 0 where
  pub layout : IsLayout p t
  pub end : IsEnd p t d None
  pub first : (u : Tuple) → IsLayout p u → IsEnd p u d None → (u ≡ t) ⊎ ComesBefore p t u

-- a layout that ends at e, the first of those; and no layout ends before
pub record IsLeast (p : ProblemData) (d : ℕ) (e : ℤ) (t : Tuple) : Type 0 where
  pub layout : IsLayout p t
  pub end : IsEnd p t d (Some e)
  pub least : (u : Tuple) → IsLayout p u → EndsBy p u d (e -ℤ pos 1) → ⊥
  pub first : (u : Tuple) → IsLayout p u → IsEnd p u d (Some e) → (u ≡ t) ⊎ ComesBefore p t u

abbrev pub PromisesLeast : ProblemData → ℕ → Best → Type 0
PromisesLeast p d (Refused log) = HasNoLayout p
PromisesLeast p d Budget = Unit {0}
PromisesLeast p d (Bare t) = IsBare p d t
PromisesLeast p d (Least e t log) = IsLeast p d e t

-- the end that is told is one that a layout may have
abbrev pub IsSmallBest : Best → Type 0
IsSmallBest (Refused log) = Unit {0}
IsSmallBest Budget = Unit {0}
IsSmallBest (Bare t) = Unit {0}
IsSmallBest (Least e t log) = IsReachable e

-- ---- what shows it

-- the conditions are those of the round behind this layout, and under them the events are a
-- derivation, which is valid on the first state
pub record ShowsEnd (p : ProblemData) (d : ℕ) (r : Option Extent) (cs : List Cond) (log : Kept) : Type 0 where
  pub are : map cond_view cs ≡ round_conditions p d r
  pub fit : AllFit cs (first_state p)
  pub derivation : IsDerivation cs (first_state p) log.events
  pub few : length cs ≤ 10 ^ 9

abbrev pub ShowsBest : ProblemData → ℕ → List Cond → Best → Type 0
ShowsBest p d cs (Refused log) = ShowsEnd p d None cs log
ShowsBest p d cs Budget = Unit {0}
ShowsBest p d cs (Bare t) = Unit {0}
ShowsBest p d cs (Least e t log) = ShowsEnd p d (Some (record { end = e; layout = t })) cs log

-- ---- that it is one

-- they say the same, but for records
abbrev pub AreSameBest : Best → Best → Type 0
AreSameBest (Refused a) (Refused b) = Unit {0}
AreSameBest Budget Budget = Unit {0}
AreSameBest (Bare t) (Bare u) = t ≡ u
AreSameBest (Least e t a) (Least f u b) = (e ≡ f) × (t ≡ u)
AreSameBest _ _ = ⊥
