-- Rounds of a search, each without a rule, and what they come to.
use Rattle.std.specs.Prelude.{◌≡◌, ◌⊎◌, ◌<◌, ◌≤◌, ◌^◌, ◌==◌, ◌++◌, not, ℕ, zero, suc, List, [], ◌∷◌, length, map}
use Rattle.std.specs.List.{filter}
use Rattle.geo_base.specs.Tuple.{Tuple}
use Rattle.geo_conditions.specs.declared.cond.Cond.{Cond}
use Rattle.geo_conditions.specs.Conditions.{AllFit}
use Rattle.geo_conditions.specs.Walk.{values, IsListing, More, End}
use Rattle.geo_conditions.specs.Walk as walk
use Rattle.derivation.specs.declared.event.Event.{Event}
use Rattle.derivation.specs.Events.{Kept}
use Rattle.whole_derivation.specs.Whole.{IsDerivation}
use Rattle.linear_conditions.specs.CondTree.{cond_view}
use Rattle.problem_data.specs.Problem.{ProblemData}
use Rattle.problem_data.specs.SomeRules.{with_rules, all_rules}
use Rattle.rule_ground.specs.Ground.{conditions}
use Rattle.rule_ground.specs.Order.{variables_for}
use Rattle.rule_ground.specs.Start.{first_state}
use Rattle.layout_search.specs.FirstLayout.{walk_of, IsFirstLayout, HasNoLayout}
use Rattle.layout_search.specs.declared.first.Outcome.{Outcome}
use Rattle.layout_search.specs.declared.first.Outcome.TheVariants as outcomes
use Rattle.geo_core.specs.declared.leaving.Core.{Core}
use Rattle.geo_core.specs.declared.leaving.Core.TheVariants.{Found, Budget, Left}

-- these conditions are those of the problem
abbrev pub AreConditions : ProblemData → List Cond → Type 0
AreConditions p cs = map cond_view cs ≡ conditions p

-- ---- a round: the listing of one layout among the first n members of the walk

-- it finds the first layout
pub record RoundFinds (p : ProblemData) (n : ℕ) (t : Tuple) : Type 0 where
  pub conditions : List Cond
  pub are : AreConditions p conditions
  pub listing : IsListing (walk_of p conditions) 1 n (values (variables_for p) t ∷ []) More
  pub first : IsFirstLayout p t

-- it ends, and there is no layout
pub record RoundEnds (p : ProblemData) (n : ℕ) : Type 0 where
  pub conditions : List Cond
  pub are : AreConditions p conditions
  pub listing : IsListing (walk_of p conditions) 1 n [] End
  pub none : HasNoLayout p

-- its walk goes on past the budget
pub record RoundSpends (p : ProblemData) (n : ℕ) : Type 0 where
  pub conditions : List Cond
  pub are : AreConditions p conditions
  pub listing : IsListing (walk_of p conditions) 1 n [] walk.OutOfBudget

-- the events are a derivation, which is valid on the first state under the problem's conditions
pub record Refutes (p : ProblemData) (events : List Event) : Type 0 where
  pub conditions : List Cond
  pub are : AreConditions p conditions
  pub fit : AllFit conditions (first_state p)
  pub few : length conditions ≤ 10 ^ 9
  pub derivation : IsDerivation conditions (first_state p) events

abbrev pub HasEnded : ProblemData → ℕ → Outcome Kept → Type 0
HasEnded p n (outcomes.Found t) = RoundFinds p n t
HasEnded p n (outcomes.Nothing log) = RoundEnds p n × Refutes p log.events
HasEnded p n outcomes.OutOfBudget = RoundSpends p n

-- ---- the rounds

-- the rules without one
abbrev pub without : ℕ → List ℕ → List ℕ
without i R = filter (λ j. not (j == i)) R

-- so many rules were left out in turn, and the rules R are left; for each of those that stay a
-- layout was found without it
abbrev pub Tries : ProblemData → ℕ → ℕ → List ℕ → List Tuple → Type 0
Tries p n zero R ts = (R ≡ all_rules p) × (ts ≡ []) × RoundEnds p n
Tries p n (suc i) R ts =
    (Q : List ℕ) × (us : List Tuple) × Tries p n i Q us × (i < length p.rules)
    × (((R ≡ without (suc i) Q) × (ts ≡ us) × RoundEnds (with_rules p (without (suc i) Q)) n)
    ⊎ ((t : Tuple) × RoundFinds (with_rules p (without (suc i) Q)) n t × (R ≡ Q) × (ts ≡ us ++ t ∷ [])))

-- behind so many rounds the next one is spent
abbrev pub SpendsBehind : ProblemData → ℕ → Type 0
SpendsBehind p n = (i : ℕ) × (R : List ℕ) × (ts : List Tuple) × Tries p n i R ts × (i < length p.rules) × RoundSpends (with_rules p (without (suc i) R)) n

-- the first round finds a layout; or it, or one behind it, is spent; or each rule was left out in
-- turn, and the log refutes the rules that are left
abbrev pub ComesTo : ProblemData → ℕ → Core → Type 0
ComesTo p n (Found t) = RoundFinds p n t
ComesTo p n Budget = RoundSpends p n ⊎ SpendsBehind p n
ComesTo p n (Left R ts log) = Tries p n (length p.rules) R.items ts.items × Refutes (with_rules p R.items) log.events
