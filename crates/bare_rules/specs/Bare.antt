-- What rules ask for does not depend on places, as statements.
use Rattle.std.specs.Prelude.{◌≡◌, ◌<◌, ℕ, Bool, length, slice_index_or}
use Rattle.problem_data.specs.Problem.{RuleData, ProblemData}
use Rattle.problem_data.specs.SomeRules.{no_rule}
use Rattle.problem_data.specs.Accepted.{Accepts, IsSaid}
use Rattle.problem_data.specs.Truth.{macro_of}
use Rattle.problem_text.specs.Canonical.{MayState, text_stating, problem_text}
use Rattle.problem_text.specs.ReadBack.{bare_problem, MacrosRise, IsInOrder}
use Rattle.fewer_rules.specs.Fewer.{HasConditions}

-- the rule at a position in file order, from 0
abbrev pub rule_of : ProblemData → ℕ → RuleData
rule_of p k = slice_index_or p.rules k no_rule

-- Where a macro of p stands before another one or before a rule, the macro at its position in q
-- stands before those in q. So what a statement of p may call, that of q may call.
pub record KeepsSight (p q : ProblemData) : Type 0 where
  pub macros : (i j : ℕ) → i < length p.macros → j < length p.macros
      → (macro_of p i).place < (macro_of p j).place → (macro_of q i).place < (macro_of q j).place
  pub rules : (i j : ℕ) → i < length p.macros → j < length p.rules
      → (macro_of p i).place < (rule_of p j).place → (macro_of q i).place < (rule_of q j).place

-- a problem without a fault has none where it stands at other places
abbrev pub PlacesDoNotMatter : Type 0
PlacesDoNotMatter = (p q : ProblemData) → bare_problem p ≡ bare_problem q → KeepsSight p q → HasConditions p → HasConditions q

-- macros may be moved in front of all rules, in their order
abbrev pub MacrosMayStandFirst : Type 0
MacrosMayStandFirst = (p q : ProblemData) → bare_problem p ≡ bare_problem q → MacrosRise p → IsInOrder q → KeepsSight p q

-- What is read of a text of the problem, which may state the order and the sides or leave them out,
-- has no fault where the problem has none.
abbrev pub TextsKeepConditions : Type 0
TextsKeepConditions = (order sides : Bool) (p again : ProblemData) → IsSaid p → MayState order sides p → Accepts (text_stating order sides p) again → HasConditions p → HasConditions again

-- the same of the canonical text
abbrev pub CanonicalTextsKeepConditions : Type 0
CanonicalTextsKeepConditions = (p again : ProblemData) → IsSaid p → Accepts (problem_text p) again → HasConditions p → HasConditions again

-- It is needed that the places are in order: a problem with a fault may have none where it stands
-- at other places.
abbrev pub OrderMatters : Type 0
OrderMatters = (p : ProblemData) × (q : ProblemData) × (bare_problem p ≡ bare_problem q) × HasConditions q × (HasConditions p → ⊥)
