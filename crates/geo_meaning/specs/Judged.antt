-- What a judge says of a tuple.
use Rattle.std.specs.Prelude.{◌≡◌, ◌<◌, ℕ, ◌+◌, true, [], length, slice_index_or, All}
use Rattle.problem_data.specs.Problem.{RuleData, ProblemData}
use Rattle.problem_data.specs.Problem as written
use Rattle.problem_data.specs.Tuple.{Tuple}
use Rattle.problem_data.specs.Cells.{IsApart, IsWithin}
use Rattle.problem_data.specs.Layouts.{DemandHolds}
use Rattle.rule_expand.specs.PlainTruth.{plain_holds}
use Rattle.rule_expand.specs.Rules.{PlainDemand, apart, within, plain}
use Rattle.geo_meaning.specs.declared.judging.Judged.{Judged}
use Rattle.geo_meaning.specs.declared.judging.Judged.TheVariants.{Good, Broken}

-- the rule at this position, from 0 in file order
abbrev pub rule_at : ProblemData → ℕ → RuleData
rule_at p k = slice_index_or p.rules k (record { place = 0; name = []; demand = written.apart })

-- the rule at this position, as it is written, holds on the tuple
abbrev pub RuleHolds : ProblemData → Tuple → ℕ → Type 0
RuleHolds p t k = DemandHolds p t (rule_at p k).demand

-- the rule with this number, from 1, is the first in file order that does not hold
pub record IsFirstBroken (p : ProblemData) (t : Tuple) (n : ℕ) : Type 0 where
  pub position : ℕ
  pub number : n ≡ position + 1
  pub inside : position < length p.rules
  pub before : (k : ℕ) → k < position → RuleHolds p t k
  pub broken : RuleHolds p t position → ⊥

abbrev pub IsJudged : ProblemData → Tuple → Judged → Type 0
IsJudged p t Good = All (λ r. DemandHolds p t r.demand) p.rules
IsJudged p t (Broken n) = IsFirstBroken p t n

-- what a rule without macros asks for is so on the tuple
abbrev pub PlainHolds : ProblemData → Tuple → PlainDemand → Type 0
PlainHolds p t apart = IsApart p t
PlainHolds p t (within ranges) = IsWithin p ranges t
PlainHolds p t (plain f) = plain_holds p t f [] ≡ true

-- ranges are as many as dimensions
abbrev pub IsWide : ProblemData → PlainDemand → Type 0
IsWide p apart = Unit {0}
IsWide p (within ranges) = length ranges ≡ p.dims
IsWide p (plain f) = Unit {0}
