-- What the calls that ground rules answer.
use Rattle.std.specs.Prelude.{◌≡◌, ℕ, List, map, length, Result, Ok, Err, MatchResult, All}
use Rattle.std.specs.declared.vec.Vec.{Vec}
use Rattle.std.specs.declared.alloc.Global.{Global}
use Rattle.geo_tokens.specs.declared.fault.TextFault.{TextFault}
use Rattle.geo_tokens.specs.declared.fault.TextFault.TheVariants as faults
use Rattle.geo_tokens.specs.declared.fault.FaultWord.TheVariants as words
use Rattle.geo_conditions.specs.declared.cond.Cond.{Cond}
use Rattle.problem_data.specs.Problem.{ProblemData}
use Rattle.problem_data.specs.WellFormed.{IsRange}
use Rattle.rule_expand.specs.Rules.{PlainDemand, apart, within, plain}
use Rattle.linear_conditions.specs.CondTree.{CondTree, cond_view}
use Rattle.linear_conditions.specs.declared.fault.GroundFault.{GroundFault}
use Rattle.linear_conditions.specs.declared.fault.GroundFault.TheVariants.{Overflow, TooMany, Memory}

-- the fault of a rule whose name stands at that place
abbrev pub fault_at : ℕ → GroundFault → TextFault
fault_at place Overflow = faults.At place words.Overflow
fault_at place TooMany = faults.At place words.Ground
fault_at place Memory = faults.Memory

-- it is the fault; want of memory is free
abbrev pub IsRulesFault : Result (List CondTree) TextFault → TextFault → Type 0
IsRulesFault r faults.Memory = Unit {0}
IsRulesFault r (faults.At place word) = r ≡ Err (faults.At place word)

-- a call's answer: the conditions, or the fault
abbrev pub AnswersRules : Result (List CondTree) TextFault → Result (Vec Cond Global) TextFault → Type 0
AnswersRules o r = MatchResult r (λ v. o ≡ Ok (map cond_view v.items)) (λ e. IsRulesFault o e)

-- the ranges of `within` are right, and one for each dimension
abbrev pub HasRanges : ProblemData → PlainDemand → Type 0
HasRanges p apart = Unit {0}
HasRanges p (within ranges) = (length ranges ≡ p.dims) × All IsRange ranges
HasRanges p (plain f) = Unit {0}
