-- What `why` answers.
use Rattle.std.specs.Prelude.{◌≡◌, ◌++◌, ℕ, List, [], codes, decimal, length, slice_index_or}
use Rattle.std.specs.List.{flat_map, range_with_len}
use Rattle.geo_base.specs.Tuple.{Tuple}
use Rattle.geo_conditions.specs.declared.cond.Cond.{Cond}
use Rattle.geo_core.specs.Cores.{AreConditions, ComesTo}
use Rattle.geo_core.specs.Refusing.{Refuse}
use Rattle.geo_core.specs.declared.leaving.Core.{Core}
use Rattle.geo_core.specs.declared.leaving.Core.TheVariants as cores
use Rattle.layout_text.specs.Block.{block_of}
use Rattle.problem_data.specs.Problem.{ProblemData}
use Rattle.problem_data.specs.SomeRules.{numbered, with_rules}
use Rattle.command_input.specs.declared.command.Status.{Status}
use Rattle.command_input.specs.declared.command.Status.TheVariants.{Answered, No, Refused, Budget}
use Rattle.command_reply.specs.Accepted.{IsAccepted}
use Rattle.command_reply.specs.Question.{Question}
use Rattle.command_reply.specs.Refusal.{RefusedAnswer}
use Rattle.search_commands.specs.First.{IsNoneBehind, out_of_budget}

-- the name of the rule of a number
abbrev pub rule_name : ProblemData → ℕ → List ℕ
rule_name p n = (numbered p.rules n).name

-- a word and the name of a rule, on a line
abbrev pub named_line : ProblemData → List ℕ → ℕ → List ℕ
named_line p word n = word ++ (rule_name p n ++ codes "\n")

-- how many rules are left
abbrev pub core_line : ℕ → List ℕ
core_line n = codes "core " ++ (decimal n ++ codes "\n")

-- each of the rules
abbrev pub rule_lines : ProblemData → List ℕ → List ℕ
rule_lines p R = flat_map (named_line p (codes "rule ")) R

-- a rule, and the block of a layout without it
abbrev pub without_line : ProblemData → ℕ → Tuple → List ℕ
without_line p n t = named_line p (codes "without ") n ++ block_of p t

-- each of the rules with the layout that stands in the same place
abbrev pub without_lines : ProblemData → List ℕ → List Tuple → List ℕ
without_lines p R ts = flat_map (λ k. without_line p (slice_index_or R k 0) (slice_index_or ts k [])) (range_with_len 0 (length R))

abbrev pub core_lines : ProblemData → List ℕ → List Tuple → List ℕ
core_lines p R ts = (core_line (length R) ++ rule_lines p R) ++ without_lines p R ts

-- the lines of the rules that are left, and behind them `none` and a derivation under the
-- conditions of the problem with these rules, which is valid on its first state
pub record SaysCore (p : ProblemData) (R : List ℕ) (ts : List Tuple) (text : List ℕ) : Type 0 where
  pub conditions : List Cond
  pub are : AreConditions (with_rules p R) conditions
  pub none : IsNoneBehind (with_rules p R) conditions (core_lines p R ts) text

-- what the rounds come to, as a text and a status
abbrev pub SaysWhy : ProblemData → ℕ → Core → List ℕ → Status → Type 0
SaysWhy p n (cores.Left R ts log) text Answered = SaysCore p R.items ts.items text
SaysWhy p n (cores.Found t) text No = text ≡ block_of p t
SaysWhy p n cores.Budget text Budget = text ≡ out_of_budget n
SaysWhy p n _ text _ = ⊥

-- the input is a problem, and this is said of what its rounds come to
pub record WritesWhy (n : ℕ) (input text : List ℕ) (status : Status) : Type 0 where
  pub problem : ProblemData
  pub core : Core
  pub accepted : IsAccepted input problem
  pub comes : ComesTo problem n core
  pub refuse : Refuse problem core
  pub says : SaysWhy problem n core text status

-- `why N`. The rules that refuse together, each with a layout of the problem without it, and a
-- derivation; the first layout, where there is one; or `budget`, where a round uses it up. Any
-- other text is refused at its first fault.
abbrev pub WhyAnswer : ℕ → List ℕ → List ℕ → Status → Type 0
WhyAnswer n input text Answered = WritesWhy n input text Answered
WhyAnswer n input text No = WritesWhy n input text No
WhyAnswer n input text Budget = WritesWhy n input text Budget
WhyAnswer n input text Refused = RefusedAnswer input text
WhyAnswer n input text _ = ⊥

-- the texts are the same lines, and behind them derivations under the same conditions
pub record BothSayCore (input text other : List ℕ) : Type 0 where
  pub problem : ProblemData
  pub rules : List ℕ
  pub layouts : List Tuple
  pub accepted : IsAccepted input problem
  pub one : SaysCore problem rules layouts text
  pub another : SaysCore problem rules layouts other

-- behind `none` each valid derivation may stand
abbrev pub why_question : ℕ → Question
why_question n = record {
  answer = WhyAnswer n;
  differ = λ input status text other. BothSayCore input text other;
  faultless = λ input. (p : ProblemData) × IsAccepted input p;
  most = 1048577;
}
