-- What a search answered is what is found of the text, and what `make` sums up of it.
use Rattle.std.proofs.Common.{◌≡◌, ◌∙◌, ℕ, List, ◌++◌, length, refl, sym, ap, subst}
use Rattle.std.specs.Prelude.{codes}
use Rattle.std.proofs.lemmas.List.{length-map}
use Rattle.geo_base.specs.Tuple.{Tuple}
use Rattle.derivation.specs.declared.recorder.NoRecord.{NoRecord}
use Rattle.layout_search.specs.FirstLayout.{AreConditionsOf, Finds, Lists}
use Rattle.layout_search.specs.declared.first.Outcome.{Outcome}
use Rattle.layout_search.specs.declared.first.Outcome.TheVariants.{Found, Nothing, OutOfBudget}
use Rattle.layout_text.specs.Block.{token_line}
use Rattle.linear_conditions.specs.CondTree.{cond_view}
use Rattle.problem_data.specs.Problem.{ProblemData}
use Rattle.problem_data.specs.Accepted.{Accepts}
use Rattle.problem_generator.specs.Made.{made_text}
use Rattle.problem_data.specs.Cells.{IsTuple, IsShaped}
use Rattle.rule_ground.specs.Ground.{conditions}
use Rattle.command_reply.specs.declared.accepted.Accepted.{Accepted}
use Rattle.command_reply.specs.Accepted.{HasRead, IsRefused}
use Rattle.search_commands.specs.First.{FindsLayout, FindsNone, RunsOut}
use Rattle.search_commands.specs.Make.{MakeAnswer, counts}
use Rattle.search_commands.specs.Summed.{IsShapedFor, answer_lines, outcome_status}
use Rattle.command_reply.specs.Reply.{IsAnswered}
use Rattle.command_reply.proofs.Refusals.{not_refused}
use Rattle.fewer_rules.specs.Fewer.{HasConditions}
use Rattle.generated_conditions.specs.Conditions.{HasRackConditions}
use Rattle.geo_tokens.specs.declared.fault.FaultWord.{FaultWord}

module _ {R : Type 0} (n : ℕ) (input : List ℕ) (a : Accepted) (read : HasRead input a) (o : Outcome R) (lists : Lists a.problem a.conditions.items n o) (finds : Finds a.problem o) where
  pub layout_found : (t : Tuple) → o ≡ Found t → FindsLayout n input a.problem a.conditions.items t
  layout_found t is = record {
    accepted = read.accepted;
    are = read.are;
    listing = subst (Lists a.problem a.conditions.items n) is lists;
    first = subst (Finds a.problem) is finds;
  }

  pub none_found : (r : R) → o ≡ Nothing r → FindsNone n input a.problem a.conditions.items
  none_found r is = record {
    accepted = read.accepted;
    are = read.are;
    listing = subst (Lists a.problem a.conditions.items n) is lists;
    none = subst (Finds a.problem) is finds;
  }

  pub ran_out : o ≡ OutOfBudget → RunsOut n input a.problem a.conditions.items
  ran_out is = record { accepted = read.accepted; are = read.are; listing = subst (Lists a.problem a.conditions.items n) is lists }

-- there are as many conditions as trees of them
as_many : (text : List ℕ) (a : Accepted) → HasRead text a → length a.conditions.items ≡ length (conditions a.problem)
as_many text a h = sym (length-map a.conditions.items cond_view) ∙ ap length h.are

-- the numbers that are written are those of each made problem
numbers_are : (text : List ℕ) (a : Accepted) → HasRead text a → HasRackConditions a.problem → counts (length a.problem.objects) (length a.conditions.items) ≡ counts 40 3600
numbers_are text a h rack = λ i. counts (rack.objects i) ((as_many text a h ∙ rack.conditions) i)

-- what is written of a search over a problem that was made from a seed
pub summed : (seed n : ℕ) (input : List ℕ) (a : Accepted) → HasRead (made_text seed) a → HasRackConditions a.problem → (o : Outcome NoRecord) → Lists a.problem a.conditions.items n o → Finds a.problem o
    → MakeAnswer seed n input (counts (length a.problem.objects) (length a.conditions.items) ++ answer_lines o) (outcome_status o) × IsAnswered (outcome_status o)
summed seed n input a h rack (Found t) l f = (
  record {
    problem = a.problem;
    conditions = a.conditions.items;
    tuple = t;
    found = layout_found {R = NoRecord} n (made_text seed) a h (Found t) l f t refl;
    says = ap (λ (u : List ℕ). u ++ (codes "answer layout\n" ++ token_line t)) (numbers_are (made_text seed) a h rack);
  },
  tt,
)
summed seed n input a h rack (Nothing r) l f = (
  record {
    problem = a.problem;
    conditions = a.conditions.items;
    found = none_found {R = NoRecord} n (made_text seed) a h (Nothing r) l f r refl;
    says = ap (λ (u : List ℕ). u ++ codes "answer none\n") (numbers_are (made_text seed) a h rack);
  },
  tt,
)
summed seed n input a h rack OutOfBudget l f = (
  record {
    problem = a.problem;
    conditions = a.conditions.items;
    found = ran_out {R = NoRecord} n (made_text seed) a h OutOfBudget l f refl;
    says = ap (λ (u : List ℕ). u ++ codes "answer budget\n") (numbers_are (made_text seed) a h rack);
  },
  tt,
)

-- a tuple has the form of one
pub shaped_tuple : (p : ProblemData) (t : Tuple) → IsTuple p t → IsShaped p t
shaped_tuple p t h = record { objects = h.objects; each = λ o l. (h.each o l).form }

-- a layout that was found has the form of one
pub shaped_found : (p : ProblemData) (o : Outcome NoRecord) → Finds p o → IsShapedFor p o
shaped_found p (Found t) f = shaped_tuple p t f.layout.tuple
shaped_found p (Nothing r) f = tt
shaped_found p OutOfBudget f = tt

-- the conditions that were read are those of the problem
pub read_conditions : (text : List ℕ) (a : Accepted) → HasRead text a → AreConditionsOf a.problem a.conditions.items
read_conditions text a h = record { fit = h.fit; meaning = h.meaning }

-- the text that is made is not refused
pub made_not_refused : (seed place : ℕ) (word : FaultWord) → (p : ProblemData) × Accepts (made_text seed) p → ((p : ProblemData) → Accepts (made_text seed) p → HasRackConditions p) → IsRefused (made_text seed) place word → ⊥
made_not_refused seed place word read each refused =
    let rules : HasConditions read.0 = (each read.0 read.1).faultless in
    not_refused (made_text seed) read.0 place word (record { spells = read.1; names = rules.names; expands = rules.expands; grounds = rules.grounds }) refused
