-- What the check of a derivation behind a problem answers, and `check` with it.
use Rattle.std.specs.Prelude.{◌≡◌, ◌++◌, ◌+◌, ◌^◌, ℕ, List, codes, decimal, map}
use Rattle.geo_conditions.specs.declared.cond.Cond.{Cond}
use Rattle.geo_tokens.specs.declared.fault.FaultWord.{FaultWord}
use Rattle.derivation.specs.Nodes.{Node, node_events}
use Rattle.derivation.specs.Valid.{Valid, FailsFirst}
use Rattle.derivation_reading.specs.FirstFault as derivations
use Rattle.problem_data.specs.Problem.{ProblemData}
use Rattle.problem_text.specs.NameTable.{name_table}
use Rattle.linear_conditions.specs.CondTree.{cond_view}
use Rattle.rule_ground.specs.Start.{first_state}
use Rattle.command_input.specs.declared.command.Status.{Status}
use Rattle.command_input.specs.declared.command.Status.TheVariants.{Answered, No, Refused}
use Rattle.command_reply.specs.Accepted.{IsAccepted}
use Rattle.command_reply.specs.Texts.{AreTextsOf}
use Rattle.command_reply.specs.Question.{Question}
use Rattle.command_reply.specs.Refusal.{RefusedPairAnswer}
use Rattle.check_commands.specs.Claims.{Claim, no_layout}

-- the first fault of a text that spells no derivation over the problem's names, where it begins at
-- the place `from` of the input
pub record HasDerivationFault (p : ProblemData) (text : List ℕ) (from place : ℕ) (word : FaultWord) : Type 0 where
  pub within : ℕ
  pub first : derivations.HasFirstFault (name_table p) text within word
  pub at : place ≡ from + within

-- no NODE
abbrev pub failing_node : ℕ → List ℕ
failing_node n = codes "no " ++ (decimal n ++ codes "\n")

-- the input is a problem and a text behind it that spells the derivation over its names, and the
-- claim can be asked of the problem
pub record Derives (c : Claim) (input : List ℕ) (p : ProblemData) (root : Node) : Type 0 where
  pub first : List ℕ
  pub second : List ℕ
  pub cut : AreTextsOf input first second
  pub accepted : IsAccepted first p
  pub asked : c.asked p
  pub spells : derivations.IsText (name_table p) second (node_events root)

-- of a problem of which the claim can be asked
abbrev pub HasFaultBehind : Claim → ProblemData → List ℕ → ℕ → ℕ → FaultWord → Type 0
HasFaultBehind c p text from place word = c.asked p × HasDerivationFault p text from place word

-- every node of the derivation is valid, so what is claimed is so
pub record FindsValid (c : Claim) (input text : List ℕ) : Type 0 where
  pub problem : ProblemData
  pub conditions : List Cond
  pub root : Node
  pub derives : Derives c input problem root
  pub are : map cond_view conditions ≡ c.conditions problem
  pub valid : Valid conditions (first_state problem) root
  pub none : c.none problem
  pub says : text ≡ codes "yes\n"

-- the node of this number is the first that fails, in text order
pub record FindsFailing (c : Claim) (input text : List ℕ) : Type 0 where
  pub problem : ProblemData
  pub conditions : List Cond
  pub root : Node
  pub node : ℕ
  pub derives : Derives c input problem root
  pub are : map cond_view conditions ≡ c.conditions problem
  pub fails : FailsFirst conditions (first_state problem) root node
  pub says : text ≡ failing_node node

-- `yes` where every node of the derivation is valid; else the number of the first node that fails;
-- other texts are refused at their first fault
abbrev pub ClaimAnswer : Claim → List ℕ → List ℕ → Status → Type 0
ClaimAnswer c input text Answered = FindsValid c input text
ClaimAnswer c input text No = FindsFailing c input text
ClaimAnswer c input text Refused = RefusedPairAnswer (HasFaultBehind c) input text
ClaimAnswer c input text _ = ⊥

-- the input has no fault, and the claim can be asked of it
abbrev pub IsDerivable : Claim → List ℕ → Type 0
IsDerivable c input = (p : ProblemData) × (root : Node) × Derives c input p root

-- the bytes of a first text, of a derivation, and of the piece behind it
abbrev pub most_checked : ℕ
most_checked = 1048577 + (2 ^ 40 + 4096)

-- `check`
abbrev pub ChecksValid : List ℕ → List ℕ → Type 0
ChecksValid input text = FindsValid no_layout input text

abbrev pub CheckAnswer : List ℕ → List ℕ → Status → Type 0
CheckAnswer input text status = ClaimAnswer no_layout input text status

abbrev pub check_question : Question
check_question = record {
  answer = CheckAnswer;
  differ = λ input status text other. ⊥;
  faultless = IsDerivable no_layout;
  most = most_checked;
}
