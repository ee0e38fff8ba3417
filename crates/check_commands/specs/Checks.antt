-- What a check makes of a problem and the text behind it.
use Rattle.std.specs.Prelude.{◌≡◌, ◌≤◌, ◌<◌, ℕ, List, [], ◌++◌, length, map, take, drop, Bool, true, false, Option, Result, Ok, Err, codes}
use Rattle.geo_tokens.specs.declared.fault.FaultWord.{FaultWord}
use Rattle.geo_tokens.specs.declared.fault.TextFault.{TextFault}
use Rattle.geo_conditions.specs.declared.cond.Cond.{Cond}
use Rattle.geo_conditions.specs.Reach.{State}
use Rattle.derivation.specs.Nodes.{Node, node_events}
use Rattle.derivation.specs.Valid.{Valid, FailsFirst}
use Rattle.derivation_check.specs.Checking.{Checking}
use Rattle.derivation_check.specs.declared.progress.Checked.{Checked}
use Rattle.derivation_check.specs.declared.progress.Checked.TheVariants as verdicts
use Rattle.derivation_reading.specs.declared.feeder.Feeder.{Feeder}
use Rattle.derivation_reading.specs.FirstFault.{IsText, HasFaultFrom}
use Rattle.stream_check.specs.Streaming.{HasChecked}
use Rattle.problem_data.specs.Problem.{ProblemData}
use Rattle.problem_text.specs.NameTable.{name_table}
use Rattle.rule_ground.specs.Start.{first_state}
use Rattle.linear_conditions.specs.CondTree.{cond_view}
use Rattle.layout_search.specs.FirstLayout.{HasNoSolution}
use Rattle.command_input.specs.Reading.{Tells, ReadsUpTo}
use Rattle.geo_tokens.specs.declared.fault.TextFault.TheVariants as faults
use Rattle.command_input.specs.declared.command.Status.{Status}
use Rattle.command_input.specs.declared.command.Status.TheVariants.{Answered, No, Refused}
use Rattle.command_reply.specs.Refusal.{refusal}
use Rattle.command_reply.specs.Accepted.{HasRead}
use Rattle.command_reply.specs.Texts.{AreTextsOf, IsRefusedPair}
use Rattle.check_commands.specs.Check.{FindsFailing, FindsValid, HasDerivationFault, HasFaultBehind, failing_node}
use Rattle.check_commands.specs.Claims.{Claim}
use Rattle.check_commands.specs.declared.front.Front.{Front}
use Rattle.check_commands.specs.declared.front.SecondText.{SecondText}

-- what was read of an input: the text of its problem, and the first bytes behind it
abbrev pub bytes_before : SecondText → List ℕ
bytes_before s = take s.place s.read.items

abbrev pub bytes_behind : SecondText → List ℕ
bytes_behind s = drop s.place s.read.items

-- the problem that the input of a source begins with was read, and what was read with it: at most
-- one byte more than a text may have
pub record IsFront (left new : Option (List ℕ)) (f : Front) : Type 0 where
  pub read : ReadsUpTo 1048577 left new [] f.second.read.items
  pub inside : f.second.place ≤ length f.second.read.items
  pub cut : AreTextsOf f.second.read.items (bytes_before f.second) (bytes_behind f.second)
  pub problem : HasRead (bytes_before f.second) f.accepted
  pub all : f.second.is_whole ≡ true → length f.second.read.items < 1048577
  pub part : f.second.is_whole ≡ false → 1048576 < length f.second.read.items

-- no text behind a problem has a fault
abbrev pub NothingBehind : ProblemData → List ℕ → ℕ → ℕ → FaultWord → Type 0
NothingBehind p text from place word = ⊥

-- the fault of the problem is that of the input, whatever text is wanted behind it
abbrev pub RefusesProblem : List ℕ → TextFault → Type 0
RefusesProblem input (faults.At place word) = IsRefusedPair NothingBehind input place word
RefusesProblem input faults.Memory = Unit {0}

-- a call's answer: what was read, or the fault of the problem
abbrev pub AnswersFront : Option (List ℕ) → Option (List ℕ) → Result Front TextFault → Type 0
AnswersFront left new (Ok f) = IsFront left new f
AnswersFront left new (Err fault) = (input : List ℕ) × Tells left input × RefusesProblem input fault

-- what comes behind the bytes that were read: nothing where they are all, else what the source has
-- left
abbrev pub Follows : Bool → Option (List ℕ) → List ℕ → Type 0
Follows true left more = more ≡ []
Follows false left more = Tells left more

-- a check that began with the reading `old` has come to the end: the text is a derivation whose
-- events were checked on the first state, or it has this fault
abbrev pub HasEnded : {T : Type 0} → State → ℕ → Feeder → Checking → Result T TextFault → List ℕ → Type 0
HasEnded first k old c (Ok _) text = HasChecked first k old.names.now c text
HasEnded first k old c (Err fault) text = HasFaultFrom old.names.now old.place text fault

-- what is found of a text that begins at the place `from` of the input, behind a problem with these
-- conditions
abbrev pub FindsOf : ProblemData → List Cond → List ℕ → ℕ → Result Checked TextFault → Type 0
FindsOf p cs text from (Ok verdicts.Yes) = (root : Node) × IsText (name_table p) text (node_events root) × Valid cs (first_state p) root × HasNoSolution p cs
FindsOf p cs text from (Ok (verdicts.No n)) = (root : Node) × IsText (name_table p) text (node_events root) × FailsFirst cs (first_state p) root n
FindsOf p cs text from (Err (faults.At place word)) = HasDerivationFault p text from place word
FindsOf p cs text from (Err faults.Memory) = Unit {0}

-- what is found of the text of which these are the first bytes, and the source has the others left
abbrev pub FindsBehind : ProblemData → List Cond → SecondText → Option (List ℕ) → Result Checked TextFault → Type 0
FindsBehind p cs s left found = (more : List ℕ) × Follows s.is_whole left more × FindsOf p cs (bytes_behind s ++ more) s.place found

-- a claim can be asked of the problem, these are its conditions, and it is so where they have no
-- solution
pub record Serves (c : Claim) (p : ProblemData) (cs : List Cond) : Type 0 where
  pub asked : c.asked p
  pub are : map cond_view cs ≡ c.conditions p
  pub none : HasNoSolution p cs → c.none p

-- what is found of an input is what is answered to it
abbrev pub FindsIn : Claim → List ℕ → Result Checked TextFault → Type 0
FindsIn c input (Ok verdicts.Yes) = FindsValid c input (codes "yes\n")
FindsIn c input (Ok (verdicts.No n)) = FindsFailing c input (failing_node n)
FindsIn c input (Err (faults.At place word)) = IsRefusedPair (HasFaultBehind c) input place word
FindsIn c input (Err faults.Memory) = Unit {0}

-- what is written of what was found, and the status with it
abbrev pub IsReplyTo : Result Checked TextFault → List ℕ → Status → Type 0
IsReplyTo (Ok verdicts.Yes) text status = (text ≡ codes "yes\n") × (status ≡ Answered)
IsReplyTo (Ok (verdicts.No n)) text status = (text ≡ failing_node n) × (status ≡ No)
IsReplyTo (Err (faults.At place word)) text status = (text ≡ refusal place word) × (status ≡ Refused)
IsReplyTo (Err faults.Memory) text status = ⊥
