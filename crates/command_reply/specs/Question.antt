-- What a command asks, and when a reply answers it.
use Rattle.std.specs.Prelude.{◌≡◌, ◌⊎◌, ◌++◌, ◌+◌, ◌^◌, ◌≤◌, ℕ, List, Option}
use Rattle.command_input.specs.Reading.{Tells}
use Rattle.command_input.specs.declared.command.Status.{Status}
use Rattle.command_input.specs.declared.command.Status.TheVariants.{Answered, No, Budget}
use Rattle.command_reply.specs.Reply.{IsAnswered}

-- What a command asks: `answer` are the texts that answer an input, each with the status of the
-- run; `differ` is what two answers with one status may have in place of being one; `faultless` are
-- the inputs whose texts have no fault; and at most `most` bytes are taken, and nothing is read
-- where that is none.
pub record Question : Type 1 where
  pub answer : List ℕ → List ℕ → Status → Type 0
  pub differ : List ℕ → Status → List ℕ → List ℕ → Type 0
  pub faultless : List ℕ → Type 0
  pub most : ℕ

-- a status with which the whole of an answer to texts without a fault was written
abbrev pub IsVerdict : Status → Type 0
IsVerdict s = (s ≡ Answered) ⊎ ((s ≡ No) ⊎ (s ≡ Budget))

-- an input has one status, and with it one text but for what may differ; texts without a fault have
-- a verdict; and no command takes more than a first text, a derivation, and the piece behind them
pub record IsSound (q : Question) : Type 0 where
  pub one_status : (input text other : List ℕ) (status another : Status) → q.answer input text status → q.answer input other another → status ≡ another
  pub one_text : (input text other : List ℕ) (status : Status) → q.answer input text status → q.answer input other status → (text ≡ other) ⊎ q.differ input status text other
  pub complete : (input text : List ℕ) (status : Status) → q.faultless input → q.answer input text status → IsVerdict status
  pub within : q.most ≤ 1048577 + (2 ^ 40 + 4096)

-- each text that a reply may come to is an answer to the input
abbrev pub AnswersInput : (List ℕ → List ℕ → Status → Type 0) → List ℕ → (List ℕ → Status → Type 0) → Type 0
AnswersInput answer input says = (text : List ℕ) (status : Status) → says text status → answer input text status × IsAnswered status

-- the reply answers the input that a source had left, where it tells it
pub record Decides (q : Question) (left : Option (List ℕ)) (says : List ℕ → Status → Type 0) : Type 0 where
  pub input : List ℕ
  pub told : Tells left input
  pub answers : AnswersInput q.answer input says

-- a front part of a text that is an answer
abbrev pub FrontOf : (List ℕ → List ℕ → Status → Type 0) → List ℕ → List ℕ → Type 0
FrontOf answer input front = (text : List ℕ) × (status : Status) × (back : List ℕ) × answer input text status × (text ≡ front ++ back)
