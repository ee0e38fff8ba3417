-- What the program answers: the text that it writes and the status that it ends with.
use Rattle.std.specs.Prelude.{◌≡◌, ◌⊎◌, ℕ, List, codes}
use Rattle.command_input.specs.declared.command.Command.{Command}
use Rattle.command_input.specs.declared.command.Status.{Status}
use Rattle.command_input.specs.declared.command.Status.TheVariants.{BadWords}
use Rattle.command_input.specs.Words.{HasForm, HasNoForm}
use Rattle.command_reply.specs.Question.{FrontOf}
use Rattle.geost_run.specs.Questions.{AnswerTo, BeginsOf, question_of}

-- The answer to words that have no form.
pub record BadWordsAnswer (words : List (List ℕ)) (text : List ℕ) (status : Status) : Type 0 where
  pub none : HasNoForm words
  pub says : text ≡ codes "bad words\n"
  pub ends : status ≡ BadWords

abbrev pub BadWordsAnswerTo : List (List ℕ) → List ℕ → List ℕ → Status → Type 0
BadWordsAnswerTo words input text status = BadWordsAnswer words text status

-- the words have the form of a command, and this is its answer
pub record CommandAnswer (words : List (List ℕ)) (input text : List ℕ) (status : Status) : Type 0 where
  pub command : Command
  pub form : HasForm words command
  pub answers : AnswerTo command input text status

-- The text and the status that these words and this input have. It is all that a reader has to
-- believe.
abbrev pub Answer : List (List ℕ) → List ℕ → List ℕ → Status → Type 0
Answer words input text status = CommandAnswer words input text status ⊎ BadWordsAnswer words text status

-- the words have the form of a command, and this is a front part of an answer
pub record CommandBegins (words : List (List ℕ)) (input front : List ℕ) : Type 0 where
  pub command : Command
  pub form : HasForm words command
  pub begins : BeginsOf command input front

-- What may have been written for these words and this input when a run was cut off.
abbrev pub Begins : List (List ℕ) → List ℕ → List ℕ → Type 0
Begins words input front = CommandBegins words input front ⊎ FrontOf (BadWordsAnswerTo words) input front

-- the words have the form of a command whose answers may differ so
pub record MayDiffer (words : List (List ℕ)) (input : List ℕ) (status : Status) (text other : List ℕ) : Type 0 where
  pub command : Command
  pub form : HasForm words command
  pub differ : (question_of command).differ input status text other

-- The texts that these words and this input have with a status are one, but for what the command
-- leaves open: behind the `none` of `first` each valid derivation may stand.
abbrev pub AreAlike : List (List ℕ) → List ℕ → Status → List ℕ → List ℕ → Type 0
AreAlike words input status text other = (text ≡ other) ⊎ MayDiffer words input status text other
