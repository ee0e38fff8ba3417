-- All that is said of a run, as one record: the clauses of the top call.
use Rattle.std.specs.Prelude.{◌≡◌, ◌⊎◌, ◌≤◌, ◌+◌, ℕ, ℤ, List, Option, Some, Bool, true}
use Rattle.std.specs.Option.{option_copied}
use Rattle.geo_chan.specs.Causes.{Rose}
use Rattle.command_input.specs.declared.command.Command.{Command}
use Rattle.command_input.specs.declared.command.PageRequest.{PageRequest}
use Rattle.command_input.specs.declared.command.Command.TheVariants.{All, First, Check, Make, Best, CheckBest, Load, Why, ToJson}
use Rattle.command_input.specs.declared.command.Status.{Status}
use Rattle.command_input.specs.declared.command.Status.TheVariants.{Answered, BadWords, ReadFault, WriteFault, Memory}
use Rattle.command_input.specs.Reading.{TakesAtMost, Tells}
use Rattle.command_input.specs.Words.{HasForm, HasNoForm}
use Rattle.command_reply.specs.Ends.{Ends, WantsFirst}
use Rattle.command_reply.specs.Question.{FrontOf}
use Rattle.layout_commands.specs.Load.{LoadAnswer}
use Rattle.geost_run.specs.Answer.{Answer, AreAlike, Begins}
use Rattle.geost_run.specs.Headline.{BeginsWithNone, BeginsWithNoneBelow, IsComplete, Promises, PromisesAll, PromisesBest, PromisesReturn, PromisesWhy}
use Rattle.geost_run.specs.Questions.{IsFaultless, most_taken}

-- What `run` promises of these words, a source and a sink by what they tell, and the status;
-- `SourceKept` and `SinkKept` say that the source and the sink are as they were.
pub record RunsWell (words : List (List ℕ)) (left left_new : Option (List ℕ)) (taken taken_new reads reads_new : ℕ)
    (old new : Option (List ℕ)) (writes writes_new : ℕ) (quiet : Bool) (SourceKept SinkKept : Type 0)
    (result : Status) : Type 0 where
  pub ends : Ends (Answer words) (Begins words) left reads reads_new old new writes writes_new result
  pub most : TakesAtMost (most_taken Check) left left_new
  pub most_of_one : (command : Command) → HasForm words command → TakesAtMost (most_taken command) left left_new
  pub counted : taken_new ≤ taken + most_taken Check
  pub counted_of_one : (command : Command) → HasForm words command → taken_new ≤ taken + most_taken command
  pub one_status : (input text other : List ℕ) (status another : Status) → Answer words input text status
      → Answer words input other another → status ≡ another
  pub one_text : (input text other : List ℕ) (status : Status) → Answer words input text status
      → Answer words input other status → AreAlike words input status text other
  pub headline : (n : ℕ) → HasForm words (First n)
      → Ends (Promises n) (FrontOf (Promises n)) left reads reads_new old new writes writes_new result
  pub promises : (n : ℕ) → HasForm words (First n) → (input text : List ℕ) (status : Status)
      → Answer words input text status → Promises n input text status
  pub sound : HasForm words Check → result ≡ Answered
      → (input : List ℕ) × Tells left input × BeginsWithNone input
  pub best : (d n : ℕ) → HasForm words (Best d n) → (input text : List ℕ) (status : Status)
      → Answer words input text status → PromisesBest d n input text status
  pub sound_best : (d : ℕ) (e : ℤ) → HasForm words (CheckBest d e) → result ≡ Answered
      → (input : List ℕ) × Tells left input × BeginsWithNoneBelow d e input
  pub loads : (d : ℕ) → HasForm words (Load d) → (input text : List ℕ) (status : Status)
      → Answer words input text status → LoadAnswer d input text status
  pub lists : (page : PageRequest) → HasForm words (All page) → (input text : List ℕ) (status : Status)
      → Answer words input text status → PromisesAll page.most page.budget (option_copied page.token) input text status
  pub why : (n : ℕ) → HasForm words (Why n) → (input text : List ℕ) (status : Status)
      → Answer words input text status → PromisesWhy n input text status
  pub returns : HasForm words ToJson → (input text : List ℕ)
      → Answer words input text Answered → PromisesReturn input text
  pub complete : (command : Command) (input : List ℕ) → HasForm words command → left ≡ Some input
      → IsFaultless command input → (Rose reads reads_new → ⊥) → (Rose writes writes_new → ⊥) → IsComplete result
  pub unread : HasNoForm words
      → SourceKept × ((result ≡ BadWords) ⊎ ((result ≡ WriteFault) ⊎ (result ≡ Memory)))
  pub unread_by_make : (seed n : ℕ) → HasForm words (Make seed n) → SourceKept × (result ≡ ReadFault → ⊥)
  pub kept : result ≡ ReadFault → SinkKept
  pub unwritten : quiet ≡ true → result ≡ Memory → SinkKept
  pub quiet_unread : HasNoForm words → quiet ≡ true → result ≡ Memory → ⊥
  pub wanting : WantsFirst quiet old new result
