-- What is asked of the text of statements that a text of JSON spells, and how a text is refused
-- that spells none.
use Rattle.std.specs.Prelude.{◌≡◌, ◌<◌, ◌≤◌, List, ℕ, length, codes}
use Rattle.geo_tokens.specs.declared.fault.FaultWord.TheVariants as words
use Rattle.problem_data.specs.Accepted.{most_bytes}
use Rattle.json_sheets.specs.SheetText.{TextSpells, SpellsNothing}
use Rattle.command_input.specs.declared.command.Status.{Status}
use Rattle.command_input.specs.declared.command.Status.TheVariants as statuses
use Rattle.command_reply.specs.Question.{Question}
use Rattle.command_reply.specs.Refusal.{refusal}
use Rattle.json_commands.specs.declared.reading.Reading.{Reading}
use Rattle.json_commands.specs.declared.reading.Reading.TheVariants.{Spelled, Refused}

-- what is written of a text that has no value, or one that has not the form of a problem
abbrev pub no_form_text : List ℕ
no_form_text = codes "refused 0 json\n"

-- The text and the status that answer a text of JSON, where these answer a text of statements. It
-- is too long; or it has no value of the right form; or its value spells a text of statements.
pub data Replies (Built : List ℕ → List ℕ → Status → Type 0) (input text : List ℕ) (status : Status) : Type 0 where
  long : most_bytes < length input → text ≡ refusal most_bytes words.Long → status ≡ statuses.Refused → Replies Built input text status
  no_form : length input ≤ most_bytes → SpellsNothing input → text ≡ no_form_text → status ≡ statuses.Refused → Replies Built input text status
  spelled : length input ≤ most_bytes → (built : List ℕ) → TextSpells input built → Built built text status → Replies Built input text status

-- the text and the status that answer a text which spells nothing
abbrev pub RepliesUnspelled : List ℕ → List ℕ → Status → Type 0
RepliesUnspelled input text status = Replies (λ built out ends. ⊥) input text status

-- a call's answer: the text of statements, or the reply
abbrev pub AnswersReading : List ℕ → Reading → Type 0
AnswersReading input (Spelled built) = (length input ≤ most_bytes) × TextSpells input built.items
AnswersReading input (Refused reply) = RepliesUnspelled input reply.text.items reply.status

-- the text has a value that spells a text of statements without a fault
pub record SpellsFaultless (Faultless : List ℕ → Type 0) (input : List ℕ) : Type 0 where
  pub short : length input ≤ most_bytes
  pub built : List ℕ
  pub spells : TextSpells input built
  pub faultless : Faultless built

-- What a command asks that reads a text of JSON and asks this of the text of statements that it
-- spells. A text that is too long, and one that spells nothing, is refused.
abbrev pub json_question : Question → Question
json_question q = record {
  answer = Replies q.answer;
  differ = λ input status text other. (built : List ℕ) × TextSpells input built × q.differ built status text other;
  faultless = SpellsFaultless q.faultless;
  most = 1048577;
}
