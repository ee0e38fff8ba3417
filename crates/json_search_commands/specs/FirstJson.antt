-- What `first_json` answers.
use Rattle.std.specs.Prelude.{◌≡◌, ◌++◌, ◌∷◌, [], ℕ, List, codes}
use Rattle.serde_json.specs.Data.{Data, object, member, no_members}
use Rattle.serde_json.specs.Written.{compact_text}
use Rattle.geo_base.specs.Tuple.{Tuple}
use Rattle.geo_conditions.specs.declared.cond.Cond.{Cond}
use Rattle.derivation.specs.declared.event.Event.{Event}
use Rattle.derivation_text.specs.Lines.{derivation_text}
use Rattle.problem_data.specs.Problem.{ProblemData}
use Rattle.problem_text.specs.NameTable.{name_table}
use Rattle.json_parts.specs.Form.{count_json, text_json}
use Rattle.geo_json.specs.LayoutJson.{layout_json}
use Rattle.command_input.specs.declared.command.Status.{Status}
use Rattle.command_input.specs.declared.command.Status.TheVariants.{Answered, No, Refused, Budget}
use Rattle.command_reply.specs.Accepted.{IsAccepted, AreConditions}
use Rattle.command_reply.specs.Question.{Question}
use Rattle.command_reply.specs.Refusal.{RefusedAnswer}
use Rattle.json_commands.specs.Reading.{json_question}
use Rattle.search_commands.specs.First.{ShowsNone, WritesLayout, WritesNone, WritesSpent}

-- the compact text of a value, and a line feed
abbrev pub json_line : Data → List ℕ
json_line value = compact_text value ++ 10 ∷ []

-- an object of one member
abbrev pub one_member : List ℕ → Data → Data
one_member key value = object (member key value no_members)

-- what is written of a layout, of a derivation's lines, and of a walk that goes on past n members
abbrev pub layout_line : ProblemData → Tuple → List ℕ
layout_line p t = json_line (layout_json p t)

abbrev pub none_line : List ℕ → List ℕ
none_line lines = json_line (one_member (codes "none") (text_json lines))

abbrev pub budget_line : ℕ → List ℕ
budget_line n = json_line (one_member (codes "budget") (count_json n))

-- these are the lines of such a derivation, without the line feed that ends the last of them
pub record ShowsLines (p : ProblemData) (cs : List Cond) (lines : List ℕ) : Type 0 where
  pub events : List Event
  pub shows : ShowsNone p cs events
  pub is : derivation_text (name_table p) events ≡ lines ++ 10 ∷ []

-- the text has such lines
pub record SaysNoneJson (p : ProblemData) (cs : List Cond) (text : List ℕ) : Type 0 where
  pub lines : List ℕ
  pub shows : ShowsLines p cs lines
  pub says : text ≡ none_line lines

-- What is found of a text of statements, by the status that says it; any other text is refused at
-- its first fault.
abbrev pub FindsJson : ℕ → List ℕ → List ℕ → Status → Type 0
FindsJson n built text Answered = WritesLayout layout_line n built text
FindsJson n built text No = WritesNone SaysNoneJson n built text
FindsJson n built text Budget = WritesSpent (λ p. budget_line n) n built text
FindsJson n built text Refused = RefusedAnswer built text
FindsJson n built text _ = ⊥

-- each of the texts has the lines of a derivation of the problem
abbrev pub BothSayNoneJson : List ℕ → List ℕ → List ℕ → Type 0
BothSayNoneJson built text other =
    (p : ProblemData) × (cs : List Cond) × IsAccepted built p × AreConditions p cs
    × SaysNoneJson p cs text × SaysNoneJson p cs other

-- what is asked of a text of statements; each valid derivation may be told
abbrev pub found_question : ℕ → Question
found_question n = record {
  answer = FindsJson n;
  differ = λ built status text other. (status ≡ No) × BothSayNoneJson built text other;
  faultless = λ built. (p : ProblemData) × IsAccepted built p;
  most = 1048577;
}

-- `first_json N`. What `first N` finds of the text of statements that the value of the text spells:
-- the first layout; or the lines of a derivation that there is none; or that the walk goes on.
abbrev pub first_json_question : ℕ → Question
first_json_question n = json_question (found_question n)
