-- How a run ends, from how its command did.
use Rattle.std.proofs.Common.{inl, inr, ℕ, List, refl}
use Rattle.std.specs.Prelude.{Option, codes}
use Rattle.geo_chan.specs.Written.{AppendsFront}
use Rattle.command_input.specs.declared.command.Command.{Command}
use Rattle.command_input.specs.declared.command.Status.{Status}
use Rattle.command_input.specs.declared.command.Status.TheVariants.{BadWords, WriteFault, Memory}
use Rattle.command_input.specs.Words.{HasForm, HasNoForm}
use Rattle.command_reply.specs.Ends.{WroteFront, Ends, EndsUnread}
use Rattle.command_reply.proofs.Ending.{ends_as, some_input}
use Rattle.geost_run.specs.Answer.{BadWordsAnswer, Answer, Begins}
use Rattle.geost_run.specs.Questions.{AnswerTo, BeginsOf}

pub ends_command : (words : List (List ℕ)) (command : Command) (left : Option (List ℕ)) (r0 r1 : ℕ) (w0 w1 : Option (List ℕ)) (f0 f1 : ℕ) (status : Status) → HasForm words command →
    Ends (AnswerTo command) (BeginsOf command) left r0 r1 w0 w1 f0 f1 status → Ends (Answer words) (Begins words) left r0 r1 w0 w1 f0 f1 status
ends_command words command left r0 r1 w0 w1 f0 f1 status form h =
    ends_as (AnswerTo command) (Answer words) (BeginsOf command) (Begins words) left r0 r1 w0 w1 f0 f1 status
    (λ i t s a. inl (record { command = command; form = form; answers = a })) (λ i t a. inl (record { command = command; form = form; begins = a })) h

no_form : (words : List (List ℕ)) → HasNoForm words → BadWordsAnswer words (codes "bad words\n") BadWords
no_form words none = record { none = none; says = refl; ends = refl }

began_bad : (words : List (List ℕ)) (left w0 w1 : Option (List ℕ)) → HasNoForm words → AppendsFront w0 w1 (codes "bad words\n") → WroteFront (Begins words) left w0 w1
began_bad words left w0 w1 none (front, back, is, bytes) = inr (record {
  input = (some_input left).0;
  front = front;
  told = (some_input left).1;
  starts = inr (codes "bad words\n", BadWords, back, no_form words none, is);
  bytes = bytes;
})

-- words that have no form
pub ends_unread : (words : List (List ℕ)) (left : Option (List ℕ)) (r : ℕ) (w0 w1 : Option (List ℕ)) (f0 f1 : ℕ) (status : Status) → HasNoForm words → EndsUnread w0 w1 f0 f1 status → Ends (Answer words) (Begins words) left r r w0 w1 f0 f1 status
ends_unread words left r w0 w1 f0 f1 BadWords none h =
    (refl, h.0, record { input = (some_input left).0; text = codes "bad words\n"; told = (some_input left).1; answers = inr (no_form words none); bytes = h.1 })
ends_unread words left r w0 w1 f0 f1 WriteFault none (rose, h) = (refl, rose, began_bad words left w0 w1 none h)
ends_unread words left r w0 w1 f0 f1 Memory none (same, h) = (refl, same, began_bad words left w0 w1 none h)
ends_unread words left r w0 w1 f0 f1 _ none h = absurd h
