-- How a run ends, from what its parts did.
use Rattle.std.proofs.Common.{◌≡◌, inl, inr, ℕ, Bool, List, [], refl, sym, subst}
use Rattle.std.specs.Prelude.{Option, None, Some, Result, Ok, Err, IfOk}
use Rattle.geo_chan.specs.declared.outside.PutFault.{PutFault}
use Rattle.geo_chan.specs.declared.outside.PutFault.TheVariants.{Failed as PutFailed, Memory as PutMemory}
use Rattle.command_input.specs.Reading.{Tells}
use Rattle.command_input.specs.declared.command.Status.{Status}
use Rattle.command_input.specs.declared.command.Status.TheVariants.{Refused, ReadFault, WriteFault, Memory}
use Rattle.command_reply.specs.Ends.{Gave, WroteFront, Ends}
use Rattle.command_reply.specs.Question.{Question, AnswersInput, Decides, FrontOf}
use Rattle.command_reply.specs.Accepted.{AnswersAccepted, HasRead}
use Rattle.command_reply.specs.declared.accepted.Accepted.{Accepted}
use Rattle.command_reply.specs.Given.{AnswersGiven, IsGiven}
use Rattle.command_reply.specs.declared.given.Given.{Given}
use Rattle.command_reply.specs.declared.reply.TextReply.{TextReply}
use Rattle.command_reply.specs.Refusal.{refusal, RefusedAnswer, RefusedPairAnswer}
use Rattle.geo_tokens.specs.declared.fault.FaultWord.{FaultWord}
use Rattle.geo_tokens.specs.declared.fault.TextFault.{TextFault}
use Rattle.geo_tokens.specs.declared.fault.TextFault.TheVariants as faults
use Rattle.layout_text.specs.FirstFault as layouts
use Rattle.command_reply.specs.Reply.{IsAnswered, IsSaid, WritesReply, end_status}

pub ends_given : (answer : List ℕ → List ℕ → Status → Type 0) (begins : List ℕ → List ℕ → Type 0) (left : Option (List ℕ)) (r0 r1 : ℕ) (w0 w1 : Option (List ℕ)) (f0 f1 : ℕ) (status : Status)
    → IsAnswered status → r1 ≡ r0 → f1 ≡ f0 → Gave answer left w0 w1 status → Ends answer begins left r0 r1 w0 w1 f0 f1 status
ends_given answer begins left r0 r1 w0 w1 f0 f1 ReadFault i r f g = absurd i
ends_given answer begins left r0 r1 w0 w1 f0 f1 WriteFault i r f g = absurd i
ends_given answer begins left r0 r1 w0 w1 f0 f1 Memory i r f g = absurd i
ends_given answer begins left r0 r1 w0 w1 f0 f1 _ i r f g = (r, f, g)

-- A command's way to end is one of the program's, since its answers are.
front_as : (a b : List ℕ → List ℕ → Type 0) (left w0 w1 : Option (List ℕ)) → ((i t : List ℕ) → a i t → b i t) → WroteFront a left w0 w1 → WroteFront b left w0 w1
front_as a b left w0 w1 f (inl k) = inl k
front_as a b left w0 w1 f (inr h) = inr (record { input = h.input; front = h.front; told = h.told; starts = f h.input h.front h.starts; bytes = h.bytes })

gave_as : (a b : List ℕ → List ℕ → Status → Type 0) (left w0 w1 : Option (List ℕ)) (s : Status) → ((i t : List ℕ) (s : Status) → a i t s → b i t s) → Gave a left w0 w1 s → Gave b left w0 w1 s
gave_as a b left w0 w1 s f h = record { input = h.input; text = h.text; told = h.told; answers = f h.input h.text s h.answers; bytes = h.bytes }

pub ends_as : (a b : List ℕ → List ℕ → Status → Type 0) (p q : List ℕ → List ℕ → Type 0) (left : Option (List ℕ)) (r0 r1 : ℕ) (w0 w1 : Option (List ℕ)) (f0 f1 : ℕ) (status : Status) → ((i t : List ℕ) (s : Status) → a i t s → b i t s) → ((i t : List ℕ) → p i t → q i t) →
    Ends a p left r0 r1 w0 w1 f0 f1 status → Ends b q left r0 r1 w0 w1 f0 f1 status
ends_as a b p q left r0 r1 w0 w1 f0 f1 ReadFault f g h = h
ends_as a b p q left r0 r1 w0 w1 f0 f1 WriteFault f g h = (h.0, h.1, front_as p q left w0 w1 g h.2)
ends_as a b p q left r0 r1 w0 w1 f0 f1 Memory f g h = (h.0, h.1, front_as p q left w0 w1 g h.2)
ends_as a b p q left r0 r1 w0 w1 f0 f1 status f g h = (h.0, h.1, gave_as a b left w0 w1 status f h.2)

pub some_input : (left : Option (List ℕ)) → (input : List ℕ) × Tells left input
some_input None = ([], tt)
some_input (Some xs) = (xs, refl)

-- ---- a reply that was decided on, and is written

module _ (q : Question) (left : Option (List ℕ)) (says : List ℕ → Status → Type 0) (d : Decides q left says)
    (r0 r1 : ℕ) (w0 w1 : Option (List ℕ)) (f0 f1 : ℕ) (q0 q1 : Bool) (stays : r1 ≡ r0) where
  front : (e : PutFault) → WritesReply says w0 w1 f0 f1 q0 q1 (Err e) → WroteFront (FrontOf q.answer) left w0 w1
  front e h =
      let (text, status, said, (front, back, is, bytes)) = h.bytes in
      inr (record { input = d.input; front = front; told = d.told; starts = (text, status, back, (d.answers text status said).0, is); bytes = bytes })

  pub ends_replied : (r : Result Status PutFault) → WritesReply says w0 w1 f0 f1 q0 q1 r → Ends q.answer (FrontOf q.answer) left r0 r1 w0 w1 f0 f1 (end_status r)
  ends_replied (Ok status) h =
      let (text, said, bytes) = h.bytes in
      let a = d.answers text status said in
      ends_given q.answer (FrontOf q.answer) left r0 r1 w0 w1 f0 f1 status a.1 stays h.cause.stays (record { input = d.input; text = text; told = d.told; answers = a.0; bytes = bytes })
  ends_replied (Err PutFailed) h = (stays, h.cause.failed refl, front PutFailed h)
  ends_replied (Err PutMemory) h = (stays, h.cause.stays, front PutMemory h)

-- ---- a reply of one text

-- what answers the text that was spelled answers all that is said
pub said : (A : List ℕ → Status → Type 0) (own text : List ℕ) (mine status : Status) → A own mine → IsAnswered mine → IsSaid own mine text status → A text status × IsAnswered status
said A own text mine status a i (e, s) =
    (subst (λ (t : List ℕ). A t status) (sym e) (subst (λ (x : Status). A own x) (sym s) a), subst IsAnswered (sym s) i)

-- so the one text answers the input
pub answers_text : (answer : List ℕ → List ℕ → Status → Type 0) (input own : List ℕ) (mine : Status) → answer input own mine → IsAnswered mine → AnswersInput answer input (IsSaid own mine)
answers_text answer input own mine a i = λ text status. said (answer input) own text mine status a i

-- the same of a text and a status that are told by equations
pub answers_told : (answer : List ℕ → List ℕ → Status → Type 0) (input own text : List ℕ) (mine status : Status) → text ≡ own → status ≡ mine → answer input own mine → IsAnswered mine → AnswersInput answer input (IsSaid text status)
answers_told answer input own text mine status e s a i = let x = said (answer input) own text mine status a i (e, s) in answers_text answer input text status x.0 x.1

-- ---- the reply to a fault

-- the text and the status of a refusal
abbrev pub Refuses : TextFault → List ℕ → Status → Type 0
Refuses fault own mine = (place : ℕ) × (word : FaultWord) × (fault ≡ faults.At place word) × (own ≡ refusal place word) × (mine ≡ Refused)

module _ (answer : List ℕ → List ℕ → Status → Type 0) (input : List ℕ) (fault : TextFault) (own : List ℕ) (mine : Status) where
  pub answers_refused : Refuses fault own mine → AnswersAccepted (Err fault) input → ((text : List ℕ) → RefusedAnswer input text → answer input text Refused) → AnswersInput answer input (IsSaid own mine)
  answers_refused (place, word, e, o, m) h f =
      answers_told answer input (refusal place word) own Refused mine o m (f (refusal place word) (place, word, subst (λ (x : TextFault). AnswersAccepted (Err x) input) e h, refl)) tt

  pub answers_refused_pair : Refuses fault own mine → AnswersGiven (Err fault) input → ((text : List ℕ) → RefusedPairAnswer layouts.HasFaultFrom input text → answer input text Refused) → AnswersInput answer input (IsSaid own mine)
  answers_refused_pair (place, word, e, o, m) h f =
      answers_told answer input (refusal place word) own Refused mine o m (f (refusal place word) (place, word, subst (λ (x : TextFault). AnswersGiven (Err x) input) e h, refl)) tt

-- ---- what a command decides

module _ (q : Question) (left : Option (List ℕ)) (own : List ℕ) (mine : Status) where
  pub decides_refused : (r : Result Accepted TextFault) (fault : TextFault) → (input : List ℕ) × Tells left input × AnswersAccepted r input → r ≡ Err fault → Refuses fault own mine
      → ((input text : List ℕ) → RefusedAnswer input text → q.answer input text Refused) → Decides q left (IsSaid own mine)
  decides_refused r fault (input, told, a) e h f = record {
    input = input;
    told = told;
    answers = answers_refused q.answer input fault own mine h (subst (λ (x : Result Accepted TextFault). AnswersAccepted x input) e a) (f input);
  }

  pub decides_refused_pair : (r : Result Given TextFault) (fault : TextFault) → (input : List ℕ) × Tells left input × AnswersGiven r input → r ≡ Err fault → Refuses fault own mine
      → ((input text : List ℕ) → RefusedPairAnswer layouts.HasFaultFrom input text → q.answer input text Refused) → Decides q left (IsSaid own mine)
  decides_refused_pair r fault (input, told, a) e h f = record {
    input = input;
    told = told;
    answers = answers_refused_pair q.answer input fault own mine h (subst (λ (x : Result Given TextFault). AnswersGiven x input) e a) (f input);
  }

module _ (q : Question) (left : Option (List ℕ)) (says : List ℕ → Status → Type 0) where
  pub decides_accepted : (r : Result Accepted TextFault) (a : Accepted) → (input : List ℕ) × Tells left input × AnswersAccepted r input → r ≡ Ok a
      → ((input : List ℕ) → HasRead input a → AnswersInput q.answer input says) → Decides q left says
  decides_accepted r a (input, told, h) e f = record { input = input; told = told; answers = f input (subst (λ (x : Result Accepted TextFault). AnswersAccepted x input) e h) }

  pub decides_given : (r : Result Given TextFault) (g : Given) → (input : List ℕ) × Tells left input × AnswersGiven r input → r ≡ Ok g
      → ((input : List ℕ) → IsGiven input g → AnswersInput q.answer input says) → Decides q left says
  decides_given r g (input, told, h) e f = record { input = input; told = told; answers = f input (subst (λ (x : Result Given TextFault). AnswersGiven x input) e h) }

-- a reply that is told by its text and its status
pub replied : {E : Type 0} (r : Result TextReply E) (own : List ℕ) (mine : Status) (P : TextReply → Type 0) → IfOk r (λ x. x.text.items ≡ own) → IfOk r (λ x. x.status ≡ mine)
    → ((x : TextReply) → x.text.items ≡ own → x.status ≡ mine → P x) → IfOk r P
replied (Ok x) own mine P e s f = f x e s
replied (Err e) own mine P t s f = tt
