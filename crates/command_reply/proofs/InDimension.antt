-- What is read of two texts where the words name a dimension.
use Rattle.std.proofs.Common.{◌≡◌, ◌<◌, ◌≤◌, ◌++◌, ℕ, List, length, refl, ap, ◌∙◌, subst, arith, inl, inr}
use Rattle.std.specs.Prelude.{Option, None, Some, Result, Ok, Err, codes}
use Rattle.geo_tokens.specs.declared.fault.TextFault.{TextFault}
use Rattle.geo_tokens.specs.declared.fault.TextFault.TheVariants as faults
use Rattle.layout_text.specs.FirstFault.{HasFaultFrom, AnswersLayout}
use Rattle.problem_data.specs.Problem.{ProblemData}
use Rattle.command_input.specs.Reading.{Tells, AreReadFrom, AreFirstTexts}
use Rattle.command_input.specs.declared.command.Status.{Status}
use Rattle.command_input.specs.declared.command.Status.TheVariants.{Refused, BadDimension}
use Rattle.command_reply.specs.Accepted.{IsAccepted, AnswersAccepted}
use Rattle.command_reply.specs.Dimension.{IsFirst, HasFewerDimensions, HasFaultIn, AnswersGivenIn}
use Rattle.command_reply.specs.Given.{IsGiven}
use Rattle.command_reply.specs.Question.{Question, AnswersInput, Decides}
use Rattle.command_reply.specs.Refusal.{refusal, RefusedPairAnswer}
use Rattle.command_reply.specs.Reply.{IsSaid}
use Rattle.command_reply.specs.Texts.{AreTextsOf, in_first, in_second}
use Rattle.command_reply.specs.declared.given.Given.{Given}
use Rattle.command_reply.proofs.Ending.{Refuses, answers_told}
use Rattle.command_reply.proofs.Refusals.{not_refused_pair}
use Rattle.command_reply.proofs.TwoTexts.{texts-on, spelled-short, StaysRefused, stays-layout, same-input, lift-refused, lift-given}

-- ---- what a call answers

module _ (d : ℕ) (text first second : List ℕ) (cut : AreTextsOf text first second) where
  pub refused_first_in : (f : TextFault) → AnswersAccepted (Err f) first → AnswersGivenIn d (Err f) text
  refused_first_in (faults.At place word) r = in_first first second cut r
  refused_first_in faults.Memory r = tt

  pub refused_second_in : (p : ProblemData) (n : ℕ) (f : TextFault) → IsAccepted first p → d ≤ p.dims → n ≡ length first → AnswersLayout (Err f) p second n → AnswersGivenIn d (Err f) text
  refused_second_in p n (faults.At place word) a has e r = in_second first second cut p a (has, subst (λ (m : ℕ). HasFaultFrom p second m place word) e r)
  refused_second_in p n faults.Memory a has e r = tt

-- ---- what is read of the bytes that were taken is read of the whole input

stays-in : (d : ℕ) → StaysRefused (HasFaultIn d)
stays-in d p text more from place word l (has, f) = (has, stays-layout p text more from place word l f)

module _ (d : ℕ) (input bytes : List ℕ) (h : AreFirstTexts input bytes) where
  lift-first : (p : ProblemData) → IsFirst bytes p → IsFirst input p
  lift-first p f = elim h.whole [
    | inl none ↦ subst (λ (u : List ℕ). IsFirst u p) (same-input input bytes h none) f
    | inr cut ↦ record {
      first = f.first;
      second = f.second ++ h.rest;
      cut = texts-on input bytes h.rest h.front f.first f.second f.cut (let s = spelled-short f.first p f.accepted.spells in let l : 1048576 < length bytes = cut.0 in omega (arith, s, l));
      accepted = f.accepted;
    }
  ]

  lift-answer-in : (r : Result (Option Given) TextFault) → AnswersGivenIn d r bytes → AnswersGivenIn d r input
  lift-answer-in (Ok None) (p, f, fewer) = (p, lift-first p f, fewer)
  lift-answer-in (Ok (Some g)) (k, has) = (lift-given input bytes h g k, has)
  lift-answer-in (Err (faults.At place word)) k = lift-refused input bytes h (HasFaultIn d) (stays-in d) place word k
  lift-answer-in (Err faults.Memory) k = tt

pub given_in_lifted : (d : ℕ) (left : Option (List ℕ)) (bytes seen : List ℕ) (r : Result (Option Given) TextFault) → AreReadFrom left bytes → seen ≡ bytes → AnswersGivenIn d r seen
    → (input : List ℕ) × Tells left input × AnswersGivenIn d r input
given_in_lifted d left bytes seen r (input, told, h) e a = (input, told, lift-answer-in d input bytes h r (subst (AnswersGivenIn d r) e a))

-- ---- what a command decides

module _ (q : Question) (left : Option (List ℕ)) (d : ℕ) (r : Result (Option Given) TextFault) where
  pub decides_refused_in : (own : List ℕ) (mine : Status) (fault : TextFault) → (input : List ℕ) × Tells left input × AnswersGivenIn d r input → r ≡ Err fault → Refuses fault own mine
      → ((input text : List ℕ) → RefusedPairAnswer (HasFaultIn d) input text → q.answer input text Refused) → Decides q left (IsSaid own mine)
  decides_refused_in own mine fault (input, told, a) e (place, word, f, o, m) h = record {
    input = input;
    told = told;
    answers = answers_told q.answer input (refusal place word) own Refused mine o m
        (h input (refusal place word) (place, word, subst (λ (x : Result (Option Given) TextFault). AnswersGivenIn d x input) (e ∙ ap Err f) a, refl)) tt;
  }

  pub decides_fewer : (own : List ℕ) (mine : Status) → (input : List ℕ) × Tells left input × AnswersGivenIn d r input → r ≡ Ok None → own ≡ codes "bad dimension\n" → mine ≡ BadDimension
      → ((input text : List ℕ) → HasFewerDimensions IsFirst d input text → q.answer input text BadDimension) → Decides q left (IsSaid own mine)
  decides_fewer own mine (input, told, a) e o m h =
      let f = subst (λ (x : Result (Option Given) TextFault). AnswersGivenIn d x input) e a in
      record {
        input = input;
        told = told;
        answers = answers_told q.answer input (codes "bad dimension\n") own BadDimension mine o m (h input (codes "bad dimension\n") (record { problem = f.0; given = f.1; fewer = f.2; says = refl })) tt;
      }

  pub decides_given_in : (says : List ℕ → Status → Type 0) (g : Given) → (input : List ℕ) × Tells left input × AnswersGivenIn d r input → r ≡ Ok (Some g)
      → ((input : List ℕ) → IsGiven input g → d ≤ g.accepted.problem.dims → AnswersInput q.answer input says) → Decides q left says
  decides_given_in says g (input, told, a) e f =
      let k = subst (λ (x : Result (Option Given) TextFault). AnswersGivenIn d x input) e a in
      record { input = input; told = told; answers = f input k.0 k.1 }

-- ---- an input has one answer

-- two texts whose problem has fewer dimensions are not refused
pub fewer_or_refused : (d : ℕ) (input text other : List ℕ) → HasFewerDimensions IsFirst d input text → RefusedPairAnswer (HasFaultIn d) input other → ⊥
fewer_or_refused d input text other f (place, word, r, e) =
    not_refused_pair (HasFaultIn d) input f.given.first f.given.second f.problem place word f.given.cut f.given.accepted (λ g. let fewer = f.fewer in let has : d ≤ f.problem.dims = g.0 in omega (arith, fewer, has)) r
