-- An input has one answer of `check_best`: one status, and one text.
use Rattle.std.proofs.Common.{◌≡◌, ◌⊎◌, ◌<◌, inl, inr, arith, ℕ, ℤ, List, refl, sym, ◌∙◌, subst}
use Rattle.std.specs.Prelude.{Option, codes}
use Rattle.command_input.specs.Reading.{Tells}
use Rattle.problem_data.specs.Problem.{ProblemData}
use Rattle.command_input.specs.declared.command.Status.{Status}
use Rattle.command_input.specs.declared.command.Status.TheVariants.{Answered, No, Refused, BadDimension}
use Rattle.command_reply.specs.Accepted.{IsAccepted}
use Rattle.command_reply.specs.Dimension.{HasFewerDimensions, IsFirst}
use Rattle.command_reply.specs.Question.{Decides, IsSound, IsVerdict}
use Rattle.command_reply.specs.Reply.{IsSaid}
use Rattle.command_reply.specs.Refusal.{RefusedPairAnswer}
use Rattle.command_reply.specs.Texts.{AreTextsOf}
use Rattle.command_reply.proofs.Ending.{answers_told}
use Rattle.command_reply.proofs.Refusals.{same_problem, not_refused_pair}
use Rattle.command_reply.proofs.TwoTexts.{one-cut}
use Rattle.check_commands.specs.Check.{ClaimAnswer, Derives, HasFaultBehind, IsDerivable}
use Rattle.check_commands.specs.CheckBest.{CheckBestAnswer, check_best_question}
use Rattle.check_commands.specs.Claims.{Claim, none_below}
use Rattle.check_commands.proofs.OneCheck.{one_claim_status, one_claim_text, claim_complete}

module _ (d : ℕ) (e : ℤ) where
  abbrev claim : Claim
  claim = none_below d e

  -- an answer to the claim is one of the command
  pub as_best : (input text : List ℕ) (s : Status) → ClaimAnswer claim input text s → CheckBestAnswer d e input text s
  as_best input text BadDimension a = absurd a
  as_best input text s a = a

  -- and there is one more
  as_claim : (input text : List ℕ) (s : Status) → CheckBestAnswer d e input text s → ((s ≡ BadDimension) × HasFewerDimensions IsFirst d input text) ⊎ ClaimAnswer claim input text s
  as_claim input text BadDimension a = inl (refl, a)
  as_claim input text s a = inr a

  module _ (input text : List ℕ) (few : HasFewerDimensions IsFirst d input text) where
    -- the other ways of reading the two texts give the same problem
    few_in : (first second : List ℕ) (p : ProblemData) → AreTextsOf input first second → IsAccepted first p → p.dims < d
    few_in first second p cut accepted =
        let same = (one-cut input first second few.given.first few.given.second cut few.given.cut).0 in
        subst (λ (q : ProblemData). q.dims < d) (same_problem first few.problem p (subst (λ (z : List ℕ). IsAccepted z few.problem) (sym same) few.given.accepted) accepted) few.fewer

    few_or_derived : (p : ProblemData) (root : _) → Derives claim input p root → ⊥
    few_or_derived p root x =
        let l = few_in x.first x.second p x.cut x.accepted in
        let k = x.asked in
        omega (arith, l, k)

    few_or_refused : (u : List ℕ) → RefusedPairAnswer (HasFaultBehind claim) input u → ⊥
    few_or_refused u (place, word, r, is) =
        not_refused_pair (HasFaultBehind claim) input few.given.first few.given.second few.problem place word few.given.cut few.given.accepted
        (λ f. let l = few.fewer in let k = f.0 in omega (arith, l, k)) r

    few_or_claimed : (u : List ℕ) (s : Status) → ClaimAnswer claim input u s → ⊥
    few_or_claimed u Answered a = few_or_derived a.problem a.root a.derives
    few_or_claimed u No a = few_or_derived a.problem a.root a.derives
    few_or_claimed u Refused a = few_or_refused u a
    few_or_claimed u _ a = a

  one_status : (input t u : List ℕ) (s r : Status) → CheckBestAnswer d e input t s → CheckBestAnswer d e input u r → s ≡ r
  one_status input t u s r a b = elim (as_claim input t s a) [
    | inl x ↦ elim (as_claim input u r b) [
      | inl y ↦ x.0 ∙ sym y.0
      | inr y ↦ absurd (few_or_claimed input t x.1 u r y)
    ]
    | inr x ↦ elim (as_claim input u r b) [
      | inl y ↦ absurd (few_or_claimed input u y.1 t s x)
      | inr y ↦ one_claim_status claim input t u s r x y
    ]
  ]

  one_text : (input t u : List ℕ) (s : Status) → CheckBestAnswer d e input t s → CheckBestAnswer d e input u s → (t ≡ u) ⊎ ⊥
  one_text input t u s a b = elim (as_claim input t s a) [
    | inl x ↦ elim (as_claim input u s b) [
      | inl y ↦ inl (x.1.says ∙ sym y.1.says)
      | inr y ↦ absurd (few_or_claimed input t x.1 u s y)
    ]
    | inr x ↦ elim (as_claim input u s b) [
      | inl y ↦ absurd (few_or_claimed input u y.1 t s x)
      | inr y ↦ inl (one_claim_text claim input t u s x y)
    ]
  ]

  complete : (input text : List ℕ) (s : Status) → IsDerivable claim input → CheckBestAnswer d e input text s → IsVerdict s
  complete input text s given a = elim (as_claim input text s a) [
    | inl x ↦ absurd (few_or_derived input text x.1 given.0 given.1 given.2)
    | inr x ↦ claim_complete claim input text s given x
  ]

  pub check_best_sound : IsSound (check_best_question d e)
  check_best_sound = record { one_status = one_status; one_text = one_text; complete = complete; within = omega arith }

  -- a problem with fewer dimensions is replied to
  pub decides_fewer : (left : Option (List ℕ)) (own : List ℕ) (mine : Status) → own ≡ codes "bad dimension\n" → mine ≡ BadDimension
      → (input : List ℕ) × Tells left input × HasFewerDimensions IsFirst d input (codes "bad dimension\n") → Decides (check_best_question d e) left (IsSaid own mine)
  decides_fewer left own mine is s (input, told, few) = record { input = input; told = told; answers = answers_told (CheckBestAnswer d e) input (codes "bad dimension\n") own BadDimension mine is s few tt }
