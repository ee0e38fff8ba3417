-- An input has one answer of `best`, but for derivations.
use Rattle.std.proofs.Common.{◌≡◌, ◌<◌, ◌-◌, inl, inr, ℕ, List, sym, ◌∙◌, ap, refl, subst, arith, Option, Some, None}
use Rattle.std.specs.Prelude.{◌⊎◌}
use Rattle.geo_best.specs.declared.extent.Extent.{Extent}
use Rattle.geo_best.specs.declared.one_round.Best.{Best}
use Rattle.geo_best.specs.declared.one_round.Best.TheVariants as bests
use Rattle.geo_best.specs.Rounds.{AreSameBest, IsBest}
use Rattle.geo_best.proofs.OneWay.{one-best}
use Rattle.problem_data.specs.Problem.{ProblemData}
use Rattle.problem_data.proofs.Accepted.{accepted_well_formed}
use Rattle.command_input.specs.declared.command.Status.{Status}
use Rattle.command_input.specs.declared.command.Status.TheVariants.{Answered, No, Refused, Budget, BadDimension}
use Rattle.command_reply.specs.Accepted.{IsAccepted}
use Rattle.command_reply.specs.Dimension.{HasFewerDimensions, IsAlone}
use Rattle.command_reply.specs.Question.{IsSound, IsVerdict}
use Rattle.command_reply.specs.Refusal.{RefusedAnswer}
use Rattle.command_reply.proofs.OneRefusal.{one_refused_text}
use Rattle.command_reply.proofs.Refusals.{same_problem, refused_too}
use Rattle.search_commands.specs.Best.{BestAnswer, BothSayEnd, HasDimension, SaysBest, SaysEnd, WritesBest, bare_lines, best_question}

-- ---- what is said of what the rounds come to

abbrev pub status_of : Best → Status
status_of (bests.Least e t log) = Answered
status_of (bests.Bare t) = Answered
status_of (bests.Refused log) = No
status_of bests.Budget = Budget

pub says-status : (p : ProblemData) (d n : ℕ) (b : Best) (t : List ℕ) (s : Status) → SaysBest p d n b t s → s ≡ status_of b
says-status p d n (bests.Least e x log) t Answered h = refl
says-status p d n (bests.Least e x log) t _ h = absurd h
says-status p d n (bests.Bare x) t Answered h = refl
says-status p d n (bests.Bare x) t _ h = absurd h
says-status p d n (bests.Refused log) t No h = refl
says-status p d n (bests.Refused log) t _ h = absurd h
says-status p d n bests.Budget t Budget h = refl
says-status p d n bests.Budget t _ h = absurd h

same-status : (a b : Best) → AreSameBest a b → status_of a ≡ status_of b
same-status (bests.Least e x la) (bests.Least f y lb) h = refl
same-status (bests.Bare x) (bests.Bare y) h = refl
same-status (bests.Refused la) (bests.Refused lb) h = refl
same-status bests.Budget bests.Budget h = refl
same-status (bests.Least e x la) _ h = absurd h
same-status (bests.Bare x) _ h = absurd h
same-status (bests.Refused la) _ h = absurd h
same-status bests.Budget _ h = absurd h

-- the same text, or two derivations behind the same lines
abbrev AreAlike : ProblemData → ℕ → List ℕ → List ℕ → Type 0
AreAlike p d t u = (t ≡ u) ⊎ ((last : Option Extent) × SaysEnd p d last t × SaysEnd p d last u)

says-alike : (p : ProblemData) (d n : ℕ) (a b : Best) (t u : List ℕ) → AreSameBest a b → SaysBest p d n a t (status_of a) → SaysBest p d n b u (status_of b) → AreAlike p d t u
says-alike p d n (bests.Least e x la) (bests.Least f y lb) t u same h k =
    let one : Extent = record { end = e; layout = x } in
    inr (Some one, h, subst (λ (z : Extent). SaysEnd p d (Some z) u) (λ i. record { end = sym same.0 i; layout = sym same.1 i }) k)
says-alike p d n (bests.Bare x) (bests.Bare y) t u same h k = inl (h ∙ ap (bare_lines p) same ∙ sym k)
says-alike p d n (bests.Refused la) (bests.Refused lb) t u same h k = inr (None, h, k)
says-alike p d n bests.Budget bests.Budget t u same h k = inl (h ∙ sym k)
says-alike p d n (bests.Least e x la) _ t u h k l = absurd h
says-alike p d n (bests.Bare x) _ t u h k l = absurd h
says-alike p d n (bests.Refused la) _ t u h k l = absurd h
says-alike p d n bests.Budget _ t u h k l = absurd h

module _ (d n : ℕ) (input : List ℕ) where
  -- two texts of one problem
  module _ (t u : List ℕ) (s r : Status) (a : WritesBest d n input t s) (b : WritesBest d n input u r) where
    same-input : b.problem ≡ a.problem
    same-input = same_problem input b.problem a.problem b.accepted a.accepted

    same-best : AreSameBest a.best b.best
    same-best = one-best a.problem (d - 1) n (accepted_well_formed input a.problem a.accepted.spells) a.best b.best a.is_best (subst (λ (z : ProblemData). IsBest z (d - 1) n b.best) same-input b.is_best)

    first-status : s ≡ status_of a.best
    first-status = says-status a.problem (d - 1) n a.best t s a.says

    second-status : r ≡ status_of b.best
    second-status = says-status b.problem (d - 1) n b.best u r b.says

    one-written : s ≡ r
    one-written = first-status ∙ same-status a.best b.best same-best ∙ sym second-status

    alike-written : AreAlike a.problem (d - 1) t u
    alike-written =
        says-alike a.problem (d - 1) n a.best b.best t u same-best (subst (λ (z : Status). SaysBest a.problem (d - 1) n a.best t z) first-status a.says)
        (subst (λ (z : ProblemData). SaysBest z (d - 1) n b.best u (status_of b.best)) same-input (subst (λ (z : Status). SaysBest b.problem (d - 1) n b.best u z) second-status b.says))

  written-or-fewer : (t u : List ℕ) (s : Status) → WritesBest d n input t s → HasFewerDimensions IsAlone d input u → ⊥
  written-or-fewer t u s a b =
      let same = same_problem input b.problem a.problem b.given a.accepted in
      let there = a.there in
      let fewer : a.problem.dims < d = subst (λ (z : ProblemData). z.dims < d) same b.fewer in
      omega (arith, there, fewer)

  -- an answer by its status
  data Kind (t : List ℕ) (s : Status) : Type 0 where
    written : WritesBest d n input t s → Kind t s
    refused : s ≡ Refused → RefusedAnswer input t → Kind t s
    fewer : s ≡ BadDimension → HasFewerDimensions IsAlone d input t → Kind t s

  kind-of : (t : List ℕ) (s : Status) → BestAnswer d n input t s → Kind t s
  kind-of t Answered a = written a
  kind-of t No a = written a
  kind-of t Budget a = written a
  kind-of t Refused a = refused refl a
  kind-of t BadDimension a = fewer refl a
  kind-of t _ a = absurd a

  one-status : (t u : List ℕ) (s r : Status) → Kind t s → Kind u r → s ≡ r
  one-status t u s r (written a) (written b) = one-written t u s r a b
  one-status t u s r (refused e a) (refused f b) = e ∙ sym f
  one-status t u s r (fewer e a) (fewer f b) = e ∙ sym f
  one-status t u s r (written a) (refused f b) = absurd (refused_too input u a.problem a.accepted b)
  one-status t u s r (refused e a) (written b) = absurd (refused_too input t b.problem b.accepted a)
  one-status t u s r (written a) (fewer f b) = absurd (written-or-fewer t u s a b)
  one-status t u s r (fewer e a) (written b) = absurd (written-or-fewer u t r b a)
  one-status t u s r (refused e a) (fewer f b) = absurd (refused_too input t b.problem b.given a)
  one-status t u s r (fewer e a) (refused f b) = absurd (refused_too input u a.problem a.given b)

  both-say : (p : ProblemData) (t u : List ℕ) → IsAccepted input p → AreAlike p (d - 1) t u → (t ≡ u) ⊎ BothSayEnd d input t u
  both-say p t u acc (inl e) = inl e
  both-say p t u acc (inr (last, h, k)) = inr (record { problem = p; last = last; accepted = acc; one = h; another = k })

  one-text : (t u : List ℕ) (s : Status) → Kind t s → Kind u s → (t ≡ u) ⊎ BothSayEnd d input t u
  one-text t u s (written a) (written b) = both-say a.problem t u a.accepted (alike-written t u s s a b)
  one-text t u s (refused e a) (refused f b) = inl (one_refused_text input t u a b)
  one-text t u s (fewer e a) (fewer f b) = inl (a.says ∙ sym b.says)
  one-text t u s (written a) (refused f b) = absurd (refused_too input u a.problem a.accepted b)
  one-text t u s (refused e a) (written b) = absurd (refused_too input t b.problem b.accepted a)
  one-text t u s (written a) (fewer f b) = absurd (written-or-fewer t u s a b)
  one-text t u s (fewer e a) (written b) = absurd (written-or-fewer u t s b a)
  one-text t u s (refused e a) (fewer f b) = absurd (refused_too input t b.problem b.given a)
  one-text t u s (fewer e a) (refused f b) = absurd (refused_too input u a.problem a.given b)

  verdict : (text : List ℕ) (s : Status) → HasDimension d input → BestAnswer d n input text s → IsVerdict s
  verdict text Answered h a = inl refl
  verdict text No h a = inr (inl refl)
  verdict text Budget h a = inr (inr refl)
  verdict text Refused h r = absurd (refused_too input text h.problem h.accepted r)
  verdict text BadDimension h a =
      let same = same_problem input a.problem h.problem a.given h.accepted in
      let there = h.there in
      let few : h.problem.dims < d = subst (λ (z : ProblemData). z.dims < d) same a.fewer in
      let bad : ⊥ = omega (arith, there, few) in
      absurd bad
  verdict text _ h a = absurd a

pub best_sound : (d n : ℕ) → IsSound (best_question d n)
best_sound d n = record {
  one_status = λ input t u s r a b. one-status d n input t u s r (kind-of d n input t s a) (kind-of d n input u r b);
  one_text = λ input t u s a b. one-text d n input t u s (kind-of d n input t s a) (kind-of d n input u s b);
  complete = λ input text s h a. verdict d n input text s h a;
  within = omega arith;
}
