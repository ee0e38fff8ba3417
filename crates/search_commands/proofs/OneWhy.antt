-- An input has one answer of `why`, but for derivations.
use Rattle.std.proofs.Common.{◌≡◌, inl, inr, ℕ, List, sym, ◌∙◌, ap, refl, subst, arith}
use Rattle.std.specs.Prelude.{◌⊎◌}
use Rattle.geo_base.specs.Tuple.{Tuple}
use Rattle.geo_core.specs.Cores.{ComesTo}
use Rattle.geo_core.specs.OneAnswer.{RoundsAreOne, SameCore}
use Rattle.geo_core.specs.declared.leaving.Core.{Core}
use Rattle.geo_core.specs.declared.leaving.Core.TheVariants as cores
use Rattle.layout_text.specs.Block.{block_of}
use Rattle.problem_data.specs.Problem.{ProblemData}
use Rattle.problem_data.proofs.Accepted.{accepted_well_formed}
use Rattle.command_input.specs.declared.command.Status.{Status}
use Rattle.command_input.specs.declared.command.Status.TheVariants.{Answered, No, Refused, Budget}
use Rattle.command_reply.specs.Accepted.{IsAccepted}
use Rattle.command_reply.specs.Question.{IsSound, IsVerdict}
use Rattle.command_reply.specs.Refusal.{RefusedAnswer}
use Rattle.command_reply.proofs.OneRefusal.{one_refused_text}
use Rattle.command_reply.proofs.Refusals.{same_problem, refused_too}
use Rattle.search_commands.specs.Why.{BothSayCore, SaysCore, SaysWhy, WhyAnswer, WritesWhy, why_question}

-- ---- what is said of what the rounds come to

abbrev pub status_of : Core → Status
status_of (cores.Left R ts log) = Answered
status_of (cores.Found t) = No
status_of cores.Budget = Budget

pub says-status : (p : ProblemData) (n : ℕ) (c : Core) (t : List ℕ) (s : Status) → SaysWhy p n c t s → s ≡ status_of c
says-status p n (cores.Left R ts log) t Answered h = refl
says-status p n (cores.Left R ts log) t _ h = absurd h
says-status p n (cores.Found x) t No h = refl
says-status p n (cores.Found x) t _ h = absurd h
says-status p n cores.Budget t Budget h = refl
says-status p n cores.Budget t _ h = absurd h

same-status : (a b : Core) → SameCore a b → status_of a ≡ status_of b
same-status (cores.Left R ts log) (cores.Left Q us other) h = refl
same-status (cores.Found x) (cores.Found y) h = refl
same-status cores.Budget cores.Budget h = refl
same-status (cores.Left R ts log) _ h = absurd h
same-status (cores.Found x) _ h = absurd h
same-status cores.Budget _ h = absurd h

-- the same text, or two derivations behind the same lines
abbrev AreAlike : ProblemData → List ℕ → List ℕ → Type 0
AreAlike p t u = (t ≡ u) ⊎ ((R : List ℕ) × (ts : List Tuple) × SaysCore p R ts t × SaysCore p R ts u)

says-alike : (p : ProblemData) (n : ℕ) (a b : Core) (t u : List ℕ) → SameCore a b → SaysWhy p n a t (status_of a) → SaysWhy p n b u (status_of b) → AreAlike p t u
says-alike p n (cores.Left R ts log) (cores.Left Q us other) t u same h k =
    inr (R.items, ts.items, h, subst (λ (xs : List ℕ). SaysCore p xs ts.items u) (sym same.0) (subst (λ (ys : List Tuple). SaysCore p Q.items ys u) (sym same.1) k))
says-alike p n (cores.Found x) (cores.Found y) t u same h k = inl (h ∙ ap (block_of p) same ∙ sym k)
says-alike p n cores.Budget cores.Budget t u same h k = inl (h ∙ sym k)
says-alike p n (cores.Left R ts log) _ t u h k l = absurd h
says-alike p n (cores.Found x) _ t u h k l = absurd h
says-alike p n cores.Budget _ t u h k l = absurd h

module _ (once : RoundsAreOne) (n : ℕ) (input : List ℕ) where
  -- two texts of one problem
  module _ (t u : List ℕ) (s r : Status) (a : WritesWhy n input t s) (b : WritesWhy n input u r) where
    same-input : b.problem ≡ a.problem
    same-input = same_problem input b.problem a.problem b.accepted a.accepted

    same-core : SameCore a.core b.core
    same-core = once a.problem n a.core b.core (accepted_well_formed input a.problem a.accepted.spells) a.comes (subst (λ (z : ProblemData). ComesTo z n b.core) same-input b.comes)

    first-status : s ≡ status_of a.core
    first-status = says-status a.problem n a.core t s a.says

    second-status : r ≡ status_of b.core
    second-status = says-status b.problem n b.core u r b.says

    one-written : s ≡ r
    one-written = first-status ∙ same-status a.core b.core same-core ∙ sym second-status

    alike-written : AreAlike a.problem t u
    alike-written =
        says-alike a.problem n a.core b.core t u same-core (subst (λ (z : Status). SaysWhy a.problem n a.core t z) first-status a.says)
        (subst (λ (z : ProblemData). SaysWhy z n b.core u (status_of b.core)) same-input (subst (λ (z : Status). SaysWhy b.problem n b.core u z) second-status b.says))

  -- an answer by its status
  data Kind (t : List ℕ) (s : Status) : Type 0 where
    written : WritesWhy n input t s → Kind t s
    refused : s ≡ Refused → RefusedAnswer input t → Kind t s

  kind-of : (t : List ℕ) (s : Status) → WhyAnswer n input t s → Kind t s
  kind-of t Answered a = written a
  kind-of t No a = written a
  kind-of t Budget a = written a
  kind-of t Refused a = refused refl a
  kind-of t _ a = absurd a

  one-status : (t u : List ℕ) (s r : Status) → Kind t s → Kind u r → s ≡ r
  one-status t u s r (written a) (written b) = one-written t u s r a b
  one-status t u s r (refused e a) (refused f b) = e ∙ sym f
  one-status t u s r (written a) (refused f b) = absurd (refused_too input u a.problem a.accepted b)
  one-status t u s r (refused e a) (written b) = absurd (refused_too input t b.problem b.accepted a)

  both-say : (p : ProblemData) (t u : List ℕ) → IsAccepted input p → AreAlike p t u → (t ≡ u) ⊎ BothSayCore input t u
  both-say p t u acc (inl e) = inl e
  both-say p t u acc (inr (R, ts, h, k)) = inr (record { problem = p; rules = R; layouts = ts; accepted = acc; one = h; another = k })

  one-text : (t u : List ℕ) (s : Status) → Kind t s → Kind u s → (t ≡ u) ⊎ BothSayCore input t u
  one-text t u s (written a) (written b) = both-say a.problem t u a.accepted (alike-written t u s s a b)
  one-text t u s (refused e a) (refused f b) = inl (one_refused_text input t u a b)
  one-text t u s (written a) (refused f b) = absurd (refused_too input u a.problem a.accepted b)
  one-text t u s (refused e a) (written b) = absurd (refused_too input t b.problem b.accepted a)

  verdict : (text : List ℕ) (s : Status) → (p : ProblemData) × IsAccepted input p → WhyAnswer n input text s → IsVerdict s
  verdict text Answered h a = inl refl
  verdict text No h a = inr (inl refl)
  verdict text Budget h a = inr (inr refl)
  verdict text Refused (p, acc) r = absurd (refused_too input text p acc r)
  verdict text _ h a = absurd a

pub why_sound : RoundsAreOne → (n : ℕ) → IsSound (why_question n)
why_sound once n = record {
  one_status = λ input t u s r a b. one-status once n input t u s r (kind-of once n input t s a) (kind-of once n input u r b);
  one_text = λ input t u s a b. one-text once n input t u s (kind-of once n input t s a) (kind-of once n input u s b);
  complete = λ input text s h a. verdict once n input text s h a;
  within = omega arith;
}
