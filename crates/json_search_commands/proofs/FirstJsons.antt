-- A text of statements has one answer of `first_json`, but for derivations.
use Rattle.std.proofs.Common.{◌≡◌, inl, inr, ℕ, List, refl, sym, subst, arith}
use Rattle.std.specs.Prelude.{◌⊎◌, Result, Ok, Err, IfOk}
use Rattle.geo_base.specs.Tuple.{Tuple}
use Rattle.geo_conditions.specs.declared.cond.Cond.{Cond}
use Rattle.geo_tokens.specs.declared.fault.TextFault.{TextFault}
use Rattle.layout_search.specs.FirstLayout.{Finds, Lists}
use Rattle.layout_search.specs.declared.first.Outcome.{Outcome}
use Rattle.layout_search.specs.declared.first.Outcome.TheVariants.{Found, Nothing, OutOfBudget}
use Rattle.problem_data.specs.Problem.{ProblemData}
use Rattle.command_input.specs.declared.command.Status.{Status}
use Rattle.command_input.specs.declared.command.Status.TheVariants.{Answered, No, Refused, Budget}
use Rattle.command_reply.specs.Accepted.{AreConditions, AnswersAccepted, HasRead}
use Rattle.command_reply.specs.declared.accepted.Accepted.{Accepted}
use Rattle.command_reply.specs.Question.{IsSound}
use Rattle.command_reply.specs.Reply.{IsAnswered}
use Rattle.command_reply.proofs.Ending.{Refuses}
use Rattle.command_reply.proofs.OneRefusal.{one_refused_text}
use Rattle.command_reply.proofs.Refusals.{same_problem}
use Rattle.json_commands.proofs.JsonAnswers.{json_sound}
use Rattle.search_commands.specs.First.{WritesNone}
use Rattle.search_commands.proofs.Found.{layout_found, none_found, ran_out}
use Rattle.search_commands.proofs.OneFirst.{Answers, found_status, found_verdict, same_layout, same_spent}
use Rattle.search_commands.proofs.Shown.{shows-alike}
use Rattle.json_search_commands.specs.FirstJson.{BothSayNoneJson, FindsJson, SaysNoneJson, ShowsLines, budget_line, first_json_question, found_question, layout_line}

-- under conditions that stand for the same trees the same is said
lines-alike : (p : ProblemData) (cs ds : List Cond) (lines : List ℕ) → AreConditions p cs → AreConditions p ds → ShowsLines p ds lines → ShowsLines p cs lines
lines-alike p cs ds lines are is h = record { events = h.events; shows = shows-alike p cs ds h.events are is h.shows; is = h.is }

says-alike : (p : ProblemData) (cs ds : List Cond) (u : List ℕ) → AreConditions p cs → AreConditions p ds → SaysNoneJson p ds u → SaysNoneJson p cs u
says-alike p cs ds u are is h = record { lines = h.lines; shows = lines-alike p cs ds h.lines are is h.shows; says = h.says }

module _ (n : ℕ) (built : List ℕ) where
  found_is : (text : List ℕ) (s : Status) → FindsJson n built text s → Answers layout_line SaysNoneJson (λ p. budget_line n) n built text s
  found_is text Answered a = a
  found_is text No a = a
  found_is text Budget a = a
  found_is text Refused a = a
  found_is text _ a = a

  both_none : (t u : List ℕ) → WritesNone SaysNoneJson n built t → WritesNone SaysNoneJson n built u → BothSayNoneJson built t u
  both_none t u a b =
      let same : b.problem ≡ a.problem = same_problem built b.problem a.problem b.found.accepted a.found.accepted in
      let is : AreConditions a.problem b.conditions = subst (λ (z : ProblemData). AreConditions z b.conditions) same b.found.are in
      let other : SaysNoneJson a.problem b.conditions u = subst (λ (z : ProblemData). SaysNoneJson z b.conditions u) same b.says in
      (a.problem, a.conditions, a.found.accepted, a.found.are, a.says, says-alike a.problem a.conditions b.conditions u a.found.are is other)

  found_text : (t u : List ℕ) (s : Status) → FindsJson n built t s → FindsJson n built u s → (t ≡ u) ⊎ ((s ≡ No) × BothSayNoneJson built t u)
  found_text t u Answered a b = inl (same_layout layout_line SaysNoneJson (λ p. budget_line n) n built t u a b)
  found_text t u No a b = inr (refl, both_none t u a b)
  found_text t u Budget a b = inl (same_spent layout_line SaysNoneJson (λ p. budget_line n) n built t u a b)
  found_text t u Refused a b = inl (one_refused_text built t u a b)
  found_text t u _ a b = absurd a

  pub found_answered : (text : List ℕ) (s : Status) → FindsJson n built text s → IsAnswered s
  found_answered text Answered a = tt
  found_answered text No a = tt
  found_answered text Budget a = tt
  found_answered text Refused a = tt
  found_answered text _ a = absurd a

  -- a text with a fault is refused
  pub found_refused : (text : List ℕ) (s : Status) (r : Result Accepted TextFault) (fault : TextFault) → AnswersAccepted r built → r ≡ Err fault → Refuses fault text s → FindsJson n built text s
  found_refused text s r fault a is (place, word, e, o, m) =
      let refused : AnswersAccepted (Err fault) built = subst (λ (x : Result Accepted TextFault). AnswersAccepted x built) is a in
      subst (λ (x : Status). FindsJson n built text x) (sym m) (place, word, subst (λ (x : TextFault). AnswersAccepted (Err x) built) e refused, o)

found_sound : (n : ℕ) → IsSound (found_question n)
found_sound n = record {
  one_status = λ built t u s r a b. found_status layout_line SaysNoneJson (λ p. budget_line n) n built t u s r (found_is n built t s a) (found_is n built u r b);
  one_text = found_text n;
  complete = λ built text s given a. found_verdict layout_line SaysNoneJson (λ p. budget_line n) n built text s given (found_is n built text s a);
  within = omega arith;
}

pub first_json_sound : (n : ℕ) → IsSound (first_json_question n)
first_json_sound n = json_sound (found_question n) (found_sound n)

-- ---- what a search answered is what is found of the text

module _ {R : Type 0} (n : ℕ) (built : List ℕ) (a : Accepted) (read : HasRead built a) (o : Outcome R) (lists : Lists a.problem a.conditions.items n o) (finds : Finds a.problem o) (text : List ℕ) (s : Status) where
  pub tells_layout : (t : Tuple) → o ≡ Found t → text ≡ layout_line a.problem t → s ≡ Answered → FindsJson n built text s
  tells_layout t is says ends =
      subst (λ (x : Status). FindsJson n built text x) (sym ends) (record {
        problem = a.problem;
        conditions = a.conditions.items;
        tuple = t;
        found = layout_found {R = R} n built a read o lists finds t is;
        says = says;
      })

  pub tells_none : (r : R) → o ≡ Nothing r → SaysNoneJson a.problem a.conditions.items text → s ≡ No → FindsJson n built text s
  tells_none r is says ends =
      subst (λ (x : Status). FindsJson n built text x) (sym ends) (record {
        problem = a.problem;
        conditions = a.conditions.items;
        found = none_found {R = R} n built a read o lists finds r is;
        says = says;
      })

  pub tells_spent : o ≡ OutOfBudget → text ≡ budget_line n → s ≡ Budget → FindsJson n built text s
  tells_spent is says ends =
      subst (λ (x : Status). FindsJson n built text x) (sym ends) (record {
        problem = a.problem;
        conditions = a.conditions.items;
        found = ran_out {R = R} n built a read o lists finds is;
        says = says;
      })

pub ok_both : {A E : Type 0} {P Q S : A → Type 0} (r : Result A E) → IfOk r P → IfOk r Q → ((x : A) → P x → Q x → S x) → IfOk r S
ok_both (Ok x) h k f = f x h k
ok_both (Err e) h k f = tt
