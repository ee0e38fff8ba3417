-- A text of statements has one canonical spelling of its problem, or one refusal.
use Rattle.std.proofs.Common.{◌≡◌, inl, ℕ, List, refl, sym, subst, ◌∙◌, ap, arith}
use Rattle.std.specs.Prelude.{◌⊎◌, Result, Ok, Err}
use Rattle.geo_tokens.specs.declared.fault.TextFault.{TextFault}
use Rattle.problem_data.specs.Problem.{ProblemData}
use Rattle.problem_text.specs.Canonical.{problem_text}
use Rattle.command_input.specs.declared.command.Status.{Status}
use Rattle.command_input.specs.declared.command.Status.TheVariants.{
  Answered,
  No,
  Refused,
  Budget,
  BadWords,
  BadToken,
  ReadFault,
  WriteFault,
  Memory,
  BadDimension,
}
use Rattle.command_reply.specs.Accepted.{IsAccepted, AnswersAccepted, HasRead}
use Rattle.command_reply.specs.declared.accepted.Accepted.{Accepted}
use Rattle.command_reply.specs.Question.{IsSound, IsVerdict}
use Rattle.command_reply.specs.Reply.{IsAnswered}
use Rattle.command_reply.proofs.Ending.{Refuses}
use Rattle.command_reply.proofs.OneRefusal.{one_refused_text}
use Rattle.command_reply.proofs.Refusals.{same_problem, refused_too}
use Rattle.json_commands.specs.FromJson.{RepliesBuilt, built_question, from_json_question}
use Rattle.json_commands.proofs.JsonAnswers.{json_sound}

-- ---- a text of statements has one reply

one_status : (built t u : List ℕ) (s r : Status) → RepliesBuilt built t s → RepliesBuilt built u r → s ≡ r
one_status built t u Answered Answered a b = refl
one_status built t u Refused Refused a b = refl
one_status built t u Answered Refused a r = absurd (refused_too built u a.problem a.accepted r)
one_status built t u Refused Answered r a = absurd (refused_too built t a.problem a.accepted r)
one_status built t u No r a b = absurd a
one_status built t u Budget r a b = absurd a
one_status built t u BadWords r a b = absurd a
one_status built t u BadToken r a b = absurd a
one_status built t u ReadFault r a b = absurd a
one_status built t u WriteFault r a b = absurd a
one_status built t u Memory r a b = absurd a
one_status built t u BadDimension r a b = absurd a
one_status built t u s _ a b = absurd b

one_text : (built t u : List ℕ) (s : Status) → RepliesBuilt built t s → RepliesBuilt built u s → (t ≡ u) ⊎ ⊥
one_text built t u Answered a b = inl (a.says ∙ sym (b.says ∙ ap problem_text (same_problem built b.problem a.problem b.accepted a.accepted)))
one_text built t u Refused a b = inl (one_refused_text built t u a b)
one_text built t u _ a b = absurd a

complete : (built text : List ℕ) (s : Status) → (p : ProblemData) × IsAccepted built p → RepliesBuilt built text s → IsVerdict s
complete built text Answered given a = inl refl
complete built text Refused (p, acc) r = absurd (refused_too built text p acc r)
complete built text _ given a = absurd a

built_sound : IsSound built_question
built_sound = record { one_status = one_status; one_text = one_text; complete = complete; within = omega arith }

pub from_json_sound : IsSound from_json_question
from_json_sound = json_sound built_question built_sound

-- ---- the replies of the code

pub built_answered : (built text : List ℕ) (s : Status) → RepliesBuilt built text s → IsAnswered s
built_answered built text Answered a = tt
built_answered built text Refused r = tt
built_answered built text _ a = absurd a

pub built_refused : (built text : List ℕ) (s : Status) (r : Result Accepted TextFault) (fault : TextFault) → AnswersAccepted r built → r ≡ Err fault → Refuses fault text s → RepliesBuilt built text s
built_refused built text s r fault a is (place, word, e, o, m) =
    let refused : AnswersAccepted (Err fault) built = subst (λ (x : Result Accepted TextFault). AnswersAccepted x built) is a in
    subst (λ (x : Status). RepliesBuilt built text x) (sym m) (place, word, subst (λ (x : TextFault). AnswersAccepted (Err x) built) e refused, o)

pub built_shown : (built text : List ℕ) (s : Status) (r : Result Accepted TextFault) (own : Accepted) → AnswersAccepted r built → r ≡ Ok own → text ≡ problem_text own.problem → s ≡ Answered → RepliesBuilt built text s
built_shown built text s r own a is e m =
    let read : HasRead built own = subst (λ (x : Result Accepted TextFault). AnswersAccepted x built) is a in
    subst (λ (x : Status). RepliesBuilt built text x) (sym m) (record { problem = own.problem; accepted = read.accepted; says = e })
