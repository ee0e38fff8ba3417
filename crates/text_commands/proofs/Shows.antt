-- An input has one answer of `show`.
use Rattle.std.proofs.Common.{◌≡◌, inl, ℕ, List, refl, sym, ◌∙◌, ap, arith}
use Rattle.std.specs.Prelude.{◌⊎◌}
use Rattle.problem_data.specs.Problem.{ProblemData}
use Rattle.problem_text.specs.Canonical.{problem_text}
use Rattle.command_input.specs.declared.command.Status.{Status}
use Rattle.command_input.specs.declared.command.Status.TheVariants.{
  Answered,
  No,
  Refused,
  Budget,
  BadWords,
  BadToken,
  ReadFault,
  WriteFault,
  Memory,
  BadDimension,
}
use Rattle.command_reply.specs.Accepted.{IsAccepted}
use Rattle.command_reply.specs.Question.{IsSound, IsVerdict}
use Rattle.command_reply.proofs.OneRefusal.{one_refused_text}
use Rattle.command_reply.proofs.Refusals.{same_problem, refused_too}
use Rattle.text_commands.specs.Show.{ShowAnswer, show_question}

one_status : (input t u : List ℕ) (s r : Status) → ShowAnswer input t s → ShowAnswer input u r → s ≡ r
one_status input t u Answered Answered a b = refl
one_status input t u Refused Refused a b = refl
one_status input t u Answered Refused a r = absurd (refused_too input u a.problem a.accepted r)
one_status input t u Refused Answered r a = absurd (refused_too input t a.problem a.accepted r)
one_status input t u No r a b = absurd a
one_status input t u Budget r a b = absurd a
one_status input t u BadWords r a b = absurd a
one_status input t u BadToken r a b = absurd a
one_status input t u ReadFault r a b = absurd a
one_status input t u WriteFault r a b = absurd a
one_status input t u Memory r a b = absurd a
one_status input t u BadDimension r a b = absurd a
one_status input t u s _ a b = absurd b

one_text : (input t u : List ℕ) (s : Status) → ShowAnswer input t s → ShowAnswer input u s → (t ≡ u) ⊎ ⊥
one_text input t u Answered a b = inl (a.says ∙ sym (b.says ∙ ap problem_text (same_problem input b.problem a.problem b.accepted a.accepted)))
one_text input t u Refused a b = inl (one_refused_text input t u a b)
one_text input t u _ a b = absurd a

complete : (input text : List ℕ) (s : Status) → (p : ProblemData) × IsAccepted input p → ShowAnswer input text s → IsVerdict s
complete input text Answered given a = inl refl
complete input text Refused (p, acc) r = absurd (refused_too input text p acc r)
complete input text _ given a = absurd a

pub show_sound : IsSound show_question
show_sound = record { one_status = one_status; one_text = one_text; complete = complete; within = omega arith }
