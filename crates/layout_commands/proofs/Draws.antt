-- An input has one answer of `draw`.
use Rattle.std.proofs.Common.{◌≡◌, inl, inr, ℕ, List, refl, sym, ◌∙◌, subst, arith}
use Rattle.std.specs.Prelude.{◌⊎◌}
use Rattle.geo_base.specs.Tuple.{Tuple}
use Rattle.layout_drawing.specs.Drawing.{IsDrawing, IsLarge}
use Rattle.layout_drawing.proofs.OneDrawing.{one_drawing, not_large}
use Rattle.layout_text.specs.FirstFault as layouts
use Rattle.problem_data.specs.Problem.{ProblemData}
use Rattle.command_input.specs.declared.command.Status.{Status}
use Rattle.command_input.specs.declared.command.Status.TheVariants.{
  Answered,
  No,
  Refused,
  Budget,
  BadWords,
  BadToken,
  ReadFault,
  WriteFault,
  Memory,
  BadDimension,
}
use Rattle.command_reply.specs.Question.{IsSound, IsVerdict}
use Rattle.command_reply.proofs.OneRefusal.{one_fault_from, one_refused_pair_text}
use Rattle.layout_commands.specs.Judge.{IsGivenTexts}
use Rattle.layout_commands.specs.Draw.{DrawAnswer, DrawsTuple, IsTooLarge, draw_question}
use Rattle.layout_commands.proofs.Givens.{given_once, given_formed, given_or_refused}

-- a drawing that is too large is none
drawn_or_large : (input t u : List ℕ) → DrawsTuple input t → IsTooLarge input u → ⊥
drawn_or_large input t u a b =
    let e = given_once input a.problem b.problem a.tuple b.tuple a.gives b.gives in
    not_large a.problem (given_formed input a.problem a.tuple a.gives) a.tuple t a.drawing
    (subst (λ (x : Tuple). IsLarge a.problem x) e.1 (subst (λ (x : ProblemData). IsLarge x b.tuple) e.0 b.large))

one_status : (input t u : List ℕ) (s r : Status) → DrawAnswer input t s → DrawAnswer input u r → s ≡ r
one_status input t u Answered Answered a b = refl
one_status input t u No No a b = refl
one_status input t u Refused Refused a b = refl
one_status input t u Answered No a b = absurd (drawn_or_large input t u a b)
one_status input t u No Answered b a = absurd (drawn_or_large input u t a b)
one_status input t u Answered Refused a r = absurd (given_or_refused input u a.problem a.tuple a.gives r)
one_status input t u Refused Answered r a = absurd (given_or_refused input t a.problem a.tuple a.gives r)
one_status input t u No Refused a r = absurd (given_or_refused input u a.problem a.tuple a.gives r)
one_status input t u Refused No r a = absurd (given_or_refused input t a.problem a.tuple a.gives r)
one_status input t u Budget r a b = absurd a
one_status input t u BadWords r a b = absurd a
one_status input t u BadToken r a b = absurd a
one_status input t u ReadFault r a b = absurd a
one_status input t u WriteFault r a b = absurd a
one_status input t u Memory r a b = absurd a
one_status input t u BadDimension r a b = absurd a
one_status input t u s _ a b = absurd b

same_drawing : (input t u : List ℕ) → DrawsTuple input t → DrawsTuple input u → t ≡ u
same_drawing input t u a b =
    let e = given_once input a.problem b.problem a.tuple b.tuple a.gives b.gives in
    one_drawing a.problem (given_formed input a.problem a.tuple a.gives) a.tuple t u a.drawing
    (subst (λ (x : Tuple). IsDrawing a.problem x u) e.1 (subst (λ (x : ProblemData). IsDrawing x b.tuple u) e.0 b.drawing))

one_text : (input t u : List ℕ) (s : Status) → DrawAnswer input t s → DrawAnswer input u s → (t ≡ u) ⊎ ⊥
one_text input t u Answered a b = inl (same_drawing input t u a b)
one_text input t u No a b = inl (a.says ∙ sym b.says)
one_text input t u Refused a b = inl (one_refused_pair_text layouts.HasFaultFrom one_fault_from input t u a b)
one_text input t u _ a b = absurd a

complete : (input text : List ℕ) (s : Status) → IsGivenTexts input → DrawAnswer input text s → IsVerdict s
complete input text Answered given a = inl refl
complete input text No given a = inr (inl refl)
complete input text Refused (p, t, g) r = absurd (given_or_refused input text p t g r)
complete input text _ given a = absurd a

pub draw_sound : IsSound draw_question
draw_sound = record { one_status = one_status; one_text = one_text; complete = complete; within = omega arith }
