-- An input has one answer of `judge`.
use Rattle.std.proofs.Common.{◌≡◌, inl, inr, ℕ, List, refl, sym, ◌∙◌, ap, subst, arith}
use Rattle.std.specs.Prelude.{◌⊎◌}
use Rattle.std.proofs.lemmas.Bool.{cases_lt}
use Rattle.geo_base.specs.Tuple.{Tuple}
use Rattle.geo_meaning.specs.Judged.{IsFirstBroken}
use Rattle.layout_text.specs.FirstFault as layouts
use Rattle.problem_data.specs.Problem.{ProblemData}
use Rattle.command_input.specs.declared.command.Status.{Status}
use Rattle.command_input.specs.declared.command.Status.TheVariants.{
  Answered,
  No,
  Refused,
  Budget,
  BadWords,
  BadToken,
  ReadFault,
  WriteFault,
  Memory,
  BadDimension,
}
use Rattle.command_reply.specs.Question.{IsSound, IsVerdict}
use Rattle.command_reply.proofs.OneRefusal.{one_fault_from, one_refused_pair_text}
use Rattle.layout_commands.specs.Judge.{
  JudgeAnswer,
  JudgesGood,
  JudgesBroken,
  IsGivenTexts,
  judge_question,
  broken_rule,
  rule_name,
}
use Rattle.layout_commands.proofs.Givens.{given_once, given_or_refused}

good_or_broken : (input text other : List ℕ) → JudgesGood input text → JudgesBroken input other → ⊥
good_or_broken input text other a b =
    let e = given_once input a.problem b.problem a.tuple b.tuple a.gives b.gives in
    let broken : IsFirstBroken a.problem a.tuple b.number =
    subst (λ (x : Tuple). IsFirstBroken a.problem x b.number) e.1 (subst (λ (x : ProblemData). IsFirstBroken x b.tuple b.number) e.0 b.broken)
    in
    broken.broken (a.layout.rules broken.position _ broken.inside)

one_status : (input t u : List ℕ) (s r : Status) → JudgeAnswer input t s → JudgeAnswer input u r → s ≡ r
one_status input t u Answered Answered a b = refl
one_status input t u No No a b = refl
one_status input t u Refused Refused a b = refl
one_status input t u Answered No a b = absurd (good_or_broken input t u a b)
one_status input t u No Answered b a = absurd (good_or_broken input u t a b)
one_status input t u Answered Refused a r = absurd (given_or_refused input u a.problem a.tuple a.gives r)
one_status input t u Refused Answered r a = absurd (given_or_refused input t a.problem a.tuple a.gives r)
one_status input t u No Refused a r = absurd (given_or_refused input u a.problem a.tuple a.gives r)
one_status input t u Refused No r a = absurd (given_or_refused input t a.problem a.tuple a.gives r)
one_status input t u Budget r a b = absurd a
one_status input t u BadWords r a b = absurd a
one_status input t u BadToken r a b = absurd a
one_status input t u ReadFault r a b = absurd a
one_status input t u WriteFault r a b = absurd a
one_status input t u Memory r a b = absurd a
one_status input t u BadDimension r a b = absurd a
one_status input t u s _ a b = absurd b

-- two rules that are the first broken one are one
one_broken : (p : ProblemData) (t : Tuple) (n m : ℕ) → IsFirstBroken p t n → IsFirstBroken p t m → m ≡ n
one_broken p t n m f g = elim (cases_lt f.position g.position) [
  | inl l ↦ absurd (f.broken (g.before f.position l))
  | inr l ↦ elim (cases_lt g.position f.position) [
    | inl k ↦ absurd (g.broken (f.before g.position k))
    | inr k ↦ omega (arith, l, k, f.number, g.number)
  ]
]

one_broken_text : (input t u : List ℕ) → JudgesBroken input t → JudgesBroken input u → t ≡ u
one_broken_text input t u a b =
    let e = given_once input a.problem b.problem a.tuple b.tuple a.gives b.gives in
    let broken : IsFirstBroken a.problem a.tuple b.number =
    subst (λ (x : Tuple). IsFirstBroken a.problem x b.number) e.1 (subst (λ (x : ProblemData). IsFirstBroken x b.tuple b.number) e.0 b.broken)
    in
    let other : u ≡ broken_rule (rule_name a.problem b.number) = subst (λ (x : ProblemData). u ≡ broken_rule (rule_name x b.number)) e.0 b.says in
    a.says ∙ sym (other ∙ ap (λ (n : ℕ). broken_rule (rule_name a.problem n)) (one_broken a.problem a.tuple a.number b.number a.broken broken))

one_text : (input t u : List ℕ) (s : Status) → JudgeAnswer input t s → JudgeAnswer input u s → (t ≡ u) ⊎ ⊥
one_text input t u Answered a b = inl (a.says ∙ sym b.says)
one_text input t u No a b = inl (one_broken_text input t u a b)
one_text input t u Refused a b = inl (one_refused_pair_text layouts.HasFaultFrom one_fault_from input t u a b)
one_text input t u _ a b = absurd a

complete : (input text : List ℕ) (s : Status) → IsGivenTexts input → JudgeAnswer input text s → IsVerdict s
complete input text Answered given a = inl refl
complete input text No given a = inr (inl refl)
complete input text Refused (p, t, g) r = absurd (given_or_refused input text p t g r)
complete input text _ given a = absurd a

pub judge_sound : IsSound judge_question
judge_sound = record { one_status = one_status; one_text = one_text; complete = complete; within = omega arith }
