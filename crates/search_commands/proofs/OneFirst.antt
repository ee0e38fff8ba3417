-- An input has one answer of `first`, but for derivations, and one of `make`.
use Rattle.std.proofs.Common.{◌≡◌, inl, inr, ℕ, List, [], refl, sym, ◌∙◌, ap, subst, arith}
use Rattle.std.specs.Prelude.{◌⊎◌}
use Rattle.geo_base.specs.Tuple.{Tuple}
use Rattle.geo_conditions.specs.declared.cond.Cond.{Cond}
use Rattle.geo_conditions.specs.Walk.{IsListing, OutOfBudget, values}
use Rattle.geo_conditions.proofs.Fronts.{precedes_once}
use Rattle.layout_text.specs.Block.{block_of}
use Rattle.layout_search.specs.FirstLayout.{walk_of, IsFirstLayout, HasNoLayout}
use Rattle.layout_search.proofs.Alike as alike
use Rattle.layout_search.proofs.States.{state-is}
use Rattle.problem_data.specs.Problem.{ProblemData}
use Rattle.problem_data.proofs.Accepted.{accepted_well_formed}
use Rattle.problem_generator.specs.Made.{made_text}
use Rattle.rule_ground.specs.Order.{order_of, variables_for}
use Rattle.rule_ground.specs.Start.{first_state}
use Rattle.rule_ground.proofs.Starts.{names-each}
use Rattle.command_input.specs.declared.command.Status.{Status}
use Rattle.command_input.specs.declared.command.Status.TheVariants.{
  Answered,
  No,
  Refused,
  Budget,
  BadWords,
  BadToken,
  ReadFault,
  WriteFault,
  Memory,
  BadDimension,
}
use Rattle.command_reply.specs.Accepted.{IsAccepted, AreConditions}
use Rattle.command_reply.specs.Question.{IsSound, IsVerdict}
use Rattle.command_reply.specs.Refusal.{RefusedAnswer}
use Rattle.command_reply.proofs.OneRefusal.{one_refused_text}
use Rattle.command_reply.proofs.Refusals.{same_problem, refused_too}
use Rattle.search_commands.specs.First.{
  BothSayNone,
  FindsLayout,
  FindsNone,
  FirstAnswer,
  RunsOut,
  SaysNone,
  WritesLayout,
  WritesNone,
  WritesSpent,
  first_question,
  out_of_budget,
}
use Rattle.search_commands.specs.Make.{IsNoneSummary, MakeAnswer, budget_summary, layout_summary, make_question}
use Rattle.search_commands.proofs.Shown.{shows-alike}

-- ---- what a search finds

-- a text of which a problem with a layout is spelled spells none without
layout_or_none : (n : ℕ) (input : List ℕ) (p q : ProblemData) (cs ds : List Cond) (t : Tuple) → FindsLayout n input p cs t → FindsNone n input q ds → ⊥
layout_or_none n input p q cs ds t a b = subst HasNoLayout (same_problem input q p b.accepted a.accepted) b.none t a.first.layout

-- under conditions of the same problem no listing finds a layout where another is out of budget,
-- and none ends there
layout_or_spent : (n : ℕ) (input : List ℕ) (p q : ProblemData) (cs ds : List Cond) (t : Tuple) → FindsLayout n input p cs t → RunsOut n input q ds → ⊥
layout_or_spent n input p q cs ds t a b =
    let e : q ≡ p = same_problem input q p b.accepted a.accepted in
    let well = accepted_well_formed input p a.accepted.spells in
    alike.found-or-spent p.dims cs ds (first_state p) (order_of p) n (state-is p well) (names-each p well) (a.are ∙ sym (subst (λ (x : ProblemData). AreConditions x ds) e b.are)) _ a.listing
    (subst (λ (x : ProblemData). IsListing (walk_of x ds) 1 n [] OutOfBudget) e b.listing)

none_or_spent : (n : ℕ) (input : List ℕ) (p q : ProblemData) (cs ds : List Cond) → FindsNone n input p cs → RunsOut n input q ds → ⊥
none_or_spent n input p q cs ds a b =
    let e : q ≡ p = same_problem input q p b.accepted a.accepted in
    let well = accepted_well_formed input p a.accepted.spells in
    alike.ended-or-spent p.dims cs ds (first_state p) (order_of p) n (state-is p well) (names-each p well) (a.are ∙ sym (subst (λ (x : ProblemData). AreConditions x ds) e b.are)) a.listing
    (subst (λ (x : ProblemData). IsListing (walk_of x ds) 1 n [] OutOfBudget) e b.listing)

-- two first layouts are one
one_layout : (p : ProblemData) (t u : Tuple) → IsFirstLayout p t → IsFirstLayout p u → u ≡ t
one_layout p t u f g = elim (f.first u g.layout) [
  | inl e ↦ e
  | inr b ↦ elim (g.first t f.layout) [
    | inl e ↦ sym e
    | inr a ↦ absurd (precedes_once (variables_for p) (values (variables_for p) t) (values (variables_for p) u) b a)
  ]
]

-- ---- what is written of it, whatever the lines are

module _ (lines : ProblemData → Tuple → List ℕ) (Says : ProblemData → List Cond → List ℕ → Type 0) (spent : ProblemData → List ℕ) (n : ℕ) (input : List ℕ) where
  -- what is found of a text, by the status that says it
  abbrev pub Answers : List ℕ → Status → Type 0
  Answers out Answered = WritesLayout lines n input out
  Answers out No = WritesNone Says n input out
  Answers out Budget = WritesSpent spent n input out
  Answers out Refused = RefusedAnswer input out
  Answers out _ = ⊥

  layout_none : (t u : List ℕ) → WritesLayout lines n input t → WritesNone Says n input u → ⊥
  layout_none t u a b = layout_or_none n input a.problem b.problem a.conditions b.conditions a.tuple a.found b.found

  layout_spent : (t u : List ℕ) → WritesLayout lines n input t → WritesSpent spent n input u → ⊥
  layout_spent t u a b = layout_or_spent n input a.problem b.problem a.conditions b.conditions a.tuple a.found b.found

  none_spent : (t u : List ℕ) → WritesNone Says n input t → WritesSpent spent n input u → ⊥
  none_spent t u a b = none_or_spent n input a.problem b.problem a.conditions b.conditions a.found b.found

  pub found_status : (t u : List ℕ) (s r : Status) → Answers t s → Answers u r → s ≡ r
  found_status t u Answered Answered a b = refl
  found_status t u No No a b = refl
  found_status t u Budget Budget a b = refl
  found_status t u Refused Refused a b = refl
  found_status t u Answered No a b = absurd (layout_none t u a b)
  found_status t u No Answered b a = absurd (layout_none u t a b)
  found_status t u Answered Budget a b = absurd (layout_spent t u a b)
  found_status t u Budget Answered b a = absurd (layout_spent u t a b)
  found_status t u No Budget a b = absurd (none_spent t u a b)
  found_status t u Budget No b a = absurd (none_spent u t a b)
  found_status t u Answered Refused a r = absurd (refused_too input u a.problem a.found.accepted r)
  found_status t u Refused Answered r a = absurd (refused_too input t a.problem a.found.accepted r)
  found_status t u No Refused a r = absurd (refused_too input u a.problem a.found.accepted r)
  found_status t u Refused No r a = absurd (refused_too input t a.problem a.found.accepted r)
  found_status t u Budget Refused a r = absurd (refused_too input u a.problem a.found.accepted r)
  found_status t u Refused Budget r a = absurd (refused_too input t a.problem a.found.accepted r)
  found_status t u BadWords r a b = absurd a
  found_status t u BadToken r a b = absurd a
  found_status t u ReadFault r a b = absurd a
  found_status t u WriteFault r a b = absurd a
  found_status t u Memory r a b = absurd a
  found_status t u BadDimension r a b = absurd a
  found_status t u s _ a b = absurd b

  pub same_layout : (t u : List ℕ) → WritesLayout lines n input t → WritesLayout lines n input u → t ≡ u
  same_layout t u a b =
      let same : b.problem ≡ a.problem = same_problem input b.problem a.problem b.found.accepted a.found.accepted in
      let other : u ≡ lines a.problem b.tuple = subst (λ (z : ProblemData). u ≡ lines z b.tuple) same b.says in
      a.says ∙ sym (other ∙ ap (lines a.problem) (one_layout a.problem a.tuple b.tuple a.found.first (subst (λ (z : ProblemData). IsFirstLayout z b.tuple) same b.found.first)))

  pub same_spent : (t u : List ℕ) → WritesSpent spent n input t → WritesSpent spent n input u → t ≡ u
  same_spent t u a b = a.says ∙ sym (b.says ∙ ap spent (same_problem input b.problem a.problem b.found.accepted a.found.accepted))

  pub found_verdict : (text : List ℕ) (s : Status) → (p : ProblemData) × IsAccepted input p → Answers text s → IsVerdict s
  found_verdict text Answered given a = inl refl
  found_verdict text No given a = inr (inl refl)
  found_verdict text Budget given a = inr (inr refl)
  found_verdict text Refused (p, acc) r = absurd (refused_too input text p acc r)
  found_verdict text _ given a = absurd a

-- ---- `first`

first_is : (n : ℕ) (input text : List ℕ) (s : Status) → FirstAnswer n input text s → Answers block_of SaysNone (λ p. out_of_budget n) n input text s
first_is n input text Answered a = a
first_is n input text No a = a
first_is n input text Budget a = a
first_is n input text Refused a = a
first_is n input text _ a = a

-- under conditions that stand for the same trees the same is said
says-alike : (p : ProblemData) (cs ds : List Cond) (u : List ℕ) → AreConditions p cs → AreConditions p ds → SaysNone p ds u → SaysNone p cs u
says-alike p cs ds u are is h = record { events = h.events; shows = shows-alike p cs ds h.events are is h.shows; says = h.says }

both_none : (n : ℕ) (input t u : List ℕ) → WritesNone SaysNone n input t → WritesNone SaysNone n input u → BothSayNone input t u
both_none n input t u a b =
    let same : b.problem ≡ a.problem = same_problem input b.problem a.problem b.found.accepted a.found.accepted in
    let is : AreConditions a.problem b.conditions = subst (λ (z : ProblemData). AreConditions z b.conditions) same b.found.are in
    let other : SaysNone a.problem b.conditions u = subst (λ (z : ProblemData). SaysNone z b.conditions u) same b.says in
    (a.problem, a.conditions, a.found.accepted, a.found.are, a.says, says-alike a.problem a.conditions b.conditions u a.found.are is other)

first_text : (n : ℕ) (input t u : List ℕ) (s : Status) → FirstAnswer n input t s → FirstAnswer n input u s → (t ≡ u) ⊎ ((s ≡ No) × BothSayNone input t u)
first_text n input t u Answered a b = inl (same_layout block_of SaysNone (λ p. out_of_budget n) n input t u a b)
first_text n input t u No a b = inr (refl, both_none n input t u a b)
first_text n input t u Budget a b = inl (same_spent block_of SaysNone (λ p. out_of_budget n) n input t u a b)
first_text n input t u Refused a b = inl (one_refused_text input t u a b)
first_text n input t u _ a b = absurd a

pub first_sound : (n : ℕ) → IsSound (first_question n)
first_sound n = record {
  one_status = λ input t u s r a b. found_status block_of SaysNone (λ p. out_of_budget n) n input t u s r (first_is n input t s a) (first_is n input u r b);
  one_text = first_text n;
  complete = λ input text s given a. found_verdict block_of SaysNone (λ p. out_of_budget n) n input text s given (first_is n input text s a);
  within = omega arith;
}

-- ---- `make`

make_is : (seed n : ℕ) (input text : List ℕ) (s : Status) → MakeAnswer seed n input text s → Answers layout_summary IsNoneSummary budget_summary n (made_text seed) text s
make_is seed n input text Answered a = a
make_is seed n input text No a = a
make_is seed n input text Budget a = a
make_is seed n input text _ a = absurd a

same_none : (n : ℕ) (input t u : List ℕ) → WritesNone IsNoneSummary n input t → WritesNone IsNoneSummary n input u → t ≡ u
same_none n input t u a b =
    a.says ∙ sym (subst (λ (z : ProblemData). IsNoneSummary z b.conditions u) (same_problem input b.problem a.problem b.found.accepted a.found.accepted) b.says)

make_text : (seed n : ℕ) (input t u : List ℕ) (s : Status) → MakeAnswer seed n input t s → MakeAnswer seed n input u s → (t ≡ u) ⊎ ⊥
make_text seed n input t u Answered a b = inl (same_layout layout_summary IsNoneSummary budget_summary n (made_text seed) t u a b)
make_text seed n input t u No a b = inl (same_none n (made_text seed) t u a b)
make_text seed n input t u Budget a b = inl (same_spent layout_summary IsNoneSummary budget_summary n (made_text seed) t u a b)
make_text seed n input t u _ a b = absurd a

-- nothing is refused, whatever the input
make_verdict : (seed n : ℕ) (input text : List ℕ) (s : Status) → MakeAnswer seed n input text s → IsVerdict s
make_verdict seed n input text Answered a = inl refl
make_verdict seed n input text No a = inr (inl refl)
make_verdict seed n input text Budget a = inr (inr refl)
make_verdict seed n input text _ a = absurd a

pub make_sound : (seed n : ℕ) → IsSound (make_question seed n)
make_sound seed n = record {
  one_status = λ input t u s r a b. found_status layout_summary IsNoneSummary budget_summary n (made_text seed) t u s r (make_is seed n input t s a) (make_is seed n input u r b);
  one_text = make_text seed n;
  complete = λ input text s given a. make_verdict seed n input text s a;
  within = omega arith;
}
