-- An input has one answer of `load`.
use Rattle.std.proofs.Common.{◌≡◌, ◌<◌, ◌++◌, inl, inr, ℕ, List, refl, sym, ◌∙◌, subst, arith}
use Rattle.std.specs.Prelude.{◌⊎◌, codes}
use Rattle.geo_base.specs.Tuple.{Tuple}
use Rattle.geo_load.specs.Blocks.{present}
use Rattle.geo_load.specs.Order.{IsLoading}
use Rattle.geo_load.specs.declared.order.Loading.{Loading}
use Rattle.geo_load.specs.declared.order.Loading.TheVariants.{Order, Cycle}
use Rattle.geo_load.proofs.OneLoading.{one_order, one_cycle, not_both}
use Rattle.layout_text.proofs.OneLayout.{layout_or_fault}
use Rattle.problem_data.specs.Problem.{ProblemData}
use Rattle.command_input.specs.declared.command.Status.{Status}
use Rattle.command_input.specs.declared.command.Status.TheVariants.{
  Answered,
  No,
  Refused,
  Budget,
  BadWords,
  BadToken,
  ReadFault,
  WriteFault,
  Memory,
  BadDimension,
}
use Rattle.command_reply.specs.Accepted.{IsAccepted}
use Rattle.command_reply.specs.Dimension.{HasFaultIn, HasFewerDimensions, IsFirst}
use Rattle.command_reply.specs.Question.{IsSound, IsVerdict}
use Rattle.command_reply.specs.Refusal.{RefusedPairAnswer}
use Rattle.command_reply.proofs.InDimension.{fewer_or_refused}
use Rattle.command_reply.proofs.OneRefusal.{one_fault_from, one_refused_pair_text}
use Rattle.command_reply.proofs.Refusals.{same_problem, not_refused_pair}
use Rattle.command_reply.proofs.TwoTexts.{one-cut}
use Rattle.layout_commands.specs.Load.{
  BlocksAlong,
  GivesIn,
  IsGivenIn,
  LoadAnswer,
  LoadsInOrder,
  LoadsInNone,
  load_question,
  name_lines,
}
use Rattle.layout_commands.proofs.Givens.{given_once}

module _ (d : ℕ) (input : List ℕ) where
  -- what is given in the dimension is not refused
  given_or_refused_in : (text : List ℕ) (p : ProblemData) (t : Tuple) → GivesIn d input p t → RefusedPairAnswer (HasFaultIn d) input text → ⊥
  given_or_refused_in text p t g (place, word, f, e) =
      let h = g.gives in
      not_refused_pair (HasFaultIn d) input h.first h.second p place word h.cut h.accepted (λ r. layout_or_fault p h.second t r.1.within word h.spells r.1.first) f

  -- and its problem has not fewer dimensions
  given_or_fewer : (text : List ℕ) (p : ProblemData) (t : Tuple) → GivesIn d input p t → HasFewerDimensions IsFirst d input text → ⊥
  given_or_fewer text p t g f =
      let h = g.gives in
      let e = one-cut input h.first h.second f.given.first f.given.second h.cut f.given.cut in
      let same : f.problem ≡ p = same_problem h.first f.problem p (subst (λ (z : List ℕ). IsAccepted z f.problem) (sym e.0) f.given.accepted) h.accepted in
      let fewer : p.dims < d = subst (λ (q : ProblemData). q.dims < d) same f.fewer in
      let there = g.there in
      omega (arith, fewer, there)

  -- two ways of giving a problem and a tuple give the same ones, so what loads in one loads in the
  -- other
  loading_once : (p q : ProblemData) (t u : Tuple) (l : Loading) → GivesIn d input p t → GivesIn d input q u → IsLoading (BlocksAlong d q u) (present q u) l → IsLoading (BlocksAlong d p t) (present p t) l
  loading_once p q t u l a b h =
      let e = given_once input p q t u a.gives b.gives in
      subst (λ (x : Tuple). IsLoading (BlocksAlong d p x) (present p x) l) e.1 (subst (λ (x : ProblemData). IsLoading (BlocksAlong d x u) (present x u) l) e.0 h)

  order_or_cycle : (t u : List ℕ) → LoadsInOrder d input t → LoadsInNone d input u → ⊥
  order_or_cycle t u a b =
      not_both (BlocksAlong d a.problem a.tuple) (present a.problem a.tuple) a.order b.cycle a.loading
      (loading_once a.problem b.problem a.tuple b.tuple (Cycle b.cycle) a.given b.given b.loading)

  same_order : (t u : List ℕ) → LoadsInOrder d input t → LoadsInOrder d input u → t ≡ u
  same_order t u a b =
      let e = given_once input a.problem b.problem a.tuple b.tuple a.given.gives b.given.gives in
      let o = one_order (BlocksAlong d a.problem a.tuple) (present a.problem a.tuple) a.order b.order a.loading
      (loading_once a.problem b.problem a.tuple b.tuple (Order b.order) a.given b.given b.loading) in
      a.says ∙ (λ i. codes "order\n" ++ name_lines (sym e.0 i) (o i)) ∙ sym b.says

  same_cycle : (t u : List ℕ) → LoadsInNone d input t → LoadsInNone d input u → t ≡ u
  same_cycle t u a b =
      let e = given_once input a.problem b.problem a.tuple b.tuple a.given.gives b.given.gives in
      let o = one_cycle (BlocksAlong d a.problem a.tuple) (present a.problem a.tuple) a.cycle b.cycle a.loading
      (loading_once a.problem b.problem a.tuple b.tuple (Cycle b.cycle) a.given b.given b.loading) in
      a.says ∙ (λ i. codes "cycle\n" ++ name_lines (sym e.0 i) (o i)) ∙ sym b.says

module _ (d : ℕ) where
  one_status : (input t u : List ℕ) (s r : Status) → LoadAnswer d input t s → LoadAnswer d input u r → s ≡ r
  one_status input t u Answered Answered a b = refl
  one_status input t u No No a b = refl
  one_status input t u Refused Refused a b = refl
  one_status input t u BadDimension BadDimension a b = refl
  one_status input t u Answered No a b = absurd (order_or_cycle d input t u a b)
  one_status input t u No Answered b a = absurd (order_or_cycle d input u t a b)
  one_status input t u Answered Refused a r = absurd (given_or_refused_in d input u a.problem a.tuple a.given r)
  one_status input t u Refused Answered r a = absurd (given_or_refused_in d input t a.problem a.tuple a.given r)
  one_status input t u No Refused a r = absurd (given_or_refused_in d input u a.problem a.tuple a.given r)
  one_status input t u Refused No r a = absurd (given_or_refused_in d input t a.problem a.tuple a.given r)
  one_status input t u Answered BadDimension a f = absurd (given_or_fewer d input u a.problem a.tuple a.given f)
  one_status input t u BadDimension Answered f a = absurd (given_or_fewer d input t a.problem a.tuple a.given f)
  one_status input t u No BadDimension a f = absurd (given_or_fewer d input u a.problem a.tuple a.given f)
  one_status input t u BadDimension No f a = absurd (given_or_fewer d input t a.problem a.tuple a.given f)
  one_status input t u BadDimension Refused f r = absurd (fewer_or_refused d input t u f r)
  one_status input t u Refused BadDimension r f = absurd (fewer_or_refused d input u t f r)
  one_status input t u Budget r a b = absurd a
  one_status input t u BadWords r a b = absurd a
  one_status input t u BadToken r a b = absurd a
  one_status input t u ReadFault r a b = absurd a
  one_status input t u WriteFault r a b = absurd a
  one_status input t u Memory r a b = absurd a
  one_status input t u s _ a b = absurd b

  one_text : (input t u : List ℕ) (s : Status) → LoadAnswer d input t s → LoadAnswer d input u s → (t ≡ u) ⊎ ⊥
  one_text input t u Answered a b = inl (same_order d input t u a b)
  one_text input t u No a b = inl (same_cycle d input t u a b)
  one_text input t u Refused a b = inl (one_refused_pair_text (HasFaultIn d) (λ p text from k q v w f g. one_fault_from p text from k q v w f.1 g.1) input t u a b)
  one_text input t u BadDimension a b = inl (a.says ∙ sym b.says)
  one_text input t u _ a b = absurd a

  complete : (input text : List ℕ) (s : Status) → IsGivenIn d input → LoadAnswer d input text s → IsVerdict s
  complete input text Answered given a = inl refl
  complete input text No given a = inr (inl refl)
  complete input text Refused (p, t, g) r = absurd (given_or_refused_in d input text p t g r)
  complete input text BadDimension (p, t, g) f = absurd (given_or_fewer d input text p t g f)
  complete input text _ given a = absurd a

  pub load_sound : IsSound (load_question d)
  load_sound = record { one_status = one_status; one_text = one_text; complete = complete; within = omega arith }
