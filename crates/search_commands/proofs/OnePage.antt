-- The same words and the same input have one listing.
use Rattle.std.proofs.Common.{◌≡◌, inl, inr, ◌++◌, ℕ, ℤ, List, [], ◌∷◌, length, map, refl, sym, ◌∙◌, ap, subst, arith, Option, None, Some}
use Rattle.std.specs.Prelude.{◌⊎◌, All}
use Rattle.std.specs.Option.{option_map}
use Rattle.std.proofs.lemmas.List.Elements.{All-head, All-tail}
use Rattle.geo_base.specs.Tuple.{Tuple}
use Rattle.geo_conditions.specs.declared.cond.Cond.{Cond}
use Rattle.geo_conditions.specs.Walk as walks
use Rattle.geo_conditions.specs.Walk.{EndWord, IsListing, IsWalk, Lists, values}
use Rattle.geo_conditions.proofs.Beginnings.{listing_follows}
use Rattle.geo_conditions.proofs.Tokens.{every_walk}
use Rattle.layout_search.specs.Page.{IsPage, blocks_of}
use Rattle.layout_search.specs.FirstLayout.{walk_after}
use Rattle.layout_search.proofs.Alike as alike
use Rattle.layout_search.proofs.Members.{values-tell}
use Rattle.layout_search.proofs.States.{state-is}
use Rattle.layout_text.proofs.ReadBack.{one_token}
use Rattle.problem_data.specs.Problem.{ProblemData}
use Rattle.problem_data.specs.Cells.{IsWideTuple}
use Rattle.problem_data.specs.Layouts.{IsLayout}
use Rattle.problem_data.specs.WellFormed.{IsWellFormed}
use Rattle.problem_data.proofs.Accepted.{accepted_well_formed}
use Rattle.problem_data.proofs.SomeRules.{wholly_said}
use Rattle.problem_data.proofs.Hulls.{tuple_is_wide}
use Rattle.rule_ground.specs.Order.{order_of, variables_for}
use Rattle.rule_ground.specs.Start.{first_state}
use Rattle.rule_ground.proofs.Starts.{names-each}
use Rattle.walk_listings.proofs.Listings.{lists_listing, one_listing}
use Rattle.command_input.specs.declared.command.Status.{Status}
use Rattle.command_input.specs.declared.command.Status.TheVariants.{
  Answered,
  No,
  Refused,
  Budget,
  BadWords,
  BadToken,
  ReadFault,
  WriteFault,
  Memory,
  BadDimension,
}
use Rattle.command_reply.specs.Accepted.{IsAccepted, AreConditions}
use Rattle.command_reply.specs.Question.{IsSound, IsVerdict}
use Rattle.command_reply.proofs.OneRefusal.{one_refused_text}
use Rattle.search_commands.specs.All.{
  AllAnswer,
  HasBadToken,
  HasPage,
  IsFrom,
  IsNoToken,
  ListsLayouts,
  all_question,
  last_line,
  last_status,
}
use Rattle.command_reply.proofs.Refusals.{same_problem, refused_too}

-- layouts are known by their values
same_layouts : (p : ProblemData) → IsWellFormed p → (ts us : List Tuple) → All (IsLayout p) ts → All (IsLayout p) us → map (values (variables_for p)) ts ≡ map (values (variables_for p)) us → ts ≡ us
same_layouts p well [] [] a b e = refl
same_layouts p well [] (u ∷ us) a b e = absurd (omega (arith, ap length e))
same_layouts p well (t ∷ ts) [] a b e = absurd (omega (arith, ap length e))
same_layouts p well (t ∷ ts) (u ∷ us) a b e =
    let one : IsWideTuple p t = tuple_is_wide p t well (All-head (IsLayout p) t ts a).tuple in
    let other : IsWideTuple p u = tuple_is_wide p u well (All-head (IsLayout p) u us b).tuple in
    let h : t ≡ u = values-tell p t u well one other (first_same (values (variables_for p) t) (values (variables_for p) u) _ _ e) in
    let r : ts ≡ us = same_layouts p well ts us (All-tail (IsLayout p) t ts a) (All-tail (IsLayout p) u us b) (rest_same (values (variables_for p) t) (values (variables_for p) u) _ _ e) in
    λ i. h i ∷ r i
  where
    first_same : (x y : List ℤ) (xs ys : List (List ℤ)) → x ∷ xs ≡ y ∷ ys → x ≡ y
    first_same x y xs ys e = cc

    rest_same : (x y : List ℤ) (xs ys : List (List ℤ)) → x ∷ xs ≡ y ∷ ys → xs ≡ ys
    rest_same x y xs ys e = cc

-- under conditions that stand for the same trees there is one page
one_page : (p : ProblemData) (cs ds : List Cond) (after : Option Tuple) (most n : ℕ) (ts us : List Tuple) (word last : EndWord) → IsWellFormed p → AreConditions p cs → AreConditions p ds
    → IsPage p (walk_after p cs after) most n ts word → IsPage p (walk_after p ds after) most n us last → (ts ≡ us) × (word ≡ last)
one_page p cs ds after most n ts us word last well are is a b =
    let past = option_map (values (variables_for p)) after in
    let w = every_walk p.dims cs (first_state p) (order_of p) past (state-is p well) (names-each p well) in
    let other : IsWalk (walk_after p ds after) w.0 = alike.walk-alike cs ds (are ∙ sym is) (first_state p) (variables_for p) past w.0 w.1 in
    let l = listing_follows (walk_after p ds after) w.0 most n (map (values (variables_for p)) us) last other b.listing in
    let own : IsListing (walk_after p cs after) most n (map (values (variables_for p)) us) last =
    lists_listing (walk_after p cs after) w.0 w.1 most n (map (values (variables_for p)) us) last (lists-too p cs ds after w.0 most n (map (values (variables_for p)) us) last l)
    in
    let e = one_listing (walk_after p cs after) w.0 w.1 most n (map (values (variables_for p)) ts) (map (values (variables_for p)) us) word last a.listing own in
    (same_layouts p well ts us a.layouts b.layouts e.0, e.1)
  where
    lists-too : (p : ProblemData) (cs ds : List Cond) (after : Option Tuple) (w : List (List ℤ)) (most n : ℕ) (found : List (List ℤ)) (last : EndWord) → Lists (walk_after p ds after) w most n found last → Lists (walk_after p cs after) w most n found last
    lists-too p cs ds after w most n found walks.More l = record { full = l.full; ends = l.ends }
    lists-too p cs ds after w most n found walks.End l = record { full = l.full; ends = l.ends }
    lists-too p cs ds after w most n found walks.OutOfBudget l = record { full = l.full; ends = l.ends }

-- a word is the token of one tuple
one_tuple : (input : List ℕ) (p : ProblemData) (token : Option (List ℕ)) (t u : Option Tuple) → IsAccepted input p → IsFrom p token t → IsFrom p token u → t ≡ u
one_tuple input p None None None a f g = refl
one_tuple input p None None (Some u) a f g = absurd g
one_tuple input p None (Some t) u a f g = absurd f
one_tuple input p (Some word) None u a f g = absurd f
one_tuple input p (Some word) (Some t) None a f g = absurd g
one_tuple input p (Some word) (Some t) (Some u) a f g =
    ap Some (one_token p (accepted_well_formed input p a.spells) (wholly_said p (record { text = input; accepts = a.spells })) t u f.tuple g.tuple (sym f.spelled ∙ g.spelled))

-- a token that is one of a tuple is not bad
pub token_or_none : (p : ProblemData) (token : Option (List ℕ)) (after : Option Tuple) → IsFrom p token after → IsNoToken p token → ⊥
token_or_none p None after f none = none
token_or_none p (Some word) None f none = f
token_or_none p (Some word) (Some t) f none = none t f

-- two listings are one
pub same_lists : (most n : ℕ) (token : Option (List ℕ)) (input t u : List ℕ) (s r : Status) → ListsLayouts most n token input t s → ListsLayouts most n token input u r → (s ≡ r) × (t ≡ u)
same_lists most n token input t u s r a b =
    let p = a.problem in
    let e : b.problem ≡ p = same_problem input b.problem p b.accepted a.accepted in
    let well = accepted_well_formed input p a.accepted.spells in
    let is : AreConditions p b.conditions = subst (λ (q : ProblemData). AreConditions q b.conditions) e b.are in
    let from : IsFrom p token b.after = subst (λ (q : ProblemData). IsFrom q token b.after) e b.from in
    let past : b.after ≡ a.after = one_tuple input p token b.after a.after a.accepted from a.from in
    let page : IsPage p (walk_after p b.conditions a.after) most n b.layouts b.word =
    subst (λ (o : Option Tuple). IsPage p (walk_after p b.conditions o) most n b.layouts b.word) past (subst (λ (q : ProblemData). IsPage q (walk_after q b.conditions b.after) most n b.layouts b.word) e b.page)
    in
    let one = one_page p a.conditions b.conditions a.after most n a.layouts b.layouts a.word b.word well a.are is a.page page in
    let says : u ≡ blocks_of p b.layouts ++ last_line n b.word = subst (λ (q : ProblemData). u ≡ blocks_of q b.layouts ++ last_line n b.word) e b.says in
    (a.ends ∙ ap last_status one.1 ∙ sym b.ends, a.says ∙ (λ i. blocks_of p (one.0 i) ++ last_line n (one.1 i)) ∙ sym says)

-- what lists has no bad token
listed_or_bad : (most n : ℕ) (token : Option (List ℕ)) (input t u : List ℕ) (s : Status) → ListsLayouts most n token input t s → HasBadToken token input u → ⊥
listed_or_bad most n token input t u s a b =
    token_or_none b.problem token a.after (subst (λ (p : ProblemData). IsFrom p token a.after) (same_problem input a.problem b.problem a.accepted b.accepted) a.from) b.none

module _ (most n : ℕ) (token : Option (List ℕ)) (input : List ℕ) where
  one_status : (t u : List ℕ) (s r : Status) → AllAnswer most n token input t s → AllAnswer most n token input u r → s ≡ r
  one_status t u Answered Answered a b = refl
  one_status t u Budget Budget a b = refl
  one_status t u BadToken BadToken a b = refl
  one_status t u Refused Refused a b = refl
  one_status t u Answered Budget a b = (same_lists most n token input t u Answered Budget a b).0
  one_status t u Budget Answered a b = (same_lists most n token input t u Budget Answered a b).0
  one_status t u Answered BadToken a b = absurd (listed_or_bad most n token input t u Answered a b)
  one_status t u BadToken Answered a b = absurd (listed_or_bad most n token input u t Answered b a)
  one_status t u Budget BadToken a b = absurd (listed_or_bad most n token input t u Budget a b)
  one_status t u BadToken Budget a b = absurd (listed_or_bad most n token input u t Budget b a)
  one_status t u Answered Refused a r = absurd (refused_too input u a.problem a.accepted r)
  one_status t u Refused Answered r a = absurd (refused_too input t a.problem a.accepted r)
  one_status t u Budget Refused a r = absurd (refused_too input u a.problem a.accepted r)
  one_status t u Refused Budget r a = absurd (refused_too input t a.problem a.accepted r)
  one_status t u BadToken Refused a r = absurd (refused_too input u a.problem a.accepted r)
  one_status t u Refused BadToken r a = absurd (refused_too input t a.problem a.accepted r)
  one_status t u No r a b = absurd a
  one_status t u BadWords r a b = absurd a
  one_status t u ReadFault r a b = absurd a
  one_status t u WriteFault r a b = absurd a
  one_status t u Memory r a b = absurd a
  one_status t u BadDimension r a b = absurd a
  one_status t u s _ a b = absurd b

  one_text : (t u : List ℕ) (s : Status) → AllAnswer most n token input t s → AllAnswer most n token input u s → (t ≡ u) ⊎ ⊥
  one_text t u Answered a b = inl (same_lists most n token input t u Answered Answered a b).1
  one_text t u Budget a b = inl (same_lists most n token input t u Budget Budget a b).1
  one_text t u BadToken a b = inl (a.says ∙ sym b.says)
  one_text t u Refused a b = inl (one_refused_text input t u a b)
  one_text t u _ a b = absurd a

  complete : (text : List ℕ) (s : Status) → HasPage token input → AllAnswer most n token input text s → IsVerdict s
  complete text Answered given a = inl refl
  complete text Budget given a = inr (inr refl)
  complete text Refused (p, after, acc, from) r = absurd (refused_too input text p acc r)
  complete text BadToken (p, after, acc, from) a =
      absurd (token_or_none p token after from (subst (λ (x : ProblemData). IsNoToken x token) (same_problem input a.problem p a.accepted acc) a.none))
  complete text _ given a = absurd a

pub all_sound : (most n : ℕ) (token : Option (List ℕ)) → IsSound (all_question most n token)
all_sound most n token = record { one_status = one_status most n token; one_text = one_text most n token; complete = complete most n token; within = omega arith }
