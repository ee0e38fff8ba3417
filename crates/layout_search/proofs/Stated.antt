-- Listings are of layouts, in the stated order.
use Rattle.std.proofs.Common.{◌≡◌, ◌<◌, ℤ, true, List, AllPairs, length, map, take, get_or, refl, sym, subst, inl, inr, arith, Option, None, Some}
use Rattle.std.specs.Prelude.{All, IfSome}
use Rattle.std.specs.Option.{option_map}
use Rattle.std.proofs.lemmas.Bool.Decides.{nat_tests}
use Rattle.std.proofs.lemmas.List.{get_or-map, length-map, take_all}
use Rattle.std.proofs.lemmas.List.Kept.{AllPairs-filter}
use Rattle.geo_base.specs.Tuple.{Tuple}
use Rattle.geo_conditions.specs.declared.cond.Cond.{Cond}
use Rattle.geo_conditions.specs.Walk.{IsIn, Precedes, is_full, values}
use Rattle.geo_conditions.proofs.Layouts.{layout_is_member}
use Rattle.layout_search.specs.FirstLayout.{AreConditionsOf, walk_after, walk_of}
use Rattle.layout_search.proofs.Members.{member-layout}
use Rattle.layout_search.proofs.States.{state-is}
use Rattle.problem_data.specs.Problem.{ProblemData}
use Rattle.problem_data.specs.WellFormed.{IsWellFormed}
use Rattle.problem_data.proofs.Hulls.{tuple_is_wide}
use Rattle.rule_ground.specs.Order.{ComesBefore, order_of, variables_for}
use Rattle.rule_ground.specs.Start.{first_state}
use Rattle.rule_ground.proofs.Starts.{names-each, tuples-are}
use Rattle.layout_search.specs.Laws.{FullMembersAreLayouts, ListsLayouts}
use Rattle.layout_search.specs.Page.{IsWalkOf}
use Rattle.layout_search.proofs.Layouts.{full-members, layouts-of}

-- what holds of the images of elements
pub all-of : {X Y : Type 0} (P : Y → Type 0) (f : X → Y) (xs : List X) → All P (map f xs) → All (λ x. P (f x)) xs
all-of P f xs h k d b = subst P (get_or-map f xs k d (f d) b) (h k (f d) (omega (arith, b, length-map xs f)))

pub pairs-of : {X Y : Type 0} (R : Y → Y → Type 0) (f : X → Y) (xs : List X) → AllPairs R (map f xs) → AllPairs (λ x y. R (f x) (f y)) xs
pairs-of R f xs h i j d l b =
    let near : i < length xs = omega arith in
    subst (λ (y : _). R y (f (get_or xs j d))) (get_or-map f xs i d (f d) near) (subst (λ (y : _). R (get_or (map f xs) i (f d)) y) (get_or-map f xs j d (f d) b) (h i j (f d) l (omega (arith, b, length-map xs f))))

module _ (p : ProblemData) (cs : List Cond) (well : IsWellFormed p) (are : AreConditionsOf p cs) where
  pub full-members-are : FullMembersAreLayouts p cs
  full-members-are q = (
    (λ m. member-layout p cs None q well are m.0 m.1),
    (λ l.
        let t = l.0 in
        let wide = tuple_is_wide p t well l.1.tuple in
        let own = layout_is_member p.dims cs (first_state p) (order_of p) q well.some (state-is p well) are.fit (names-each p well) (t, (tuples-are p t well).1 wide, (are.meaning t wide).1 l.1, l.2) in
        ((own.0, tt), full own.1)),
  )
    where
      full : length q ≡ length (variables_for p) → is_full (walk_of p cs) q ≡ true
      full e = grind (arith, nat_tests, e)

  -- what comes after a tuple
  pub behind : (after : Option Tuple) (ts : List Tuple) → All (λ q. IsIn (walk_after p cs after) q × (is_full (walk_after p cs after) q ≡ true)) (map (values (variables_for p)) ts) → IfSome after (λ t. All (ComesBefore p t) ts)
  behind None ts h = tt
  behind (Some t) ts h = all-of (Precedes (variables_for p) (values (variables_for p) t)) (values (variables_for p)) ts (λ k d b. past (get_or (map (values (variables_for p)) ts) k d) (h k d b))
    where
      past : (q : List ℤ) → IsIn (walk_after p cs (Some t)) q × (is_full (walk_after p cs (Some t)) q ≡ true) → Precedes (variables_for p) (values (variables_for p) t) q
      past q (m, full) =
          let long : length q ≡ length (variables_for p) = grind (arith, nat_tests, full) in
          let size : length (values (variables_for p) t) ≡ length (variables_for p) = length-map (variables_for p) _ in
          let whole : take (length q) (values (variables_for p) t) ≡ values (variables_for p) t = take_all (length q) (values (variables_for p) t) (omega (arith, long, size)) in
          elim m.1 [ inl b ↦ subst (λ (r : List ℤ). Precedes (variables_for p) r q) whole b | inr e ↦ absurd (omega (arith, e.1, long, size)) ]

  pub lists-layouts : ListsLayouts p cs
  lists-layouts after most n found word l =
      let W = walk_after p cs after in
      let of : IsWalkOf p W = (cs, option_map (values (variables_for p)) after, are, refl) in
      let all : All (λ q. IsIn W q × (is_full W q ≡ true)) found = subst (All (λ q. IsIn W q × (is_full W q ≡ true))) (sym l.full) (full-members W l.walked l.front) in
      let ordered : AllPairs (Precedes (variables_for p)) found = subst (AllPairs (Precedes (variables_for p))) (sym l.full) (AllPairs-filter (Precedes (variables_for p)) (is_full W) l.walked l.front.in_order) in
      let r = layouts-of p W well of found all in (
        r.0,
        r.2,
        r.1,
        pairs-of (Precedes (variables_for p)) (values (variables_for p)) r.0 (subst (AllPairs (Precedes (variables_for p))) (sym r.2) ordered),
        behind after r.0 (subst (All (λ q. IsIn W q × (is_full W q ≡ true))) (sym r.2) all),
      )
