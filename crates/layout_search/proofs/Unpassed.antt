-- A page passes no layout over.
use Rattle.std.proofs.Common.{◌≡◌, ◌⊎◌, ◌<◌, ℕ, zero, suc, ℤ, Bool, true, false, List, [], ◌∷◌, Contains, AllPairs, length, map, take, get_or, refl, sym, subst, inl, inr, arith, Option, None, Some}
use Rattle.std.specs.Prelude.{All, IfSome, filter, if◌then◌else◌}
use Rattle.std.proofs.lemmas.List.{length-map, take_all}
use Rattle.std.proofs.lemmas.List.Elements.{All-cons, All-contains, All-filter, All-nil}
use Rattle.std.proofs.lemmas.List.Kept.{AllPairs-filter}
use Rattle.geo_base.specs.Tuple.{Tuple}
use Rattle.geo_conditions.specs.declared.cond.Cond.{Cond}
use Rattle.geo_conditions.specs.Walk.{End, EndsWith, EndWord, IsIn, Precedes, is_full, value_in, values}
use Rattle.geo_conditions.proofs.Whole.{contains_after}
use Rattle.layout_search.specs.FirstLayout.{AreConditionsOf, walk_after}
use Rattle.layout_search.specs.Page.{ComesAfter, IsPage, PassesNoneOver}
use Rattle.layout_search.proofs.Layouts.{full-members}
use Rattle.layout_search.proofs.Members.{values-tell}
use Rattle.layout_search.proofs.Stated.{all-of, behind, full-members-are, pairs-of}
use Rattle.problem_data.specs.Problem.{ProblemData}
use Rattle.problem_data.specs.Layouts.{IsLayout}
use Rattle.problem_data.specs.WellFormed.{IsWellFormed}
use Rattle.problem_data.proofs.Hulls.{tuple_is_wide}
use Rattle.rule_ground.specs.Order.{ComesBefore, variables_for}

-- ---- lists

still-there : {X : Type 0} (b : Bool) (y : X) (zs : List X) (z : X) → Contains zs z → Contains (if b then y ∷ zs else zs) z
still-there true y zs z c = contains_after y zs z c
still-there false y zs z c = c

each-kept : {X : Type 0} (p : X → Bool) (xs : List X) → All (λ y. p y ≡ true → Contains (filter p xs) y) xs
each-kept p [] = All-nil (λ y. p y ≡ true → Contains [] y)
each-kept p (y ∷ ys) =
    All-cons (λ z. p z ≡ true → Contains (filter p (y ∷ ys)) z) y ys (λ e. subst (λ (b : Bool). Contains (if b then y ∷ filter p ys else filter p ys) y) (sym e) (0, omega arith, refl))
    (λ k d b e. still-there (p y) y (filter p ys) (get_or ys k d) (each-kept p ys k d b e))

-- an element that passes is kept
kept-there : {X : Type 0} (p : X → Bool) (xs : List X) (x : X) → Contains xs x → p x ≡ true → Contains (filter p xs) x
kept-there p xs x c = All-contains (λ y. p y ≡ true → Contains (filter p xs) y) xs x (each-kept p xs) c

first-or-later : {X : Type 0} (a : X) (u : List X) (q : X) → Contains (a ∷ u) q → (a ≡ q) ⊎ Contains u q
first-or-later a u q (zero, lt, e) = inl e
first-or-later a u q (suc k, lt, e) = inr (k, omega (arith, lt), e)

-- what a mapped list has is the image of an element
image : {X Y : Type 0} (f : X → Y) (xs : List X) (y : Y) → Contains (map f xs) y → (x : X) × Contains xs x × (f x ≡ y)
image f [] y (k, lt, e) = absurd (omega (arith, lt))
image f (x ∷ xs) y c = elim (first-or-later (f x) (map f xs) y c) [
  | inl e ↦ (x, (0, omega arith, refl), e)
  | inr d ↦ let r = image f xs y d in (r.0, contains_after x xs r.0 r.1, r.2)
]

-- ---- layouts

module _ (p : ProblemData) (cs : List Cond) (well : IsWellFormed p) (are : AreConditionsOf p cs) where
  -- the values of a layout behind the tuple are a full member of the walk
  is-member : (after : Option Tuple) (u : Tuple) → IsLayout p u → ComesAfter p after u
      → IsIn (walk_after p cs after) (values (variables_for p) u) × (is_full (walk_after p cs after) (values (variables_for p) u) ≡ true)
  is-member None u l h = (full-members-are p cs well are (values (variables_for p) u)).1 (u, l, refl)
  is-member (Some t) u l h =
      let m = (full-members-are p cs well are (values (variables_for p) u)).1 (u, l, refl) in
      let q = values (variables_for p) u in
      let r = values (variables_for p) t in
      let whole : take (length q) r ≡ r = take_all (length q) r (omega (arith, length-map (variables_for p) (value_in u), length-map (variables_for p) (value_in t))) in
      ((m.0.0, inl (subst (λ (x : List ℤ). Precedes (variables_for p) x q) (sym whole) h)), m.1)

  all-behind : (after : Option Tuple) (ts : List Tuple) → IfSome after (λ t. All (ComesBefore p t) ts) → All (ComesAfter p after) ts
  all-behind None ts h = λ k d b. tt
  all-behind (Some t) ts h = h

  module _ (after : Option Tuple) (most n : ℕ) (ts : List Tuple) (word : EndWord) (page : IsPage p (walk_after p cs after) most n ts word) where
    is-listed : (u : Tuple) → IsLayout p u → ComesAfter p after u → Contains page.listing.walked (values (variables_for p) u) → Contains ts u
    is-listed u l h c =
        let W = walk_after p cs after in
        let q = values (variables_for p) u in
        let kept : Contains (filter (is_full W) page.listing.walked) q = kept-there (is_full W) page.listing.walked q c (is-member after u l h).1 in
        let r = image (values (variables_for p)) ts q (subst (λ (xs : List (List ℤ)). Contains xs q) (sym page.listing.full) kept) in
        let own : IsLayout p r.0 = All-contains (IsLayout p) ts r.0 page.layouts r.1 in
        let same : r.0 ≡ u = values-tell p r.0 u well (tuple_is_wide p r.0 well own.tuple) (tuple_is_wide p u well l.tuple) r.2 in
        subst (Contains ts) same r.1

    is-placed : (u : Tuple) → IsLayout p u → ComesAfter p after u → Contains ts u ⊎ All (λ t. ComesBefore p t u) ts
    is-placed u l h =
        let W = walk_after p cs after in
        let q = values (variables_for p) u in
        elim (page.listing.front.first q (is-member after u l h).0) [
          | inl c ↦ inl (is-listed u l h c)
          | inr before ↦
              let found : All (λ r. Precedes (variables_for p) r q) (map (values (variables_for p)) ts) =
              subst (All (λ r. Precedes (variables_for p) r q)) (sym page.listing.full) (All-filter (is_full W) (λ r. Precedes (variables_for p) r q) page.listing.walked before)
              in
              inr (all-of (λ r. Precedes (variables_for p) r q) (values (variables_for p)) ts found)
        ]

    passes-none : PassesNoneOver p after ts word
    passes-none =
        let W = walk_after p cs after in
        let found : List (List ℤ) = map (values (variables_for p)) ts in
        let full = subst (All (λ q. IsIn W q × (is_full W q ≡ true))) (sym page.listing.full) (full-members W page.listing.walked page.listing.front) in
        let ordered = subst (AllPairs (Precedes (variables_for p))) (sym page.listing.full) (AllPairs-filter (Precedes (variables_for p)) (is_full W) page.listing.walked page.listing.front.in_order) in
        record {
          layouts = page.layouts;
          in_order = pairs-of (Precedes (variables_for p)) (values (variables_for p)) ts ordered;
          behind = all-behind after ts (behind p cs well are after ts full);
          first = is-placed;
          whole = λ e u l h.
              let ends : EndsWith W most n page.listing.walked found End = subst (λ (x : EndWord). EndsWith W most n page.listing.walked found x) e page.listing.ends in
              is-listed u l h (ends.1 (values (variables_for p) u) (is-member after u l h).0);
        }

pub passes-none-over : (p : ProblemData) (cs : List Cond) (after : Option Tuple) (most n : ℕ) (ts : List Tuple) (word : EndWord) → IsWellFormed p → AreConditionsOf p cs → IsPage p (walk_after p cs after) most n ts word → PassesNoneOver p after ts word
passes-none-over p cs after most n ts word well are page = passes-none p cs well are after most n ts word page
