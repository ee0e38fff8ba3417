-- What the members of a walk that were met say of the tuples on which every condition is true.
use Rattle.std.proofs.Common.{◌≡◌, ◌<◌, ◌≤◌, ◌⊎◌, ℕ, zero, suc, ℤ, Bool, true, false, List, [], ◌∷◌, ◌++◌, length, refl, sym, ap, ◌∙◌, subst, arith, inl, inr, None}
use Rattle.std.specs.Prelude.{All, Contains, filter, if◌then◌else◌}
use Rattle.std.proofs.lemmas.Bool.{false≢true}
use Rattle.std.proofs.lemmas.Bool.Decides.{nat_tests}
use Rattle.std.proofs.lemmas.List.Elements.{Contains-append_cases, Contains-append_right, filter-append}
use Rattle.geo_base.specs.Tuple.{Tuple}
use Rattle.geo_conditions.specs.declared.cond.Cond.{Cond}
use Rattle.geo_conditions.specs.Conditions.{AllFit, AllHold}
use Rattle.geo_conditions.specs.Reach.{State, IsState, TupleIn}
use Rattle.geo_conditions.specs.Walk.{Order, NamesEach, Tree, values, variables_in, is_full, IsIn, IsFront, IsWhole, GoesOn, Precedes, IsListing, More, End, OutOfBudget}
use Rattle.geo_conditions.proofs.Layouts.{member_is_layout, layout_is_member, values_tell}
use Rattle.layout_search.proofs.Members.{at-element}

pub none-kept : {X : Type 0} (f : X → Bool) (xs : List X) → All (λ x. f x ≡ false) xs → filter f xs ≡ []
none-kept f [] h = refl
none-kept f (x ∷ xs) h = subst (λ (b : Bool). (if b then x ∷ filter f xs else filter f xs) ≡ []) (sym (h 0 x (omega arith))) (none-kept f xs (λ k d b. h (suc k) d (omega arith)))

last-kept : {X : Type 0} (f : X → Bool) (xs : List X) (y : X) → All (λ x. f x ≡ false) xs → f y ≡ true → filter f (xs ++ y ∷ []) ≡ y ∷ []
last-kept f xs y h e =
    filter-append f xs (y ∷ [])
    ∙ ap (λ l. l ++ filter f (y ∷ [])) (none-kept f xs h)
    ∙ subst (λ (b : Bool). (if b then y ∷ [] else []) ≡ y ∷ []) (sym e) refl

module _ (k : ℕ) (cs : List Cond) (S : State) (order : Order) (some : 0 < k) (state : IsState k S) (fit : AllFit cs S) (names : NamesEach k S order) where
  abbrev pub the-walk : Tree
  the-walk = record { conditions = cs; first = S; variables = variables_in order; after = None }

  -- a tuple inside the state on which every condition is true
  abbrev pub IsGood : Tuple → Type 0
  IsGood t = TupleIn t S × AllHold cs t

  -- its values are a full member of the walk
  good-walks : (t : Tuple) → IsGood t → IsIn the-walk (values (variables_in order) t) × (is_full the-walk (values (variables_in order) t) ≡ true)
  good-walks t g =
      let m = layout_is_member k cs S order (values (variables_in order) t) some state fit names (t, g.0, g.1, refl) in
      ((m.0, tt), grind (arith, nat_tests, m.1))

  module _ (v : List (List ℤ)) (n : ℕ) (none : All (λ r. is_full the-walk r ≡ false) v) where
    -- none of the members without a full one is that of a good tuple
    not-met : (t : Tuple) → IsGood t → Contains v (values (variables_in order) t) → ⊥
    not-met t g c = false≢true (sym (at-element (λ r. is_full the-walk r ≡ false) v (values (variables_in order) t) none c) ∙ (good-walks t g).1)

    module _ (q : List ℤ) (front : IsFront the-walk (v ++ q ∷ [])) (full : is_full the-walk q ≡ true) where
      pub found-listed : length (v ++ q ∷ []) ≤ n → IsListing the-walk 1 n (q ∷ []) More
      found-listed few = record { walked = v ++ q ∷ []; front = front; few = few; full = sym (last-kept (is_full the-walk) v q none full); ends = refl }

      pub found-first : (t : Tuple) × IsGood t × (values (variables_in order) t ≡ q) × ((u : Tuple) → IsGood u → (u ≡ t) ⊎ Precedes (variables_in order) (values (variables_in order) t) (values (variables_in order) u))
      found-first =
          let last : Contains (v ++ q ∷ []) q = Contains-append_right v (q ∷ []) q (0, omega arith, refl) in
          let m = at-element (IsIn the-walk) (v ++ q ∷ []) q front.members last in
          let long : length q ≡ length (variables_in order) = grind (arith, nat_tests, full) in
          let l = member_is_layout k cs S order q some state fit names m.0 long in (
            l.0,
            (l.1, l.2),
            l.3,
            λ u g. elim (front.first (values (variables_in order) u) (good-walks u g).0) [
              | inr all ↦ inr (subst (λ (r : List ℤ). Precedes (variables_in order) r (values (variables_in order) u)) (sym l.3) (at-element (λ r. Precedes (variables_in order) r (values (variables_in order) u)) (v ++ q ∷ []) q all last))
              | inl c ↦ elim (Contains-append_cases v (q ∷ []) (values (variables_in order) u) c) [
                | inl met ↦ absurd (not-met u g met)
                | inr own ↦ inl (values_tell k S order u l.0 state names g.0 l.1 (only-one (values (variables_in order) u) own ∙ sym l.3))
              ]
            ],
          )
        where
          only-one : (r : List ℤ) → Contains (q ∷ []) r → r ≡ q
          only-one r (zero, b, e) = sym e
          only-one r (suc i, b, e) = absurd (omega arith)

    module _ (front : IsFront the-walk v) where
      pub ended-listed : IsWhole the-walk v → length v ≤ n → IsListing the-walk 1 n [] End
      ended-listed whole few = record { walked = v; front = front; few = few; full = sym (none-kept (is_full the-walk) v none); ends = (omega arith, whole) }

      pub ended-none : IsWhole the-walk v → (t : Tuple) → IsGood t → ⊥
      ended-none whole t g = not-met t g (whole (values (variables_in order) t) (good-walks t g).0)

      pub spent-listed : GoesOn the-walk v → length v ≡ n → IsListing the-walk 1 n [] OutOfBudget
      spent-listed more e = record { walked = v; front = front; few = omega (arith, e); full = sym (none-kept (is_full the-walk) v none); ends = (omega arith, e, more) }
