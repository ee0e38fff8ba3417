-- Lists of conditions that stand for the same trees have the same walk.
use Rattle.std.proofs.Common.{◌≡◌, ℕ, ◌+◌, ℤ, pos, Bool, true, not, List, [], ◌∷◌, length, map, get_or, refl, sym, ap, ◌∙◌, subst, arith, Option, None}
use Rattle.std.specs.Prelude.{All}
use Rattle.std.proofs.lemmas.List.{length-map, get_or-map}
use Rattle.std.proofs.lemmas.List.Elements.{All-map}
use lib.Signed.{le_z}
use Rattle.geo_conditions.specs.declared.cond.Cond.{Cond, Lin, Shape, NotShape, AtLeast', Row_of-Cond, end_of-Cond, more_of-Cond}
use Rattle.geo_conditions.specs.Reach.{State, IsState, reach, has, is_only, count, with_at, just}
use Rattle.geo_conditions.specs.Conditions.{possible, how_many_possible, least_value}
use Rattle.geo_conditions.specs.Supported.{NoneRefuted, Supports, IsSupported}
use Rattle.geo_conditions.specs.Walk.{Variable, Tree, Order, NamesEach, variables_in, IsMember, IsIn, IsWalk, IsListing, EndWord, More, End, OutOfBudget, Lists}
use Rattle.geo_conditions.proofs.Beginnings.{listing_follows}
use Rattle.geo_conditions.proofs.Tokens.{every_walk}
use Rattle.linear_conditions.specs.CondTree.{CondTree, linear, shape_is, shape_is_not, at_least, CondTrees, no_conds, a_cond, cond_view, row_view}
use mathlib.Core.Former.{Count}

abbrev mutual
  pub tree-possible : State → CondTree → Bool
  tree-possible S (linear f) = le_z (least_value f S) (pos 0)
  tree-possible S (shape_is o s) = has S o s
  tree-possible S (shape_is_not o s) = not (is_only (reach S o).places s)
  tree-possible S (at_least n cs) = le_z n (pos (how-many-possible S cs))

  how-many-possible : State → CondTrees → ℕ
  how-many-possible S no_conds = 0
  how-many-possible S (a_cond c cs) = count (tree-possible S c) + how-many-possible S cs

mutual
  pub view-possible : (S : State) (c : Cond) → tree-possible S (cond_view c) ≡ possible c S
  view-possible S (Lin f) = refl
  view-possible S (Shape o s) = refl
  view-possible S (NotShape o s) = refl
  view-possible S (AtLeast' n shape cs) = ap (λ (m : ℕ). le_z n (pos m)) (row-possible S cs)

  row-possible : (S : State) {m : Count} (cs : Row_of-Cond m) → how-many-possible S (row_view cs) ≡ how_many_possible cs S
  row-possible S end_of-Cond = refl
  row-possible S (more_of-Cond c cs) = λ i. count (view-possible S c i) + row-possible S cs i

module _ (cs ds : List Cond) (same : map cond_view cs ≡ map cond_view ds) where
  none-alike : (S : State) → NoneRefuted cs S → NoneRefuted ds S
  none-alike S h k d b =
      let all : All (λ x. tree-possible S x ≡ true) (map cond_view cs) = All-map (λ x. tree-possible S x ≡ true) cond_view cs (λ i c l. view-possible S (get_or cs i c) ∙ h i c l) in
      let there : All (λ x. tree-possible S x ≡ true) (map cond_view ds) = subst (All (λ x. tree-possible S x ≡ true)) same all in
      sym (view-possible S (get_or ds k d)) ∙ ap (tree-possible S) (sym (get_or-map cond_view ds k d (cond_view d) b)) ∙ there k (cond_view d) (omega (arith, b, length-map ds cond_view))

  supports-alike : (S : State) (o s : ℕ) (q : List ℤ) → Supports cs S o s q → Supports ds S o s q
  supports-alike S o s q h = record { place = h.place; point = h.point; unrefuted = none-alike (with_at S o s (just q)) h.unrefuted }

  supported-alike : (S : State) → IsSupported cs S → IsSupported ds S
  supported-alike S h = record {
    nonempty = h.nonempty;
    unrefuted = none-alike S h.unrefuted;
    places = λ o s l t. let x = h.places o s l t in (x.0, supports-alike S o s x.0 x.1);
    lows = λ o d l t. let x = h.lows o d l t in (x.0, x.1, supports-alike S o x.0 x.1 x.2, x.3);
    highs = λ o d l t. let x = h.highs o d l t in (x.0, x.1, supports-alike S o x.0 x.1 x.2, x.3);
  }

  member-alike : (S : State) (xs : List Variable) (q : List ℤ) → IsMember cs S xs q → IsMember ds S xs q
  member-alike S [] [] h = supported-alike S h
  member-alike S [] (v ∷ q) h = h
  member-alike S (x ∷ xs) q (T, s, i, b) = (T, supported-alike T s, i, b)

  in-alike : (S : State) (xs : List Variable) (after : Option (List ℤ)) (q : List ℤ) → IsIn (record { conditions = cs; first = S; variables = xs; after = after }) q → IsIn (record { conditions = ds; first = S; variables = xs; after = after }) q
  in-alike S xs after q (m, a) = (member-alike S xs q m, a)

-- the same list is the walk of both
pub walk-alike : (cs ds : List Cond) → map cond_view cs ≡ map cond_view ds → (S : State) (xs : List Variable) (after : Option (List ℤ)) (w : List (List ℤ)) → IsWalk (record { conditions = cs; first = S; variables = xs; after = after }) w
    → IsWalk (record { conditions = ds; first = S; variables = xs; after = after }) w
walk-alike cs ds same S xs after w h = record {
  members = λ k d b. in-alike cs ds same S xs after (get_or w k d) (h.members k d b);
  in_order = h.in_order;
  whole = λ q m. h.whole q (in-alike ds cs (sym same) S xs after q m);
}

module _ (k : ℕ) (cs ds : List Cond) (S : State) (order : Order) (n : ℕ) (state : IsState k S) (names : NamesEach k S order) (same : map cond_view cs ≡ map cond_view ds) where
  abbrev pub walk-by : List Cond → Tree
  walk-by es = record { conditions = es; first = S; variables = variables_in order; after = None }

  -- listings under both, by the one walk
  by-one-walk : (found other : List (List ℤ)) (word last : EndWord) → IsListing (walk-by cs) 1 n found word → IsListing (walk-by ds) 1 n other last
      → (w : List (List ℤ)) × Lists (walk-by cs) w 1 n found word × Lists (walk-by ds) w 1 n other last
  by-one-walk found other word last a b =
      let w = every_walk k cs S order None state names in
      (w.0, listing_follows (walk-by cs) w.0 1 n found word w.1 a, listing_follows (walk-by ds) w.0 1 n other last (walk-alike cs ds same S (variables_in order) None w.0 w.1) b)

  pub found-or-spent : (v : List ℤ) → IsListing (walk-by cs) 1 n (v ∷ []) More → IsListing (walk-by ds) 1 n [] OutOfBudget → ⊥
  found-or-spent v a b =
      let h = by-one-walk (v ∷ []) [] More OutOfBudget a b in
      let e : v ∷ [] ≡ [] = h.1.full ∙ sym h.2.full in
      absurd (omega (arith, ap length e))

  pub ended-or-spent : IsListing (walk-by cs) 1 n [] End → IsListing (walk-by ds) 1 n [] OutOfBudget → ⊥
  ended-or-spent a b =
      let h = by-one-walk [] [] End OutOfBudget a b in
      absurd (omega (arith, h.1.ends.1, h.2.ends.1))
