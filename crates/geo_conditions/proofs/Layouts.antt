-- The full members of the walk are the layouts, and a layout is known by its values.
use Rattle.std.proofs.Common.{◌≡◌, ℕ, suc, ◌<◌, ◌≤◌, List, [], ◌∷◌, ◌++◌, length, get_or, refl, sym, ap, ◌∙◌, subst, inl, inr, arith, ℤ, pos}
use Rattle.std.proofs.lemmas.Bool.{cases_lt}
use Rattle.std.proofs.lemmas.List.{take_all, same_lists, length-append, length-map}
use Rattle.geo_base.specs.Boxes.{coordinate}
use Rattle.geo_conditions.specs.declared.cond.Cond.{Cond}
use Rattle.geo_conditions.specs.Conditions.{AllFit, AllHold}
use Rattle.geo_conditions.specs.Reach.{State, Tuple, Spot, reach, spot, nothing_put, dims, Inside, TupleIn, IsState}
use Rattle.geo_conditions.specs.Supported.{IsSupported}
use Rattle.geo_conditions.specs.Walk.{Variable, PlaceOf, CoordinateOf, Order, NamesEach, AreOf, IsMember, Begins, value_in, values, variables_in}
use Rattle.geo_conditions.specs.Laws.{IsOfLayout}
use Rattle.geo_conditions.proofs.Few.{dims_are}
use Rattle.geo_conditions.proofs.Full.{IsAmong, AreAll, full_member}
use Rattle.geo_conditions.proofs.Greatest.{IsEven}
use Rattle.geo_conditions.proofs.Defaults.{any_default}
use Rattle.geo_conditions.proofs.Orders.{order_are_of, order_are_all, last_variable}
use Rattle.geo_conditions.proofs.Tuples.{layout_supported, possible_just}
use Rattle.geo_conditions.proofs.Walks.{layout_member, same_pos}
use Rattle.geo_conditions.specs.Reach.{nowhere}
use Rattle.std.proofs.lemmas.List.{get_or_past}

-- the regions of a state have as many low ends as high ones
pub even_state : (k : ℕ) (S : State) → IsState k S → IsEven S
even_state k S s o = elim (cases_lt o (length S)) [
  | inl b ↦ let r = s.dims o nowhere b in r.0 ∙ sym r.1
  | inr b ↦ let e : reach S o ≡ nowhere = get_or_past S o nowhere b in ap (λ (r : _). length r.region.lo) e ∙ sym (ap (λ (r : _). length r.region.hi) e)
]

-- a list that is not empty has a last element
last_of : (q : List ℤ) → 0 < length q → (p : List ℤ) × (v : ℤ) × (q ≡ p ++ v ∷ [])
last_of [] h = absurd (omega arith)
last_of (v ∷ []) h = ([], v, refl)
last_of (v ∷ w ∷ q) h = let r = last_of (w ∷ q) (omega arith) in (v ∷ r.0, r.1, ap (λ (l : List ℤ). v ∷ l) r.2)

-- what a member shows, where there is a variable
member_out : (cs : List Cond) (S : State) (xs : List Variable) (q : List ℤ) → 0 < length xs → IsMember cs S xs q → (T : State) × IsSupported cs T × Inside T S × Begins T xs q
member_out cs S [] q h m = absurd (omega arith)
member_out cs S (x ∷ xs) q h m = m

-- a layout's values are a member
layout_full : (cs : List Cond) (S : State) (xs : List Variable) (t : Tuple) → AllFit cs S → AreOf S xs → TupleIn t S → AllHold cs t → 0 < length xs → IsMember cs S xs (values xs t)
layout_full cs S [] t f a i h b = absurd (omega arith)
layout_full cs S (x ∷ xs) t f a i h b =
    subst (IsMember cs S (x ∷ xs)) (take_all (suc (length xs)) (values (x ∷ xs) t) (omega (arith, length-map (x ∷ xs) (value_in t)))) (layout_member cs t S x xs (length xs) f a i h (omega arith))

-- without objects the empty tuple is the only one
bare_member : (cs : List Cond) (q : List ℤ) → AllFit cs [] → IsMember cs [] [] q → (t : Tuple) × TupleIn t [] × AllHold cs t × (values [] t ≡ q)
bare_member cs [] f m =
    let i : TupleIn [] [] = record { objects = refl; each = λ o h. absurd (omega arith) } in
    ([], i, λ j c l. sym (possible_just (get_or cs j c) [] [] (f j c l) i) ∙ m.unrefuted j c l, refl)
bare_member cs (v ∷ q) f m = absurd m

bare_layout : (cs : List Cond) (t : Tuple) (q : List ℤ) → AllFit cs [] → TupleIn t [] → AllHold cs t → values [] t ≡ q → IsMember cs [] [] q
bare_layout cs [] q f i h e = subst (IsMember cs [] []) e (layout_supported cs [] [] f i h)
bare_layout cs (p ∷ t) q f i h e = absurd (omega (arith, i.objects))

-- a state whose objects an empty order names has none
pub no_objects : (k : ℕ) (S : State) (order : Order) → NamesEach k S order → order.objects ≡ [] → S ≡ []
no_objects k [] order n e = refl
no_objects k (r ∷ S) order n e = let c = n.each 0 (omega arith) in absurd (omega (arith, c.1, ap length e))

-- with an object and a dimension the order has a variable
pub some_variable : (order : Order) → 0 < length order.objects → 0 < length (variables_in order)
some_variable order h = some order.objects order.down h
  where
    some : (objects : List ℕ) (down : List _) → 0 < length objects → 0 < length (Rattle.geo_conditions.specs.Walk.variables objects down)
    some [] down h = absurd (omega arith)
    some (o ∷ objects) down h = omega arith

bare_out : (cs : List Cond) (S : State) (xs : List Variable) (q : List ℤ) → S ≡ [] → xs ≡ [] → AllFit cs S → IsMember cs S xs q → (t : Tuple) × TupleIn t S × AllHold cs t × (values xs t ≡ q)
bare_out cs [] [] q e f fit m = bare_member cs q fit m
bare_out cs (r ∷ S) xs q e f fit m = absurd (omega (arith, ap length e))
bare_out cs [] (x ∷ xs) q e f fit m = absurd (omega (arith, ap length f))

bare_in : (cs : List Cond) (S : State) (xs : List Variable) (q : List ℤ) (t : Tuple) → S ≡ [] → xs ≡ [] → AllFit cs S → TupleIn t S → AllHold cs t → values xs t ≡ q → IsMember cs S xs q
bare_in cs [] [] q t e f fit i h v = bare_layout cs t q fit i h v
bare_in cs (r ∷ S) xs q t e f fit i h v = absurd (omega (arith, ap length e))
bare_in cs [] (x ∷ xs) q t e f fit i h v = absurd (omega (arith, ap length f))

pub empty_list : {X : Type 0} (xs : List X) → length xs ≤ 0 → xs ≡ []
empty_list [] h = refl
empty_list (x ∷ xs) h = absurd (omega arith)

pub no_variables : (order : Order) → order.objects ≡ [] → variables_in order ≡ []
no_variables order e = ap (λ (l : List ℕ). Rattle.geo_conditions.specs.Walk.variables l order.down) e

pub member_is_layout : (k : ℕ) (cs : List Cond) (S : State) (order : Order) (q : List ℤ) → 0 < k → IsState k S → AllFit cs S → NamesEach k S order → IsMember cs S (variables_in order) q → length q ≡ length (variables_in order) → IsOfLayout cs S order q
member_is_layout k cs S order q some_dimension s fit n m len = elim (cases_lt 0 (length order.objects)) [
  | inr none ↦
      let e : order.objects ≡ [] = empty_list order.objects none in
      bare_out cs S (variables_in order) q (no_objects k S order n e) (no_variables order e) fit m
  | inl some ↦
      let r = last_variable order.objects order.down some (omega (arith, n.dimensions)) in
      let xs = variables_in order in
      let ys = r.0 ++ CoordinateOf r.1 r.2 r.3 ∷ [] in
      let in_state : r.1 < length S = subst (λ (o : ℕ). o < length S) r.6.2 (n.objects r.6.0 r.1 r.6.1) in
      let in_dims : r.2 < dims S r.1 = omega (arith, r.5, n.dimensions, dims_are k S r.1 s in_state) in
      let there : 0 < length xs = some_variable order some in
      let w = member_out cs S xs q there m in
      let p = last_of q (omega (arith, len, there)) in
      let lengths : length r.0 ≡ length p.0 = omega (arith, len, ap length r.4, ap length p.2, length-append r.0 (CoordinateOf r.1 r.2 r.3 ∷ []), length-append p.0 (p.1 ∷ [])) in
      let t = full_member cs S r.0 r.1 r.2 r.3 p.0 p.1 (even_state k S s) (subst (AreOf S) r.4 (order_are_of k S order n)) (subst (AreAll S) r.4 (order_are_all k S order s n)) in_dims in_state lengths fit
      w.0 w.1 w.2 (subst (λ (l : List ℤ). Begins w.0 ys l) p.2 (subst (λ (l : List Variable). Begins w.0 l q) r.4 w.3)) in
      (t.0, t.1, t.2, ap (λ (l : List Variable). values l t.0) r.4 ∙ t.3 ∙ sym p.2)
]

pub layout_is_member : (k : ℕ) (cs : List Cond) (S : State) (order : Order) (q : List ℤ) → 0 < k → IsState k S → AllFit cs S → NamesEach k S order → IsOfLayout cs S order q → IsMember cs S (variables_in order) q × (length q ≡ length (variables_in order))
layout_is_member k cs S order q some_dimension s fit n (t, i, h, e) = (
  elim (cases_lt 0 (length order.objects)) [
    | inr none ↦
        let z : order.objects ≡ [] = empty_list order.objects none in
        bare_in cs S (variables_in order) q t (no_objects k S order n z) (no_variables order z) fit i h e
    | inl some ↦ subst (IsMember cs S (variables_in order)) e (layout_full cs S (variables_in order) t fit (order_are_of k S order n) i h (some_variable order some))
  ],
  sym (ap length e) ∙ length-map (variables_in order) (value_in t),
)

-- ---- a tuple is known by its values

same_value : (t u : Tuple) (x : Variable) (xs : List Variable) → values xs t ≡ values xs u → IsAmong x xs → value_in t x ≡ value_in u x
same_value t u x [] e h = absurd h
same_value t u x (y ∷ xs) e (inl s) = let head : value_in t y ≡ value_in u y = cc in subst (λ (z : Variable). value_in t z ≡ value_in u z) s head
same_value t u x (y ∷ xs) e (inr h) = let tail : values xs t ≡ values xs u = cc in same_value t u x xs tail h

spot_is : (a b : Spot) → a.place ≡ b.place → a.origin ≡ b.origin → a ≡ b
spot_is a b e f = ap (λ (p : ℕ). let s : Spot = record { place = p; origin = a.origin } in s) e ∙ ap (λ (l : List ℤ). let s : Spot = record { place = b.place; origin = l } in s) f

same_spot : (k : ℕ) (S : State) (t u : Tuple) (xs : List Variable) (o : ℕ) → IsState k S → AreAll S xs → TupleIn t S → TupleIn u S → values xs t ≡ values xs u → o < length S → spot t o ≡ spot u o
same_spot k S t u xs o s a i j e h =
    let it = (i.each o h).origin in
    let iu = (j.each o h).origin in
    spot_is (spot t o) (spot u o)
    (same_pos (spot t o).place (spot u o).place (same_value t u (PlaceOf o) xs e (a.places o h)))
    (same_lists (spot t o).origin (spot u o).origin (it.same_lo ∙ sym iu.same_lo) (λ d z b.
    let in_dims : d < dims S o = omega (arith, b, it.same_lo) in
    let c = a.coordinates o d h in_dims in
    let v : coordinate (spot t o).origin d ≡ coordinate (spot u o).origin d = same_value t u (CoordinateOf o d c.0) xs e c.1 in
    any_default (spot t o).origin d z (pos 0) b ∙ v ∙ any_default (spot u o).origin d (pos 0) z (omega (arith, in_dims, iu.same_lo))))

pub values_tell : (k : ℕ) (S : State) (order : Order) (t u : Tuple) → IsState k S → NamesEach k S order → TupleIn t S → TupleIn u S → values (variables_in order) t ≡ values (variables_in order) u → t ≡ u
values_tell k S order t u s n i j e =
    same_lists t u (i.objects ∙ sym j.objects) (λ o z b.
    let h : o < length S = omega (arith, b, i.objects) in
    any_default t o z nothing_put b ∙ same_spot k S t u (variables_in order) o s (order_are_all k S order s n) i j e h ∙ any_default u o nothing_put z (omega (arith, h, j.objects)))
