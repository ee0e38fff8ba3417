-- Laws of the walk.
use Rattle.std.proofs.Common.{◌≡◌, ℕ, zero, suc, ◌<◌, true, false, List, [], ◌∷◌, ◌++◌, map, take, length, sym, ap, ◌∙◌, subst, arith, ℤ, pos}
use Rattle.std.proofs.lemmas.Int.{ints}
use Rattle.std.specs.List.{All}
use Rattle.geo_conditions.specs.declared.cond.Cond.{Cond}
use Rattle.geo_base.specs.Boxes.{coordinate}
use Rattle.geo_conditions.specs.Reach.{State, Reach, Tuple, spot, place_in, just_this, Inside, HasNoEmpty, TupleIn}
use Rattle.geo_conditions.specs.Conditions.{holds, FitsIn}
use Rattle.geo_conditions.specs.Supported.{IsSupported}
use Rattle.geo_conditions.specs.Walk.{Variable, PlaceOf, CoordinateOf, object_of, value_in, IsFixed, IsFirstValue, Begins, IsMember, AreOf}
use Rattle.geo_conditions.proofs.Sets.{only_same}
use Rattle.geo_conditions.proofs.Tuples.{reach_just, just_inside, layout_supported}

pub same_pos : (a b : ℕ) → pos a ≡ pos b → a ≡ b
same_pos a b h = omega (arith, ints, h)

-- what is fixed is the first value
pub fixed_first : (T : State) (x : Variable) (v : ℤ) → HasNoEmpty T → object_of x < length T → IsFixed T x v → IsFirstValue T x v
fixed_first T (PlaceOf o) v n h f =
    let s = (n o h).place.0 in
    let there = (n o h).place.1 in
    (s, f s there, there, λ u k. let e : pos u ≡ pos s = f u k ∙ sym (f s there) in omega (arith, same_pos u s e))
fixed_first T (CoordinateOf o d false) v n h f = f.0
fixed_first T (CoordinateOf o d true) v n h f = f.1

-- a beginning, cut by its last value, is a beginning
begins_shorter : (T : State) (xs : List Variable) (q : List ℤ) (u v : ℤ) → HasNoEmpty T → AreOf T xs → Begins T xs (q ++ u ∷ v ∷ []) → Begins T xs (q ++ u ∷ [])
begins_shorter T [] [] u v n a b = b
begins_shorter T [] (w ∷ q) u v n a b = b
begins_shorter T (x ∷ xs) [] u v n a b = fixed_first T x u n a.0 b.0
begins_shorter T (x ∷ xs) (w ∷ []) u v n a b = (b.0, begins_shorter T xs [] u v n a.1 b.1)
begins_shorter T (x ∷ xs) (w ∷ w' ∷ q) u v n a b = (b.0, begins_shorter T xs (w' ∷ q) u v n a.1 b.1)

pub are_of_same : (S T : State) (xs : List Variable) → length S ≡ length T → AreOf S xs → AreOf T xs
are_of_same S T [] h a = tt
are_of_same S T (x ∷ xs) h a = (subst (λ (n : ℕ). object_of x < n) h a.0, are_of_same S T xs h a.1)

-- a member of two values or more has the member without the last
pub member_shorter : (cs : List Cond) (S : State) (x : Variable) (xs : List Variable) (q : List ℤ) (u v : ℤ) → AreOf S (x ∷ xs) → IsMember cs S (x ∷ xs) (q ++ u ∷ v ∷ []) → IsMember cs S (x ∷ xs) (q ++ u ∷ [])
member_shorter cs S x xs q u v a m =
    (m.0, m.1, m.2, begins_shorter m.0 (x ∷ xs) q u v m.1.nonempty (are_of_same S m.0 (x ∷ xs) (sym m.2.objects) a) m.3)

-- in a tuple's state each variable has the tuple's value alone
just_fixed : (t : Tuple) (x : Variable) → IsFixed (just_this t) x (value_in t x)
just_fixed t (PlaceOf o) = λ s h. ap pos (only_same (spot t o).place s (sym (ap (λ (r : Reach). place_in r.places s) (reach_just t o)) ∙ h))
just_fixed t (CoordinateOf o d down) =
    (ap (λ (r : Reach). coordinate r.region.lo d) (reach_just t o), ap (λ (r : Reach). coordinate r.region.hi d) (reach_just t o))

just_begins : (t : Tuple) (xs : List Variable) (m : ℕ) → HasNoEmpty (just_this t) → AreOf (just_this t) xs → m < length xs → Begins (just_this t) xs (take (suc m) (map (value_in t) xs))
just_begins t [] m n a h = absurd (omega arith)
just_begins t (x ∷ xs) zero n a h = fixed_first (just_this t) x (value_in t x) n a.0 (just_fixed t x)
just_begins t (x ∷ []) (suc m) n a h = absurd (omega arith)
just_begins t (x ∷ y ∷ xs) (suc m) n a h = (just_fixed t x, just_begins t (y ∷ xs) m n a.1 (omega arith))

-- each prefix of a layout, of one value or more, is a member
pub layout_member : (cs : List Cond) (t : Tuple) (S : State) (x : Variable) (xs : List Variable) (m : ℕ) → All (λ c. FitsIn c S) cs → AreOf S (x ∷ xs) → TupleIn t S → All (λ c. holds c t ≡ true) cs → m < length (x ∷ xs) → IsMember cs S (x ∷ xs) (take (suc m) (map (value_in t) (x ∷ xs)))
layout_member cs t S x xs m f a h k b =
    let s : IsSupported cs (just_this t) = layout_supported cs t S f h k in
    let i : Inside (just_this t) S = just_inside t S h in
    let g : Begins (just_this t) (x ∷ xs) (take (suc m) (map (value_in t) (x ∷ xs))) = just_begins t (x ∷ xs) m s.nonempty (are_of_same S (just_this t) (x ∷ xs) (sym i.objects) a) b in
    (just_this t, s, i, g)

-- ---- a full member is a layout

-- what is fixed stays so in a state inside
pub fixed_inside : (T S : State) (x : Variable) (v : ℤ) → HasNoEmpty T → object_of x < length T → Inside T S → IsFixed S x v → IsFixed T x v
fixed_inside T S (PlaceOf o) v n h i f = λ s t. f s ((i.each o).places s t)
fixed_inside T S (CoordinateOf o d down) v n h i f =
    let r = (n o h).ranges d in
    (omega (arith, ints, f.0, f.1, r, (i.each o).lows d, (i.each o).highs d), omega (arith, ints, f.0, f.1, r, (i.each o).lows d, (i.each o).highs d))
