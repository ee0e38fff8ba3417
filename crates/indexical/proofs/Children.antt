-- How many of the first conditions of a list are possible.
use Rattle.std.proofs.Common.{◌≡◌, ℕ, zero, suc, ◌+◌, ◌<◌, ◌≤◌, Bool, true, false, List, [], ◌∷◌, length, get_or, refl, sym, ap, ◌∙◌, subst, arith, ℤ, pos, ◌≤ℤ◌, ◌<ℤ◌}
use Rattle.std.specs.List.{All}
use Rattle.std.proofs.lemmas.Int.{ints}
use Rattle.std.proofs.lemmas.Bool.{true≢false}
use Rattle.std.proofs.lemmas.List.Elements.{All-head, All-tail, All-nil, All-cons}
use lib.Signed.{le_z}
use mathlib.Core.Former.{Count}
use Rattle.geo_base.specs.Boxes.{coordinate}
use Rattle.geo_conditions.specs.declared.cond.Cond.{Cond, AtLeast, AtLeast', Row_of-Cond, end_of-Cond, more_of-Cond, items-the_row-Cond, items_hidden-the_row-Cond-0}
use Rattle.geo_conditions.specs.declared.cond.Conds.{Conds}
use Rattle.geo_conditions.specs.Reach.{State, Region, dims, with_at, count}
use Rattle.geo_conditions.specs.Conditions.{possible, FitsIn, IsRefuted}
use Rattle.geo_conditions.proofs.Children.{many_possible, at_least_is}
use Rattle.geo_conditions.proofs.Monotone.{count_le}
use Rattle.geo_conditions.proofs.SmallerBoxes.{possible_wider_box}
use Rattle.indexical.specs.Disjunctions.{IsDisjunction, AreDisjunctions}
use Rattle.std.specs.Prelude.{◌||◌}
use Rattle.std.specs.List.{list_any}
use Rattle.indexical.specs.Names.{names, any_names}

-- ---- the first conditions

-- how many of the first i conditions are possible
abbrev pub first_possible : State → List Cond → ℕ → ℕ
first_possible T xs zero = 0
first_possible T [] (suc i) = 0
first_possible T (x ∷ xs) (suc i) = count (possible x T) + first_possible T xs i

pub first_step : (T : State) (xs : List Cond) (i : ℕ) (d : Cond) → i < length xs → first_possible T xs (suc i) ≡ first_possible T xs i + count (possible (get_or xs i d) T)
first_step T [] i d h = absurd (omega arith)
first_step T (x ∷ xs) zero d h = omega arith
first_step T (x ∷ xs) (suc i) d h = let r = first_step T xs i d (omega arith) in omega (arith, r)

-- the others are at most all possible, and at least none is
pub first_most : (T : State) (xs : List Cond) (i : ℕ) → i ≤ length xs → many_possible T xs + i ≤ first_possible T xs i + length xs
first_most T xs zero h = most T xs
  where
    most : (T : State) (xs : List Cond) → many_possible T xs + 0 ≤ 0 + length xs
    most T [] = omega arith
    most T (x ∷ xs) = let r = most T xs in let c = count_small (possible x T) in omega (arith, r, c)
      where
        count_small : (b : Bool) → count b ≤ 1
        count_small true = omega arith
        count_small false = omega arith
first_most T [] (suc i) h = absurd (omega arith)
first_most T (x ∷ xs) (suc i) h = let r = first_most T xs i (omega arith) in omega (arith, r)

pub first_least : (T : State) (xs : List Cond) (i : ℕ) → first_possible T xs i ≤ many_possible T xs
first_least T xs zero = omega arith
first_least T [] (suc i) = omega arith
first_least T (x ∷ xs) (suc i) = let r = first_least T xs i in omega (arith, r)

-- in a smaller box no more are possible
pub first_smaller : (S : State) (o s : ℕ) (inner b : Region) (xs : List Cond) (i : ℕ) → All (λ x. FitsIn x S) xs → o < length S → ((d : ℕ) → d < dims S o → (coordinate b.lo d ≤ℤ coordinate inner.lo d) × (coordinate inner.hi d ≤ℤ coordinate b.hi d))
    → first_possible (with_at S o s inner) xs i ≤ first_possible (with_at S o s b) xs i
first_smaller S o s inner b xs zero f there r = omega arith
first_smaller S o s inner b [] (suc i) f there r = omega arith
first_smaller S o s inner b (x ∷ xs) (suc i) f there r =
    let rest = first_smaller S o s inner b xs i (All-tail (λ c. FitsIn c S) x xs f) there r in
    let here = count_le (possible x (with_at S o s inner)) (possible x (with_at S o s b)) (possible_wider_box x S o s inner b (All-head (λ c. FitsIn c S) x xs f) there r) in
    omega (arith, rest, here)

pub counted_false : (b : Bool) → b ≡ false → count b ≡ 0
counted_false true e = absurd (true≢false e)
counted_false false e = refl

pub counted_true : (b : Bool) → b ≡ true → count b ≡ 1
counted_true true e = refl
counted_true false e = absurd (true≢false (sym e))

pub counted_none : (b : Bool) → count b ≡ 0 → b ≡ false
counted_none true e = absurd (omega arith)
counted_none false e = refl

-- ---- at least so many

pub refuted_at_least : (n : ℤ) (children : Conds) (T : State) → pos (many_possible T children.items.items) <ℤ n → IsRefuted (AtLeast n children) T
refuted_at_least n children T h = at_least_is n children T ∙ grind (arith, ints)

pub possible_at_least : (n : ℤ) (children : Conds) (T : State) → n ≤ℤ pos (many_possible T children.items.items) → possible (AtLeast n children) T ≡ true
possible_at_least n children T h = at_least_is n children T ∙ grind (arith, ints)

-- one that is possible counts
pub one_enough : (T : State) (xs : List Cond) (i : ℕ) (x : Cond) → i < length xs → possible (get_or xs i x) T ≡ true → 1 ≤ many_possible T xs
one_enough T [] i x h e = absurd (omega arith)
one_enough T (y ∷ xs) zero x h e = let c = counted_true (possible y T) e in omega (arith, c)
one_enough T (y ∷ xs) (suc i) x h e = let r = one_enough T xs i x (omega arith) e in omega (arith, r)

-- where one is enough, one does
pub possible_by_one : (c : Cond) (n : ℤ) (children : Conds) (xs : List Cond) (T : State) (i : ℕ) (x : Cond) → c ≡ AtLeast n children → xs ≡ children.items.items → n ≤ℤ pos 1 → i < length xs → x ≡ get_or xs i x → possible x T ≡ true → possible c T ≡ true
possible_by_one c n children xs T i x is same one h e p =
    let enough : 1 ≤ many_possible T xs = one_enough T xs i x h (subst (λ (y : Cond). possible y T ≡ true) e p) in
    let most : n ≤ℤ pos (many_possible T xs) = grind (arith, ints) in
    subst (λ (k : Cond). possible k T ≡ true) (sym is) (possible_at_least n children T (subst (λ (ys : List Cond). n ≤ℤ pos (many_possible T ys)) same most))

pub few_of_refuted : (n : ℤ) (children : Conds) (T : State) → IsRefuted (AtLeast n children) T → pos (many_possible T children.items.items) <ℤ n
few_of_refuted n children T r =
    let e : le_z n (pos (many_possible T children.items.items)) ≡ false = sym (at_least_is n children T) ∙ r in
    grind (arith, ints)

abbrev row_of : Cond → (n : Count) × Row_of-Cond n
row_of (AtLeast' n shape row) = (_, row)
row_of _ = (_, end_of-Cond)

disjunctions_are : (n : _) (row : Row_of-Cond n) (o : ℕ) → AreDisjunctions o row → All (IsDisjunction o) (items-the_row-Cond n row)
disjunctions_are n end_of-Cond o h = All-nil (IsDisjunction o)
disjunctions_are n (more_of-Cond c cs) o h = All-cons (IsDisjunction o) c _ h.0 (disjunctions_are _ cs o h.1)

-- a disjunction asks for one of its parts, and each part is a disjunction
pub disjunction_out : (n : ℤ) (children : Conds) (o : ℕ) → IsDisjunction o (AtLeast n children) → (n ≡ pos 1) × All (IsDisjunction o) children.items.items
disjunction_out n children o h =
    let row = row_of (AtLeast n children) in
    let same = items_hidden-the_row-Cond-0 children.items in
    (h.0, subst (All (IsDisjunction o)) same (disjunctions_are row.0 row.1 o h.1))

-- ---- names

any_named : (n : _) (row : Row_of-Cond n) (o : ℕ) → any_names o row ≡ list_any (names o) (items-the_row-Cond n row)
any_named n end_of-Cond o = refl
any_named n (more_of-Cond c cs) o = ap (λ (b : Bool). names o c || b) (any_named _ cs o)

-- a condition that asks for some of its parts names what one of them names
pub names_at_least : (n : ℤ) (children : Conds) (o : ℕ) → names o (AtLeast n children) ≡ list_any (names o) children.items.items
names_at_least n children o =
    let row = row_of (AtLeast n children) in
    let same = items_hidden-the_row-Cond-0 children.items in
    any_named row.0 row.1 o ∙ ap (list_any (names o)) same

disjunctions_back : (n : _) (row : Row_of-Cond n) (o : ℕ) → All (IsDisjunction o) (items-the_row-Cond n row) → AreDisjunctions o row
disjunctions_back n end_of-Cond o h = tt
disjunctions_back n (more_of-Cond c cs) o h = (All-head (IsDisjunction o) c _ h, disjunctions_back _ cs o (All-tail (IsDisjunction o) c _ h))

-- a condition that asks for one of its parts, each a disjunction, is one
pub disjunction_in : (n : ℤ) (children : Conds) (o : ℕ) → n ≡ pos 1 → All (IsDisjunction o) children.items.items → IsDisjunction o (AtLeast n children)
disjunction_in n children o one h =
    let row = row_of (AtLeast n children) in
    let same = items_hidden-the_row-Cond-0 children.items in
    (one, disjunctions_back row.0 row.1 o (subst (All (IsDisjunction o)) (sym same) h))
