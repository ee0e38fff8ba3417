-- The children of a condition as a list.
use Rattle.std.proofs.Common.{◌≡◌, ℕ, zero, suc, ◌+◌, ◌-◌, ◌<◌, ◌≤◌, List, [], ◌∷◌, length, get_or, drop, refl, sym, ap, ◌∙◌, subst, below_more}
use Rattle.std.specs.List.{All}
use Rattle.geo_conditions.specs.declared.cond.Cond.{Row_of-Cond, end_of-Cond, more_of-Cond, items-the_row-Cond, items_hidden-the_row-Cond-0, Cond, AtLeast, AtLeast'}
use Rattle.geo_conditions.specs.declared.cond.Conds.{Conds}
use Rattle.std.proofs.Common.{ℤ, pos, ◌≤ℤ◌, ◌<ℤ◌, Bool, true, false, arith, inl, inr}
use Rattle.std.proofs.lemmas.Int.{ints}
use Rattle.std.proofs.lemmas.Bool.{cases_Bool}
use Rattle.std.specs.Bool.{IsTrue}
use Rattle.std.proofs.Common.{ltb}
use Rattle.std.proofs.lemmas.Bool.Decides.{Decides-ltb}
use lib.Signed.{le_z}
use borrow.Author.Differences.{le-true, true_is_le}
use mathlib.Core.Former.{Count}
use Rattle.std.proofs.Math.Seq.{drop-cons}
use Rattle.std.proofs.lemmas.List.{drop_all, length-drop}
use Rattle.std.proofs.lemmas.List.Elements.{All-nil, All-cons, All-head, All-tail}
use Rattle.geo_conditions.proofs.Defaults.{any_default}
use Rattle.geo_conditions.specs.Reach.{State, count}
use Rattle.geo_conditions.specs.Conditions.{possible, how_many_possible, FitsIn, AllFitIn}

abbrev pub many_possible : State → List Cond → ℕ
many_possible S [] = 0
many_possible S (c ∷ cs) = count (possible c S) + many_possible S cs

pub many_is : (n : _) (row : Row_of-Cond n) (S : State) → how_many_possible row S ≡ many_possible S (items-the_row-Cond n row)
many_is n end_of-Cond S = refl
many_is n (more_of-Cond c cs) S = ap (λ (x : ℕ). count (possible c S) + x) (many_is _ cs S)

fit_is : (n : _) (row : Row_of-Cond n) (S : State) → AllFitIn row S → All (λ c. FitsIn c S) (items-the_row-Cond n row)
fit_is n end_of-Cond S h = All-nil (λ c. FitsIn c S)
fit_is n (more_of-Cond c cs) S h = All-cons (λ c. FitsIn c S) c _ h.0 (fit_is _ cs S h.1)

abbrev row_of : Cond → (n : Count) × Row_of-Cond n
row_of (AtLeast' n shape row) = (_, row)
row_of _ = (_, end_of-Cond)

pub at_least_is : (n : ℤ) (children : Conds) (S : State) → possible (AtLeast n children) S ≡ le_z n (pos (many_possible S children.items.items))
at_least_is n children S =
    let row = row_of (AtLeast n children) in
    let same = items_hidden-the_row-Cond-0 children.items in
    ap (λ (x : ℕ). le_z n (pos x)) (many_is row.0 row.1 S) ∙ ap (λ (xs : List Cond). le_z n (pos (many_possible S xs))) same

pub fit_out : (n : ℤ) (children : Conds) (S : State) → FitsIn (AtLeast n children) S → All (λ c. FitsIn c S) children.items.items
fit_out n children S h =
    let row = row_of (AtLeast n children) in
    let same = items_hidden-the_row-Cond-0 children.items in
    subst (All (λ c. FitsIn c S)) same (fit_is row.0 row.1 S h)

count_most : (b : Bool) → count b ≤ 1
count_most true = omega arith
count_most false = omega arith

pub many_most : (S : State) (cs : List Cond) → many_possible S cs ≤ length cs
many_most S [] = omega arith
many_most S (c ∷ cs) = let r = many_most S cs in let k = count_most (possible c S) in omega arith

-- so many of the children are possible, which is enough
pub enough_possible : (n : ℤ) (children : Conds) (S : State) (c : Cond) (xs : List Cond) (k : ℕ) → c ≡ AtLeast n children → xs ≡ children.items.items → n ≤ℤ pos k → k ≤ many_possible S xs → possible c S ≡ true
enough_possible n children S c xs k e f l h =
    ap (λ (x : Cond). possible x S) e ∙ at_least_is n children S ∙ ap (λ (ys : List Cond). le_z n (pos (many_possible S ys))) (sym f)
    ∙ sym (true_is_le n (pos (many_possible S xs)) (omega (arith, ints)))

-- no more of the children than that are possible, which is not enough
pub too_few_possible : (n : ℤ) (children : Conds) (S : State) (c : Cond) (xs : List Cond) (k : ℕ) → c ≡ AtLeast n children → xs ≡ children.items.items → pos k <ℤ n → many_possible S xs ≤ k → possible c S ≡ false
too_few_possible n children S c xs k e f l h =
    let many : ℤ = pos (many_possible S xs) in
    ap (λ (x : Cond). possible x S) e ∙ at_least_is n children S ∙ ap (λ (ys : List Cond). le_z n (pos (many_possible S ys))) (sym f)
    ∙ elim (cases_Bool (le_z n many)) [
      | inl q ↦ absurd (let w = le-true n many q in omega (arith, ints))
      | inr q ↦ q
    ]

-- one child more
pub many_step : (S : State) (cs : List Cond) (i : ℕ) (d : Cond) → i < length cs → many_possible S (drop i cs) ≡ count (possible (get_or cs i d) S) + many_possible S (drop (suc i) cs)
many_step S cs i d h = ap (many_possible S) (drop-cons cs i d h)

pub many_end : (S : State) (cs : List Cond) (i : ℕ) → length cs ≤ i → many_possible S (drop i cs) ≡ 0
many_end S cs i h = ap (many_possible S) (drop_all i cs h)

-- the next one is possible, or not
pub next_sure : (S : State) (xs : List Cond) (i sure : ℕ) (x : Cond) → i < length xs → sure + many_possible S (drop i xs) ≡ many_possible S xs → possible (get_or xs i x) S ≡ true → sure + 1 + many_possible S (drop (i + 1) xs) ≡ many_possible S xs
next_sure S xs i sure x h v e =
    let step : many_possible S (drop i xs) ≡ count (possible (get_or xs i x) S) + many_possible S (drop (suc i) xs) = many_step S xs i x h in
    let one : count (possible (get_or xs i x) S) ≡ 1 = ap count e in
    let next : suc i ≡ i + 1 = omega arith in
    subst (λ (k : ℕ). sure + 1 + many_possible S (drop k xs) ≡ many_possible S xs) next (omega (arith, step, one, v))

pub next_not : (S : State) (xs : List Cond) (i sure : ℕ) (x : Cond) → i < length xs → sure + many_possible S (drop i xs) ≡ many_possible S xs → possible (get_or xs i x) S ≡ false → sure + many_possible S (drop (i + 1) xs) ≡ many_possible S xs
next_not S xs i sure x h v e =
    let step : many_possible S (drop i xs) ≡ count (possible (get_or xs i x) S) + many_possible S (drop (suc i) xs) = many_step S xs i x h in
    let none : count (possible (get_or xs i x) S) ≡ 0 = ap count e in
    let next : suc i ≡ i + 1 = omega arith in
    subst (λ (k : ℕ). sure + many_possible S (drop k xs) ≡ many_possible S xs) next (omega (arith, step, none, v))

-- one more that is possible, behind the first i
pub one_more : (S : State) (xs : List Cond) (i sure : ℕ) (x : Cond) → i < length xs → sure + many_possible S (drop i xs) ≡ many_possible S xs → possible (get_or xs i x) S ≡ true → sure + 1 ≤ many_possible S xs
one_more S xs i sure x h v e =
    let step : many_possible S (drop i xs) ≡ count (possible (get_or xs i x) S) + many_possible S (drop (suc i) xs) = many_step S xs i x h in
    let one : count (possible (get_or xs i x) S) ≡ 1 = ap count e in omega arith

-- one more that is not possible, behind the first i
pub one_less : (S : State) (xs : List Cond) (i sure left : ℕ) (x : Cond) → i < length xs → sure + many_possible S (drop i xs) ≡ many_possible S xs → left + i ≡ length xs + sure → possible (get_or xs i x) S ≡ false → many_possible S xs ≤ left - 1
one_less S xs i sure left x h v w e =
    let step : many_possible S (drop i xs) ≡ count (possible (get_or xs i x) S) + many_possible S (drop (suc i) xs) = many_step S xs i x h in
    let none : count (possible (get_or xs i x) S) ≡ 0 = ap count e in
    let rest : many_possible S (drop (suc i) xs) ≤ length (drop (suc i) xs) = many_most S (drop (suc i) xs) in
    let size : length (drop (suc i) xs) ≡ length xs - suc i = length-drop (suc i) xs in omega arith

-- ---- the conditions behind the first i

-- they have at most as many as all have
pub many_behind : (S : State) (cs : List Cond) (i : ℕ) → many_possible S (drop i cs) ≤ many_possible S cs
many_behind S [] i = let none : many_possible S (drop i []) ≡ 0 = ap (many_possible S) (drop_all i [] (omega arith)) in omega arith
many_behind S (c ∷ cs) zero = omega arith
many_behind S (c ∷ cs) (suc i) = let r = many_behind S cs i in omega arith

-- and at most i fewer
pub many_before : (S : State) (cs : List Cond) (i : ℕ) → many_possible S cs ≤ i + many_possible S (drop i cs)
many_before S [] i = omega arith
many_before S (c ∷ cs) zero = omega arith
many_before S (c ∷ cs) (suc i) = let r = many_before S cs i in let k = count_most (possible c S) in omega arith

-- where the first one is possible, at least one is
pub first_enough : (S : State) (xs : List Cond) (x : Cond) → 0 < length xs → possible (get_or xs 0 x) S ≡ true → 1 ≤ many_possible S xs
first_enough S xs x h e =
    let step : many_possible S (drop 0 xs) ≡ count (possible (get_or xs 0 x) S) + many_possible S (drop (suc 0) xs) = many_step S xs 0 x h in
    let all = many_behind S xs 0 in
    let one : count (possible (get_or xs 0 x) S) ≡ 1 = ap count e in omega (arith, step, all, one)

-- one more that is possible, before them
pub more_behind : (S : State) (xs : List Cond) (i sure : ℕ) (x : Cond) → 0 < i → i ≤ length xs → sure ≡ many_possible S (drop i xs) → possible (get_or xs (i - 1) x) S ≡ true → sure + 1 ≡ many_possible S (drop (i - 1) xs)
more_behind S xs i sure x some h v e =
    let next : i ≡ suc (i - 1) = omega arith in
    let step : many_possible S (drop (i - 1) xs) ≡ count (possible (get_or xs (i - 1) x) S) + many_possible S (drop (suc (i - 1)) xs) = many_step S xs (i - 1) x (omega arith) in
    let was : sure ≡ many_possible S (drop (suc (i - 1)) xs) = subst (λ (k : ℕ). sure ≡ many_possible S (drop k xs)) next v in
    let one : count (possible (get_or xs (i - 1) x) S) ≡ 1 = ap count e in omega (arith, step, was, one)

-- one more that is not possible, before them
pub less_behind : (S : State) (xs : List Cond) (i sure : ℕ) (x : Cond) → 0 < i → i ≤ length xs → sure ≡ many_possible S (drop i xs) → possible (get_or xs (i - 1) x) S ≡ false → sure ≡ many_possible S (drop (i - 1) xs)
less_behind S xs i sure x some h v e =
    let next : i ≡ suc (i - 1) = omega arith in
    let step : many_possible S (drop (i - 1) xs) ≡ count (possible (get_or xs (i - 1) x) S) + many_possible S (drop (suc (i - 1)) xs) = many_step S xs (i - 1) x (omega arith) in
    let was : sure ≡ many_possible S (drop (suc (i - 1)) xs) = subst (λ (k : ℕ). sure ≡ many_possible S (drop k xs)) next v in
    let none : count (possible (get_or xs (i - 1) x) S) ≡ 0 = ap count e in omega (arith, step, was, none)

fit_back : (n : _) (row : Row_of-Cond n) (S : State) → All (λ c. FitsIn c S) (items-the_row-Cond n row) → AllFitIn row S
fit_back n end_of-Cond S h = tt
fit_back n (more_of-Cond c cs) S h = (All-head (λ e. FitsIn e S) c _ h, fit_back _ cs S (All-tail (λ e. FitsIn e S) c _ h))

pub fit_in : (n : ℤ) (children : Conds) (S : State) → All (λ c. FitsIn c S) children.items.items → FitsIn (AtLeast n children) S
fit_in n children S h =
    let row = row_of (AtLeast n children) in
    let same = items_hidden-the_row-Cond-0 children.items in
    fit_back row.0 row.1 S (subst (All (λ c. FitsIn c S)) (sym same) h)

-- one condition more fits
pub fits_more : (cs : List Cond) (S : State) (i : ℕ) (c : Cond) → c ≡ get_or cs i c → i < length cs → FitsIn c S → ((k : ℕ) → k < i → (d : Cond) → FitsIn (get_or cs k d) S) → (k : ℕ) → k < i + 1 → (d : Cond) → FitsIn (get_or cs k d) S
fits_more cs S i c is h f before =
    below_more (λ k. (d : Cond) → FitsIn (get_or cs k d) S) i before (λ d. subst (λ (e : Cond). FitsIn e S) (is ∙ any_default cs i c d h) f)

-- the test whether an object is there
pub is_there : (o n l : ℕ) → n ≡ l → (IsTrue (ltb o n) → o < l) × (o < l → IsTrue (ltb o n))
is_there o n l e = let d = Decides-ltb o n in (λ h. let b = d.0 h in omega (arith, e, b), λ h. d.1 (omega (arith, e, h)))
