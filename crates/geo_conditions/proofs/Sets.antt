-- Sets of places as lists of tests.
use Rattle.std.proofs.Common.{◌≡◌, ℕ, zero, suc, ◌+◌, ◌-◌, ◌<◌, ◌≤◌, cond, ◌++◌, replicate, set, Bool, true, false, List, [], ◌∷◌, length, get_or, refl, sym, ap, ◌∙◌, subst, inl, inr, arith, eqb}
use Rattle.std.proofs.lemmas.Bool.{and_from, and_parts, eq-eqb, eqb-true, false≢true, cases_Bool, false_from_ne_true}
use Rattle.geo_conditions.specs.Reach.{place_in, is_only, only, how_many, count, first_place, sole_place}

-- ---- how many are there

-- not more than the tests
pub few_counted : (bs : List Bool) → how_many bs ≤ length bs
few_counted [] = omega arith
few_counted (true ∷ bs) = let h : how_many bs ≤ length bs = few_counted bs in omega arith
few_counted (false ∷ bs) = let h : how_many bs ≤ length bs = few_counted bs in omega arith

pub count_small : (b : Bool) → count b ≤ 1
count_small true = omega arith
count_small false = omega arith

-- each that is there is counted
pub counted_at : (bs : List Bool) (i : ℕ) → count (get_or bs i false) ≤ how_many bs
counted_at [] i = omega arith
counted_at (b ∷ bs) zero = omega arith
counted_at (b ∷ bs) (suc i) = let h : count (get_or bs i false) ≤ how_many bs = counted_at bs i in omega arith

-- one is put in or taken out
pub counted_set : (bs : List Bool) (i : ℕ) (v : Bool) → i < length bs → how_many (set bs i v) + count (get_or bs i false) ≡ how_many bs + count v
counted_set [] i v h = absurd (omega arith)
counted_set (b ∷ bs) zero v h = omega arith
counted_set (b ∷ bs) (suc i) v h =
    let l : i < length bs = omega arith in
    let e : how_many (set bs i v) + count (get_or bs i false) ≡ how_many bs + count v = counted_set bs i v l in omega arith

none_of : (n : ℕ) → how_many (replicate n false) ≡ 0
none_of zero = refl
none_of (suc n) = let e : how_many (replicate n false) ≡ 0 = none_of n in omega arith

-- the first n are there, and no other
pub counted_first : (n m : ℕ) → how_many (replicate n true ++ replicate m false) ≡ n
counted_first zero m = none_of m
counted_first (suc n) m = let e : how_many (replicate n true ++ replicate m false) ≡ n = counted_first n m in omega arith

-- where nothing is counted, nothing is there
pub none_there : (bs : List Bool) (s : ℕ) → how_many bs ≡ 0 → place_in bs s ≡ true → ⊥
none_there bs zero h k = false≢true k
none_there [] (suc s) h k = false≢true k
none_there (true ∷ bs) (suc s) h k = absurd (omega arith)
none_there (false ∷ bs) (suc zero) h k = false≢true k
none_there (false ∷ bs) (suc (suc s)) h k = let h' : how_many bs ≡ 0 = omega arith in none_there bs (suc s) h' k

-- what is there is counted
pub some_counted : (bs : List Bool) (s : ℕ) → place_in bs s ≡ true → 0 < how_many bs
some_counted bs zero k = absurd (false≢true k)
some_counted [] (suc s) k = absurd (false≢true k)
some_counted (true ∷ bs) (suc s) k = omega arith
some_counted (false ∷ bs) (suc zero) k = absurd (false≢true k)
some_counted (false ∷ bs) (suc (suc s)) k = let h : 0 < how_many bs = some_counted bs (suc s) k in omega arith

-- where one is counted, two places that are there are one
pub one_there : (bs : List Bool) (s u : ℕ) → how_many bs ≡ 1 → place_in bs s ≡ true → place_in bs u ≡ true → s ≡ u
one_there bs zero u h k l = absurd (false≢true k)
one_there bs (suc s) zero h k l = absurd (false≢true l)
one_there [] (suc s) (suc u) h k l = absurd (false≢true k)
one_there (true ∷ bs) (suc zero) (suc zero) h k l = refl
one_there (true ∷ bs) (suc zero) (suc (suc u)) h k l = absurd (none_there bs (suc u) (omega arith) l)
one_there (true ∷ bs) (suc (suc s)) u h k l = absurd (none_there bs (suc s) (omega arith) k)
one_there (false ∷ bs) (suc zero) (suc u) h k l = absurd (false≢true k)
one_there (false ∷ bs) (suc (suc s)) (suc zero) h k l = absurd (false≢true l)
one_there (false ∷ bs) (suc (suc s)) (suc (suc u)) h k l =
    let h' : how_many bs ≡ 1 = omega arith in ap suc (one_there bs (suc s) (suc u) h' k l)

-- where no place is there, none is counted
pub none_counted : (bs : List Bool) → ((u : ℕ) → place_in bs u ≡ true → ⊥) → how_many bs ≡ 0
none_counted [] all = refl
none_counted (true ∷ bs) all = absurd (all 1 refl)
none_counted (false ∷ bs) all =
    let h : how_many bs ≡ 0 = none_counted bs (λ u. elim u as (λ w. place_in bs w ≡ true → ⊥) [ zero ↦ all 0 | suc v ↦ all (suc (suc v)) ]) in omega arith

-- where a place is there and no other, one is counted
pub alone_counted : (bs : List Bool) (s : ℕ) → place_in bs s ≡ true → ((u : ℕ) → place_in bs u ≡ true → u ≡ s) → how_many bs ≡ 1
alone_counted bs zero k all = absurd (false≢true k)
alone_counted [] (suc s) k all = absurd (false≢true k)
alone_counted (true ∷ bs) (suc zero) k all =
    let h : how_many bs ≡ 0 = none_counted bs (λ u. elim u as (λ w. place_in bs w ≡ true → ⊥) [ zero ↦ λ l. false≢true l | suc v ↦ λ l. let e : suc (suc v) ≡ 1 = all (suc (suc v)) l in absurd (omega arith) ]) in omega arith
alone_counted (true ∷ bs) (suc (suc s)) k all = let e : 1 ≡ suc (suc s) = all 1 refl in absurd (omega arith)
alone_counted (false ∷ bs) (suc zero) k all = absurd (false≢true k)
alone_counted (false ∷ bs) (suc (suc s)) k all =
    let h : how_many bs ≡ 1 = alone_counted bs (suc s) k (λ u. elim u as (λ w. place_in bs w ≡ true → w ≡ suc s) [ zero ↦ λ l. absurd (false≢true l) | suc v ↦ λ l. let e : suc (suc v) ≡ suc (suc s) = all (suc (suc v)) l in omega arith ]) in omega arith

-- what `is_only` says
pub only_out : (bs : List Bool) (s : ℕ) → is_only bs s ≡ true → (place_in bs s ≡ true) × ((u : ℕ) → place_in bs u ≡ true → u ≡ s)
only_out bs s h =
    let p = and_parts (place_in bs s) (eqb (how_many bs) 1) h in
    (p.0, λ u k. one_there bs u s (eqb-true (how_many bs) 1 p.1) k p.0)

pub only_in : (bs : List Bool) (s : ℕ) → place_in bs s ≡ true → ((u : ℕ) → place_in bs u ≡ true → u ≡ s) → is_only bs s ≡ true
only_in bs s h k = and_from (place_in bs s) (eqb (how_many bs) 1) h (eq-eqb (how_many bs) 1 (alone_counted bs s h k))

-- ---- the sole place

-- where one is counted, the first place that is there is there
first_there : (bs : List Bool) → 0 < how_many bs → place_in bs (first_place bs) ≡ true
first_there [] h = absurd (omega arith)
first_there (true ∷ bs) h = refl
first_there (false ∷ bs) h = later bs (first_there bs (omega arith))
  where
    later : (bs : List Bool) → place_in bs (first_place bs) ≡ true → place_in (false ∷ bs) (suc (first_place bs)) ≡ true
    later [] k = absurd (false≢true k)
    later (true ∷ bs) k = refl
    later (false ∷ bs) k = k

-- the first place is the one before which none is there
pub first_is : (bs : List Bool) (i : ℕ) → ((k : ℕ) → k < i → get_or bs k false ≡ false) → get_or bs i false ≡ true → first_place bs ≡ i + 1
first_is [] i none h = absurd (false≢true h)
first_is (true ∷ bs) zero none h = refl
first_is (true ∷ bs) (suc i) none h = absurd (false≢true (sym (none 0 (omega arith))))
first_is (false ∷ bs) zero none h = absurd (false≢true h)
first_is (false ∷ bs) (suc i) none h =
    let e : first_place bs ≡ i + 1 = first_is bs i (λ k l. none (suc k) (omega arith)) h in omega arith

-- where none is there, none is counted
pub none_at : (bs : List Bool) (n : ℕ) → length bs ≤ n → ((k : ℕ) → k < n → get_or bs k false ≡ false) → how_many bs ≡ 0
none_at [] n l none = refl
none_at (true ∷ bs) n l none = absurd (false≢true (sym (none 0 (omega arith))))
none_at (false ∷ bs) n l none =
    let e : how_many bs ≡ 0 = none_at bs (n - 1) (omega arith) (λ k h. none (suc k) (omega arith)) in omega arith

-- where not one is counted, no place is there alone
pub sole_none : (bs : List Bool) → (how_many bs ≡ 1 → ⊥) → 0 ≡ sole_place bs
sole_none bs n = ap (λ (b : Bool). cond b (first_place bs) 0) (sym (false_from_ne_true (eqb (how_many bs) 1) (λ e. n (eqb-true (how_many bs) 1 e))))

pub sole_one : (bs : List Bool) → how_many bs ≡ 1 → sole_place bs ≡ first_place bs
sole_one bs h = ap (λ (b : Bool). cond b (first_place bs) 0) (eq-eqb (how_many bs) 1 h)

-- what the sole place is
pub sole_out : (bs : List Bool) → (sole_place bs ≡ 0 → ⊥) → is_only bs (sole_place bs) ≡ true
sole_out bs n = elim (cases_Bool (eqb (how_many bs) 1)) [
  | inl e ↦
      let one : how_many bs ≡ 1 = eqb-true (how_many bs) 1 e in
      subst (λ (s : ℕ). is_only bs s ≡ true) (sym (sole_one bs one)) (and_from (place_in bs (first_place bs)) (eqb (how_many bs) 1) (first_there bs (omega (arith, one))) e)
  | inr e ↦ absurd (n (ap (λ (b : Bool). cond b (first_place bs) 0) e))
]

pub sole_in : (bs : List Bool) (s : ℕ) → is_only bs s ≡ true → s ≡ sole_place bs
sole_in bs s h =
    let p = and_parts (place_in bs s) (eqb (how_many bs) 1) h in
    let one : how_many bs ≡ 1 = eqb-true (how_many bs) 1 p.1 in
    one_there bs s (first_place bs) one p.0 (first_there bs (omega (arith, one))) ∙ sym (sole_one bs one)

-- sets of one length in which nothing is there are one
none_same : (bs cs : List Bool) → length bs ≡ length cs → how_many bs ≡ 0 → how_many cs ≡ 0 → bs ≡ cs
none_same [] [] l h k = refl
none_same [] (c ∷ cs) l h k = absurd (omega arith)
none_same (b ∷ bs) [] l h k = absurd (omega arith)
none_same (true ∷ bs) (c ∷ cs) l h k = absurd (omega arith)
none_same (false ∷ bs) (true ∷ cs) l h k = absurd (omega arith)
none_same (false ∷ bs) (false ∷ cs) l h k = ap (λ (xs : List Bool). false ∷ xs) (none_same bs cs (omega arith) (omega arith) (omega arith))

first_some : (bs : List Bool) → 0 < how_many bs → first_place bs ≡ 0 → ⊥
first_some [] h e = omega arith
first_some (true ∷ bs) h e = omega arith
first_some (false ∷ bs) h e = omega arith

first_same : (bs cs : List Bool) → length bs ≡ length cs → how_many bs ≡ 1 → how_many cs ≡ 1 → first_place bs ≡ first_place cs → bs ≡ cs
first_same [] cs l h k e = absurd (omega arith)
first_same (b ∷ bs) [] l h k e = absurd (omega arith)
first_same (true ∷ bs) (true ∷ cs) l h k e = ap (λ (xs : List Bool). true ∷ xs) (none_same bs cs (omega arith) (omega arith) (omega arith))
first_same (true ∷ bs) (false ∷ cs) l h k e = absurd (first_some cs (omega arith) (omega arith))
first_same (false ∷ bs) (true ∷ cs) l h k e = absurd (first_some bs (omega arith) (omega arith))
first_same (false ∷ bs) (false ∷ cs) l h k e = ap (λ (xs : List Bool). false ∷ xs) (first_same bs cs (omega arith) (omega arith) (omega arith) (omega arith))

-- sets of one length with the same sole place are one
pub sole_same : (bs cs : List Bool) → length bs ≡ length cs → how_many bs ≡ 1 → how_many cs ≡ 1 → sole_place bs ≡ sole_place cs → bs ≡ cs
sole_same bs cs l h k e = first_same bs cs l h k (sym (sole_one bs h) ∙ e ∙ sole_one cs k)

-- the set of one place has that place alone
pub only_self : (s : ℕ) → 0 < s → place_in (only s) s ≡ true
only_self zero h = absurd (omega arith)
only_self (suc zero) h = refl
only_self (suc (suc s)) h = only_self (suc s) (omega arith)

pub only_same : (s u : ℕ) → place_in (only s) u ≡ true → u ≡ s
only_same s zero h = absurd (false≢true h)
only_same zero (suc u) h = absurd (false≢true h)
only_same (suc zero) (suc zero) h = refl
only_same (suc zero) (suc (suc u)) h = absurd (false≢true h)
only_same (suc (suc s)) (suc zero) h = absurd (false≢true h)
only_same (suc (suc s)) (suc (suc u)) h = ap suc (only_same (suc s) (suc u) h)

-- a place that is not there is not the only one
pub not_only_absent : (bs : List Bool) (s : ℕ) → place_in bs s ≡ false → false ≡ is_only bs s
not_only_absent bs s h = sym (false_from_ne_true (is_only bs s) (λ k. false≢true (sym h ∙ (only_out bs s k).0)))

pub only_nowhere : (s : ℕ) → is_only [] s ≡ false
only_nowhere zero = refl
only_nowhere (suc s) = refl

-- the test that a set of one place makes
pub only_test_zero : (p s : ℕ) → p ≡ 0 → false ≡ place_in (only p) s
only_test_zero p s h = subst (λ (v : ℕ). false ≡ place_in (only v) s) (sym h) (nothing s)
  where
    nothing : (s : ℕ) → false ≡ place_in [] s
    nothing zero = refl
    nothing (suc k) = refl

pub only_test : (p s : ℕ) → 0 < p → eqb p s ≡ place_in (only p) s
only_test p s h = elim (cases_Bool (eqb p s)) [
  | inl e ↦ e ∙ subst (λ (v : ℕ). true ≡ place_in (only p) v) (eqb-true p s e) (sym (only_self p h))
  | inr e ↦ e ∙ sym (false_from_ne_true (place_in (only p) s) (λ k. false≢true (sym e ∙ eq-eqb p s (sym (only_same p s k)))))
]

pub only_only : (p s : ℕ) → is_only (only p) s ≡ place_in (only p) s
only_only p s = elim (cases_Bool (place_in (only p) s)) [
  | inl e ↦ only_in (only p) s e (λ u k. only_same p u k ∙ sym (only_same p s e)) ∙ sym e
  | inr e ↦ sym (not_only_absent (only p) s e) ∙ sym e
]
