-- In the hull of pieces a number lies in no hole exactly where some piece has it.
use Rattle.std.proofs.Common.{◌≡◌, ℕ, zero, suc, ◌+◌, ◌-◌, ◌<◌, ◌≤◌, ℤ, ◌≤ℤ◌, ◌<ℤ◌, ◌⊎◌, inl, inr, List, [], ◌∷◌, length, refl, subst, arith}
use Rattle.std.specs.Prelude.{All}
use Rattle.std.proofs.lemmas.Int.{ints}
use Rattle.std.proofs.Math.Logic.{⊎_elim}
use Rattle.std.proofs.lemmas.Bool.{cases_lt}
use Rattle.problem_data.specs.Problem.{RangeData}
use Rattle.problem_data.specs.Pieces.{no_range, range_at, IsInRange, IsInPieces, AreApart, last_of, hull}
use Rattle.problem_data.specs.WellFormed.{IsRange, ArePieces}

-- the number is in no hole
abbrev pub InNoHole : List RangeData → ℤ → Type 0
InNoHole rs v = (n : ℕ) → n + 1 < length rs → (v ≤ℤ (range_at rs n).high) ⊎ ((range_at rs (n + 1)).low ≤ℤ v)

-- ---- one piece after another

filled : (rs : List RangeData) → All IsRange rs → (n : ℕ) → n < length rs → (range_at rs n).low ≤ℤ (range_at rs n).high
filled rs all n h = (all n no_range h).filled

next : (rs : List RangeData) → AreApart rs → (n : ℕ) → n + 1 < length rs → (range_at rs n).high <ℤ (range_at rs (n + 1)).low
next [] a n h = absurd (omega (arith, h))
next (r ∷ []) a n h = absurd (omega (arith, h))
next (r ∷ (s ∷ rest)) a zero h = let g = a.0 in omega (arith, ints, g)
next (r ∷ (s ∷ rest)) a (suc n) h =
    let e : suc (n + 1) ≡ suc n + 1 = omega arith in
    subst (λ k. (range_at (s ∷ rest) n).high <ℤ (range_at (r ∷ (s ∷ rest)) k).low) e (next (s ∷ rest) a.1 n (omega (arith, h)))

-- so many pieces behind a piece, and it still begins later
later : (rs : List RangeData) → All IsRange rs → AreApart rs → (n m : ℕ) → (n + m) < length rs → (range_at rs n).low ≤ℤ (range_at rs (n + m)).low
later rs all a n zero h = subst (λ k. (range_at rs n).low ≤ℤ (range_at rs k).low) (let e : n ≡ n + 0 = omega arith in e) (omega (arith, ints))
later rs all a n (suc m) h =
    let l = later rs all a n m (omega (arith, h)) in
    let f = filled rs all (n + m) (omega (arith, h)) in
    let g = next rs a (n + m) (omega (arith, h)) in
    subst (λ k. (range_at rs n).low ≤ℤ (range_at rs k).low) (let e : (n + m) + 1 ≡ n + suc m = omega arith in e) (omega (arith, ints, l, f, g))

farther : (rs : List RangeData) → All IsRange rs → AreApart rs → (n m : ℕ) → (n + m) < length rs → (range_at rs n).high ≤ℤ (range_at rs (n + m)).high
farther rs all a n zero h = subst (λ k. (range_at rs n).high ≤ℤ (range_at rs k).high) (let e : n ≡ n + 0 = omega arith in e) (omega (arith, ints))
farther rs all a n (suc m) h =
    let l = farther rs all a n m (omega (arith, h)) in
    let g = next rs a (n + m) (omega (arith, h)) in
    let f = filled rs all ((n + m) + 1) (omega (arith, h)) in
    subst (λ k. (range_at rs n).high ≤ℤ (range_at rs k).high) (let e : (n + m) + 1 ≡ n + suc m = omega arith in e) (omega (arith, ints, l, f, g))

later-to : (rs : List RangeData) → All IsRange rs → AreApart rs → (n m : ℕ) → n ≤ m → m < length rs → (range_at rs n).low ≤ℤ (range_at rs m).low
later-to rs all a n m l h =
    let e : n + (m - n) ≡ m = omega (arith, l) in
    subst (λ k. (range_at rs n).low ≤ℤ (range_at rs k).low) e (later rs all a n (m - n) (omega (arith, l, h)))

farther-to : (rs : List RangeData) → All IsRange rs → AreApart rs → (n m : ℕ) → n ≤ m → m < length rs → (range_at rs n).high ≤ℤ (range_at rs m).high
farther-to rs all a n m l h =
    let e : n + (m - n) ≡ m = omega (arith, l) in
    subst (λ k. (range_at rs n).high ≤ℤ (range_at rs k).high) e (farther rs all a n (m - n) (omega (arith, l, h)))

-- ---- the ends of a hull

last-is : (r : RangeData) (rest : List RangeData) → last_of r rest ≡ range_at (r ∷ rest) (length rest)
last-is r [] = refl
last-is r (s ∷ rest) = last-is s rest

hull-low : (rs : List RangeData) → 0 < length rs → (hull rs).low ≡ (range_at rs 0).low
hull-low [] h = absurd (omega (arith, h))
hull-low (r ∷ rest) h = refl

hull-high : (rs : List RangeData) → 0 < length rs → (hull rs).high ≡ (range_at rs (length rs - 1)).high
hull-high [] h = absurd (omega (arith, h))
hull-high (r ∷ rest) h =
    let e : length rest ≡ length (r ∷ rest) - 1 = omega arith in
    subst (λ k. (last_of r rest).high ≡ (range_at (r ∷ rest) k).high) e (λ i. (last-is r rest i).high)

-- ---- between holes and pieces

find : (rs : List RangeData) (v : ℤ) (n m : ℕ) → (n + m) + 1 ≡ length rs → (range_at rs n).low ≤ℤ v → v ≤ℤ (range_at rs (n + m)).high → InNoHole rs v → IsInPieces rs v
find rs v n zero e l h k = (n, omega (arith, e), (l, subst (λ i. v ≤ℤ (range_at rs i).high) (let f : n + 0 ≡ n = omega arith in f) h))
find rs v n (suc m) e l h k = ⊎_elim
    (λ a. (n, omega (arith, e), (l, a)))
    (λ b. find rs v (n + 1) m (omega (arith, e)) b (subst (λ i. v ≤ℤ (range_at rs i).high) (let f : n + suc m ≡ (n + 1) + m = omega arith in f) h) k)
    (k n (omega (arith, e)))

-- a number of the hull that is in no hole is in a piece
pub no-hole-in : (rs : List RangeData) (v : ℤ) → ArePieces rs → IsInRange (hull rs) v → InNoHole rs v → IsInPieces rs v
no-hole-in rs v p i k =
    let some = p.some in
    let n : ℕ = length rs - 1 in
    find rs v 0 n (omega (arith, some))
    (subst (λ z. z ≤ℤ v) (hull-low rs some) i.0) (subst (λ m. v ≤ℤ (range_at rs m).high) (let e : n ≡ 0 + n = omega arith in e) (subst (λ z. v ≤ℤ z) (hull-high rs some) i.1)) k

-- a number of a piece is in no hole
pub no-hole-out : (rs : List RangeData) (v : ℤ) → ArePieces rs → IsInPieces rs v → InNoHole rs v
no-hole-out rs v p i n h = ⊎_elim
    (λ less. inr (let l = later-to rs p.ranges p.apart (n + 1) i.0 (omega (arith, less)) i.1 in let k = i.2.0 in omega (arith, ints, l, k)))
    (λ more. inl (let f = farther-to rs p.ranges p.apart i.0 n more (omega (arith, h)) in let k = i.2.1 in omega (arith, ints, f, k)))
    (cases_lt n i.0)
