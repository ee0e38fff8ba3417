-- What some piece of a range has.
use Rattle.std.proofs.Common.{ℕ, zero, suc, ◌<◌, ℤ, ◌≤ℤ◌, ◌<ℤ◌, List, [], ◌∷◌, length, get_or, inl, inr, ⊎_elim, arith}
use Rattle.std.specs.Prelude.{◌⊎◌}
use Rattle.std.proofs.lemmas.Int.{ints}
use Rattle.problem_data.specs.Problem.{RangeData}
use Rattle.problem_data.specs.Pieces.{IsInRange, IsInPieces, range_at}
use Rattle.problem_data.proofs.Signs.{tri}

below_or_not : (a b : ℤ) → (a ≤ℤ b) ⊎ (b <ℤ a)
below_or_not a b = ⊎_elim (λ l. inl (omega (arith, ints))) (⊎_elim (λ e. inl (omega (arith, ints))) (λ g. inr g)) (tri a b)

in_or_not : (r : RangeData) (v : ℤ) → IsInRange r v ⊎ (IsInRange r v → ⊥)
in_or_not r v = elim (below_or_not r.low v) [
  | inr l ↦ inr (λ i. let h : r.low ≤ℤ v = i.0 in absurd (omega (arith, ints)))
  | inl l ↦ elim (below_or_not v r.high) [ inl h ↦ inl (l, h) | inr h ↦ inr (λ i. let k : v ≤ℤ r.high = i.1 in absurd (omega (arith, ints))) ]
]

nowhere : (r : RangeData) (rest : List RangeData) (v : ℤ) → (IsInRange r v → ⊥) → (IsInPieces rest v → ⊥) → (n : ℕ) → n < length (r ∷ rest) → IsInRange (range_at (r ∷ rest) n) v → ⊥
nowhere r rest v here there zero lt i = here i
nowhere r rest v here there (suc n) lt i = there (n, omega (arith, lt), i)

pieces_or_not : (pieces : List RangeData) (v : ℤ) → IsInPieces pieces v ⊎ (IsInPieces pieces v → ⊥)
pieces_or_not [] v = inr (λ i. absurd (let lt = i.1 in omega (arith, lt)))
pieces_or_not (r ∷ rest) v = elim (in_or_not r v) [
  | inl i ↦ inl (0, omega arith, i)
  | inr here ↦ elim (pieces_or_not rest v) [
    | inl i ↦ inl (suc i.0, (let lt : i.0 < length rest = i.1 in omega arith), i.2)
    | inr there ↦ inr (λ i. nowhere r rest v here there i.0 i.1 i.2)
  ]
]

-- what is not in no piece is in one
pub in_some : (pieces : List RangeData) (v : ℤ) → ((IsInPieces pieces v → ⊥) → ⊥) → IsInPieces pieces v
in_some pieces v h = ⊎_elim (λ i. i) (λ none. absurd (h none)) (pieces_or_not pieces v)
