-- A form that names coordinates of a state has few terms.
use Rattle.std.proofs.Common.{◌≡◌, ℕ, zero, suc, ◌+◌, ◌-◌, ◌*◌, ◌<◌, ◌≤◌, List, length, get_or, inl, inr, arith, ℤ, pos}
use Rattle.std.specs.List.{All}
use Rattle.std.proofs.lemmas.Nat.{mul-le}
use Rattle.std.proofs.lemmas.Bool.{cases_lt, cases_eq}
use Rattle.geo_base.specs.declared.TheConstants.{MAX_DIMS}
use Rattle.geo_conditions.specs.declared.object.TheConstants.{MAX_OBJECTS}
use Rattle.geo_conditions.specs.declared.form.Term.{Term}
use Rattle.geo_conditions.specs.Form.{IsForm}
use Rattle.geo_conditions.specs.Reach.{State, IsState, Exists, nowhere, dims}

-- numbers that rise are at least as large as their indexes
at_least_index : (g : ℕ → ℕ) (n : ℕ) → ((i j : ℕ) → i < j → j < n → g i < g j) → (i : ℕ) → i < n → i ≤ g i
at_least_index g n up zero h = omega arith
at_least_index g n up (suc i) h =
    let before : i ≤ g i = at_least_index g n up i (omega arith) in
    let next : g i < g (suc i) = up i (suc i) (omega arith) h in
    omega arith

-- the number of a coordinate among all of k dimensions
abbrev rank : ℕ → Term → ℕ
rank k a = a.object.0 * k + a.dimension

rank_below : (o d m k : ℕ) → o < m → d < k → o * k + d < m * k
rank_below o d m k h b = let e : (o + 1) * k ≤ m * k = mul-le (o + 1) k m k (omega arith) (omega arith) in omega arith

rank_rises : (o d o' d' k : ℕ) → o ≤ o' → (o ≡ o' → d < d') → d < k → o * k + d < o' * k + d'
rank_rises o d o' d' k h same b = elim (cases_eq o o') [
  | inl e ↦ let s : d < d' = same e in let t : o * k ≤ o' * k = mul-le o k o' k h (omega arith) in omega arith
  | inr ne ↦ let t : (o + 1) * k ≤ o' * k = mul-le (o + 1) k o' k (omega arith) (omega arith) in omega arith
]

default_term : Term
default_term = record { object = record { 0 = 0 }; dimension = 0; factor = pos 0 }

-- the dimensions of each object of a state are its k dimensions
pub dims_are : (k : ℕ) (S : State) (o : ℕ) → IsState k S → o < length S → dims S o ≡ k
dims_are k S o s h = (s.dims o nowhere h).0

-- at most one term for each coordinate
pub few_terms : (k : ℕ) (S : State) (ts : List Term) (z : ℤ) → k ≤ MAX_DIMS → IsState k S → IsForm ts z → All (λ a. Exists S a.object.0 a.dimension) ts → length ts ≤ MAX_OBJECTS * MAX_DIMS
few_terms k S ts z b s f there =
    let g = λ (i : ℕ). rank k (get_or ts i default_term) in
    let in_k : (i : ℕ) → i < length ts → (get_or ts i default_term).dimension < k =
    λ i h. let e = there i default_term h in omega (arith, e.1, dims_are k S (get_or ts i default_term).object.0 s e.0) in
    let up : (i j : ℕ) → i < j → j < length ts → g i < g j =
    λ i j h l. let r = f.in_order i j default_term h l in rank_rises _ _ _ _ k r.object r.dimension (in_k i (omega arith)) in
    elim (cases_lt 0 (length ts)) [
      | inl some ↦
          let last : length ts - 1 < length ts = omega arith in
          let low : length ts - 1 ≤ g (length ts - 1) = at_least_index g (length ts) up (length ts - 1) last in
          let high : g (length ts - 1) < length S * k = rank_below _ _ (length S) k (there (length ts - 1) default_term last).0 (in_k (length ts - 1) last) in
          let most : length S * k ≤ MAX_OBJECTS * MAX_DIMS = mul-le (length S) k MAX_OBJECTS MAX_DIMS s.few b in
          omega arith
      | inr none ↦ omega arith
    ]
