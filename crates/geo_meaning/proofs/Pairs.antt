-- Two objects of a problem, and its tuples.
use Rattle.std.proofs.Common.{◌<◌, ◌≤◌, ℕ, ℤ, List, length, arith}
use Rattle.std.proofs.Math.Logic.{⊎_elim}
use Rattle.std.proofs.lemmas.Bool.{cases_lt}
use Rattle.problem_data.specs.Problem.{ProblemData}
use Rattle.problem_data.specs.Tuple.{Tuple}
use Rattle.problem_data.specs.Cells.{IsApart, IsCellOf, IsShaped, IsTuple, NoCommonCell}

pub shaped : (p : ProblemData) (t : Tuple) → IsTuple p t → IsShaped p t
shaped p t h = record { objects = h.objects; each = λ o l. (h.each o l).form }

-- the objects before n are apart from those before them
abbrev pub IsApartBefore : ProblemData → Tuple → ℕ → Type 0
IsApartBefore p t n = (o : ℕ) → o < n → (u : ℕ) → u < o → NoCommonCell p t o u

pub apart-all : (p : ProblemData) (t : Tuple) (n : ℕ) → length p.objects ≤ n → IsApartBefore p t n → IsApart p t
apart-all p t n h k o u i j d = ⊎_elim
    (λ l. λ c a b. k u (omega arith) o l c b a)
    (λ l. k o (omega arith) u (omega arith))
    (cases_lt o u)

pub apart-not : (p : ProblemData) (t : Tuple) (o : ℕ) → o < length p.objects → (u : ℕ) × ((u < o) × (NoCommonCell p t o u → ⊥)) → IsApart p t → ⊥
apart-not p t o h f k = let l : f.0 < o = f.1.0 in f.1.1 (k o f.0 h (omega arith) (omega arith))

pub not-common : (p : ProblemData) (t : Tuple) (o u : ℕ) → (c : List ℤ) × (IsCellOf p t o c × IsCellOf p t u c) → NoCommonCell p t o u → ⊥
not-common p t o u f h = h f.0 f.1.0 f.1.1
