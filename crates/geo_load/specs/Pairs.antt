-- The answers about pairs of objects.
use Rattle.std.specs.Prelude.{◌≡◌, ◌<◌, ◌↔◌, ℕ, Bool, true, false, List, [], length, slice_get, slice_index_or}
use Rattle.std.specs.Option.{option_map_or}
use Rattle.geo_load.specs.declared.pairs.PairAnswers.{PairAnswers}
use Rattle.geo_load.specs.Blocks.{Blocks}
use Rattle.problem_data.specs.Problem.{ProblemData}
use Rattle.problem_data.specs.Tuple.{Tuple}

-- the answers of which objects i blocks; none, where there are none of it
abbrev pub row_at : PairAnswers → ℕ → List Bool
row_at answers i = option_map_or (λ row. row.items) (slice_get answers.rows.items i) []

-- whether i blocks j
abbrev pub answer_at : PairAnswers → ℕ → ℕ → Bool
answer_at answers i j = slice_index_or (row_at answers i) j false

abbrev pub Says : PairAnswers → ℕ → ℕ → Type 0
Says answers i j = answer_at answers i j ≡ true

-- the row says which of the first n objects i blocks
abbrev pub IsRow : ProblemData → Tuple → ℕ → ℕ → ℕ → List Bool → Type 0
IsRow p t d i n row = (j : ℕ) → j < n → (slice_index_or row j false ≡ true) ↔ Blocks p t d i j

-- the answers say which objects block which
abbrev pub AreAnswersOf : ProblemData → Tuple → ℕ → PairAnswers → Type 0
AreAnswersOf p t d answers =
    (i : ℕ) → i < length p.objects → IsRow p t d i (length p.objects) (row_at answers i)
