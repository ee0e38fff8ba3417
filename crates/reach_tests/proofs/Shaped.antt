-- The layouts without one of the rules that refuse together have the form of tuples of the problem.
use Rattle.std.specs.Prelude.{◌≡◌, ◌<◌, ℕ, List, [], length, slice_index_or}
use Rattle.geo_base.specs.Tuple.{Tuple}
use Rattle.geo_core.specs.Refusing.{IsCore}
use Rattle.problem_data.specs.Cells.{IsShaped, IsTuple}
use Rattle.problem_data.specs.Problem.{ProblemData}
use Rattle.problem_data.specs.SomeRules.{with_rules}

part_shaped : (p : ProblemData) (keep : List ℕ) (t : Tuple) → IsTuple (with_rules p keep) t → IsShaped p t
part_shaped p keep t h = record {
  objects = h.objects;
  each = λ o l. let f = (h.each o l).form in record { first = f.first; last = f.last; dimensions = f.dimensions };
}

pub core_shaped : (p : ProblemData) (R : List ℕ) (ts : List Tuple) → IsCore p R ts → (k : ℕ) → k < length R → IsShaped p (slice_index_or ts k [])
core_shaped p R ts h k l = part_shaped p _ _ (h.each k l).tuple

pub core_alike : (p : ProblemData) (R : List ℕ) (ts : List Tuple) → IsCore p R ts → length ts ≡ length R
core_alike p R ts h = h.alike
