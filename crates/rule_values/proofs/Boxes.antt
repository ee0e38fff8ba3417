-- The boxes of an object at a place are boxes of a shape of the problem.
use Rattle.std.proofs.Common.{◌≡◌, ◌<◌, ◌-◌, ◌==◌, ℕ, List, [], length, sym, subst}
use Rattle.std.specs.Prelude.{slice_get, Option, None, Some, All, if◌then◌else◌}
use Rattle.std.specs.Option.{option_map_or}
use Rattle.std.proofs.Math.Logic.{⊎_elim}
use Rattle.std.proofs.lemmas.Bool.{cases_lt}
use Rattle.std.proofs.lemmas.List.{get_or_past}
use Rattle.std.proofs.lemmas.List.Elements.{All-nil}
use Rattle.problem_data.specs.Problem.{BoxData, ShapeData, ProblemData}
use Rattle.problem_data.specs.Tuple.{object_of, boxes_of_shape}
use Rattle.problem_data.specs.WellFormed.{IsBox, IsWellFormed}
use Rattle.rule_values.specs.Shapes.{boxes_at}

-- the boxes of a shape that is not there are none
shape-boxes : (P : BoxData → Type 0) (p : ProblemData) (n : ℕ) → All (λ s. All P s.boxes) p.shapes → All P (boxes_of_shape p n)
shape-boxes P p n all = ⊎_elim
    (λ h. all n (record { name = []; boxes = [] }) h)
    (λ h. subst (λ (s : ShapeData). All P s.boxes) (sym (get_or_past p.shapes n (record { name = []; boxes = [] }) h)) (All-nil P))
    (cases_lt n (length p.shapes))

pub boxes-all : (P : BoxData → Type 0) (p : ProblemData) (o s : ℕ) → All (λ s. All P s.boxes) p.shapes → All P (boxes_at p o s)
boxes-all P p o s all = by_option (if s == 0 then None else slice_get (object_of p o).shapes (s - 1))
  where
    by_option : (m : Option ℕ) → All P (option_map_or (boxes_of_shape p) m [])
    by_option None = All-nil P
    by_option (Some n) = shape-boxes P p n all

pub boxes-good : (p : ProblemData) (o s : ℕ) → IsWellFormed p → All (IsBox p.dims) (boxes_at p o s)
boxes-good p o s w = boxes-all (IsBox p.dims) p o s w.boxes
