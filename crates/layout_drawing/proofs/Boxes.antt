-- The boxes of an object are boxes of a shape of the problem.
use Rattle.std.proofs.Common.{◌≡◌, ◌<◌, ℕ, List, [], length, sym, subst, inl, inr, ⊎_elim}
use Rattle.std.specs.Prelude.{Option, None, Some, All}
use Rattle.std.specs.Option.{option_map_or}
use Rattle.std.proofs.lemmas.Bool.{cases_lt}
use Rattle.std.proofs.lemmas.List.{get_or_past}
use Rattle.std.proofs.lemmas.List.Elements.{All-nil}
use Rattle.problem_data.specs.Problem.{BoxData, ShapeData, ProblemData}
use Rattle.problem_data.specs.Tuple.{Tuple, boxes_in, boxes_of_shape, shape_of}
use Rattle.problem_data.specs.WellFormed.{IsBox, IsWellFormed}

-- the boxes of a shape that is not there are none
shape_boxes : (P : BoxData → Type 0) (p : ProblemData) (n : ℕ) → All (λ s. All P s.boxes) p.shapes → All P (boxes_of_shape p n)
shape_boxes P p n all = ⊎_elim
    (λ h. all n (record { name = []; boxes = [] }) h)
    (λ h. subst (λ (s : ShapeData). All P s.boxes) (sym (get_or_past p.shapes n (record { name = []; boxes = [] }) h)) (All-nil P))
    (cases_lt n (length p.shapes))

pub boxes_good : (p : ProblemData) (t : Tuple) (o : ℕ) → IsWellFormed p → All (IsBox p.dims) (boxes_in p t o)
boxes_good p t o well = by_shape (shape_of p t o)
  where
    by_shape : (m : Option ℕ) → All (IsBox p.dims) (option_map_or (boxes_of_shape p) m [])
    by_shape None = All-nil (IsBox p.dims)
    by_shape (Some n) = shape_boxes (IsBox p.dims) p n well.boxes
