-- Shapes of objects and their boxes on a tuple.
use Rattle.std.proofs.Common.{◌≡◌, ◌<◌, ◌≤◌, ◌==◌, eqb, ℕ, Bool, true, false, not, List, [], ◌∷◌, length, get_or, refl, sym, subst, ap, arith}
use Rattle.std.specs.Prelude.{All, if◌then◌else◌}
use Rattle.std.specs.List.{list_any}
use Rattle.std.proofs.lemmas.Bool.{eq-eqb, ltb-false}
use Rattle.std.proofs.Math.Bool.{or-false}
use Rattle.geo_base.specs.Tuple.{Tuple, spot}
use Rattle.problem_data.specs.Problem.{BoxData, ProblemData}
use Rattle.problem_data.specs.Tuple.{object_of, boxes_in}
use Rattle.problem_data.specs.Cells.{IsShaped}
use Rattle.linear_conditions.specs.CondTree.{shape_is_not, true_on}
use Rattle.problem_data.specs.Places.{place_count}
use Rattle.rule_ground.specs.Shapes.{IsPlace, has_several, other_shape, IsSmallBox, HasSmallShapes}
use Rattle.rule_values.specs.Shapes.{boxes_at}
use Rattle.rule_values.proofs.Boxes.{boxes-all}

pub boxes-small : (p : ProblemData) (o s : ℕ) → HasSmallShapes p → All IsSmallBox (boxes_at p o s)
boxes-small p o s h = boxes-all IsSmallBox p o s h.boxes

-- the object's boxes are those at its place
pub boxes-placed : (p : ProblemData) (t : Tuple) (o s : ℕ) → (spot t o).place ≡ s → boxes_in p t o ≡ boxes_at p o s
boxes-placed p t o s e = ap (boxes_at p o) e

pub place-of : (p : ProblemData) (t : Tuple) (o : ℕ) → IsShaped p t → o < length p.objects → IsPlace p o (spot t o).place
place-of p t o h l = let f = h.each o l in record { object = l; first = f.first; last = f.last }

pub only-one : (n a s : ℕ) → 1 ≤ a → a ≤ n → 1 ≤ s → s ≤ n → n ≤ 1 → false ≡ not (eqb a s)
only-one n a s h i j k l = let e : a ≡ s = omega arith in ap not (sym (eq-eqb a s e))

-- an object has another shape than the one at a place where its shape is at another place
pub other-true : (p : ProblemData) (t : Tuple) (o s : ℕ) → IsShaped p t → IsPlace p o s → list_any (true_on t) (other_shape p o s) ≡ not ((spot t o).place == s)
other-true p t o s h i = by_test (has_several p o) refl
  where
    by_test : (b : Bool) → has_several p o ≡ b → list_any (true_on t) (if b then shape_is_not o s ∷ [] else []) ≡ not ((spot t o).place == s)
    by_test true e = or-false (not ((spot t o).place == s))
    by_test false e =
        let f = h.each o i.object in
        only-one (place_count (object_of p o)) (spot t o).place s f.first f.last i.first i.last (ltb-false 1 (place_count (object_of p o)) e)

-- a box of a list of an object's boxes
pub box-small-at : (p : ProblemData) (o s : ℕ) (xs : List BoxData) (i : ℕ) (x : BoxData) → HasSmallShapes p → xs ≡ boxes_at p o s → x ≡ get_or xs i x → i < length xs → IsSmallBox x
box-small-at p o s xs i x h e is l = subst IsSmallBox (sym is) (subst (All IsSmallBox) (sym e) (boxes-small p o s h) i x l)
