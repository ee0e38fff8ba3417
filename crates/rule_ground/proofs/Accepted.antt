-- A problem that a text says has small shapes, and few rules.
use Rattle.std.proofs.Common.{◌≡◌, ◌<◌, ◌≤◌, ℕ, pos, List, [], length, take, map, get_or, min, subst, sym, refl, inl, inr, arith}
use Rattle.std.specs.Prelude.{All}
use Rattle.std.proofs.Math.Logic.{⊎_elim}
use Rattle.std.proofs.lemmas.Bool.{cases_lt}
use Rattle.std.proofs.lemmas.List.{length-take, length-map}
use Rattle.geo_tokens.specs.declared.fault.FaultWord.TheVariants as words
use Rattle.problem_data.specs.Tree.{BoxTree, ShapeTree}
use Rattle.problem_data.specs.Least.{fault}
use Rattle.problem_data.specs.Parts.{parts_of}
use Rattle.problem_data.specs.Limits.{IsSmall, IsSize}
use Rattle.problem_data.specs.Faults.{Among, BoxFault, OffsetFault, SizeFault, ShapeFault, ShapesFault, shapes, rules, rule_name, count_of}
use Rattle.problem_data.specs.Accepted.{Accepts}
use Rattle.problem_data.specs.Problem.{ShapeData, ProblemData}
use Rattle.problem_data.specs.Meaning.{number_of, box_of, shape_of, rule_of}
use Rattle.problem_data.proofs.NoFault.{NoFault, none_among, within_limit, small_number, size_number, all_mapped}
use Rattle.rule_ground.specs.Shapes.{IsSmallBox, HasSmallShapes}

box-small : (k : ℕ) (before : List BoxTree) (b : BoxTree) → NoFault (BoxFault k before b) → IsSmallBox (box_of b)
box-small k before b h = record {
  offsets = all_mapped number_of IsSmall b.offsets (record { place = 0; value = pos 0 }) (λ i l.
      small_number (get_or b.offsets i (record { place = 0; value = pos 0 })) (none_among (λ before. OffsetFault) b.offsets (λ f w. h f (inr (inl (inr w)))) i (record { place = 0; value = pos 0 }) l));
  sizes = all_mapped number_of IsSize b.sizes (record { place = 0; value = pos 0 }) (λ i l.
      size_number (get_or b.sizes i (record { place = 0; value = pos 0 })) (none_among (λ before. SizeFault) b.sizes (λ f w. h f (inr (inr (inr w)))) i (record { place = 0; value = pos 0 }) l));
}

no_box : BoxTree
no_box = record { place = 0; offsets = []; sizes = [] }

boxes-few : (k : ℕ) (bs : List BoxTree) → NoFault (Among (BoxFault k) bs) → length bs ≤ 16
boxes-few k bs h = ⊎_elim
    (λ l. absurd (none_among (BoxFault k) bs h 16 no_box l (fault (get_or bs 16 no_box).place words.Limit) (inl ((let e : length (take 16 bs) ≡ min 16 (length bs) = length-take 16 bs in omega (arith, e)), refl))))
    (λ l. l)
    (cases_lt 16 (length bs))

no_shape : ShapeTree
no_shape = record { name = record { place = 0; name = [] }; boxes = [] }

shapes-small : (k : ℕ) (ss : List ShapeTree) → NoFault (ShapesFault k ss)
    → All (λ (s : ShapeData). length s.boxes ≤ 16) (map shape_of ss) × All (λ (s : ShapeData). All IsSmallBox s.boxes) (map shape_of ss)
shapes-small k ss h = (
  all_mapped shape_of (λ (s : ShapeData). length s.boxes ≤ 16) ss no_shape (λ i l.
      subst (λ (n : ℕ). n ≤ 16) (sym (length-map (get_or ss i no_shape).boxes box_of)) (boxes-few k (get_or ss i no_shape).boxes (one i l))),
  all_mapped shape_of (λ (s : ShapeData). All IsSmallBox s.boxes) ss no_shape (λ i l.
      all_mapped box_of IsSmallBox (get_or ss i no_shape).boxes no_box (λ j m.
      box-small k (take j (get_or ss i no_shape).boxes) (get_or (get_or ss i no_shape).boxes j no_box) (none_among (BoxFault k) (get_or ss i no_shape).boxes (one i l) j no_box m))),
)
  where
    one : (i : ℕ) → i < length ss → NoFault (ShapeFault k (get_or ss i no_shape))
    one i l = none_among (λ before. ShapeFault k) ss (λ f w. h f (inr w)) i no_shape l

pub accepted-small : (text : List ℕ) (p : ProblemData) → Accepts text p → HasSmallShapes p
accepted-small text p a =
    let parts = parts_of a.tree in
    let s = shapes-small (count_of parts.dims.value) parts.shapes (λ f w. a.right f (shapes w)) in
    subst HasSmallShapes (sym a.means) (record { few = s.0; boxes = s.1 })

pub accepted-rules : (text : List ℕ) (p : ProblemData) → Accepts text p → length p.rules ≤ 100
accepted-rules text p a =
    let parts = parts_of a.tree in
    let l : length (map rule_name parts.rules) ≤ 100 = within_limit 100 (map rule_name parts.rules) (λ f w. a.right f (rules (inl (inl w)))) in
    let m = length-map parts.rules rule_name in
    let n = length-map parts.rules rule_of in
    subst (λ (q : ProblemData). length q.rules ≤ 100) (sym a.means) (omega (arith, l, m, n))
