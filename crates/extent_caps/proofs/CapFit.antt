-- The caps name objects and dimensions of the problem alone, and there are few.
use Rattle.std.proofs.Common.{◌<◌, ◌≤◌, ◌-◌, ◌==◌, ℕ, ℤ, [], length, get_or, sym, subst, arith}
use Rattle.std.specs.Prelude.{All, if◌then◌else◌, slice_get, Option, None, Some}
use Rattle.std.specs.List.{range_with_len}
use Rattle.std.specs.Option.{option_map_or}
use Rattle.std.proofs.Math.Logic.{⊎_elim}
use Rattle.std.proofs.lemmas.Bool.{cases_lt}
use Rattle.std.proofs.lemmas.List.{get_or_past, length-map}
use Rattle.std.proofs.lemmas.List.Elements.{All-map}
use Rattle.std.proofs.lemmas.List.FromFn.{length-range_with_len}
use Rattle.problem_data.specs.Problem.{BoxData, ShapeData, ProblemData}
use Rattle.problem_data.specs.Tuple.{object_of, boxes_of_shape}
use Rattle.problem_data.specs.Places.{place_count}
use Rattle.problem_data.specs.WellFormed.{IsWellFormed}
use Rattle.linear_conditions.proofs.Inside.{IsInside}
use Rattle.rule_values.specs.Shapes.{boxes_at}
use Rattle.rule_ground.specs.Shapes.{places, has_several, HasSmallShapes}
use Rattle.rule_ground.proofs.Fit.{unless-by}
use Rattle.rule_ground.proofs.Numbers.{flat-most}
use Rattle.rule_ground.proofs.Said.{few-places}
use Rattle.rule_ground.proofs.Truths.{all-flat-in, all-range-in}
use Rattle.extent_caps.specs.Extents.{ends_by, cap, caps_at, caps_of, caps}

abbrev no_shape : ShapeData
no_shape = record { name = []; boxes = [] }

module _ (p : ProblemData) (d : ℕ) (e : ℤ) where
  cap-inside : (o s : ℕ) (b : BoxData) → o < length p.objects → d < p.dims → IsInside p (cap p d e o s b)
  cap-inside o s b h l =
      let inside : IsInside p (ends_by d e o b) = ((h, l), tt) in
      unless-by p (has_several p o) o s (ends_by d e o b) h inside

  pub caps-inside : d < p.dims → All (IsInside p) (caps p d e)
  caps-inside l =
      all-flat-in (IsInside p) (caps_of p d e) (range_with_len 0 (length p.objects)) (all-range-in (λ o. All (IsInside p) (caps_of p d e o)) 0 (length p.objects) (λ o z h.
      all-flat-in (IsInside p) (caps_at p d e o) (places p o) (λ m s k.
      All-map (IsInside p) (cap p d e o (get_or (places p o) m s)) (boxes_at p o (get_or (places p o) m s)) (λ q b r.
      cap-inside o (get_or (places p o) m s) (get_or (boxes_at p o (get_or (places p o) m s)) q b) (omega arith) l))))

  boxes-few : (o s : ℕ) → HasSmallShapes p → length (boxes_at p o s) ≤ 16
  boxes-few o s h = by_option (if s == 0 then None else slice_get (object_of p o).shapes (s - 1))
    where
      by_option : (m : Option ℕ) → length (option_map_or (boxes_of_shape p) m []) ≤ 16
      by_option None = omega arith
      by_option (Some n) = ⊎_elim
          (λ l. h.few n no_shape l)
          (λ l. subst (λ (x : ShapeData). length x.boxes ≤ 16) (sym (get_or_past p.shapes n no_shape l)) (let z : length no_shape.boxes ≤ 16 = omega arith in z))
          (cases_lt n (length p.shapes))

  of-object-few : (o : ℕ) → HasSmallShapes p → IsWellFormed p → length (caps_of p d e o) ≤ 256
  of-object-few o h w =
      let each = all-range-in (λ s. length (caps_at p d e o s) ≤ 16) 1 (place_count (object_of p o)) (λ s z l.
      let m = length-map (boxes_at p o s) (cap p d e o s) in let b = boxes-few o s h in omega (arith, m, b)) in
      let f = flat-most 16 (caps_at p d e o) (places p o) each in
      let n = length-range_with_len 1 (place_count (object_of p o)) in
      let k = few-places p o w in
      omega (arith, f, n, k)

  pub caps-few : HasSmallShapes p → IsWellFormed p → length (caps p d e) ≤ 51200
  caps-few h w =
      let each = all-range-in (λ o. length (caps_of p d e o) ≤ 256) 0 (length p.objects) (λ o z l. of-object-few o h w) in
      let f = flat-most 256 (caps_of p d e) (range_with_len 0 (length p.objects)) each in
      let n = length-range_with_len 0 (length p.objects) in
      let k = w.few in
      omega (arith, f, n, k)
