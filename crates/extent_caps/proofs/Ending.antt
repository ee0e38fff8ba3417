-- The greatest of numbers, found one after another, and the numbers at which boxes end.
use Rattle.std.proofs.Common.{◌≡◌, ◌<◌, ◌+◌, ◌⊎◌, inl, inr, ℕ, ℤ, pos, List, [], length, get_or, refl, sym, ◌∙◌, subst, arith}
use Rattle.std.specs.Prelude.{◌≤ℤ◌, ◌+ℤ◌, All, IfSome, Option, None, Some}
use Rattle.std.specs.Int.{int_max}
use Rattle.std.proofs.Math.Logic.{⊎_elim}
use Rattle.std.proofs.lemmas.Bool.{cases_lt}
use Rattle.std.proofs.lemmas.Int.{ints, clamps}
use Rattle.std.proofs.lemmas.List.{get_or_default, length-map}
use Rattle.geo_base.specs.Boxes.{coordinate}
use Rattle.geo_base.specs.Tuple.{Tuple, spot}
use Rattle.problem_data.specs.Problem.{BoxData, no_object, ProblemData}
use Rattle.problem_data.specs.Tuple.{object_of, boxes_in}
use Rattle.problem_data.specs.Cells.{box_at, IsWideTuple}
use Rattle.problem_data.specs.Limits.{IsSize, IsSmall}
use Rattle.problem_data.specs.Pieces.{no_range, hull, hulls}
use Rattle.problem_data.specs.WellFormed.{IsBox, IsObject, IsWellFormed}
use Rattle.problem_data.proofs.Hulls.{hulls_are_ranges}
use Rattle.rule_values.proofs.Boxes.{boxes-good}
use Rattle.rule_ground.specs.Shapes.{HasSmallShapes}
use Rattle.rule_ground.proofs.Placing.{box-small-at}
use Rattle.extent_caps.specs.Extents.{IsBoxEnd, IsEnd, IsGreatestOf, box_end, later}
use Rattle.extent_caps.specs.Capped.{IsReachable}

-- ---- the greatest of both

one-of-both : (x y : ℤ) → (int_max x y ≡ x) ⊎ (int_max x y ≡ y)
one-of-both x y = grind (arith, ints, clamps)

by-left : (x y v : ℤ) → v ≤ℤ x → v ≤ℤ int_max x y
by-left x y v h = omega (arith, ints, clamps)

by-right : (x y v : ℤ) → v ≤ℤ y → v ≤ℤ int_max x y
by-right x y v h = omega (arith, ints, clamps)

later-greatest : (P Q R : ℤ → Type 0) (a b : Option ℤ) → IsGreatestOf P a → IsGreatestOf Q b → ((v : ℤ) → P v → R v) → ((v : ℤ) → Q v → R v) → ((v : ℤ) → R v → P v ⊎ Q v) → IsGreatestOf R (later a b)
later-greatest P Q R None None g h i j k = λ v r. ⊎_elim (g v) (h v) (k v r)
later-greatest P Q R None (Some y) g h i j k = (j y h.0, (λ v r. ⊎_elim (λ q. absurd (g v q)) (h.1 v) (k v r)))
later-greatest P Q R (Some x) None g h i j k = (i x g.0, (λ v r. ⊎_elim (g.1 v) (λ q. absurd (h v q)) (k v r)))
later-greatest P Q R (Some x) (Some y) g h i j k = (
  ⊎_elim (λ e. subst R (sym e) (i x g.0)) (λ e. subst R (sym e) (j y h.0)) (one-of-both x y),
  (λ v r. ⊎_elim (λ q. by-left x y v (g.1 v q)) (λ q. by-right x y v (h.1 v q)) (k v r)),
)

-- one of the first k kinds of numbers
abbrev pub Below : (ℕ → ℤ → Type 0) → ℕ → ℤ → Type 0
Below f k v = (n : ℕ) × (n < k) × f n v

pub greatest-none : (f : ℕ → ℤ → Type 0) → IsGreatestOf (Below f 0) None
greatest-none f = λ v x. let h = x.1 in absurd (omega (arith, h))

pub greatest-more : (f : ℕ → ℤ → Type 0) (k : ℕ) (a b : Option ℤ) → IsGreatestOf (Below f k) a → IsGreatestOf (f k) b → IsGreatestOf (Below f (k + 1)) (later a b)
greatest-more f k a b g h = later-greatest (Below f k) (f k) (Below f (k + 1)) a b g h
    (λ v x. (x.0, (let l = x.1 in omega (arith, l)), x.2))
    (λ v x. (k, omega arith, x))
    (λ v x. ⊎_elim (λ l. inl (x.0, l, x.2)) (λ l. inr (let m = x.1 in let e : x.0 ≡ k = omega (arith, l, m) in subst (λ n. f n v) e x.2)) (cases_lt x.0 k))

pub greatest-one : (x y : ℤ) → y ≡ x → IsGreatestOf (λ v. v ≡ x) (Some y)
greatest-one x y e = (e, (λ v f. omega (arith, ints, e, f)))

-- ---- where boxes end

module _ (p : ProblemData) (t : Tuple) (w : IsWellFormed p) (h : IsWideTuple p t) where
  pub origin-small : (o d : ℕ) → o < length p.objects → d < p.dims → IsSmall (coordinate (spot t o).origin d)
  origin-small o d l m =
      let q : IsObject p (object_of p o) = w.objects o no_object l in
      let n : length (hulls (object_of p o)) ≡ p.dims = length-map (object_of p o).pieces hull ∙ q.dimensions in
      let k : d < length (hulls (object_of p o)) = subst (λ (j : ℕ). d < j) (sym n) m in
      let within = (h.each o l).hulls d k in
      let range = hulls_are_ranges p (object_of p o) q d no_range k in
      let a = within.0 in
      let b = within.1 in
      let low = range.low in
      let high = range.high in
      (omega (arith, ints, a, low), omega (arith, ints, b, high))

  pub origin-there : (o d : ℕ) → o < length p.objects → d < p.dims → (o < length t) × (d < length (spot t o).origin)
  origin-there o d l m =
      let a = h.objects in
      let b = (h.each o l).form.dimensions in
      (omega (arith, a, l), omega (arith, b, m))

  pub box-small : (o d n : ℕ) (bs : List BoxData) (b : BoxData) → HasSmallShapes p → o < length p.objects → d < p.dims → bs ≡ boxes_in p t o → b ≡ get_or bs n b → n < length bs → IsSmall (coordinate b.offsets d) × IsSize (coordinate b.sizes d)
  box-small o d n bs b s l m same is r =
      let good : IsBox p.dims b = subst (IsBox p.dims) (sym is) (subst (All (IsBox p.dims)) (sym same) (boxes-good p o (spot t o).place w) n b r) in
      let small = box-small-at p o (spot t o).place bs n b s same is r in
      (small.offsets d (pos 0) (subst (λ (j : ℕ). d < j) (sym good.offsets) m), small.sizes d (pos 0) (subst (λ (j : ℕ). d < j) (sym good.sizes) m))

  sum-reachable : (x a l : ℤ) → IsSmall x → IsSmall a → IsSize l → IsReachable ((x +ℤ a) +ℤ l)
  sum-reachable x a l h k m =
      let b = h.0 in
      let c = h.1 in
      let f = k.0 in
      let g = k.1 in
      let i = m.0 in
      let j = m.1 in
      (omega (arith, ints, b, f, i), omega (arith, ints, c, g, j))

  end-reachable : (d : ℕ) (v : ℤ) → HasSmallShapes p → d < p.dims → IsBoxEnd p t d v → IsReachable v
  end-reachable d v s m e =
      let o = e.0 in
      let n = e.2.0 in
      let b = box_at (boxes_in p t o) n in
      let small = box-small o d n (boxes_in p t o) b s e.1 m refl (get_or_default (boxes_in p t o) n (record { offsets = []; sizes = [] }) b e.2.1) e.2.1 in
      subst IsReachable (sym e.2.2) (sum-reachable (coordinate (spot t o).origin d) (coordinate b.offsets d) (coordinate b.sizes d) (origin-small o d e.1 m) small.0 small.1)

  pub ends-reachable : (d : ℕ) (e : Option ℤ) → HasSmallShapes p → d < p.dims → IsEnd p t d e → IfSome e IsReachable
  ends-reachable d None s m h = tt
  ends-reachable d (Some v) s m h = end-reachable d v s m h.0

-- all boxes of a list
pub all-below : (bs cs : List BoxData) (origin : List ℤ) (d k : ℕ) (e : Option ℤ) → bs ≡ cs → k ≡ length bs
    → IsGreatestOf (Below (λ n v. v ≡ box_end (box_at bs n) origin d) k) e → IsGreatestOf (Below (λ n v. v ≡ box_end (box_at cs n) origin d) (length cs)) e
all-below bs cs origin d k e same all h =
    subst (λ (xs : List BoxData). IsGreatestOf (Below (λ n v. v ≡ box_end (box_at xs n) origin d) (length xs)) e) same
    (subst (λ (m : ℕ). IsGreatestOf (Below (λ n v. v ≡ box_end (box_at bs n) origin d) m) e) all h)
