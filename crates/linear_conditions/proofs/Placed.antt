-- The terms of the form of an expression: they stand in order, and name objects and dimensions of the problem.
use Rattle.std.proofs.Common.{◌≡◌, ℕ, ◌+◌, ◌<◌, ltb, ◌&&◌, Bool, true, false, cond, List, [], ◌∷◌, length, ℤ, pos, negsuc, ◌+ℤ◌, ◌*ℤ◌, refl, arith}
use Rattle.std.specs.Prelude.{Option, None, Some, codes}
use Rattle.std.specs.Option.{option_map_or}
use Rattle.std.specs.Str.{bytes_eq}
use Rattle.std.specs.List.{All}
use Rattle.std.proofs.lemmas.Bool.Decides.{nat_tests}
use Rattle.std.proofs.lemmas.List.Elements.{All-nil, All-cons}
use Rattle.geo_conditions.specs.declared.form.Term.{Term}
use Rattle.geo_conditions.specs.Form.{Sum}
use Rattle.problem_data.specs.Problem.{ProblemData}
use Rattle.problem_data.specs.Tuple.{object_of}
use Rattle.problem_data.specs.Value.{Thing, Number, Object, Part, coordinate_of, attribute_in}
use Rattle.rule_expand.specs.Plain.{PlainExprTree, number, field, shape_number, negative, sum, product, least, greatest, PlainSumTree, plus, minus, PlainSums, no_sums, a_sum, PlainProductTree, times, over, modulo, PlainProducts, no_products, a_product}
use Rattle.rule_expand.specs.PlainTruth.{PlainEnv, subject_in}
use Rattle.linear_conditions.specs.Fixings.{Fixing, place_of}
use Rattle.linear_conditions.specs.Sums.{is_zero, term, unless_zero, same_coordinate, is_before, add_at, add_terms, scale_terms, scale, constant_sum, has_terms, times_sum}
use Rattle.linear_conditions.specs.Forms.{coordinate_sum, field_sum, sum_of_expr, sum_step, sums_added, product_step, products_taken}
use Rattle.rule_values.specs.Shapes.{shape_number_at}
use Rattle.linear_conditions.proofs.Ordered.{IsOrdered, add_terms-ordered, scale-ordered, times-ordered}

-- each term names an object below n and a dimension below k
abbrev pub AreBelow : ℕ → ℕ → List Term → Type 0
AreBelow n k [] = Unit {0}
AreBelow n k (t ∷ ts) = ((t.object.0 < n) × (t.dimension < k)) × AreBelow n k ts

module _ (n k : ℕ) where
  unless_below : (a : Term) (ts : List Term) (z : Bool) → (a.object.0 < n) × (a.dimension < k) → AreBelow n k ts → AreBelow n k (cond z ts (a ∷ ts))
  unless_below a ts true h l = l
  unless_below a ts false h l = (h, l)

  add_below : (a t : Term) (ts : List Term) (s c : Bool) → (a.object.0 < n) × (a.dimension < k) → AreBelow n k (t ∷ ts) → AreBelow n k (add_at a ts) →
      AreBelow n k (cond s (unless_zero (term t.object.0 t.dimension (t.factor +ℤ a.factor)) ts) (cond c (unless_zero a (t ∷ ts)) (t ∷ add_at a ts)))
  add_below a t ts true c h l ih = unless_below (term t.object.0 t.dimension (t.factor +ℤ a.factor)) ts (is_zero (t.factor +ℤ a.factor)) l.0 l.1
  add_below a t ts false true h l ih = unless_below a (t ∷ ts) (is_zero a.factor) h l
  add_below a t ts false false h l ih = (l.0, ih)

  add_at-below : (a : Term) (ts : List Term) → (a.object.0 < n) × (a.dimension < k) → AreBelow n k ts → AreBelow n k (add_at a ts)
  add_at-below a [] h l = unless_below a [] (is_zero a.factor) h tt
  add_at-below a (t ∷ ts) h l = add_below a t ts (same_coordinate a t) (is_before a t) h l (add_at-below a ts h l.1)

  pub add_terms-below : (ts more : List Term) → AreBelow n k ts → AreBelow n k more → AreBelow n k (add_terms ts more)
  add_terms-below ts [] h l = h
  add_terms-below ts (a ∷ more) h l = add_terms-below (add_at a ts) more (add_at-below a ts l.0 h) l.1

  pub scale-below : (z : ℤ) (ts : List Term) → AreBelow n k ts → AreBelow n k (scale_terms z ts)
  scale-below z [] h = tt
  scale-below z (t ∷ ts) h = unless_below (term t.object.0 t.dimension (z *ℤ t.factor)) (scale_terms z ts) (is_zero (z *ℤ t.factor)) h.0 (scale-below z ts h.1)

  times_by : (f g : Sum) (b : Bool) → AreBelow n k f.terms → AreBelow n k g.terms → AreBelow n k (cond b (scale g.constant f) (scale f.constant g)).terms
  times_by f g true h l = scale-below g.constant f.terms h
  times_by f g false h l = scale-below f.constant g.terms l

  pub all-below : (ts : List Term) → AreBelow n k ts → All (λ a. (a.object.0 < n) × (a.dimension < k)) ts
  all-below [] h = All-nil (λ a. (a.object.0 < n) × (a.dimension < k))
  all-below (t ∷ ts) h = All-cons (λ a. (a.object.0 < n) × (a.dimension < k)) t ts h.0 (all-below ts h.1)

-- in order, and of the problem
abbrev pub IsPlaced : ProblemData → Sum → Type 0
IsPlaced p f = IsOrdered f.terms × AreBelow (length p.objects) p.dims f.terms

module _ (p : ProblemData) where
  pub placed-add : (f g : Sum) (z : ℤ) → IsPlaced p f → IsPlaced p g → IsPlaced p (record { terms = add_terms f.terms g.terms; constant = z })
  placed-add f g z h l = (add_terms-ordered f.terms g.terms h.0, add_terms-below (length p.objects) p.dims f.terms g.terms h.1 l.1)

  pub placed-scale : (z : ℤ) (f : Sum) → IsPlaced p f → IsPlaced p (scale z f)
  placed-scale z f h = (scale-ordered z f.terms h.0, scale-below (length p.objects) p.dims z f.terms h.1)

  placed-times : (f g : Sum) → IsPlaced p f → IsPlaced p g → IsPlaced p (times_sum f g)
  placed-times f g h l = (times-ordered f g h.0 l.0, times_by (length p.objects) p.dims f g (has_terms f) h.1 l.1)

  coordinate-by : (o d : ℕ) (a b : Bool) → ltb o (length p.objects) ≡ a → ltb d p.dims ≡ b → IsPlaced p (cond (a && b) (record { terms = term o d (pos 1) ∷ []; constant = pos 0 }) (constant_sum (pos 0)))
  coordinate-by o d true true h l = ((λ e. cc, tt, tt), ((grind (arith, nat_tests), grind (arith, nat_tests)), tt))
  coordinate-by o d true false h l = (tt, tt)
  coordinate-by o d false b h l = (tt, tt)

  choice-placed : (o : ℕ) (z : ℤ) (d : Option ℕ) → IsPlaced p (option_map_or (coordinate_sum p o) d (constant_sum z))
  choice-placed o z None = (tt, tt)
  choice-placed o z (Some d) = coordinate-by o d (ltb o (length p.objects)) (ltb d p.dims) refl refl

  object-placed : (o : ℕ) (n : List ℕ) (x y z : ℤ) (a b : Bool) →
      IsPlaced p (cond a (constant_sum x) (cond b (constant_sum y) (option_map_or (coordinate_sum p o) (coordinate_of n) (constant_sum z))))
  object-placed o n x y z true b = (tt, tt)
  object-placed o n x y z false true = (tt, tt)
  object-placed o n x y z false false = choice-placed o z (coordinate_of n)

  pub field-placed : (fix : List Fixing) (n : List ℕ) (x : Thing) → IsPlaced p (field_sum p fix n x)
  field-placed fix n (Number z) = (tt, tt)
  field-placed fix n (Object o) =
      object-placed o n (pos (o + 1)) (shape_number_at p o (place_of fix o)) (attribute_in n (object_of p o).attributes) (bytes_eq n (codes "id")) (bytes_eq n (codes "sid"))
  field-placed fix n (Part b) = (tt, tt)

  module _ (env : PlainEnv) (fix : List Fixing) where
    mutual
      pub sum-placed : (e : PlainExprTree) → IsPlaced p (sum_of_expr p e env fix)
      sum-placed (number n) = (tt, tt)
      sum-placed (field s f) = field-placed fix f (subject_in s env)
      sum-placed (shape_number s) = (tt, tt)
      sum-placed (negative e) = placed-scale (negsuc 0) (sum_of_expr p e env fix) (sum-placed e)
      sum-placed (sum e steps) = sums-placed (sum_of_expr p e env fix) steps (sum-placed e)
      sum-placed (product e steps) = products-placed (sum_of_expr p e env fix) steps (sum-placed e)
      sum-placed (least a b) = (tt, tt)
      sum-placed (greatest a b) = (tt, tt)

      pub step-placed : (s : PlainSumTree) → IsPlaced p (sum_step p s env fix)
      step-placed (plus e) = sum-placed e
      step-placed (minus e) = placed-scale (negsuc 0) (sum_of_expr p e env fix) (sum-placed e)

      sums-placed : (f : Sum) (steps : PlainSums) → IsPlaced p f → IsPlaced p (sums_added p f steps env fix)
      sums-placed f no_sums h = h
      sums-placed f (a_sum s rest) h =
          sums-placed (record { terms = add_terms f.terms (sum_step p s env fix).terms; constant = f.constant +ℤ (sum_step p s env fix).constant }) rest (placed-add f (sum_step p s env fix) (f.constant +ℤ (sum_step p s env fix).constant) h (step-placed s))

      pub factor-placed : (f : Sum) (s : PlainProductTree) → IsPlaced p f → IsPlaced p (product_step p f s env fix)
      factor-placed f (times e) h = placed-times f (sum_of_expr p e env fix) h (sum-placed e)
      factor-placed f (over n) h = (tt, tt)
      factor-placed f (modulo n) h = (tt, tt)

      products-placed : (f : Sum) (steps : PlainProducts) → IsPlaced p f → IsPlaced p (products_taken p f steps env fix)
      products-placed f no_products h = h
      products-placed f (a_product s rest) h = products-placed (product_step p f s env fix) rest (factor-placed f s h)
