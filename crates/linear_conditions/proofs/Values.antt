-- The form of an expression has its value.
use Rattle.std.proofs.Common.{◌≡◌, ℕ, ◌+◌, ◌<◌, ◌≤◌, ltb, ◌&&◌, ◌||◌, Bool, true, false, cond, List, [], ◌∷◌, length, ℤ, pos, negsuc, ◌+ℤ◌, ◌*ℤ◌, neg_ℤ, sym, ap, ◌∙◌, refl, arith}
use Rattle.std.specs.Prelude.{Option, None, Some, is_some, codes}
use Rattle.std.specs.Option.{option_map_or}
use Rattle.std.specs.Int.{int_min, int_max, int_div_euclid, int_rem_euclid}
use Rattle.std.specs.Str.{bytes_eq}
use Rattle.std.proofs.lemmas.Bool.Decides.{nat_tests}
use Rattle.std.proofs.lemmas.Bool.{false≢true, or_from}
use Rattle.std.proofs.lemmas.Int.{ints}
use Rattle.std.proofs.lemmas.List.{get_or_past}
use Rattle.geo_base.specs.Tuple.{Spot, nothing_put}
use Rattle.geo_conditions.specs.Form.{Sum}
use Rattle.geo_conditions.specs.Conditions.{value}
use Rattle.problem_data.specs.Problem.{ProblemData}
use Rattle.problem_data.specs.Tuple.{Tuple, spot_of, object_of, shape_number_in}
use Rattle.problem_data.specs.Cells.{IsTuple}
use Rattle.problem_data.specs.Value.{Thing, Number, Object, Part, coordinate_of, attribute_in, box_field, field_value}
use Rattle.rule_expand.specs.declared.plain.Subject.{Subject}
use Rattle.rule_expand.specs.declared.plain.Subject.TheVariants as subjects
use Rattle.rule_expand.specs.Plain.{PlainExprTree, number, field, shape_number, negative, sum, product, least, greatest, PlainSumTree, plus, minus, PlainSums, no_sums, a_sum, PlainProductTree, times, over, modulo, PlainProducts, no_products, a_product}
use Rattle.rule_expand.specs.PlainTruth.{PlainEnv, subject_in, plain_value, plain_sum, plain_sums, plain_product, plain_products}
use Rattle.rule_expand.specs.Degree.{has_coordinate, sum_has, sums_have, product_has, products_have, expr_breaks, sum_breaks, sums_break, product_breaks, products_break}
use Rattle.linear_conditions.specs.Fixings.{Fixing, place_of}
use Rattle.linear_conditions.specs.Sums.{term, add_sums, scale, constant_sum, has_terms, times_sum}
use Rattle.linear_conditions.specs.Forms.{coordinate_sum, field_sum, sum_of_expr, sum_step, sums_added, product_step, products_taken}
use Rattle.rule_values.specs.Shapes.{shape_number_at}
use Rattle.linear_conditions.specs.Settled.{same_subject, is_sid, expr_needs, sum_needs, sums_need, product_needs, products_need, IsSettled, IsCovered}
use Rattle.linear_conditions.proofs.SumLaws.{number_on, add_sums-value, constant-value, negated-value, one-value, bare-value, times_sum-value}

-- ---- sums without terms

no_terms : (f : Sum) → has_terms f ≡ false → f ≡ constant_sum f.constant
no_terms f h = bare f.terms f.constant h
  where
    bare : (ts : _) (z : ℤ) → has_terms (record { terms = ts; constant = z }) ≡ false → record { terms = ts; constant = z } ≡ constant_sum z
    bare [] z h = refl
    bare (t ∷ ts) z h = cc

bare-scale : (z : ℤ) (f : Sum) → has_terms f ≡ false → has_terms (scale z f) ≡ false
bare-scale z f h = ap (λ g. has_terms (scale z g)) (no_terms f h)

bare-add : (f g : Sum) → has_terms f ≡ false → has_terms g ≡ false → has_terms (add_sums f g) ≡ false
bare-add f g h k = ap (λ x. has_terms (add_sums x g)) (no_terms f h) ∙ ap (λ y. has_terms (add_sums (constant_sum f.constant) y)) (no_terms g k)

bare-times : (f g : Sum) → has_terms f ≡ false → has_terms g ≡ false → has_terms (times_sum f g) ≡ false
bare-times f g h k = ap (λ x. has_terms (times_sum x g)) (no_terms f h) ∙ bare-scale f.constant g k

pub left_false : (a b : Bool) → (a || b) ≡ false → a ≡ false
left_false true b h = cc
left_false false b h = refl

pub right_false : (a b : Bool) → (a || b) ≡ false → b ≡ false
right_false true b h = cc
right_false false b h = h

bare-choice : (p : ProblemData) (o : ℕ) (z : ℤ) (d : Option ℕ) → is_some d ≡ false → has_terms (option_map_or (coordinate_sum p o) d (constant_sum z)) ≡ false
bare-choice p o z None h = refl
bare-choice p o z (Some d) h = cc

bare-object : (p : ProblemData) (o : ℕ) (n : List ℕ) (x y z : ℤ) (a b : Bool) → is_some (coordinate_of n) ≡ false →
    has_terms (cond a (constant_sum x) (cond b (constant_sum y) (option_map_or (coordinate_sum p o) (coordinate_of n) (constant_sum z)))) ≡ false
bare-object p o n x y z true b h = refl
bare-object p o n x y z false true h = refl
bare-object p o n x y z false false h = bare-choice p o z (coordinate_of n) h

bare-field : (p : ProblemData) (fix : List Fixing) (n : List ℕ) (x : Thing) → is_some (coordinate_of n) ≡ false → has_terms (field_sum p fix n x) ≡ false
bare-field p fix n (Number z) h = refl
bare-field p fix n (Object o) h =
    bare-object p o n (pos (o + 1)) (shape_number_at p o (place_of fix o)) (attribute_in n (object_of p o).attributes) (bytes_eq n (codes "id")) (bytes_eq n (codes "sid")) h
bare-field p fix n (Part b) h = refl

mutual
  pub bare-expr : (p : ProblemData) (e : PlainExprTree) (env : PlainEnv) (fix : List Fixing) → has_coordinate e ≡ false → has_terms (sum_of_expr p e env fix) ≡ false
  bare-expr p (number n) env fix h = refl
  bare-expr p (field s f) env fix h = bare-field p fix f (subject_in s env) h
  bare-expr p (shape_number s) env fix h = refl
  bare-expr p (negative e) env fix h = bare-scale (negsuc 0) (sum_of_expr p e env fix) (bare-expr p e env fix h)
  bare-expr p (sum e steps) env fix h =
      bare-sums p steps env fix (sum_of_expr p e env fix) (bare-expr p e env fix (left_false (has_coordinate e) (sums_have steps) h)) (right_false (has_coordinate e) (sums_have steps) h)
  bare-expr p (product e steps) env fix h =
      bare-products p steps env fix (sum_of_expr p e env fix) (bare-expr p e env fix (left_false (has_coordinate e) (products_have steps) h)) (right_false (has_coordinate e) (products_have steps) h)
  bare-expr p (least a b) env fix h = refl
  bare-expr p (greatest a b) env fix h = refl

  bare-step : (p : ProblemData) (s : PlainSumTree) (env : PlainEnv) (fix : List Fixing) → sum_has s ≡ false → has_terms (sum_step p s env fix) ≡ false
  bare-step p (plus e) env fix h = bare-expr p e env fix h
  bare-step p (minus e) env fix h = bare-scale (negsuc 0) (sum_of_expr p e env fix) (bare-expr p e env fix h)

  bare-sums : (p : ProblemData) (steps : PlainSums) (env : PlainEnv) (fix : List Fixing) (f : Sum) → has_terms f ≡ false → sums_have steps ≡ false → has_terms (sums_added p f steps env fix) ≡ false
  bare-sums p no_sums env fix f b h = b
  bare-sums p (a_sum s rest) env fix f b h =
      bare-sums p rest env fix (add_sums f (sum_step p s env fix)) (bare-add f (sum_step p s env fix) b (bare-step p s env fix (left_false (sum_has s) (sums_have rest) h))) (right_false (sum_has s) (sums_have rest) h)

  pub bare-factor : (p : ProblemData) (s : PlainProductTree) (env : PlainEnv) (fix : List Fixing) (f : Sum) → has_terms f ≡ false → product_has s ≡ false → has_terms (product_step p f s env fix) ≡ false
  bare-factor p (times e) env fix f b h = bare-times f (sum_of_expr p e env fix) b (bare-expr p e env fix h)
  bare-factor p (over n) env fix f b h = refl
  bare-factor p (modulo n) env fix f b h = refl

  bare-products : (p : ProblemData) (steps : PlainProducts) (env : PlainEnv) (fix : List Fixing) (f : Sum) → has_terms f ≡ false → products_have steps ≡ false → has_terms (products_taken p f steps env fix) ≡ false
  bare-products p no_products env fix f b h = b
  bare-products p (a_product s rest) env fix f b h =
      bare-products p rest env fix (product_step p f s env fix) (bare-factor p s env fix f b (left_false (product_has s) (products_have rest) h)) (right_false (product_has s) (products_have rest) h)

-- what has no coordinates multiplies none
mutual
  pub unbroken : (e : PlainExprTree) → has_coordinate e ≡ false → expr_breaks e ≡ false
  unbroken (number n) h = refl
  unbroken (field s f) h = refl
  unbroken (shape_number s) h = refl
  unbroken (negative e) h = unbroken e h
  unbroken (sum e steps) h =
      or_from (expr_breaks e) (sums_break steps) (unbroken e (left_false (has_coordinate e) (sums_have steps) h)) (unbroken-sums steps (right_false (has_coordinate e) (sums_have steps) h))
  unbroken (product e steps) h =
      or_from (expr_breaks e) (products_break (has_coordinate e) steps) (unbroken e (left_false (has_coordinate e) (products_have steps) h))
      (unbroken-products (has_coordinate e) steps (left_false (has_coordinate e) (products_have steps) h) (right_false (has_coordinate e) (products_have steps) h))
  unbroken (least a b) h = h
  unbroken (greatest a b) h = h

  unbroken-sum : (s : PlainSumTree) → sum_has s ≡ false → sum_breaks s ≡ false
  unbroken-sum (plus e) h = unbroken e h
  unbroken-sum (minus e) h = unbroken e h

  unbroken-sums : (steps : PlainSums) → sums_have steps ≡ false → sums_break steps ≡ false
  unbroken-sums no_sums h = refl
  unbroken-sums (a_sum s rest) h =
      or_from (sum_breaks s) (sums_break rest) (unbroken-sum s (left_false (sum_has s) (sums_have rest) h)) (unbroken-sums rest (right_false (sum_has s) (sums_have rest) h))

  unbroken-product : (l : Bool) (s : PlainProductTree) → l ≡ false → product_has s ≡ false → product_breaks l s ≡ false
  unbroken-product l (times e) k h = or_from (expr_breaks e) (l && has_coordinate e) (unbroken e h) (ap (λ x. x && has_coordinate e) k)
  unbroken-product l (over n) k h = k
  unbroken-product l (modulo n) k h = k

  unbroken-products : (l : Bool) (steps : PlainProducts) → l ≡ false → products_have steps ≡ false → products_break l steps ≡ false
  unbroken-products l no_products k h = refl
  unbroken-products l (a_product s rest) k h =
      or_from (product_breaks l s) (products_break (l || product_has s) rest) (unbroken-product l s k (left_false (product_has s) (products_have rest) h))
      (unbroken-products (l || product_has s) rest (or_from l (product_has s) k (left_false (product_has s) (products_have rest) h)) (right_false (product_has s) (products_have rest) h))

regrouped : (f a b : ℤ) → (f +ℤ a) +ℤ b ≡ f +ℤ (a +ℤ b)
regrouped f a b = omega (arith, ints)

-- ---- what is asked for

pub same_itself : (s : Subject) → same_subject s s ≡ true
same_itself (subjects.Variable n) = grind (arith, nat_tests)
same_itself (subjects.Object o) = grind (arith, nat_tests)

pub left_of : (a b : Bool) → a ≡ true → (a || b) ≡ true
left_of a b h = ap (λ x. x || b) h

pub right_of : (a b : Bool) → b ≡ true → (a || b) ≡ true
right_of true b h = refl
right_of false b h = h

pub both_of : (a b : Bool) → a ≡ true → b ≡ true → (a && b) ≡ true
both_of a b h k = ap (λ x. x && b) h ∙ k

-- a part asks for nothing that the whole does not ask for
pub narrowed : (p : ProblemData) (t : Tuple) (fix : List Fixing) (env : PlainEnv) (asks more : Subject → Bool) → ((s : Subject) → asks s ≡ true → more s ≡ true) → IsCovered p t fix env more → IsCovered p t fix env asks
narrowed p t fix env asks more h c = record { at = λ s e. c.at s (h s e) }

module _ (p : ProblemData) (t : Tuple) (fix : List Fixing) (env : PlainEnv) where
  pub first_part : (a b : Subject → Bool) → IsCovered p t fix env (λ s. a s || b s) → IsCovered p t fix env a
  first_part a b = narrowed p t fix env a (λ s. a s || b s) (λ s h. left_of (a s) (b s) h)

  pub second_part : (a b : Subject → Bool) → IsCovered p t fix env (λ s. a s || b s) → IsCovered p t fix env b
  second_part a b = narrowed p t fix env b (λ s. a s || b s) (λ s h. right_of (a s) (b s) h)

-- ---- fields

no_object : (p : ProblemData) (t : Tuple) (o d : ℕ) → IsTuple p t → ltb o (length p.objects) ≡ false → number_on t o d ≡ pos 0
no_object p t o d h k =
    let e : length t ≤ o = (let a : length p.objects ≤ o = grind (arith, nat_tests) in let b = h.objects in omega arith) in
    ap (λ (s : Spot). number_on (s ∷ []) 0 d) (get_or_past t o nothing_put e)

no_dimension : (p : ProblemData) (t : Tuple) (o d : ℕ) → IsTuple p t → ltb o (length p.objects) ≡ true → ltb d p.dims ≡ false → number_on t o d ≡ pos 0
no_dimension p t o d h k l =
    let there : o < length p.objects = grind (arith, nat_tests) in
    let e : length (spot_of t o).origin ≤ d = (let a : p.dims ≤ d = grind (arith, nat_tests) in let b = (h.each o there).form.dimensions in omega arith) in
    get_or_past (spot_of t o).origin d (pos 0) e

coordinate-by : (p : ProblemData) (t : Tuple) (o d : ℕ) (a b : Bool) → IsTuple p t → ltb o (length p.objects) ≡ a → ltb d p.dims ≡ b →
    value (cond (a && b) (record { terms = term o d (pos 1) ∷ []; constant = pos 0 }) (constant_sum (pos 0))) t ≡ number_on t o d
coordinate-by p t o d true true h k l = one-value t o d
coordinate-by p t o d true false h k l = constant-value (pos 0) t ∙ sym (no_dimension p t o d h k l)
coordinate-by p t o d false b h k l = constant-value (pos 0) t ∙ sym (no_object p t o d h k)

coordinate-value : (p : ProblemData) (t : Tuple) (o d : ℕ) → IsTuple p t → value (coordinate_sum p o d) t ≡ number_on t o d
coordinate-value p t o d h = coordinate-by p t o d (ltb o (length p.objects)) (ltb d p.dims) h refl refl

choice-value : (p : ProblemData) (t : Tuple) (o : ℕ) (z : ℤ) (d : Option ℕ) → IsTuple p t →
    value (option_map_or (coordinate_sum p o) d (constant_sum z)) t ≡ option_map_or (number_on t o) d z
choice-value p t o z None h = constant-value z t
choice-value p t o z (Some d) h = coordinate-value p t o d h

object-by : (p : ProblemData) (t : Tuple) (o : ℕ) (n : List ℕ) (x y y' z : ℤ) (a b : Bool) → IsTuple p t → (b ≡ true → y ≡ y') →
    value (cond a (constant_sum x) (cond b (constant_sum y) (option_map_or (coordinate_sum p o) (coordinate_of n) (constant_sum z)))) t
    ≡ cond a x (cond b y' (option_map_or (number_on t o) (coordinate_of n) z))
object-by p t o n x y y' z true b h k = constant-value x t
object-by p t o n x y y' z false true h k = constant-value y t ∙ k refl
object-by p t o n x y y' z false false h k = choice-value p t o z (coordinate_of n) h

pub field-value : (p : ProblemData) (t : Tuple) (fix : List Fixing) (n : List ℕ) (x : Thing) → IsTuple p t → (is_sid n ≡ true → IsSettled p t fix x) →
    value (field_sum p fix n x) t ≡ field_value p t x n
field-value p t fix n (Number z) h k = constant-value (pos 0) t
field-value p t fix n (Object o) h k =
    object-by p t o n (pos (o + 1)) (shape_number_at p o (place_of fix o)) (shape_number_in p t o) (attribute_in n (object_of p o).attributes) (bytes_eq n (codes "id")) (bytes_eq n (codes "sid")) h
    (λ e. ap (λ (s : Option ℕ). option_map_or (λ i. pos (i + 1)) s (pos 0)) (sym (k e)))
field-value p t fix n (Part b) h k = constant-value (box_field b n) t

-- ---- expressions

nand_second : (l c : Bool) → (l && c) ≡ false → l ≡ true → c ≡ false
nand_second true c h e = h
nand_second false c h e = cc

right-bare : (l : Bool) (f g : Sum) (c : Bool) → (l && c) ≡ false → (l ≡ false → has_terms f ≡ false) → (c ≡ false → has_terms g ≡ false) → has_terms f ≡ true → has_terms g ≡ false
right-bare true f g c h k m e = m h
right-bare false f g c h k m e = let q : false ≡ true = sym (k refl) ∙ e in absurd (false≢true q)

module _ (p : ProblemData) (t : Tuple) (fix : List Fixing) (env : PlainEnv) (tuple : IsTuple p t) where
  -- an expression without coordinates is the constant of its form
  pub bare-is : (e : PlainExprTree) → has_coordinate e ≡ false → value (sum_of_expr p e env fix) t ≡ plain_value p t e env → (sum_of_expr p e env fix).constant ≡ plain_value p t e env
  bare-is e h v = sym (bare-value (sum_of_expr p e env fix) t (bare-expr p e env fix h)) ∙ v

  mutual
    pub sum-value : (e : PlainExprTree) → IsCovered p t fix env (λ s. expr_needs s e) → expr_breaks e ≡ false → value (sum_of_expr p e env fix) t ≡ plain_value p t e env
    sum-value (number n) c h = constant-value (pos n) t
    sum-value (field s f) c h = field-value p t fix f (subject_in s env) tuple (λ k. c.at s (both_of (same_subject s s) (is_sid f) (same_itself s) k))
    sum-value (shape_number s) c h = constant-value (pos (s + 1)) t
    sum-value (negative e) c h = negated-value (sum_of_expr p e env fix) t ∙ ap neg_ℤ (sum-value e c h)
    sum-value (sum e steps) c h =
        sums-value (sum_of_expr p e env fix) steps (second_part p t fix env (λ s. expr_needs s e) (λ s. sums_need s steps) c) (right_false (expr_breaks e) (sums_break steps) h)
        ∙ ap (λ y. y +ℤ plain_sums p t steps env) (sum-value e (first_part p t fix env (λ s. expr_needs s e) (λ s. sums_need s steps) c) (left_false (expr_breaks e) (sums_break steps) h))
    sum-value (product e steps) c h =
        products-value (sum_of_expr p e env fix) (has_coordinate e) steps
        (second_part p t fix env (λ s. expr_needs s e) (λ s. products_need s steps) c) (right_false (expr_breaks e) (products_break (has_coordinate e) steps) h) (bare-expr p e env fix)
        ∙ ap (λ y. plain_products p t y steps env) (sum-value e (first_part p t fix env (λ s. expr_needs s e) (λ s. products_need s steps) c) (left_false (expr_breaks e) (products_break (has_coordinate e) steps) h))
    sum-value (least a b) c h =
        constant-value (int_min (sum_of_expr p a env fix).constant (sum_of_expr p b env fix).constant) t
        ∙ ap (λ x. int_min x (sum_of_expr p b env fix).constant) (bare-is a (left_false (has_coordinate a) (has_coordinate b) h) (sum-value a (first_part p t fix env (λ s. expr_needs s a) (λ s. expr_needs s b) c) (unbroken a (left_false (has_coordinate a) (has_coordinate b) h))))
        ∙ ap (int_min (plain_value p t a env)) (bare-is b (right_false (has_coordinate a) (has_coordinate b) h) (sum-value b (second_part p t fix env (λ s. expr_needs s a) (λ s. expr_needs s b) c) (unbroken b (right_false (has_coordinate a) (has_coordinate b) h))))
    sum-value (greatest a b) c h =
        constant-value (int_max (sum_of_expr p a env fix).constant (sum_of_expr p b env fix).constant) t
        ∙ ap (λ x. int_max x (sum_of_expr p b env fix).constant) (bare-is a (left_false (has_coordinate a) (has_coordinate b) h) (sum-value a (first_part p t fix env (λ s. expr_needs s a) (λ s. expr_needs s b) c) (unbroken a (left_false (has_coordinate a) (has_coordinate b) h))))
        ∙ ap (int_max (plain_value p t a env)) (bare-is b (right_false (has_coordinate a) (has_coordinate b) h) (sum-value b (second_part p t fix env (λ s. expr_needs s a) (λ s. expr_needs s b) c) (unbroken b (right_false (has_coordinate a) (has_coordinate b) h))))

    pub step-value : (s : PlainSumTree) → IsCovered p t fix env (λ u. sum_needs u s) → sum_breaks s ≡ false → value (sum_step p s env fix) t ≡ plain_sum p t s env
    step-value (plus e) c h = sum-value e c h
    step-value (minus e) c h = negated-value (sum_of_expr p e env fix) t ∙ ap neg_ℤ (sum-value e c h)

    sums-value : (f : Sum) (steps : PlainSums) → IsCovered p t fix env (λ u. sums_need u steps) → sums_break steps ≡ false → value (sums_added p f steps env fix) t ≡ value f t +ℤ plain_sums p t steps env
    sums-value f no_sums c h = omega (arith, ints)
    sums-value f (a_sum s rest) c h =
        sums-value (add_sums f (sum_step p s env fix)) rest (second_part p t fix env (λ u. sum_needs u s) (λ u. sums_need u rest) c) (right_false (sum_breaks s) (sums_break rest) h)
        ∙ ap (λ y. y +ℤ plain_sums p t rest env)
        (add_sums-value f (sum_step p s env fix) t ∙ ap (λ y. value f t +ℤ y) (step-value s (first_part p t fix env (λ u. sum_needs u s) (λ u. sums_need u rest) c) (left_false (sum_breaks s) (sums_break rest) h)))
        ∙ regrouped (value f t) (plain_sum p t s env) (plain_sums p t rest env)

    pub factor-value : (f : Sum) (l : Bool) (s : PlainProductTree) → IsCovered p t fix env (λ u. product_needs u s) → product_breaks l s ≡ false → (l ≡ false → has_terms f ≡ false) →
        value (product_step p f s env fix) t ≡ plain_product p t (value f t) s env
    factor-value f l (times e) c h k =
        times_sum-value f (sum_of_expr p e env fix) t (right-bare l f (sum_of_expr p e env fix) (has_coordinate e) (right_false (expr_breaks e) (l && has_coordinate e) h) k (bare-expr p e env fix))
        ∙ ap (λ y. value f t *ℤ y) (sum-value e c (left_false (expr_breaks e) (l && has_coordinate e) h))
    factor-value f l (over n) c h k = constant-value (int_div_euclid f.constant (pos n)) t ∙ ap (λ y. int_div_euclid y (pos n)) (sym (bare-value f t (k h)))
    factor-value f l (modulo n) c h k = constant-value (int_rem_euclid f.constant (pos n)) t ∙ ap (λ y. int_rem_euclid y (pos n)) (sym (bare-value f t (k h)))

    products-value : (f : Sum) (l : Bool) (steps : PlainProducts) → IsCovered p t fix env (λ u. products_need u steps) → products_break l steps ≡ false → (l ≡ false → has_terms f ≡ false) →
        value (products_taken p f steps env fix) t ≡ plain_products p t (value f t) steps env
    products-value f l no_products c h k = refl
    products-value f l (a_product s rest) c h k =
        products-value (product_step p f s env fix) (l || product_has s) rest (second_part p t fix env (λ u. product_needs u s) (λ u. products_need u rest) c) (right_false (product_breaks l s) (products_break (l || product_has s) rest) h)
        (λ e. bare-factor p s env fix f (k (left_false l (product_has s) e)) (right_false l (product_has s) e))
        ∙ ap (λ y. plain_products p t y rest env) (factor-value f l s (first_part p t fix env (λ u. product_needs u s) (λ u. products_need u rest) c) (left_false (product_breaks l s) (products_break (l || product_has s) rest) h) k)
