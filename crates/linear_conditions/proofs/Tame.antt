-- Where the forms of an expression fit, the numbers that its evaluation meets fit 128 bits.
use Rattle.std.proofs.Common.{◌≡◌, ℕ, ◌+◌, ◌*◌, ◌^◌, ◌≤◌, ◌&&◌, ◌||◌, Bool, true, false, cond, List, [], ◌∷◌, length, ℤ, pos, negsuc, ◌+ℤ◌, ◌*ℤ◌, neg_ℤ, refl, arith, subst}
use Rattle.std.specs.Prelude.{Option, None, Some, codes}
use Rattle.std.specs.Option.{option_map_or}
use Rattle.std.specs.Int.{w128}
use Rattle.std.specs.Int.RustNames.{FitsSigned}
use Rattle.std.specs.Str.{bytes_eq}
use Rattle.std.proofs.lemmas.Int.{fits_signed_from_abs}
use Rattle.geo_base.specs.Tuple.{Tuple}
use Rattle.geo_conditions.specs.declared.form.Term.{Term}
use Rattle.geo_conditions.specs.Form.{Sum}
use Rattle.geo_conditions.specs.Conditions.{value}
use Rattle.problem_data.specs.Problem.{ProblemData}
use Rattle.problem_data.specs.Cells.{IsTuple}
use Rattle.problem_data.specs.Value.{Thing, Number, Object, Part, coordinate_of}
use Rattle.problem_data.specs.WellFormed.{IsWellFormed}
use Rattle.rule_expand.specs.Plain.{PlainExprTree, number, field, shape_number, negative, sum, product, least, greatest, PlainSumTree, plus, minus, PlainSums, no_sums, a_sum, PlainProductTree, times, over, modulo, PlainProducts, no_products, a_product}
use Rattle.rule_expand.specs.PlainTruth.{PlainEnv, subject_in, plain_value, plain_sum, plain_product}
use Rattle.rule_expand.specs.Counts.{expr_nodes, sum_nodes, sums_nodes, product_nodes, products_nodes}
use Rattle.rule_expand.specs.Degree.{has_coordinate, product_has, expr_breaks, sum_breaks, sums_break, product_breaks, products_break}
use Rattle.rule_values.specs.Calm.{IsTame, IsTameSum, AreTameSums, IsTameProduct, AreTameProducts}
use Rattle.linear_conditions.specs.Fixings.{Fixing}
use Rattle.linear_conditions.specs.Sums.{is_zero, term, unless_zero, same_coordinate, is_before, add_at, add_terms, add_sums, scale_terms, scale, constant_sum, has_terms, fits_sum}
use Rattle.linear_conditions.specs.Forms.{coordinate_sum, field_sum, sum_of_expr, sum_step, sums_added, product_step, products_taken, fits_expr, sum_fits, sums_fit, product_fits, products_fit}
use Rattle.linear_conditions.specs.Settled.{expr_needs, sum_needs, sums_need, product_needs, products_need, IsCovered}
use Rattle.linear_conditions.proofs.Sizes.{IsNear, abs-near, near-add, near-neg, near-more, value-near}
use Rattle.linear_conditions.proofs.Values.{left_false, right_false, first_part, second_part, bare-expr, bare-factor, unbroken, sum-value, factor-value}

-- ---- how many terms a form has

unless_zero-length : (a : Term) (ts : List Term) (b : Bool) → length (cond b ts (a ∷ ts)) ≤ 1 + length ts
unless_zero-length a ts true = omega arith
unless_zero-length a ts false = omega arith

at-length : (a u : Term) (ts : List Term) (b c : Bool) → length (add_at a ts) ≤ 1 + length ts →
    length (cond b (unless_zero (term u.object.0 u.dimension (u.factor +ℤ a.factor)) ts) (cond c (unless_zero a (u ∷ ts)) (u ∷ add_at a ts))) ≤ 1 + length (u ∷ ts)
at-length a u ts true c ih = let l = unless_zero-length (term u.object.0 u.dimension (u.factor +ℤ a.factor)) ts (is_zero (u.factor +ℤ a.factor)) in omega arith
at-length a u ts false true ih = unless_zero-length a (u ∷ ts) (is_zero a.factor)
at-length a u ts false false ih = omega arith

add_at-length : (a : Term) (ts : List Term) → length (add_at a ts) ≤ 1 + length ts
add_at-length a [] = unless_zero-length a [] (is_zero a.factor)
add_at-length a (u ∷ ts) = at-length a u ts (same_coordinate a u) (is_before a u) (add_at-length a ts)

add_terms-length : (ts more : List Term) → length (add_terms ts more) ≤ length ts + length more
add_terms-length ts [] = omega arith
add_terms-length ts (a ∷ more) = let l = add_terms-length (add_at a ts) more in let k = add_at-length a ts in omega arith

scale_terms-length : (z : ℤ) (ts : List Term) → length (scale_terms z ts) ≤ length ts
scale_terms-length z [] = omega arith
scale_terms-length z (u ∷ ts) =
    let l = scale_terms-length z ts in
    let k = unless_zero-length (term u.object.0 u.dimension (z *ℤ u.factor)) (scale_terms z ts) (is_zero (z *ℤ u.factor)) in omega arith

times-length : (f g : Sum) (b : Bool) → length (cond b (scale g.constant f) (scale f.constant g)).terms ≤ length f.terms + length g.terms
times-length f g true = let l = scale_terms-length g.constant f.terms in omega arith
times-length f g false = let l = scale_terms-length f.constant g.terms in omega arith

coordinate-length : (o d : ℕ) (b : Bool) → length (cond b (record { terms = term o d (pos 1) ∷ []; constant = pos 0 }) (constant_sum (pos 0))).terms ≤ 1
coordinate-length o d true = omega arith
coordinate-length o d false = omega arith

choice-length : (p : ProblemData) (o : ℕ) (z : ℤ) (d : Option ℕ) → length (option_map_or (coordinate_sum p o) d (constant_sum z)).terms ≤ 1
choice-length p o z None = omega arith
choice-length p o z (Some d) = coordinate-length o d _

object-length : (p : ProblemData) (o : ℕ) (n : List ℕ) (x y z : ℤ) (a b : Bool) →
    length (cond a (constant_sum x) (cond b (constant_sum y) (option_map_or (coordinate_sum p o) (coordinate_of n) (constant_sum z)))).terms ≤ 1
object-length p o n x y z true b = omega arith
object-length p o n x y z false true = omega arith
object-length p o n x y z false false = choice-length p o z (coordinate_of n)

field-length : (p : ProblemData) (fix : List Fixing) (n : List ℕ) (x : Thing) → length (field_sum p fix n x).terms ≤ 1
field-length p fix n (Number z) = omega arith
field-length p fix n (Object o) = object-length p o n _ _ _ (bytes_eq n (codes "id")) (bytes_eq n (codes "sid"))
field-length p fix n (Part b) = omega arith

mutual
  expr-length : (p : ProblemData) (e : PlainExprTree) (env : PlainEnv) (fix : List Fixing) → length (sum_of_expr p e env fix).terms ≤ expr_nodes e
  expr-length p (number n) env fix = omega arith
  expr-length p (field s f) env fix = field-length p fix f (subject_in s env)
  expr-length p (shape_number s) env fix = omega arith
  expr-length p (negative e) env fix = let l = expr-length p e env fix in let k = scale_terms-length (negsuc 0) (sum_of_expr p e env fix).terms in omega arith
  expr-length p (sum e steps) env fix = let l = expr-length p e env fix in let k = sums-length p (sum_of_expr p e env fix) steps env fix in omega arith
  expr-length p (product e steps) env fix = let l = expr-length p e env fix in let k = products-length p (sum_of_expr p e env fix) steps env fix in omega arith
  expr-length p (least a b) env fix = omega arith
  expr-length p (greatest a b) env fix = omega arith

  step-length : (p : ProblemData) (s : PlainSumTree) (env : PlainEnv) (fix : List Fixing) → length (sum_step p s env fix).terms ≤ sum_nodes s
  step-length p (plus e) env fix = expr-length p e env fix
  step-length p (minus e) env fix = let l = expr-length p e env fix in let k = scale_terms-length (negsuc 0) (sum_of_expr p e env fix).terms in omega arith

  sums-length : (p : ProblemData) (f : Sum) (steps : PlainSums) (env : PlainEnv) (fix : List Fixing) → length (sums_added p f steps env fix).terms ≤ length f.terms + sums_nodes steps
  sums-length p f no_sums env fix = omega arith
  sums-length p f (a_sum s rest) env fix =
      let l = sums-length p (add_sums f (sum_step p s env fix)) rest env fix in
      let k = add_terms-length f.terms (sum_step p s env fix).terms in
      let i = step-length p s env fix in omega arith

  factor-length : (p : ProblemData) (f : Sum) (s : PlainProductTree) (env : PlainEnv) (fix : List Fixing) → length (product_step p f s env fix).terms ≤ length f.terms + product_nodes s
  factor-length p f (times e) env fix = let l = expr-length p e env fix in let k = times-length f (sum_of_expr p e env fix) (has_terms f) in omega arith
  factor-length p f (over n) env fix = omega arith
  factor-length p f (modulo n) env fix = omega arith

  products-length : (p : ProblemData) (f : Sum) (steps : PlainProducts) (env : PlainEnv) (fix : List Fixing) → length (products_taken p f steps env fix).terms ≤ length f.terms + products_nodes steps
  products-length p f no_products env fix = omega arith
  products-length p f (a_product s rest) env fix =
      let l = products-length p (product_step p f s env fix) rest env fix in
      let k = factor-length p f s env fix in omega arith

some-nodes : (e : PlainExprTree) → 1 ≤ expr_nodes e
some-nodes (number n) = omega arith
some-nodes (field s f) = omega arith
some-nodes (shape_number s) = omega arith
some-nodes (negative e) = omega arith
some-nodes (sum e steps) = omega arith
some-nodes (product e steps) = omega arith
some-nodes (least a b) = omega arith
some-nodes (greatest a b) = omega arith

-- ---- a form that fits as a whole

pub both : (a b : Bool) → (a && b) ≡ true → (a ≡ true) × (b ≡ true)
both true b h = (refl, h)
both false b h = cc

products-whole : (p : ProblemData) (f : Sum) (steps : PlainProducts) (env : PlainEnv) (fix : List Fixing) → fits_sum f ≡ true → products_fit p f steps env fix ≡ true → fits_sum (products_taken p f steps env fix) ≡ true
products-whole p f no_products env fix h k = h
products-whole p f (a_product s rest) env fix h k =
    let a = both (product_fits p s env fix) (fits_sum (product_step p f s env fix) && products_fit p (product_step p f s env fix) rest env fix) k in
    let b = both (fits_sum (product_step p f s env fix)) (products_fit p (product_step p f s env fix) rest env fix) a.1 in
    products-whole p (product_step p f s env fix) rest env fix b.0 b.1

pub fits-whole : (p : ProblemData) (e : PlainExprTree) (env : PlainEnv) (fix : List Fixing) → fits_expr p e env fix ≡ true → fits_sum (sum_of_expr p e env fix) ≡ true
fits-whole p (number n) env fix h = h
fits-whole p (field s f) env fix h = h
fits-whole p (shape_number s) env fix h = h
fits-whole p (negative e) env fix h = (both (fits_expr p e env fix) (fits_sum (sum_of_expr p (negative e) env fix)) h).1
fits-whole p (sum e steps) env fix h =
    (both (sums_fit p steps env fix) (fits_sum (sum_of_expr p (sum e steps) env fix)) (both (fits_expr p e env fix) (sums_fit p steps env fix && fits_sum (sum_of_expr p (sum e steps) env fix)) h).1).1
fits-whole p (product e steps) env fix h =
    let a = both (fits_expr p e env fix) (products_fit p (sum_of_expr p e env fix) steps env fix) h in
    products-whole p (sum_of_expr p e env fix) steps env fix (fits-whole p e env fix a.0) a.1
fits-whole p (least a b) env fix h =
    (both (fits_expr p b env fix) (fits_sum (sum_of_expr p (least a b) env fix)) (both (fits_expr p a env fix) (fits_expr p b env fix && fits_sum (sum_of_expr p (least a b) env fix)) h).1).1
fits-whole p (greatest a b) env fix h =
    (both (fits_expr p b env fix) (fits_sum (sum_of_expr p (greatest a b) env fix)) (both (fits_expr p a env fix) (fits_expr p b env fix && fits_sum (sum_of_expr p (greatest a b) env fix)) h).1).1

-- ---- what evaluation meets

-- a value of an expression of n nodes is at most n times this far from 0
abbrev unit : ℕ
unit = 2 * 10 ^ 21

near-fits : (n : ℕ) (z : ℤ) → n ≤ 20001 → IsNear (n * unit) z → FitsSigned w128 z
near-fits n z h k = fits_signed_from_abs w128 z (let a = abs-near (n * unit) z k in omega arith)

module _ (p : ProblemData) (t : Tuple) (fix : List Fixing) (env : PlainEnv) (w : IsWellFormed p) (tuple : IsTuple p t) where
  sum-near : (f : Sum) (n : ℕ) → fits_sum f ≡ true → length f.terms ≤ n → 1 ≤ n → IsNear (n * unit) (value f t)
  sum-near f n h l i = near-more (10 ^ 21 + length f.terms * 10 ^ 21) (n * unit) (value f t) (omega arith) (value-near p t w tuple f h)

  expr-near : (e : PlainExprTree) → IsCovered p t fix env (λ s. expr_needs s e) → expr_breaks e ≡ false → fits_expr p e env fix ≡ true → IsNear (expr_nodes e * unit) (plain_value p t e env)
  expr-near e c b f = subst (IsNear (expr_nodes e * unit)) (sum-value p t fix env tuple e c b)
      (sum-near (sum_of_expr p e env fix) (expr_nodes e) (fits-whole p e env fix f) (expr-length p e env fix) (some-nodes e))

  step-near : (s : PlainSumTree) → IsCovered p t fix env (λ u. sum_needs u s) → sum_breaks s ≡ false → sum_fits p s env fix ≡ true → IsNear (sum_nodes s * unit) (plain_sum p t s env)
  step-near (plus e) c b f = expr-near e c b f
  step-near (minus e) c b f = near-neg (expr_nodes e * unit) (plain_value p t e env) (expr-near e c b f)

  mutual
    pub expr-tame : (e : PlainExprTree) → IsCovered p t fix env (λ s. expr_needs s e) → expr_breaks e ≡ false → fits_expr p e env fix ≡ true → expr_nodes e ≤ 20000 → IsTame p t e env
    expr-tame (number n) c b f l = tt
    expr-tame (field s n) c b f l = tt
    expr-tame (shape_number s) c b f l = tt
    expr-tame (negative e) c b f l =
        let i = both (fits_expr p e env fix) (fits_sum (sum_of_expr p (negative e) env fix)) f in (
          expr-tame e c b i.0 (omega arith),
          near-fits (expr_nodes e) (neg_ℤ (plain_value p t e env)) (omega arith) (near-neg (expr_nodes e * unit) (plain_value p t e env) (expr-near e c b i.0)),
        )
    expr-tame (sum e steps) c b f l =
        let i = both (fits_expr p e env fix) (sums_fit p steps env fix && fits_sum (sum_of_expr p (sum e steps) env fix)) f in
        let j = both (sums_fit p steps env fix) (fits_sum (sum_of_expr p (sum e steps) env fix)) i.1 in
        let c' = first_part p t fix env (λ s. expr_needs s e) (λ s. sums_need s steps) c in
        let b' = left_false (expr_breaks e) (sums_break steps) b in (
          expr-tame e c' b' i.0 (omega arith),
          sums-tame steps (plain_value p t e env) (expr_nodes e) (second_part p t fix env (λ s. expr_needs s e) (λ s. sums_need s steps) c) (right_false (expr_breaks e) (sums_break steps) b) j.0 (expr-near e c' b' i.0) (omega arith),
        )
    expr-tame (product e steps) c b f l =
        let i = both (fits_expr p e env fix) (products_fit p (sum_of_expr p e env fix) steps env fix) f in
        let c' = first_part p t fix env (λ s. expr_needs s e) (λ s. products_need s steps) c in
        let b' = left_false (expr_breaks e) (products_break (has_coordinate e) steps) b in (
          expr-tame e c' b' i.0 (omega arith),
          subst (AreTameProducts p t steps env) (sum-value p t fix env tuple e c' b')
              (products-tame steps (sum_of_expr p e env fix) (has_coordinate e) (expr_nodes e) (second_part p t fix env (λ s. expr_needs s e) (λ s. products_need s steps) c)
              (right_false (expr_breaks e) (products_break (has_coordinate e) steps) b) i.1 (bare-expr p e env fix) (expr-length p e env fix) (some-nodes e) (omega arith)),
        )
    expr-tame (least a b) c h f l =
        let i = both (fits_expr p a env fix) (fits_expr p b env fix && fits_sum (sum_of_expr p (least a b) env fix)) f in
        let j = both (fits_expr p b env fix) (fits_sum (sum_of_expr p (least a b) env fix)) i.1 in (
          expr-tame a (first_part p t fix env (λ s. expr_needs s a) (λ s. expr_needs s b) c) (unbroken a (left_false (has_coordinate a) (has_coordinate b) h)) i.0 (omega arith),
          expr-tame b (second_part p t fix env (λ s. expr_needs s a) (λ s. expr_needs s b) c) (unbroken b (right_false (has_coordinate a) (has_coordinate b) h)) j.0 (omega arith),
        )
    expr-tame (greatest a b) c h f l =
        let i = both (fits_expr p a env fix) (fits_expr p b env fix && fits_sum (sum_of_expr p (greatest a b) env fix)) f in
        let j = both (fits_expr p b env fix) (fits_sum (sum_of_expr p (greatest a b) env fix)) i.1 in (
          expr-tame a (first_part p t fix env (λ s. expr_needs s a) (λ s. expr_needs s b) c) (unbroken a (left_false (has_coordinate a) (has_coordinate b) h)) i.0 (omega arith),
          expr-tame b (second_part p t fix env (λ s. expr_needs s a) (λ s. expr_needs s b) c) (unbroken b (right_false (has_coordinate a) (has_coordinate b) h)) j.0 (omega arith),
        )

    step-tame : (s : PlainSumTree) → IsCovered p t fix env (λ u. sum_needs u s) → sum_breaks s ≡ false → sum_fits p s env fix ≡ true → sum_nodes s ≤ 20000 → IsTameSum p t s env
    step-tame (plus e) c b f l = expr-tame e c b f l
    step-tame (minus e) c b f l = expr-tame e c b f l

    sums-tame : (steps : PlainSums) (z : ℤ) (n : ℕ) → IsCovered p t fix env (λ u. sums_need u steps) → sums_break steps ≡ false → sums_fit p steps env fix ≡ true → IsNear (n * unit) z → n + sums_nodes steps ≤ 20000 → AreTameSums p t steps env z
    sums-tame no_sums z n c b f k l = tt
    sums-tame (a_sum s rest) z n c b f k l =
        let i = both (sum_fits p s env fix) (sums_fit p rest env fix) f in
        let c' = first_part p t fix env (λ u. sum_needs u s) (λ u. sums_need u rest) c in
        let b' = left_false (sum_breaks s) (sums_break rest) b in
        let next : IsNear ((n + sum_nodes s) * unit) (z +ℤ plain_sum p t s env) =
        near-more (n * unit + sum_nodes s * unit) ((n + sum_nodes s) * unit) (z +ℤ plain_sum p t s env) (omega arith) (near-add (n * unit) (sum_nodes s * unit) z (plain_sum p t s env) k (step-near s c' b' i.0)) in (
          step-tame s c' b' i.0 (omega arith),
          near-fits (n + sum_nodes s) (z +ℤ plain_sum p t s env) (omega arith) next,
          sums-tame rest (z +ℤ plain_sum p t s env) (n + sum_nodes s) (second_part p t fix env (λ u. sum_needs u s) (λ u. sums_need u rest) c) (right_false (sum_breaks s) (sums_break rest) b) i.1 next (omega arith),
        )

    factor-tame : (s : PlainProductTree) (l : Bool) → IsCovered p t fix env (λ u. product_needs u s) → product_breaks l s ≡ false → product_fits p s env fix ≡ true → product_nodes s ≤ 20000 → IsTameProduct p t s env
    factor-tame (times e) l c b f n = expr-tame e c (left_false (expr_breaks e) (l && has_coordinate e) b) f n
    factor-tame (over m) l c b f n = tt
    factor-tame (modulo m) l c b f n = tt

    products-tame : (steps : PlainProducts) (f : Sum) (l : Bool) (n : ℕ) → IsCovered p t fix env (λ u. products_need u steps) → products_break l steps ≡ false → products_fit p f steps env fix ≡ true →
        (l ≡ false → has_terms f ≡ false) → length f.terms ≤ n → 1 ≤ n → n + products_nodes steps ≤ 20000 → AreTameProducts p t steps env (value f t)
    products-tame no_products f l n c b h k m i q = tt
    products-tame (a_product s rest) f l n c b h k m i q =
        let g = product_step p f s env fix in
        let a = both (product_fits p s env fix) (fits_sum g && products_fit p g rest env fix) h in
        let d = both (fits_sum g) (products_fit p g rest env fix) a.1 in
        let c' = first_part p t fix env (λ u. product_needs u s) (λ u. products_need u rest) c in
        let b' = left_false (product_breaks l s) (products_break (l || product_has s) rest) b in
        let v : value g t ≡ plain_product p t (value f t) s env = factor-value p t fix env tuple f l s c' b' k in
        let r = factor-length p f s env fix in (
          factor-tame s l c' b' a.0 (omega arith),
          subst (FitsSigned w128) v (near-fits (n + product_nodes s) (value g t) (omega arith) (sum-near g (n + product_nodes s) d.0 (omega arith) (omega arith))),
          subst (AreTameProducts p t rest env) v
              (products-tame rest g (l || product_has s) (n + product_nodes s) (second_part p t fix env (λ u. product_needs u s) (λ u. products_need u rest) c) (right_false (product_breaks l s) (products_break (l || product_has s) rest) b) d.1
              (λ e. bare-factor p s env fix f (k (left_false l (product_has s) e)) (right_false l (product_has s) e)) (omega arith) (omega arith) (omega arith)),
        )
