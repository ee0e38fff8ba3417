-- The linear form of an expression in the coordinates of the objects.
use Rattle.std.specs.Prelude.{ℕ, ◌+◌, ◌&&◌, nat_lt, Bool, true, if◌then◌else◌, List, [], ◌∷◌, length, pos, negsuc, codes}
use Rattle.std.specs.Option.{option_map_or}
use Rattle.std.specs.Int.{int_min, int_max, int_div_euclid, int_rem_euclid}
use Rattle.std.specs.Str.{bytes_eq}
use Rattle.geo_conditions.specs.Form.{Sum}
use Rattle.problem_data.specs.Problem.{ProblemData}
use Rattle.problem_data.specs.Tuple.{object_of}
use Rattle.problem_data.specs.Value.{Thing, Number, Object, Part, coordinate_of, attribute_in, box_field}
use Rattle.rule_expand.specs.Plain.{PlainExprTree, number, field, shape_number, negative, sum, product, least, greatest, PlainSumTree, plus, minus, PlainSums, no_sums, a_sum, PlainProductTree, times, over, modulo, PlainProducts, no_products, a_product}
use Rattle.rule_expand.specs.PlainTruth.{PlainEnv, subject_in}
use Rattle.rule_values.specs.Shapes.{shape_number_at}
use Rattle.linear_conditions.specs.Fixings.{Fixing, place_of}
pub use Rattle.linear_conditions.specs.Sums.{is_zero, term, add_at, add_terms, add_sums, scale, constant_sum, has_terms, is_bounded, fits_sum, times_sum}

-- a coordinate of an object; 0 where the problem has no such object or dimension
abbrev pub coordinate_sum : ProblemData → ℕ → ℕ → Sum
coordinate_sum p o d =
    if nat_lt o (length p.objects) && nat_lt d p.dims
    then record { terms = term o d (pos 1) ∷ []; constant = pos 0 }
    else constant_sum (pos 0)

abbrev pub object_sum : ProblemData → List Fixing → ℕ → List ℕ → Sum
object_sum p fix o n =
    if bytes_eq n (codes "id") then constant_sum (pos (o + 1)) else
    if bytes_eq n (codes "sid") then constant_sum (shape_number_at p o (place_of fix o)) else
    option_map_or (coordinate_sum p o) (coordinate_of n) (constant_sum (attribute_in n (object_of p o).attributes))

-- a field of an object or a box; a number has none
abbrev pub field_sum : ProblemData → List Fixing → List ℕ → Thing → Sum
field_sum p fix n (Number z) = constant_sum (pos 0)
field_sum p fix n (Object o) = object_sum p fix o n
field_sum p fix n (Part b) = constant_sum (box_field b n)

abbrev mutual
  pub sum_of_expr : ProblemData → PlainExprTree → PlainEnv → List Fixing → Sum
  sum_of_expr p (number n) env fix = constant_sum (pos n)
  sum_of_expr p (field s f) env fix = field_sum p fix f (subject_in s env)
  sum_of_expr p (shape_number s) env fix = constant_sum (pos (s + 1))
  sum_of_expr p (negative e) env fix = scale (negsuc 0) (sum_of_expr p e env fix)
  sum_of_expr p (sum e steps) env fix = sums_added p (sum_of_expr p e env fix) steps env fix
  sum_of_expr p (product e steps) env fix = products_taken p (sum_of_expr p e env fix) steps env fix
  sum_of_expr p (least a b) env fix = constant_sum (int_min (sum_of_expr p a env fix).constant (sum_of_expr p b env fix).constant)
  sum_of_expr p (greatest a b) env fix = constant_sum (int_max (sum_of_expr p a env fix).constant (sum_of_expr p b env fix).constant)

  pub sum_step : ProblemData → PlainSumTree → PlainEnv → List Fixing → Sum
  sum_step p (plus e) env fix = sum_of_expr p e env fix
  sum_step p (minus e) env fix = scale (negsuc 0) (sum_of_expr p e env fix)

  -- the steps of a sum, added to what stands before them
  pub sums_added : ProblemData → Sum → PlainSums → PlainEnv → List Fixing → Sum
  sums_added p f no_sums env fix = f
  sums_added p f (a_sum s rest) env fix = sums_added p (add_sums f (sum_step p s env fix)) rest env fix

  -- a step of a product, taken on what stands before it; `div` is floor division, and `mod` its remainder
  pub product_step : ProblemData → Sum → PlainProductTree → PlainEnv → List Fixing → Sum
  product_step p f (times e) env fix = times_sum f (sum_of_expr p e env fix)
  product_step p f (over n) env fix = constant_sum (int_div_euclid f.constant (pos n))
  product_step p f (modulo n) env fix = constant_sum (int_rem_euclid f.constant (pos n))

  pub products_taken : ProblemData → Sum → PlainProducts → PlainEnv → List Fixing → Sum
  products_taken p f no_products env fix = f
  products_taken p f (a_product s rest) env fix = products_taken p (product_step p f s env fix) rest env fix

abbrev mutual
  -- whether the forms of an expression and of its subexpressions are within the bounds. What a product has come to after each
  -- of its steps is a subexpression, a partial sum is none
  pub fits_expr : ProblemData → PlainExprTree → PlainEnv → List Fixing → Bool
  fits_expr p (number n) env fix = fits_sum (sum_of_expr p (number n) env fix)
  fits_expr p (field s f) env fix = fits_sum (sum_of_expr p (field s f) env fix)
  fits_expr p (shape_number s) env fix = fits_sum (sum_of_expr p (shape_number s) env fix)
  fits_expr p (negative e) env fix = fits_expr p e env fix && fits_sum (sum_of_expr p (negative e) env fix)
  fits_expr p (sum e steps) env fix = fits_expr p e env fix && (sums_fit p steps env fix && fits_sum (sum_of_expr p (sum e steps) env fix))
  fits_expr p (product e steps) env fix = fits_expr p e env fix && products_fit p (sum_of_expr p e env fix) steps env fix
  fits_expr p (least a b) env fix = fits_expr p a env fix && (fits_expr p b env fix && fits_sum (sum_of_expr p (least a b) env fix))
  fits_expr p (greatest a b) env fix = fits_expr p a env fix && (fits_expr p b env fix && fits_sum (sum_of_expr p (greatest a b) env fix))

  pub sum_fits : ProblemData → PlainSumTree → PlainEnv → List Fixing → Bool
  sum_fits p (plus e) env fix = fits_expr p e env fix
  sum_fits p (minus e) env fix = fits_expr p e env fix

  pub sums_fit : ProblemData → PlainSums → PlainEnv → List Fixing → Bool
  sums_fit p no_sums env fix = true
  sums_fit p (a_sum s rest) env fix = sum_fits p s env fix && sums_fit p rest env fix

  pub product_fits : ProblemData → PlainProductTree → PlainEnv → List Fixing → Bool
  product_fits p (times e) env fix = fits_expr p e env fix
  product_fits p (over n) env fix = true
  product_fits p (modulo n) env fix = true

  -- the steps of a product, with what it comes to after each of them
  pub products_fit : ProblemData → Sum → PlainProducts → PlainEnv → List Fixing → Bool
  products_fit p f no_products env fix = true
  products_fit p f (a_product s rest) env fix = product_fits p s env fix && (fits_sum (product_step p f s env fix) && products_fit p (product_step p f s env fix) rest env fix)
