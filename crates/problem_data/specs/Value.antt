-- The value of an expression on a tuple. A macro is a function of the values of its arguments.
use Rattle.std.specs.Prelude.{ℕ, ◌+◌, ◌-◌, ◌==◌, nat_le, ◌&&◌, Bool, if◌then◌else◌, List, [], ◌∷◌, ℤ, pos, ◌+ℤ◌, ◌*ℤ◌, neg_ℤ, slice_index_or, codes}
use Rattle.std.specs.Prelude.{Option, None, Some}
use Rattle.std.specs.Option.{option_map_or}
use Rattle.std.specs.List.{position}
use Rattle.std.specs.Int.{int_min, int_max, int_div_euclid, int_rem_euclid}
use Rattle.std.specs.Str.{bytes_eq}
use Rattle.rule_syntax.specs.Tree.{ExprTree, number, field, param, shape_number, negative, sum, product, least, greatest, value_call, SumTree, plus, minus, SumTrees, no_sums, a_sum, ProductTree, times, over, modulo, ProductTrees, no_products, a_product, ArgumentTree, argument, ArgumentTrees, no_arguments, an_argument}
use Rattle.problem_data.specs.Problem.{BoxData, AttributeData, ProblemData}
use Rattle.problem_data.specs.Tuple.{Tuple, spot_of, object_of, shape_number_in}

-- what a name may stand for
pub data Thing : Type 0 where
  Number : ℤ → Thing
  Object : ℕ → Thing
  Part : BoxData → Thing

-- variables and parameters in sight, the innermost first
pub record Binding : Type 0 where
  pub name : List ℕ
  pub thing : Thing

abbrev pub Env : Type 0
Env = List Binding

abbrev pub bind : List ℕ → Thing → Env → Env
bind n x env = record { name = n; thing = x } ∷ env

-- the position of what has a name; the first one where several have it
abbrev pub object_position : ProblemData → List ℕ → Option ℕ
object_position p n = position (λ o. bytes_eq n o.name) p.objects

abbrev pub shape_position : ProblemData → List ℕ → Option ℕ
shape_position p n = position (λ s. bytes_eq n s.name) p.shapes

abbrev pub macro_position : ProblemData → List ℕ → Option ℕ
macro_position p n = position (λ m. bytes_eq n m.name) p.macros

-- a name: the innermost binding, else the object of that name
abbrev pub look : ProblemData → List ℕ → Env → Thing
look p n [] = option_map_or Object (object_position p n) (Number (pos 0))
look p n (b ∷ outer) = if bytes_eq n b.name then b.thing else look p n outer

abbrev pub as_number : Thing → ℤ
as_number (Number z) = z
as_number (Object o) = pos 0
as_number (Part b) = pos 0

-- the dimension, from 0, that a letter and a digit from 1 to 9 name, as x1 or t2
abbrev pub dimension_of : ℕ → List ℕ → Option ℕ
dimension_of letter [] = None
dimension_of letter (c ∷ []) = None
dimension_of letter (c ∷ (d ∷ [])) = if (c == letter) && nat_le 49 d && nat_le d 57 then Some (d - 49) else None
dimension_of letter (c ∷ (d ∷ (e ∷ rest))) = None

-- the dimension of a coordinate, x1 to x9; of an offset, t1 to t9; of a size, l1 to l9
abbrev pub coordinate_of : List ℕ → Option ℕ
coordinate_of n = dimension_of 120 n

abbrev pub offset_of : List ℕ → Option ℕ
offset_of n = dimension_of 116 n

abbrev pub size_of : List ℕ → Option ℕ
size_of n = dimension_of 108 n

-- an attribute; 0 where it is not in the list
abbrev pub attribute_in : List ℕ → List AttributeData → ℤ
attribute_in n [] = pos 0
attribute_in n (a ∷ others) = if bytes_eq n a.name then a.value else attribute_in n others

abbrev pub object_field : ProblemData → Tuple → ℕ → List ℕ → ℤ
object_field p t o n =
    if bytes_eq n (codes "id") then pos (o + 1) else if bytes_eq n (codes "sid") then shape_number_in p t o else
    option_map_or (λ d. slice_index_or (spot_of t o).origin d (pos 0)) (coordinate_of n) (attribute_in n (object_of p o).attributes)

abbrev pub box_field : BoxData → List ℕ → ℤ
box_field b n =
    option_map_or (λ d. slice_index_or b.offsets d (pos 0)) (offset_of n)
    (option_map_or (λ d. slice_index_or b.sizes d (pos 0)) (size_of n) (pos 0))

-- a field of an object or a box; a number has none
abbrev pub field_value : ProblemData → Tuple → Thing → List ℕ → ℤ
field_value p t (Number z) n = pos 0
field_value p t (Object o) n = object_field p t o n
field_value p t (Part b) n = box_field b n

-- the number of a shape, from 1 in file order
abbrev pub shape_value : ProblemData → List ℕ → ℤ
shape_value p n = option_map_or (λ s. pos (s + 1)) (shape_position p n) (pos 0)

-- what the macros in sight mean, by their positions in file order: functions of the values of the arguments
pub record Calls : Type 0 where
  pub number : ℕ → List Thing → ℤ
  pub truth_of : ℕ → List Thing → Bool

abbrev mutual
  -- what an expression stands for: a bare name what it is bound to, any other expression a number
  pub thing : Calls → ProblemData → Tuple → ExprTree → Env → Thing
  thing c p t (number place n) env = Number (pos n)
  thing c p t (field a dot f) env = Number (field_value p t (look p a.name env) f.name)
  thing c p t (param a) env = look p a.name env
  thing c p t (shape_number place a) env = Number (shape_value p a.name)
  thing c p t (negative place e) env = Number (neg_ℤ (as_number (thing c p t e env)))
  thing c p t (sum place e steps) env = Number (as_number (thing c p t e env) +ℤ sums_value c p t steps env)
  thing c p t (product place e steps) env = Number (products_value c p t (as_number (thing c p t e env)) steps env)
  thing c p t (least place a b) env = Number (int_min (as_number (thing c p t a env)) (as_number (thing c p t b env)))
  thing c p t (greatest place a b) env = Number (int_max (as_number (thing c p t a env)) (as_number (thing c p t b env)))
  thing c p t (value_call place m args) env = Number (option_map_or (λ k. c.number k (things c p t args env)) (macro_position p m.name) (pos 0))

  pub sum_value : Calls → ProblemData → Tuple → SumTree → Env → ℤ
  sum_value c p t (plus e) env = as_number (thing c p t e env)
  sum_value c p t (minus e) env = neg_ℤ (as_number (thing c p t e env))

  pub sums_value : Calls → ProblemData → Tuple → SumTrees → Env → ℤ
  sums_value c p t no_sums env = pos 0
  sums_value c p t (a_sum s rest) env = sum_value c p t s env +ℤ sums_value c p t rest env

  -- one step on, from what the steps before it gave; `div` is floor division, and `mod` its remainder
  pub product_value : Calls → ProblemData → Tuple → ℤ → ProductTree → Env → ℤ
  product_value c p t z (times e) env = z *ℤ as_number (thing c p t e env)
  product_value c p t z (over place n) env = int_div_euclid z (pos n)
  product_value c p t z (modulo place n) env = int_rem_euclid z (pos n)

  pub products_value : Calls → ProblemData → Tuple → ℤ → ProductTrees → Env → ℤ
  products_value c p t z no_products env = z
  products_value c p t z (a_product s rest) env = products_value c p t (product_value c p t z s env) rest env

  pub argument_thing : Calls → ProblemData → Tuple → ArgumentTree → Env → Thing
  argument_thing c p t (argument place e) env = thing c p t e env

  pub things : Calls → ProblemData → Tuple → ArgumentTrees → Env → List Thing
  things c p t no_arguments env = []
  things c p t (an_argument a rest) env = argument_thing c p t a env ∷ things c p t rest env

-- the number of an expression
abbrev pub value : Calls → ProblemData → Tuple → ExprTree → Env → ℤ
value c p t e env = as_number (thing c p t e env)
