-- The search order of a problem, and the order that it gives to tuples.
use Rattle.std.specs.Prelude.{Bool, List, map}
use Rattle.geo_base.specs.Tuple.{Tuple}
use Rattle.geo_conditions.specs.Walk.{Order, Variable, variables_in, values, Precedes}
use Rattle.problem_data.specs.Problem.{ProblemData, runs_down}

-- for each dimension whether it runs downwards
abbrev pub downs : ProblemData → List Bool
downs p = map runs_down p.sides

abbrev pub order_of : ProblemData → Order
order_of p = record { objects = p.order; down = downs p }

-- for each object in search order its place and then its coordinates
abbrev pub variables_for : ProblemData → List Variable
variables_for p = variables_in (order_of p)

-- the first variable in which the tuples differ has the earlier value in t
abbrev pub ComesBefore : ProblemData → Tuple → Tuple → Type 0
ComesBefore p t u = Precedes (variables_for p) (values (variables_for p) t) (values (variables_for p) u)
