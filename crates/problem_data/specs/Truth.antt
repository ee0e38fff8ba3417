-- The truth of a formula on a tuple.
use Rattle.std.specs.Prelude.{ℕ, zero, suc, ◌==◌, nat_le, ◌&&◌, ◌||◌, not, Bool, true, false, if◌then◌else◌, List, [], ◌∷◌, map, length, ℤ, pos, int_lt, slice_index_or}
use Rattle.std.specs.Option.{option_map_or}
use Rattle.std.specs.List.{list_all, list_any, count_by, filter, filter_map, range_with_len}
use Rattle.rule_syntax.specs.declared.tree.PlacedName.{PlacedName}
use Rattle.rule_syntax.specs.declared.tree.Rel.{Rel}
use Rattle.rule_syntax.specs.declared.tree.Rel.TheVariants.{Lt, Le, Eq, Ne, Ge, Gt}
use Rattle.rule_syntax.specs.declared.tree.QuantKind.{QuantKind}
use Rattle.rule_syntax.specs.declared.tree.QuantKind.TheVariants.{ForAll, Exists, AtLeast, AtMost}
use Rattle.rule_syntax.specs.Tree.{CollTree, all_objects, listed, boxes_of, FormulaTree, truth, falsehood, negation, all_of, any_of, implication, equivalence, comparison, quantified, formula_call, FormulaTrees, no_formulas, a_formula}
use Rattle.problem_data.specs.Problem.{ParamData, MacroData, ProblemData}
use Rattle.problem_data.specs.Tree.{BodyTree, means, equals}
use Rattle.problem_data.specs.Tuple.{Tuple, spot_of, object_of, boxes_in}
use Rattle.problem_data.specs.Places.{is_absent_at}
use Rattle.problem_data.specs.Value.{Thing, Number, Object, Part, Env, bind, look, object_position, macro_position, Calls, things, value}

abbrev pub compare : Rel → ℤ → ℤ → Bool
compare Lt a b = int_lt a b
compare Le a b = not (int_lt b a)
compare Eq a b = not (int_lt a b) && not (int_lt b a)
compare Ne a b = int_lt a b || int_lt b a
compare Ge a b = not (int_lt a b)
compare Gt a b = int_lt b a

abbrev pub same_truth : Bool → Bool → Bool
same_truth a b = if a then b else not b

-- whether a test passes for as many of the elements as a quantifier wants
abbrev pub quantify : QuantKind → (Thing → Bool) → List Thing → Bool
quantify ForAll test xs = list_all test xs
quantify Exists test xs = list_any test xs
quantify (AtLeast n) test xs = nat_le n (count_by test xs)
quantify (AtMost n) test xs = nat_le (count_by test xs) n

abbrev pub boxes_of_thing : ProblemData → Tuple → Thing → List Thing
boxes_of_thing p t (Number z) = []
boxes_of_thing p t (Object o) = map Part (boxes_in p t o)
boxes_of_thing p t (Part b) = []

-- the objects that are listed, by their positions; a name in such a list is always an object's own
abbrev pub listed_objects : ProblemData → List PlacedName → List ℕ
listed_objects p ns = filter_map (λ n. object_position p n.name) ns

-- what a quantifier's variable could stand for: all objects, the listed ones, or the boxes of an
-- object
abbrev pub candidates : ProblemData → Tuple → CollTree → Env → List Thing
candidates p t all_objects env = map Object (range_with_len 0 (length p.objects))
candidates p t (listed ns) env = map Object (listed_objects p ns)
candidates p t (boxes_of a) env = boxes_of_thing p t (look p a.name env)

-- it is no object that the tuple leaves out
abbrev pub is_there : ProblemData → Tuple → Thing → Bool
is_there p t (Number z) = true
is_there p t (Object o) = not (is_absent_at (object_of p o) (spot_of t o).place)
is_there p t (Part b) = true

-- the elements that a quantifier's variable ranges over
abbrev pub elements : ProblemData → Tuple → CollTree → Env → List Thing
elements p t coll env = filter (is_there p t) (candidates p t coll env)

abbrev mutual
  pub holds : Calls → ProblemData → Tuple → FormulaTree → Env → Bool
  holds c p t (truth place) env = true
  holds c p t (falsehood place) env = false
  holds c p t (negation place f) env = not (holds c p t f env)
  holds c p t (all_of place fs) env = all_hold c p t fs env
  holds c p t (any_of place fs) env = some_holds c p t fs env
  holds c p t (implication place f g) env = not (holds c p t f env) || holds c p t g env
  holds c p t (equivalence place f g) env = same_truth (holds c p t f env) (holds c p t g env)
  holds c p t (comparison place a rel b) env = compare rel (value c p t a env) (value c p t b env)
  holds c p t (quantified place kind v coll f) env = quantify kind (λ x. holds c p t f (bind v.name x env)) (elements p t coll env)
  holds c p t (formula_call place m args) env = option_map_or (λ k. c.truth_of k (things c p t args env)) (macro_position p m.name) false

  pub all_hold : Calls → ProblemData → Tuple → FormulaTrees → Env → Bool
  all_hold c p t no_formulas env = true
  all_hold c p t (a_formula f rest) env = holds c p t f env && all_hold c p t rest env

  pub some_holds : Calls → ProblemData → Tuple → FormulaTrees → Env → Bool
  some_holds c p t no_formulas env = false
  some_holds c p t (a_formula f rest) env = holds c p t f env || some_holds c p t rest env

-- the parameters with the values of their arguments, and nothing else
abbrev pub bind_all : List ParamData → List Thing → Env
bind_all [] xs = []
bind_all (q ∷ params) [] = []
bind_all (q ∷ params) (x ∷ xs) = bind q.name x (bind_all params xs)

abbrev pub body_value : Calls → ProblemData → Tuple → BodyTree → Env → ℤ
body_value c p t (means f) env = pos 0
body_value c p t (equals e) env = value c p t e env

abbrev pub body_truth : Calls → ProblemData → Tuple → BodyTree → Env → Bool
body_truth c p t (means f) env = holds c p t f env
body_truth c p t (equals e) env = false

abbrev pub macro_of : ProblemData → ℕ → MacroData
macro_of p k = slice_index_or p.macros k (record { place = 0; name = []; params = []; body = means (falsehood 0) })

-- what the first n macros mean: the body of each one sees its parameters and the objects' names, and calls the macros before it
abbrev pub calls_of : ProblemData → Tuple → ℕ → Calls
calls_of p t zero = record { number = λ k xs. pos 0; truth_of = λ k xs. false }
calls_of p t (suc n) = record {
  number = λ k xs. if k == n then body_value (calls_of p t n) p t (macro_of p n).body (bind_all (macro_of p n).params xs) else (calls_of p t n).number k xs;
  truth_of = λ k xs. if k == n then body_truth (calls_of p t n) p t (macro_of p n).body (bind_all (macro_of p n).params xs) else (calls_of p t n).truth_of k xs;
}

-- whether a rule's formula holds on a tuple
abbrev pub formula_holds : ProblemData → Tuple → FormulaTree → Bool
formula_holds p t f = holds (calls_of p t (length p.macros)) p t f []
