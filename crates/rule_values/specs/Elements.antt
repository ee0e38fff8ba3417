-- What the variable of a quantifier could stand for, by the place of the shape of the object whose boxes it ranges over.
use Rattle.std.specs.Prelude.{◌≡◌, ℕ, List, [], map, length, pos, slice_index_or}
use Rattle.std.specs.Prelude.{Option, None, Some}
use Rattle.std.specs.Option.{option_map_or}
use Rattle.std.specs.List.{range_with_len}
use Rattle.problem_data.specs.Problem.{ProblemData}
use Rattle.problem_data.specs.Tuple.{Tuple, spot_of}
use Rattle.problem_data.specs.Value.{Thing, Number, Object, Part}
use Rattle.rule_expand.specs.Plain.{PlainCollTree, all_objects, listed, boxes_of}
use Rattle.rule_expand.specs.PlainTruth.{PlainEnv, subject_in}
use Rattle.rule_values.specs.Shapes.{boxes_at}
use Rattle.rule_values.specs.declared.elements.Elements.{Elements}
use Rattle.rule_values.specs.declared.elements.Elements.TheVariants as elements

abbrev pub object_in : Thing → Option ℕ
object_in (Number z) = None
object_in (Object o) = Some o
object_in (Part b) = None

-- the object whose boxes are ranged over
abbrev pub owner_of : PlainCollTree → PlainEnv → Option ℕ
owner_of all_objects env = None
owner_of (listed os) env = None
owner_of (boxes_of s) env = object_in (subject_in s env)

-- the candidates where the owner has its shape at that place
abbrev pub elements_at : ProblemData → ℕ → PlainCollTree → PlainEnv → List Thing
elements_at p place all_objects env = map Object (range_with_len 0 (length p.objects))
elements_at p place (listed os) env = map Object os
elements_at p place (boxes_of s) env = option_map_or (λ o. map Part (boxes_at p o place)) (object_in (subject_in s env)) []

-- it is the owner's place in the tuple
abbrev pub IsPlacedIn : Tuple → ℕ → Option ℕ → Type 0
IsPlacedIn t place None = Unit {0}
IsPlacedIn t place (Some o) = place ≡ (spot_of t o).place

-- the element at a place of a list, from 0
abbrev pub element_at : List Thing → ℕ → Thing
element_at xs i = slice_index_or xs i (Number (pos 0))

abbrev pub elements_view : Elements → List Thing
elements_view (elements.Objects n) = map Object (range_with_len 0 n)
elements_view (elements.Listed os) = map Object os.now
elements_view (elements.Boxes bs) = map Part bs.now
