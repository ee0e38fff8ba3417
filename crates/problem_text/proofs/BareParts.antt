-- Statements without places: taking places away changes neither which statements there are nor what
-- they mean.
use Rattle.std.proofs.Common.{◌≡◌, ℕ, List, [], ◌∷◌, map, Option, Some, None, option_map, refl, ap, ◌∙◌}
use Rattle.std.specs.Prelude.{is_some}
use Rattle.std.specs.List.{filter_map, cons_option}
use Rattle.rule_print.specs.Spelled.{bare_name}
use Rattle.problem_data.specs.Tree.{BoxTree, ShapeTree, ObjectTree, OrderTree, SidesTree, MacroTree, DemandTree, apart, within, plain, RuleTree, BodyTree, means, equals, StatementTree, a_shape, an_object, an_order, some_sides, a_macro, a_rule, ProblemTree}
use Rattle.problem_data.specs.Parts.{Parts, parts_of, as_shape, as_object, as_order, as_sides, as_macro, as_rule}
use Rattle.problem_data.specs.Faults.{shape_names, object_names, count_of}
use Rattle.problem_data.specs.Meaning as meaning
use Rattle.problem_text.specs.ReadBack.{bare_macro, bare_rule, bare_problem}
use Rattle.problem_text.specs.ReadBack.{bare_demand as bare_demand_data, bare_body as bare_body_data}
use Rattle.problem_data.specs.Problem.{within as inside}
use Rattle.problem_text.proofs.PrintingParts.{bare_absent, bare_int, bare_range, bare_pieces, bare_box, bare_attribute, bare_param, bare_side, bare_body, bare_demand}
use Rattle.problem_text.proofs.PrintingStatements.{bare_statement}
use Rattle.problem_text.proofs.PrintingProblem.{bare_problem_tree}

abbrev pub bare_shape : ShapeTree → ShapeTree
bare_shape s = record { name = bare_name s.name; boxes = map bare_box s.boxes }

abbrev pub bare_object : ObjectTree → ObjectTree
bare_object o = record { name = bare_name o.name; shapes = map bare_name o.shapes; absent = bare_absent o.absent; pieces = map bare_pieces o.pieces; attributes = map bare_attribute o.attributes }

abbrev pub bare_order : OrderTree → OrderTree
bare_order o = record { place = 0; names = map bare_name o.names }

abbrev pub bare_sides : SidesTree → SidesTree
bare_sides s = record { place = 0; sides = map bare_side s.sides }

abbrev pub bare_macro_tree : MacroTree → MacroTree
bare_macro_tree m = record { name = bare_name m.name; params = map bare_param m.params; body = bare_body m.body }

abbrev pub bare_rule_tree : RuleTree → RuleTree
bare_rule_tree r = record { name = bare_name r.name; demand = bare_demand r.demand }

abbrev pub bare_parts : Parts → Parts
bare_parts q = record {
  version = bare_int q.version;
  dims = bare_int q.dims;
  shapes = map bare_shape q.shapes;
  objects = map bare_object q.objects;
  orders = map bare_order q.orders;
  sides = map bare_sides q.sides;
  macros = map bare_macro_tree q.macros;
  rules = map bare_rule_tree q.rules;
}

-- ---- lists

pub map_after : {A B C : Type 0} (f : B → C) (g : A → B) (h : A → C) → ((x : A) → f (g x) ≡ h x) → (xs : List A) → map f (map g xs) ≡ map h xs
map_after f g h e [] = refl
map_after f g h e (x ∷ xs) = λ i. e x i ∷ map_after f g h e xs i

pub map_back : {A B : Type 0} (f : B → A) (g : A → B) → ((x : A) → f (g x) ≡ x) → (xs : List A) → map f (map g xs) ≡ xs
map_back f g e [] = refl
map_back f g e (x ∷ xs) = λ i. e x i ∷ map_back f g e xs i

pub map_both : {A B C D : Type 0} (f : B → D) (g : A → B) (h : C → D) (k : A → C) → ((x : A) → f (g x) ≡ h (k x)) → (xs : List A) → map f (map g xs) ≡ map h (map k xs)
map_both f g h k e [] = refl
map_both f g h k e (x ∷ xs) = λ i. e x i ∷ map_both f g h k e xs i

consed : {A B : Type 0} (f : A → B) (o : Option A) (xs : List A) (ys : List B) → ys ≡ map f xs → cons_option (option_map f o) ys ≡ map f (cons_option o xs)
consed f None xs ys e = e
consed f (Some x) xs ys e = ap (λ us. f x ∷ us) e

picked : {B : Type 0} (pick : StatementTree → Option B) (bare : B → B) → ((s : StatementTree) → pick (bare_statement s) ≡ option_map bare (pick s)) → (ss : List StatementTree) → filter_map pick (map bare_statement ss) ≡ map bare (filter_map pick ss)
picked pick bare e [] = refl
picked pick bare e (s ∷ ss) = ap (λ o. cons_option o (filter_map pick (map bare_statement ss))) (e s) ∙ consed bare (pick s) (filter_map pick ss) (filter_map pick (map bare_statement ss)) (picked pick bare e ss)

pick_shape : (s : StatementTree) → as_shape (bare_statement s) ≡ option_map bare_shape (as_shape s)
pick_shape (a_shape x) = refl
pick_shape (an_object x) = refl
pick_shape (an_order x) = refl
pick_shape (some_sides x) = refl
pick_shape (a_macro x) = refl
pick_shape (a_rule x) = refl

pick_object : (s : StatementTree) → as_object (bare_statement s) ≡ option_map bare_object (as_object s)
pick_object (a_shape x) = refl
pick_object (an_object x) = refl
pick_object (an_order x) = refl
pick_object (some_sides x) = refl
pick_object (a_macro x) = refl
pick_object (a_rule x) = refl

pick_order : (s : StatementTree) → as_order (bare_statement s) ≡ option_map bare_order (as_order s)
pick_order (a_shape x) = refl
pick_order (an_object x) = refl
pick_order (an_order x) = refl
pick_order (some_sides x) = refl
pick_order (a_macro x) = refl
pick_order (a_rule x) = refl

pick_sides : (s : StatementTree) → as_sides (bare_statement s) ≡ option_map bare_sides (as_sides s)
pick_sides (a_shape x) = refl
pick_sides (an_object x) = refl
pick_sides (an_order x) = refl
pick_sides (some_sides x) = refl
pick_sides (a_macro x) = refl
pick_sides (a_rule x) = refl

pick_macro : (s : StatementTree) → as_macro (bare_statement s) ≡ option_map bare_macro_tree (as_macro s)
pick_macro (a_shape x) = refl
pick_macro (an_object x) = refl
pick_macro (an_order x) = refl
pick_macro (some_sides x) = refl
pick_macro (a_macro x) = refl
pick_macro (a_rule x) = refl

pick_rule : (s : StatementTree) → as_rule (bare_statement s) ≡ option_map bare_rule_tree (as_rule s)
pick_rule (a_shape x) = refl
pick_rule (an_object x) = refl
pick_rule (an_order x) = refl
pick_rule (some_sides x) = refl
pick_rule (a_macro x) = refl
pick_rule (a_rule x) = refl

-- the statements of a tree without places
pub parts_bare : (t : ProblemTree) → parts_of (bare_problem_tree t) ≡ bare_parts (parts_of t)
parts_bare t = λ i. record {
  version = bare_int t.version;
  dims = bare_int t.dims;
  shapes = picked as_shape bare_shape pick_shape t.statements i;
  objects = picked as_object bare_object pick_object t.statements i;
  orders = picked as_order bare_order pick_order t.statements i;
  sides = picked as_sides bare_sides pick_sides t.statements i;
  macros = picked as_macro bare_macro_tree pick_macro t.statements i;
  rules = picked as_rule bare_rule_tree pick_rule t.statements i;
}

-- ---- what they mean

pub shape_names_bare : (ss : List ShapeTree) → shape_names (map bare_shape ss) ≡ shape_names ss
shape_names_bare [] = refl
shape_names_bare (s ∷ ss) = ap (λ us. s.name.name ∷ us) (shape_names_bare ss)

pub object_names_bare : (os : List ObjectTree) → object_names (map bare_object os) ≡ object_names os
object_names_bare [] = refl
object_names_bare (o ∷ os) = ap (λ us. o.name.name ∷ us) (object_names_bare os)

box_bare : (b : BoxTree) → meaning.box_of (bare_box b) ≡ meaning.box_of b
box_bare b = λ i. record { offsets = map_after meaning.number_of bare_int meaning.number_of (λ v. refl) b.offsets i; sizes = map_after meaning.number_of bare_int meaning.number_of (λ v. refl) b.sizes i }

shape_bare : (s : ShapeTree) → meaning.shape_of (bare_shape s) ≡ meaning.shape_of s
shape_bare s = λ i. record { name = s.name.name; boxes = map_after meaning.box_of bare_box meaning.box_of box_bare s.boxes i }

absent_bare : (a : Option ℕ) → is_some (bare_absent a) ≡ is_some a
absent_bare None = refl
absent_bare (Some place) = refl

object_bare : (names : List (List ℕ)) (o : ObjectTree) → meaning.object_of names (bare_object o) ≡ meaning.object_of names o
object_bare names o = λ i. record {
  name = o.name.name;
  shapes = map_after (meaning.position_of names) bare_name (meaning.position_of names) (λ n. refl) o.shapes i;
  may_be_absent = absent_bare o.absent i;
  pieces = map_after meaning.pieces_of bare_pieces meaning.pieces_of (λ rs. map_after meaning.range_of bare_range meaning.range_of (λ r. refl) rs) o.pieces i;
  attributes = map_after meaning.attribute_of bare_attribute meaning.attribute_of (λ a. refl) o.attributes i;
}

pub body_bare : (b : BodyTree) → bare_body b ≡ bare_body_data b
body_bare (means f) = refl
body_bare (equals e) = refl

macro_bare : (m : MacroTree) → meaning.macro_of (bare_macro_tree m) ≡ bare_macro (meaning.macro_of m)
macro_bare m = λ i. record { place = 0; name = m.name.name; params = map_after meaning.param_of bare_param meaning.param_of (λ p. refl) m.params i; body = body_bare m.body i }

demand_bare : (d : DemandTree) → meaning.demand_of (bare_demand d) ≡ bare_demand_data (meaning.demand_of d)
demand_bare apart = refl
demand_bare (within rs) = ap inside (map_after meaning.range_of bare_range meaning.range_of (λ r. refl) rs)
demand_bare (plain f) = refl

rule_bare : (r : RuleTree) → meaning.rule_of (bare_rule_tree r) ≡ bare_rule (meaning.rule_of r)
rule_bare r = λ i. record { place = 0; name = r.name.name; demand = demand_bare r.demand i }

order_bare : (names : List (List ℕ)) (os : List OrderTree) → meaning.order_of names (map bare_order os) ≡ meaning.order_of names os
order_bare names [] = refl
order_bare names (o ∷ os) = map_after (meaning.position_of names) bare_name (meaning.position_of names) (λ n. refl) o.names

sides_bare : (k : ℕ) (ss : List SidesTree) → meaning.sides_of k (map bare_sides ss) ≡ meaning.sides_of k ss
sides_bare k [] = refl
sides_bare k (s ∷ ss) = map_after meaning.side_of bare_side meaning.side_of (λ x. refl) s.sides

-- statements without places mean the problem without places
pub meaning_bare : (q : Parts) → meaning.problem_of (bare_parts q) ≡ bare_problem (meaning.problem_of q)
meaning_bare q = λ i. record {
  version = count_of q.version.value;
  dims = count_of q.dims.value;
  shapes = map_after meaning.shape_of bare_shape meaning.shape_of shape_bare q.shapes i;
  objects = (ap (λ names. map (meaning.object_of names) (map bare_object q.objects)) (shape_names_bare q.shapes) ∙ map_after (meaning.object_of (shape_names q.shapes)) bare_object (meaning.object_of (shape_names q.shapes)) (object_bare (shape_names q.shapes)) q.objects) i;
  macros = map_both meaning.macro_of bare_macro_tree bare_macro meaning.macro_of macro_bare q.macros i;
  rules = map_both meaning.rule_of bare_rule_tree bare_rule meaning.rule_of rule_bare q.rules i;
  order = (ap (λ names. meaning.order_of names (map bare_order q.orders)) (object_names_bare q.objects) ∙ order_bare (object_names q.objects) q.orders) i;
  sides = sides_bare (count_of q.dims.value) q.sides i;
}
