-- The statements of a text of a problem by their kinds, and that they mean the problem, places
-- aside.
use Rattle.std.proofs.Common.{◌≡◌, ℕ, List, [], ◌∷◌, ◌++◌, map, length, Option, Some, None, Bool, true, false, refl, ap, ◌∙◌}
use Rattle.std.specs.Prelude.{pos, is_some, replicate, if◌then◌else◌}
use Rattle.std.specs.List.{filter_map, cons_option, list_any, range_with_len, position_or_len}
use Rattle.std.specs.Str.{bytes_eq}
use Rattle.std.proofs.lemmas.List.{append-nil}
use Rattle.rule_print.specs.Canonical.{Written}
use Rattle.problem_data.specs.declared.tree.Side.{Side}
use Rattle.problem_data.specs.declared.tree.Side.TheVariants.{Low}
use Rattle.problem_data.specs.Tree.{ShapeTree, ObjectTree, OrderTree, SidesTree, MacroTree, RuleTree, StatementTree}
use Rattle.problem_data.specs.Parts.{Parts, parts_of, as_shape, as_object, as_order, as_sides, as_macro, as_rule}
use Rattle.problem_data.specs.Faults.{shape_names, object_names}
use Rattle.problem_data.specs.Meaning as meaning
use Rattle.problem_data.specs.Problem.{BoxData, ShapeData, RangeData, ObjectData, MacroData, DemandData, apart, within, plain, RuleData, ProblemData, runs_down}
use Rattle.problem_text.specs.Canonical.{name_at, counts_from, needs_order, needs_sides, MayState, shape_spelling, object_spelling, macro_spelling, rule_spelling, order_spelling, sides_spelling}
use Rattle.problem_text.specs.Canonical as canonical
use Rattle.problem_text.specs.ReadBack.{bare_macro, bare_demand, bare_rule, bare_problem}
use Rattle.problem_text.proofs.PrintingParts.{absent_of, int_of, name_of, range_of, pieces_of, box_of, attribute_of, param_of, side_of, demand_of, bare_body}
use Rattle.problem_text.proofs.PrintingStatements.{shape_of, object_of, order_of, sides_of, macro_of, rule_of}
use Rattle.problem_text.proofs.PrintingProblem.{Line, line_where, ways, all_statements, tree_of}
use Rattle.problem_text.proofs.BareParts.{map_back, map_after, body_bare}

-- ---- the trees of data

abbrev pub shape_tree_of : ShapeData → ShapeTree
shape_tree_of s = record { name = name_of s.name; boxes = map box_of s.boxes }

abbrev pub object_tree_of : List (List ℕ) → ObjectData → ObjectTree
object_tree_of names o = record { name = name_of o.name; shapes = map (λ i. name_of (name_at names i)) o.shapes; absent = absent_of o.may_be_absent; pieces = map pieces_of o.pieces; attributes = map attribute_of o.attributes }

abbrev pub order_tree_of : List (List ℕ) → List ℕ → OrderTree
order_tree_of names order = record { place = 0; names = map (λ i. name_of (name_at names i)) order }

abbrev pub sides_tree_of : List Side → SidesTree
sides_tree_of sides = record { place = 0; sides = map side_of sides }

abbrev pub macro_tree_of : MacroData → MacroTree
macro_tree_of m = record { name = name_of m.name; params = map param_of m.params; body = bare_body m.body }

abbrev pub rule_tree_of : RuleData → RuleTree
rule_tree_of r = record { name = name_of r.name; demand = demand_of r.demand }

abbrev pub one_if : {A : Type 0} → Bool → A → List A
one_if needed a = if needed then a ∷ [] else []

-- the statements where the search order is stated or not, and the sides are stated or not
abbrev pub stated_parts : (with_order with_sides : Bool) → ProblemData → Parts
stated_parts with_order with_sides p = record {
  version = int_of (pos p.version);
  dims = int_of (pos p.dims);
  shapes = map shape_tree_of p.shapes;
  objects = map (object_tree_of (canonical.shape_names p)) p.objects;
  orders = one_if with_order (order_tree_of (canonical.object_names p) p.order);
  sides = one_if with_sides (sides_tree_of p.sides);
  macros = map macro_tree_of p.macros;
  rules = map rule_tree_of p.rules;
}

-- the statements of the canonical text
abbrev pub canonical_parts : ProblemData → Parts
canonical_parts p = stated_parts (needs_order p) (needs_sides p) p

-- ---- which statements there are

cons_both : {B : Type 0} (o : Option B) (us vs : List B) → cons_option o (us ++ vs) ≡ cons_option o us ++ vs
cons_both None us vs = refl
cons_both (Some b) us vs = refl

module _ {B : Type 0} (pick : StatementTree → Option B) where
  abbrev picks : List Line → List B
  picks ls = filter_map pick (map (λ l. l.0) ls)

  picks_both : (xs ys : List Line) → picks (xs ++ ys) ≡ picks xs ++ picks ys
  picks_both [] ys = refl
  picks_both (x ∷ xs) ys = ap (λ us. cons_option (pick x.0) us) (picks_both xs ys) ∙ cons_both (pick x.0) (picks xs) (picks ys)

  picks_none : {A : Type 0} (f : A → StatementTree) (s : A → List Written) → ((x : A) → pick (f x) ≡ None) → (xs : List A) → picks (map (λ x. (f x, s x)) xs) ≡ []
  picks_none f s e [] = refl
  picks_none f s e (x ∷ xs) = ap (λ o. cons_option o (picks (map (λ y. (f y, s y)) xs))) (e x) ∙ picks_none f s e xs

  picks_all : {A : Type 0} (f : A → StatementTree) (s : A → List Written) (g : A → B) → ((x : A) → pick (f x) ≡ Some (g x)) → (xs : List A) → picks (map (λ x. (f x, s x)) xs) ≡ map g xs
  picks_all f s g e [] = refl
  picks_all f s g e (x ∷ xs) = ap (λ o. cons_option o (picks (map (λ y. (f y, s y)) xs))) (e x) ∙ ap (λ us. g x ∷ us) (picks_all f s g e xs)

  where_none : (needed : Bool) (l : Line) → pick l.0 ≡ None → picks (line_where needed l) ≡ []
  where_none true l e = ap (λ o. cons_option o []) e
  where_none false l e = refl

  where_one : (needed : Bool) (l : Line) (b : B) → pick l.0 ≡ Some b → picks (line_where needed l) ≡ one_if needed b
  where_one true l b e = ap (λ o. cons_option o []) e
  where_one false l b e = refl

module _ (with_order with_sides : Bool) (p : ProblemData) where
  abbrev shapes : List Line
  shapes = map (λ s. (shape_of s, shape_spelling s)) p.shapes

  abbrev objects : List Line
  objects = map (λ o. (object_of (canonical.shape_names p) o, object_spelling (canonical.shape_names p) o)) p.objects

  abbrev macros : List Line
  macros = map (λ m. (macro_of m, macro_spelling m)) p.macros

  abbrev an_order_line : List Line
  an_order_line = line_where with_order (order_of (canonical.object_names p) p.order, order_spelling (canonical.object_names p) p.order)

  abbrev sides_line : List Line
  sides_line = line_where with_sides (sides_of p.sides, sides_spelling p.sides)

  abbrev rules : List Line
  rules = map (λ r. (rule_of r, rule_spelling r)) p.rules

  split_picks : {B : Type 0} (pick : StatementTree → Option B) → picks pick (all_statements with_order with_sides p) ≡ picks pick shapes ++ (picks pick objects ++ (picks pick macros ++ ((picks pick an_order_line ++ picks pick sides_line) ++ picks pick rules)))
  split_picks pick =
      picks_both pick shapes (objects ++ (macros ++ (ways with_order with_sides p ++ rules))) ∙ (λ i. picks pick shapes ++ (picks_both pick objects (macros ++ (ways with_order with_sides p ++ rules)) ∙ (λ j. picks pick objects ++ (picks_both pick macros (ways with_order with_sides p ++ rules)
      ∙ (λ k. picks pick macros ++ (picks_both pick (ways with_order with_sides p) rules ∙ (λ l. picks_both pick an_order_line sides_line l ++ picks pick rules)) k)) j)) i)

  module _ {B : Type 0} (pick : StatementTree → Option B) where
    no_shapes : ((s : ShapeData) → pick (shape_of s) ≡ None) → picks pick shapes ≡ []
    no_shapes e = picks_none pick shape_of shape_spelling e p.shapes

    no_objects : ((o : ObjectData) → pick (object_of (canonical.shape_names p) o) ≡ None) → picks pick objects ≡ []
    no_objects e = picks_none pick (object_of (canonical.shape_names p)) (object_spelling (canonical.shape_names p)) e p.objects

    no_macros : ((m : MacroData) → pick (macro_of m) ≡ None) → picks pick macros ≡ []
    no_macros e = picks_none pick macro_of macro_spelling e p.macros

    no_rules : ((r : RuleData) → pick (rule_of r) ≡ None) → picks pick rules ≡ []
    no_rules e = picks_none pick rule_of rule_spelling e p.rules

    no_order : pick (order_of (canonical.object_names p) p.order) ≡ None → picks pick an_order_line ≡ []
    no_order e = where_none pick with_order (order_of (canonical.object_names p) p.order, order_spelling (canonical.object_names p) p.order) e

    no_sides : pick (sides_of p.sides) ≡ None → picks pick sides_line ≡ []
    no_sides e = where_none pick with_sides (sides_of p.sides, sides_spelling p.sides) e

  shapes_there : picks as_shape (all_statements with_order with_sides p) ≡ map shape_tree_of p.shapes
  shapes_there =
      split_picks as_shape
      ∙ (λ i. picks_all as_shape shape_of shape_spelling shape_tree_of (λ s. refl) p.shapes i ++ (no_objects as_shape (λ o. refl) i ++ (no_macros as_shape (λ m. refl) i ++ ((no_order as_shape refl i ++ no_sides as_shape refl i) ++ no_rules as_shape (λ r. refl) i))))
      ∙ append-nil (map shape_tree_of p.shapes)

  objects_there : picks as_object (all_statements with_order with_sides p) ≡ map (object_tree_of (canonical.shape_names p)) p.objects
  objects_there =
      split_picks as_object
      ∙ (λ i. no_shapes as_object (λ s. refl) i ++ (picks_all as_object (object_of (canonical.shape_names p)) (object_spelling (canonical.shape_names p)) (object_tree_of (canonical.shape_names p)) (λ o. refl) p.objects i
      ++ (no_macros as_object (λ m. refl) i ++ ((no_order as_object refl i ++ no_sides as_object refl i) ++ no_rules as_object (λ r. refl) i))))
      ∙ append-nil (map (object_tree_of (canonical.shape_names p)) p.objects)

  macros_there : picks as_macro (all_statements with_order with_sides p) ≡ map macro_tree_of p.macros
  macros_there =
      split_picks as_macro
      ∙ (λ i. no_shapes as_macro (λ s. refl) i ++ (no_objects as_macro (λ o. refl) i ++ (picks_all as_macro macro_of macro_spelling macro_tree_of (λ m. refl) p.macros i ++ ((no_order as_macro refl i ++ no_sides as_macro refl i) ++ no_rules as_macro (λ r. refl) i))))
      ∙ append-nil (map macro_tree_of p.macros)

  orders_there : picks as_order (all_statements with_order with_sides p) ≡ one_if with_order (order_tree_of (canonical.object_names p) p.order)
  orders_there =
      let one = one_if with_order (order_tree_of (canonical.object_names p) p.order) in
      split_picks as_order
      ∙ (λ i. no_shapes as_order (λ s. refl) i ++ (no_objects as_order (λ o. refl) i ++ (no_macros as_order (λ m. refl) i
      ++ ((where_one as_order with_order (order_of (canonical.object_names p) p.order, order_spelling (canonical.object_names p) p.order) (order_tree_of (canonical.object_names p) p.order) refl i ++ no_sides as_order refl i) ++ no_rules as_order (λ r. refl) i))))
      ∙ append-nil (one ++ []) ∙ append-nil one

  sides_there : picks as_sides (all_statements with_order with_sides p) ≡ one_if with_sides (sides_tree_of p.sides)
  sides_there =
      split_picks as_sides
      ∙ (λ i. no_shapes as_sides (λ s. refl) i ++ (no_objects as_sides (λ o. refl) i ++ (no_macros as_sides (λ m. refl) i
      ++ ((no_order as_sides refl i ++ where_one as_sides with_sides (sides_of p.sides, sides_spelling p.sides) (sides_tree_of p.sides) refl i) ++ no_rules as_sides (λ r. refl) i))))
      ∙ append-nil (one_if with_sides (sides_tree_of p.sides))

  rules_there : picks as_rule (all_statements with_order with_sides p) ≡ map rule_tree_of p.rules
  rules_there =
      split_picks as_rule
      ∙ (λ i. no_shapes as_rule (λ s. refl) i ++ (no_objects as_rule (λ o. refl) i ++ (no_macros as_rule (λ m. refl) i ++ ((no_order as_rule refl i ++ no_sides as_rule refl i) ++ picks_all as_rule rule_of rule_spelling rule_tree_of (λ r. refl) p.rules i))))

-- the statements of the text
pub parts_stated : (with_order with_sides : Bool) (p : ProblemData) → parts_of (tree_of with_order with_sides p) ≡ stated_parts with_order with_sides p
parts_stated with_order with_sides p = λ i. record {
  version = int_of (pos p.version);
  dims = int_of (pos p.dims);
  shapes = shapes_there with_order with_sides p i;
  objects = objects_there with_order with_sides p i;
  orders = orders_there with_order with_sides p i;
  sides = sides_there with_order with_sides p i;
  macros = macros_there with_order with_sides p i;
  rules = rules_there with_order with_sides p i;
}

-- ---- what they mean

-- the position of the name at this position
abbrev pub IsPosition : List (List ℕ) → ℕ → Type 0
IsPosition names i = position_or_len (bytes_eq (name_at names i)) names ≡ i

abbrev pub ArePositions : List (List ℕ) → List ℕ → Type 0
ArePositions names [] = Unit {0}
ArePositions names (i ∷ others) = IsPosition names i × ArePositions names others

abbrev pub HavePositions : List (List ℕ) → List ObjectData → Type 0
HavePositions names [] = Unit {0}
HavePositions names (o ∷ others) = ArePositions names o.shapes × HavePositions names others

-- What is true of a problem that a text says: positions of shapes and objects are the first ones of
-- their names, an order that counts is file order, and sides without a high one are low in each
-- dimension.
pub record IsConsistent (p : ProblemData) : Type 0 where
  pub shapes : HavePositions (canonical.shape_names p) p.objects
  pub order : ArePositions (canonical.object_names p) p.order
  pub file_order : counts_from 0 p.order ≡ true → range_with_len 0 (length (canonical.object_names p)) ≡ p.order
  pub low_sides : list_any runs_down p.sides ≡ false → replicate p.dims Low ≡ p.sides

shape_names_back : (ss : List ShapeData) → shape_names (map shape_tree_of ss) ≡ map (λ (s : ShapeData). s.name) ss
shape_names_back [] = refl
shape_names_back (s ∷ ss) = ap (λ us. s.name ∷ us) (shape_names_back ss)

object_names_back : (names : List (List ℕ)) (os : List ObjectData) → object_names (map (object_tree_of names) os) ≡ map (λ (o : ObjectData). o.name) os
object_names_back names [] = refl
object_names_back names (o ∷ os) = ap (λ us. o.name ∷ us) (object_names_back names os)

box_back : (b : BoxData) → meaning.box_of (box_of b) ≡ b
box_back b = λ i. record { offsets = map_back meaning.number_of int_of (λ v. refl) b.offsets i; sizes = map_back meaning.number_of int_of (λ v. refl) b.sizes i }

shape_back : (s : ShapeData) → meaning.shape_of (shape_tree_of s) ≡ s
shape_back s = λ i. record { name = s.name; boxes = map_back meaning.box_of box_of box_back s.boxes i }

positions_back : (names : List (List ℕ)) (js : List ℕ) → ArePositions names js → map (meaning.position_of names) (map (λ i. name_of (name_at names i)) js) ≡ js
positions_back names [] h = refl
positions_back names (j ∷ js) h = λ i. h.0 i ∷ positions_back names js h.1 i

pieces_back : (rs : List RangeData) → meaning.pieces_of (pieces_of rs) ≡ rs
pieces_back rs = map_back meaning.range_of range_of (λ r. refl) rs

absent_back : (b : Bool) → is_some (absent_of b) ≡ b
absent_back true = refl
absent_back false = refl

object_back : (names : List (List ℕ)) (o : ObjectData) → ArePositions names o.shapes → meaning.object_of names (object_tree_of names o) ≡ o
object_back names o h = λ i. record {
  name = o.name;
  shapes = positions_back names o.shapes h i;
  may_be_absent = absent_back o.may_be_absent i;
  pieces = map_back meaning.pieces_of pieces_of pieces_back o.pieces i;
  attributes = map_back meaning.attribute_of attribute_of (λ a. refl) o.attributes i;
}

objects_back : (names : List (List ℕ)) (os : List ObjectData) → HavePositions names os → map (meaning.object_of names) (map (object_tree_of names) os) ≡ os
objects_back names [] h = refl
objects_back names (o ∷ os) h = λ i. object_back names o h.0 i ∷ objects_back names os h.1 i

macro_back : (m : MacroData) → meaning.macro_of (macro_tree_of m) ≡ bare_macro m
macro_back m = λ i. record { place = 0; name = m.name; params = map_back meaning.param_of param_of (λ q. refl) m.params i; body = body_bare m.body i }

demand_back : (d : DemandData) → meaning.demand_of (demand_of d) ≡ bare_demand d
demand_back apart = refl
demand_back (within rs) = ap within (map_back meaning.range_of range_of (λ r. refl) rs)
demand_back (plain f) = refl

rule_back : (r : RuleData) → meaning.rule_of (rule_tree_of r) ≡ bare_rule r
rule_back r = λ i. record { place = 0; name = r.name; demand = demand_back r.demand i }

order_back : (b : Bool) (names : List (List ℕ)) (order : List ℕ) → ArePositions names order → (b ≡ false → range_with_len 0 (length names) ≡ order) → meaning.order_of names (one_if b (order_tree_of names order)) ≡ order
order_back true names order at file = positions_back names order at
order_back false names order at file = file refl

sides_back : (b : Bool) (k : ℕ) (sides : List Side) → (b ≡ false → replicate k Low ≡ sides) → meaning.sides_of k (one_if b (sides_tree_of sides)) ≡ sides
sides_back true k sides low = map_back meaning.side_of side_of (λ s. refl) sides
sides_back false k sides low = low refl

-- the statements of a text of a consistent problem mean it, places aside
pub stated_meaning : (with_order with_sides : Bool) (p : ProblemData) → IsConsistent p → MayState with_order with_sides p → meaning.problem_of (stated_parts with_order with_sides p) ≡ bare_problem p
stated_meaning with_order with_sides p c may = λ i. record {
  version = p.version;
  dims = p.dims;
  shapes = map_back meaning.shape_of shape_tree_of shape_back p.shapes i;
  objects = (ap (λ names. map (meaning.object_of names) (map (object_tree_of (canonical.shape_names p)) p.objects)) (shape_names_back p.shapes) ∙ objects_back (canonical.shape_names p) p.objects c.shapes) i;
  macros = map_after meaning.macro_of macro_tree_of bare_macro macro_back p.macros i;
  rules = map_after meaning.rule_of rule_tree_of bare_rule rule_back p.rules i;
  order = (ap (λ names. meaning.order_of names (one_if with_order (order_tree_of (canonical.object_names p) p.order))) (object_names_back (canonical.shape_names p) p.objects)
      ∙ order_back with_order (canonical.object_names p) p.order c.order (λ e. c.file_order (may.file_order e))) i;
  sides = sides_back with_sides p.dims p.sides (λ e. c.low_sides (may.low_sides e)) i;
}
