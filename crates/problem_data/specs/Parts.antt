-- The statements of a text by their kinds, each list in file order.
use Rattle.std.specs.Prelude.{List, [], ◌∷◌, ◌++◌, Option, Some, None, map}
use Rattle.std.specs.List.{filter_map}
use Rattle.problem_data.specs.declared.tree.Int.{Int}
use Rattle.problem_data.specs.declared.parts.Parts.{Parts as PartsText}
use Rattle.problem_data.specs.Tree.{ShapeTree, ObjectTree, OrderTree, SidesTree, MacroTree, RuleTree, StatementTree, a_shape, an_object, an_order, some_sides, a_macro, a_rule, ProblemTree}
use Rattle.problem_data.specs.View.{shape_view, object_view, order_view, sides_view, macro_view, rule_view}

pub record Parts : Type 0 where
  pub version : Int
  pub dims : Int
  pub shapes : List ShapeTree
  pub objects : List ObjectTree
  pub orders : List OrderTree
  pub sides : List SidesTree
  pub macros : List MacroTree
  pub rules : List RuleTree

abbrev pub as_shape : StatementTree → Option ShapeTree
as_shape (a_shape s) = Some s
as_shape _ = None

abbrev pub as_object : StatementTree → Option ObjectTree
as_object (an_object o) = Some o
as_object _ = None

abbrev pub as_order : StatementTree → Option OrderTree
as_order (an_order o) = Some o
as_order _ = None

abbrev pub as_sides : StatementTree → Option SidesTree
as_sides (some_sides s) = Some s
as_sides _ = None

abbrev pub as_macro : StatementTree → Option MacroTree
as_macro (a_macro m) = Some m
as_macro _ = None

abbrev pub as_rule : StatementTree → Option RuleTree
as_rule (a_rule r) = Some r
as_rule _ = None

abbrev pub parts_of : ProblemTree → Parts
parts_of t = record {
  version = t.version;
  dims = t.dims;
  shapes = filter_map as_shape t.statements;
  objects = filter_map as_object t.statements;
  orders = filter_map as_order t.statements;
  sides = filter_map as_sides t.statements;
  macros = filter_map as_macro t.statements;
  rules = filter_map as_rule t.statements;
}

-- what the parts in the program stand for
abbrev pub parts_view : PartsText → Parts
parts_view p = record {
  version = p.version;
  dims = p.dims;
  shapes = map shape_view p.shapes.items;
  objects = map object_view p.objects.items;
  orders = map order_view p.orders.items;
  sides = map sides_view p.sides.items;
  macros = map macro_view p.macros.items;
  rules = map rule_view p.rules.items;
}

-- no statements, and one more
abbrev pub no_statements : Int → Int → Parts
no_statements version dims = record { version = version; dims = dims; shapes = []; objects = []; orders = []; sides = []; macros = []; rules = [] }

abbrev pub add_statement : Parts → StatementTree → Parts
add_statement p (a_shape s) = record p { shapes = p.shapes ++ s ∷ [] }
add_statement p (an_object o) = record p { objects = p.objects ++ o ∷ [] }
add_statement p (an_order o) = record p { orders = p.orders ++ o ∷ [] }
add_statement p (some_sides s) = record p { sides = p.sides ++ s ∷ [] }
add_statement p (a_macro m) = record p { macros = p.macros ++ m ∷ [] }
add_statement p (a_rule r) = record p { rules = p.rules ++ r ∷ [] }
