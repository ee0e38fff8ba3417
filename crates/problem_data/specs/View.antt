-- What the statements in the program stand for.
use Rattle.std.specs.Prelude.{List, map, Vec}
use Rattle.std.specs.declared.alloc.Global.{Global}
use Rattle.rule_syntax.specs.View.{expr_view, formula_view}
use Rattle.problem_data.specs.declared.tree.BoxText.{BoxText}
use Rattle.problem_data.specs.declared.tree.ShapeText.{ShapeText}
use Rattle.problem_data.specs.declared.tree.RangeText.{RangeText}
use Rattle.problem_data.specs.declared.tree.PiecesText.{PiecesText}
use Rattle.problem_data.specs.declared.tree.ObjectText.{ObjectText}
use Rattle.problem_data.specs.declared.tree.OrderText.{OrderText}
use Rattle.problem_data.specs.declared.tree.SidesText.{SidesText}
use Rattle.problem_data.specs.declared.tree.MacroText.{MacroText}
use Rattle.problem_data.specs.declared.tree.MacroBody.{MacroBody}
use Rattle.problem_data.specs.declared.tree.MacroBody.TheVariants as bodies
use Rattle.problem_data.specs.declared.tree.RuleText.{RuleText}
use Rattle.problem_data.specs.declared.tree.RuleBody.{RuleBody}
use Rattle.problem_data.specs.declared.tree.RuleBody.TheVariants as demands
use Rattle.problem_data.specs.declared.tree.Statement.{Statement}
use Rattle.problem_data.specs.declared.tree.Statement.TheVariants as statements
use Rattle.problem_data.specs.declared.tree.ProblemText.{ProblemText}
use Rattle.problem_data.specs.Tree.{BoxTree, ShapeTree, ObjectTree, OrderTree, SidesTree, BodyTree, means, equals, MacroTree, DemandTree, apart, within, plain, RuleTree, StatementTree, a_shape, an_object, an_order, some_sides, a_macro, a_rule, ProblemTree}

abbrev pub box_view : BoxText → BoxTree
box_view b = record { place = b.place; offsets = b.offsets.items; sizes = b.sizes.items }

abbrev pub box_views : Vec BoxText Global → List BoxTree
box_views bs = map box_view bs.items

abbrev pub shape_view : ShapeText → ShapeTree
shape_view s = record { name = s.name; boxes = box_views s.boxes }

abbrev pub pieces_view : PiecesText → List RangeText
pieces_view p = p.ranges.items

abbrev pub pieces_views : Vec PiecesText Global → List (List RangeText)
pieces_views ps = map pieces_view ps.items

abbrev pub object_view : ObjectText → ObjectTree
object_view o = record { name = o.name; shapes = o.shapes.items; absent = o.absent; pieces = pieces_views o.pieces; attributes = o.attributes.items }

abbrev pub order_view : OrderText → OrderTree
order_view o = record { place = o.place; names = o.names.items }

abbrev pub sides_view : SidesText → SidesTree
sides_view s = record { place = s.place; sides = s.sides.items }

abbrev pub body_view : MacroBody → BodyTree
body_view (bodies.Means f) = means (formula_view f)
body_view (bodies.Is e) = equals (expr_view e)

abbrev pub macro_view : MacroText → MacroTree
macro_view m = record { name = m.name; params = m.params.items; body = body_view m.body }

abbrev pub demand_view : RuleBody → DemandTree
demand_view demands.Apart = apart
demand_view (demands.Within rs) = within rs.items
demand_view (demands.Plain f) = plain (formula_view f)

abbrev pub rule_view : RuleText → RuleTree
rule_view r = record { name = r.name; demand = demand_view r.body }

abbrev pub statement_view : Statement → StatementTree
statement_view (statements.Shape s) = a_shape (shape_view s)
statement_view (statements.Object o) = an_object (object_view o)
statement_view (statements.Order o) = an_order (order_view o)
statement_view (statements.Sides s) = some_sides (sides_view s)
statement_view (statements.Macro m) = a_macro (macro_view m)
statement_view (statements.Rule r) = a_rule (rule_view r)

abbrev pub statement_views : Vec Statement Global → List StatementTree
statement_views ss = map statement_view ss.items

abbrev pub problem_view : ProblemText → ProblemTree
problem_view p = record { version = p.version; dims = p.dims; statements = statement_views p.statements }
