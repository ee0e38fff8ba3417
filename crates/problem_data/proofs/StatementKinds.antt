-- Statements that are added one by one stand by their kinds.
use Rattle.std.proofs.Common.{◌≡◌, List, [], ◌∷◌, ◌++◌, sym, ◌∙◌, append_assoc}
use Rattle.std.proofs.lemmas.List.{append-nil}
use Rattle.std.specs.Prelude.{fold}
use Rattle.std.specs.List.{filter_map}
use Rattle.problem_data.specs.Tree.{StatementTree, a_shape, an_object, an_order, some_sides, a_macro, a_rule, ProblemTree}
use Rattle.problem_data.specs.Parts.{Parts, as_shape, as_object, as_order, as_sides, as_macro, as_rule, parts_of, no_statements, add_statement}

abbrev behind : Parts → List StatementTree → Parts
behind p ss = record {
  version = p.version;
  dims = p.dims;
  shapes = p.shapes ++ filter_map as_shape ss;
  objects = p.objects ++ filter_map as_object ss;
  orders = p.orders ++ filter_map as_order ss;
  sides = p.sides ++ filter_map as_sides ss;
  macros = p.macros ++ filter_map as_macro ss;
  rules = p.rules ++ filter_map as_rule ss;
}

added : (p : Parts) (s : StatementTree) (ss : List StatementTree) → behind (add_statement p s) ss ≡ behind p (s ∷ ss)
added p (a_shape s) ss = λ i. record (behind p ss) { shapes = append_assoc p.shapes (s ∷ []) (filter_map as_shape ss) i }
added p (an_object o) ss = λ i. record (behind p ss) { objects = append_assoc p.objects (o ∷ []) (filter_map as_object ss) i }
added p (an_order o) ss = λ i. record (behind p ss) { orders = append_assoc p.orders (o ∷ []) (filter_map as_order ss) i }
added p (some_sides s) ss = λ i. record (behind p ss) { sides = append_assoc p.sides (s ∷ []) (filter_map as_sides ss) i }
added p (a_macro m) ss = λ i. record (behind p ss) { macros = append_assoc p.macros (m ∷ []) (filter_map as_macro ss) i }
added p (a_rule r) ss = λ i. record (behind p ss) { rules = append_assoc p.rules (r ∷ []) (filter_map as_rule ss) i }

all_added : (p : Parts) (ss : List StatementTree) → fold add_statement p ss ≡ behind p ss
all_added p [] = λ i. record {
  version = p.version;
  dims = p.dims;
  shapes = sym (append-nil p.shapes) i;
  objects = sym (append-nil p.objects) i;
  orders = sym (append-nil p.orders) i;
  sides = sym (append-nil p.sides) i;
  macros = sym (append-nil p.macros) i;
  rules = sym (append-nil p.rules) i;
}
all_added p (s ∷ ss) = all_added (add_statement p s) ss ∙ added p s ss

pub by_kinds : (t : ProblemTree) → fold add_statement (no_statements t.version t.dims) t.statements ≡ parts_of t
by_kinds t = all_added (no_statements t.version t.dims) t.statements
