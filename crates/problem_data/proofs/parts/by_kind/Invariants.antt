use Rattle.std.proofs.Common.{◌≡◌, map, length}
use Rattle.std.specs.Prelude.{fold}
use Rattle.std.specs.Vec.Iter.{into_iter_items, into_iter_len}
use Rattle.problem_data.specs.View.{statement_view}
use Rattle.problem_data.specs.Parts.{parts_view, no_statements, add_statement}
use Rattle.problem_data.proofs.parts.by_kind.Given as goal

-- the statements so far, with those that are left, are all
abbrev pub invariant-loop-statement : goal.invariant-loop-statement
invariant-loop-statement l = record {
  count : length (into_iter_items l.statement-iterator) ≡ into_iter_len l.statement-iterator;
  left : fold add_statement (parts_view l.parts) (map statement_view (into_iter_items l.statement-iterator)) ≡ fold add_statement (no_statements l.fn.said.version l.fn.said.dims) (map statement_view l.fn.said.statements.items);
}
