use Rattle.std.proofs.Common.{◌∙◌}
use Rattle.std.specs.Vec.Iter.{into_iter_items}
use Rattle.problem_data.specs.View.{statement_view, problem_view}
use Rattle.problem_data.specs.Parts.{parts_view, add_statement}
use Rattle.problem_data.proofs.Taken.{fewer, none_left, folded, folded_all}
use Rattle.problem_data.proofs.StatementKinds.{by_kinds}
use Rattle.problem_data.proofs.parts.by_kind.Goals as goal

pub loop-statement-preserved : goal.loop-statement-preserved
loop-statement-preserved c = record {
  count = fewer (into_iter_items c.loop-statement.statement-iterator) (into_iter_items c.next.new.self) c.in-Some.statement _ _ c.in-Some.ensures.steps.0 c.in-Some.ensures.steps.1 c.loop-statement.invariant.count;
  left = folded add_statement statement_view (parts_view c.loop-statement.parts) (parts_view c.add.new.self) c.in-Some.statement (into_iter_items c.loop-statement.statement-iterator) (into_iter_items c.next.new.self) _ c.in-Some.ensures.steps.0 c.in_ok-add.ensures c.loop-statement.invariant.left;
}

pub returns : goal.returns
returns c =
    folded_all add_statement statement_view (parts_view c.loop-statement.parts) (into_iter_items c.loop-statement.statement-iterator) _
    (none_left (into_iter_items c.loop-statement.statement-iterator) _ c.loop-statement.invariant.count c.in-None.ensures.steps.0) c.loop-statement.invariant.left ∙ by_kinds (problem_view c.args.said)
