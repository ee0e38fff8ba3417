use Rattle.std.proofs.Common.{sym, ◌∙◌}
use Rattle.problem_syntax.specs.Reading.{names_or_absent_at}
use Rattle.problem_syntax.proofs.MoreShapes.{one_more_shape}
use Rattle.problem_syntax.proofs.shapes.names_or_absent.Goals as goal

pub items-preserved : goal.items-preserved
items-preserved c =
    one_more_shape c.args.text.now c.next_name.result c.items.names.items c.add-in-items.new.items.items c.items.rest.now c.in_ok-rest-2.rest (names_or_absent_at c.args.text.now c.args.tokens.now)
    (sym c.next_is_name.ensures ∙ c.items-test.true) c.in_ok-rest-2.ensures c.next_name.ensures c.items.invariant
