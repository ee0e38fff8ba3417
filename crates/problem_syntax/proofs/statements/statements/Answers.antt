use Rattle.std.proofs.Common.{[], ◌<◌, length, sym, ◌∙◌, arith, refl}
use Rattle.geo_tokens.specs.Reading.{many_at}
use Rattle.geo_tokens.proofs.Followed.{one_shorter, one_more}
use Rattle.problem_data.specs.Marks.{statement_firsts}
use Rattle.problem_data.specs.Grammar.{StatementWords}
use Rattle.problem_syntax.specs.Reading.{statement_at}
use Rattle.problem_data.specs.View.{statement_view}
use Rattle.problem_syntax.proofs.Right.{statement_good}
use Rattle.problem_syntax.proofs.statements.statements.Goals as goal

pub items-smaller : goal.items-smaller
items-smaller c =
    let lt : length c.in_ok-rest.rest.now < length c.items.rest.now = one_shorter (StatementWords c.args.text.now c.args.levels c.args.second) (statement_at c.args.text.now c.args.levels c.args.second) statement_firsts [] (statement_good c.args.text.now c.args.levels c.args.second) refl
    statement_view c.statement-one.result c.items.read.items c.add.new.items.items c.items.rest.now c.in_ok-rest.rest c.in_ok-rest.ensures c.statement-one.ensures in
    omega arith

pub items-preserved : goal.items-preserved
items-preserved c =
    one_more (StatementWords c.args.text.now c.args.levels c.args.second) (statement_at c.args.text.now c.args.levels c.args.second) statement_firsts [] (statement_good c.args.text.now c.args.levels c.args.second) refl
    statement_view c.statement-one.result c.items.read.items c.add.new.items.items c.items.rest.now c.in_ok-rest.rest (many_at statement_firsts (statement_at c.args.text.now c.args.levels c.args.second) c.args.tokens.now)
    (sym c.begins_statement.ensures ∙ c.items-test.true) c.in_ok-rest.ensures c.statement-one.ensures c.items.invariant
