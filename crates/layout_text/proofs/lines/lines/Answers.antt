use Rattle.std.proofs.Common.{◌<◌, length, sym, ◌∙◌, arith, refl}
use Rattle.geo_tokens.specs.Words.{names}
use Rattle.geo_tokens.specs.Reading.{many_at}
use Rattle.geo_tokens.proofs.Followed.{one_shorter, one_more}
use Rattle.problem_data.specs.Marks.{int_firsts}
use Rattle.layout_text.specs.Grammar.{LineWords}
use Rattle.layout_text.specs.Reading.{line_at}
use Rattle.layout_text.specs.View.{line_view}
use Rattle.layout_text.proofs.Right.{line_good}
use Rattle.layout_text.proofs.lines.lines.Goals as goal

pub items-smaller : goal.items-smaller
items-smaller c =
    let lt : length c.in_ok-rest.rest.now < length c.items.rest.now = one_shorter (LineWords c.args.text.now) (line_at c.args.text.now) names int_firsts (line_good c.args.text.now) refl
    line_view c.line.result c.items.read.items c.add.new.items.items c.items.rest.now c.in_ok-rest.rest c.in_ok-rest.ensures c.line.ensures in
    omega arith

pub items-preserved : goal.items-preserved
items-preserved c =
    one_more (LineWords c.args.text.now) (line_at c.args.text.now) names int_firsts (line_good c.args.text.now) refl
    line_view c.line.result c.items.read.items c.add.new.items.items c.items.rest.now c.in_ok-rest.rest (many_at names (line_at c.args.text.now) c.args.tokens.now)
    (sym c.next_is.ensures ∙ c.items-test.true) c.in_ok-rest.ensures c.line.ensures c.items.invariant
