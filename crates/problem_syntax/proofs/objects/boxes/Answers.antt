use Rattle.std.proofs.Common.{◌<◌, length, sym, ◌∙◌, arith, refl}
use Rattle.geo_tokens.specs.declared.token.Keyword.TheVariants as keywords
use Rattle.geo_tokens.specs.Words.{word}
use Rattle.geo_tokens.proofs.Followed.{one_shorter, one_more}
use Rattle.problem_data.specs.Marks.{int_firsts}
use Rattle.problem_data.specs.Grammar.{BoxWords}
use Rattle.problem_syntax.specs.Reading.{box_at, boxes_at}
use Rattle.problem_data.specs.View.{box_view}
use Rattle.problem_syntax.proofs.Right.{box_good}
use Rattle.problem_syntax.proofs.objects.boxes.Goals as goal

pub items-smaller : goal.items-smaller
items-smaller c =
    let lt : length c.in_ok-rest-2.rest.now < length c.items.rest.now = one_shorter BoxWords box_at (word keywords.Box) int_firsts box_good refl
    box_view c.shape_box-in-items.result c.items.read.items c.add-in-items.new.items.items c.items.rest.now c.in_ok-rest-2.rest c.in_ok-rest-2.ensures c.shape_box-in-items.ensures in
    omega arith

pub items-preserved : goal.items-preserved
items-preserved c =
    one_more BoxWords box_at (word keywords.Box) int_firsts box_good refl
    box_view c.shape_box-in-items.result c.items.read.items c.add-in-items.new.items.items c.items.rest.now c.in_ok-rest-2.rest (boxes_at c.args.tokens.now)
    (sym c.next_is.ensures ∙ c.items-test.true) c.in_ok-rest-2.ensures c.shape_box-in-items.ensures c.items.invariant
