use Rattle.std.proofs.Common.{[], ◌<◌, length, sym, ◌∙◌, arith, refl}
use Rattle.geo_tokens.proofs.Followed.{one_shorter, one_more_alone}
use Rattle.problem_data.specs.Marks.{side_words}
use Rattle.problem_data.specs.Grammar.{SideWords}
use Rattle.problem_syntax.specs.Reading.{side_at, side_list_at}
use Rattle.problem_syntax.proofs.Right.{side_good}
use Rattle.problem_syntax.proofs.order.side_list.Goals as goal

pub items-smaller : goal.items-smaller
items-smaller c =
    let lt : length c.in_ok-rest-2.rest.now < length c.items.rest.now = one_shorter SideWords side_at side_words [] side_good refl
    (λ a. a) c.side-in-items.result c.items.read.items c.add-in-items.new.items.items c.items.rest.now c.in_ok-rest-2.rest c.in_ok-rest-2.ensures c.side-in-items.ensures in
    omega arith

pub items-preserved : goal.items-preserved
items-preserved c =
    one_more_alone SideWords side_at side_words [] side_good refl
    c.side-in-items.result c.items.read.items c.add-in-items.new.items.items c.items.rest.now c.in_ok-rest-2.rest (side_list_at c.args.tokens.now)
    (sym c.begins_side.ensures ∙ c.items-test.true) c.in_ok-rest-2.ensures c.side-in-items.ensures c.items.invariant
