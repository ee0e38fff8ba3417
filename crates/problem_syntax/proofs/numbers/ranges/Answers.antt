use Rattle.std.proofs.Common.{[], ◌<◌, length, sym, ◌∙◌, arith, refl}
use Rattle.geo_tokens.proofs.Followed.{one_shorter, one_more_alone}
use Rattle.problem_data.specs.Marks.{int_firsts}
use Rattle.problem_data.specs.Grammar.{RangeWords}
use Rattle.problem_syntax.specs.Reading.{range_at, ranges_at}
use Rattle.problem_syntax.proofs.Right.{range_good}
use Rattle.problem_syntax.proofs.numbers.ranges.Goals as goal

pub items-smaller : goal.items-smaller
items-smaller c =
    let lt : length c.in_ok-rest-2.rest.now < length c.items.rest.now = one_shorter RangeWords range_at int_firsts [] range_good refl
    (λ a. a) c.range-in-items.result c.items.read.items c.add-in-items.new.items.items c.items.rest.now c.in_ok-rest-2.rest c.in_ok-rest-2.ensures c.range-in-items.ensures in
    omega arith

pub items-preserved : goal.items-preserved
items-preserved c =
    one_more_alone RangeWords range_at int_firsts [] range_good refl
    c.range-in-items.result c.items.read.items c.add-in-items.new.items.items c.items.rest.now c.in_ok-rest-2.rest (ranges_at c.args.tokens.now)
    (sym c.begins_int.ensures ∙ c.items-test.true) c.in_ok-rest-2.ensures c.range-in-items.ensures c.items.invariant
