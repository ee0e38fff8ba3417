use Rattle.std.proofs.Common.{[], ◌<◌, length, sym, ◌∙◌, arith, refl}
use Rattle.geo_tokens.specs.declared.token.Sym.TheVariants as symbols
use Rattle.geo_tokens.specs.Words.{symbol, Bind, Tok}
use Rattle.geo_tokens.proofs.Followed.{one_shorter, one_more_alone}
use Rattle.problem_data.specs.Grammar.{RangeWords}
use Rattle.problem_syntax.specs.Reading.{next_at, listed_at, range_at}
use Rattle.problem_syntax.proofs.Right.{next_range_good}
use Rattle.problem_syntax.proofs.pieces.listed_ranges.Goals as goal

pub items-smaller : goal.items-smaller
items-smaller c =
    let lt : length c.in_ok-rest-2.rest.now < length c.items.rest.now = one_shorter (Bind (Tok (symbol symbols.Comma)) (λ mark. RangeWords)) (next_at range_at) (symbol symbols.Comma) [] next_range_good refl
    (λ a. a) c.next_range.result c.items.read.items c.add-in-items.new.items.items c.items.rest.now c.in_ok-rest-2.rest c.in_ok-rest-2.ensures c.next_range.ensures in
    omega arith

pub items-preserved : goal.items-preserved
items-preserved c =
    one_more_alone (Bind (Tok (symbol symbols.Comma)) (λ mark. RangeWords)) (next_at range_at) (symbol symbols.Comma) [] next_range_good refl
    c.next_range.result c.items.read.items c.add-in-items.new.items.items c.items.rest.now c.in_ok-rest-2.rest (listed_at range_at c.args.tokens.now)
    (sym c.next_is.ensures ∙ c.items-test.true) c.in_ok-rest-2.ensures c.next_range.ensures c.items.invariant
