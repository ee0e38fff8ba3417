use Rattle.std.proofs.Common.{[], ◌<◌, length, sym, ◌∙◌, arith, refl}
use Rattle.geo_tokens.specs.declared.token.Sym.TheVariants.{Comma}
use Rattle.geo_tokens.specs.Words.{symbol, Bind, Tok}
use Rattle.geo_tokens.specs.Reading.{many_at}
use Rattle.geo_tokens.proofs.Followed.{one_shorter, one_more_alone}
use Rattle.problem_data.specs.Grammar.{IntWords}
use Rattle.problem_syntax.specs.Reading.{next_at, int_at}
use Rattle.layout_text.proofs.Right.{next_int_good}
use Rattle.layout_text.proofs.groups.later_numbers.Goals as goal

pub items-smaller : goal.items-smaller
items-smaller c =
    let lt : length c.in_ok-rest.rest.now < length c.items.rest.now = one_shorter (Bind (Tok (symbol Comma)) (λ mark. IntWords)) (next_at int_at) (symbol Comma) [] next_int_good refl
    (λ a. a) c.next_number.result c.items.read.items c.add.new.items.items c.items.rest.now c.in_ok-rest.rest c.in_ok-rest.ensures c.next_number.ensures in
    omega arith

pub items-preserved : goal.items-preserved
items-preserved c =
    one_more_alone (Bind (Tok (symbol Comma)) (λ mark. IntWords)) (next_at int_at) (symbol Comma) [] next_int_good refl
    c.next_number.result c.items.read.items c.add.new.items.items c.items.rest.now c.in_ok-rest.rest (many_at (symbol Comma) (next_at int_at) c.args.tokens.now)
    (sym c.next_is.ensures ∙ c.items-test.true) c.in_ok-rest.ensures c.next_number.ensures c.items.invariant
