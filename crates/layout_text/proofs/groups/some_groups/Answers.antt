use Rattle.std.proofs.Common.{◌<◌, length, sym, ◌∙◌, arith, refl}
use Rattle.geo_tokens.specs.declared.token.Sym.TheVariants.{Comma, Slash}
use Rattle.geo_tokens.specs.Words.{symbol, Bind, Tok}
use Rattle.geo_tokens.proofs.Followed.{one_shorter, one_more}
use Rattle.layout_text.specs.Grammar.{GroupWords}
use Rattle.layout_text.specs.Reading.{next_group_at, some_groups_at}
use Rattle.layout_text.specs.View.{group_view}
use Rattle.layout_text.proofs.Right.{next_group_good}
use Rattle.layout_text.proofs.groups.some_groups.Goals as goal

pub items-smaller : goal.items-smaller
items-smaller c =
    let lt : length c.in_ok-rest-2.rest.now < length c.items.rest.now = one_shorter (Bind (Tok (symbol Slash)) (λ s. GroupWords)) next_group_at (symbol Slash) (symbol Comma) next_group_good refl
    group_view c.next_group.result c.items.read.items c.add-in-items.new.items.items c.items.rest.now c.in_ok-rest-2.rest c.in_ok-rest-2.ensures c.next_group.ensures in
    omega arith

pub items-preserved : goal.items-preserved
items-preserved c =
    one_more (Bind (Tok (symbol Slash)) (λ s. GroupWords)) next_group_at (symbol Slash) (symbol Comma) next_group_good refl
    group_view c.next_group.result c.items.read.items c.add-in-items.new.items.items c.items.rest.now c.in_ok-rest-2.rest (some_groups_at c.args.tokens.now)
    (sym c.next_is.ensures ∙ c.items-test.true) c.in_ok-rest-2.ensures c.next_group.ensures c.items.invariant
