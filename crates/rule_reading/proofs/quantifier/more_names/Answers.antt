use Rattle.std.proofs.Common.{[], sym, ◌∙◌, refl}
use Rattle.geo_tokens.specs.declared.token.Sym.TheVariants as syms
use Rattle.geo_tokens.specs.Words.{symbol, Bind, Tok}
use Rattle.geo_tokens.specs.Reading.{many_at}
use Rattle.geo_tokens.proofs.Followed.{one_more_alone}
use Rattle.rule_syntax.specs.Grammar.{Named}
use Rattle.rule_syntax.specs.Reading.{next_name_at}
use Rattle.rule_reading.proofs.Formulas.{next_name_good}
use Rattle.rule_reading.proofs.quantifier.more_names.Goals as goal

pub items-preserved : goal.items-preserved
items-preserved c =
    one_more_alone (Bind (Tok (symbol syms.Comma)) (λ mark. Named c.args.text.now)) (next_name_at c.args.text.now) (symbol syms.Comma) [] (next_name_good c.args.text.now) refl
    c.next_name-name.result c.items.names.items c.add.new.items.items c.items.rest.now c.in_ok-rest.rest (many_at (symbol syms.Comma) (next_name_at c.args.text.now) c.args.tokens.now)
    (sym c.next_is.ensures ∙ c.items-test.true) c.in_ok-rest.ensures c.next_name-name.ensures c.items.invariant
