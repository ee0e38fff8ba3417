use Rattle.std.proofs.Common.{[], ◌<◌, length, sym, ◌∙◌, arith, refl}
use Rattle.geo_tokens.specs.declared.token.Sym.TheVariants as symbols
use Rattle.geo_tokens.specs.Words.{symbol, Bind, Tok}
use Rattle.geo_tokens.proofs.Followed.{one_shorter, one_more_alone}
use Rattle.problem_data.specs.Grammar.{ParamWords}
use Rattle.problem_syntax.specs.Reading.{param_at, next_at, param_list_at}
use Rattle.problem_syntax.proofs.Right.{next_param_good}
use Rattle.problem_syntax.proofs.rules.param_list.Goals as goal

pub items-smaller : goal.items-smaller
items-smaller c =
    let lt : length c.in_ok-rest-2.rest.now < length c.items.rest.now = one_shorter (Bind (Tok (symbol symbols.Comma)) (λ mark. ParamWords c.args.text.now)) (next_at (param_at c.args.text.now)) (symbol symbols.Comma) [] (next_param_good c.args.text.now) refl
    (λ a. a) c.next_param.result c.items.read.items c.add-in-items.new.items.items c.items.rest.now c.in_ok-rest-2.rest c.in_ok-rest-2.ensures c.next_param.ensures in
    omega arith

pub items-preserved : goal.items-preserved
items-preserved c =
    one_more_alone (Bind (Tok (symbol symbols.Comma)) (λ mark. ParamWords c.args.text.now)) (next_at (param_at c.args.text.now)) (symbol symbols.Comma) [] (next_param_good c.args.text.now) refl
    c.next_param.result c.items.read.items c.add-in-items.new.items.items c.items.rest.now c.in_ok-rest-2.rest (param_list_at c.args.text.now c.args.tokens.now)
    (sym c.next_is.ensures ∙ c.items-test.true) c.in_ok-rest-2.ensures c.next_param.ensures c.items.invariant
