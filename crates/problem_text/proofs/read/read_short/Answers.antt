use Rattle.std.proofs.Common.{List, sym, ◌∙◌, subst}
use Rattle.geo_tokens.specs.declared.token.Token.{Token}
use Rattle.geo_tokens.specs.Cut.{IsTokens}
use Rattle.problem_text.proofs.Answered.{not_cut, passed}
use Rattle.problem_text.proofs.read.read_short.Goals as goal

pub returns-in_err-list-clause-only : goal.returns-in_err-list-clause-only
returns-in_err-list-clause-only c = (passed c.args.text.now c.from_residual.result c.in_err-list.field-0.0 c.from_residual.ensures.1 (not_cut c.args.text.now c.requires.short c.in_err-list.field-0.0 c.in_err-list.ensures.value c.in_err-list.ensures.only)).only

pub read_listed-requires : goal.read_listed-requires
read_listed-requires c = record {
  short = c.requires.short;
  tokens = subst (λ (us : List Token). IsTokens c.args.text.now us) (sym c.as_slice.ensures.value) c.in_ok-list.ensures.value;
  one = λ us h. c.in_ok-list.ensures.only.0 us h ∙ sym c.as_slice.ensures.value;
  right = c.in_ok-list.ensures.only.1;
}
