use Rattle.std.proofs.Common.{sym, subst}
use Rattle.problem_data.specs.View.{problem_view}
use Rattle.problem_data.specs.Parts.{Parts}
use Rattle.problem_text.specs.FirstFault.{AnswersParts}
use Rattle.problem_text.proofs.Answered.{Answer, not_spelled, answered, passed}
use Rattle.problem_text.proofs.read.read_listed.Goals as goal

pub read_parts-requires : goal.read_parts-requires
read_parts-requires c = record {
  text = c.args.text.now;
  tree = problem_view c.in_ok-said.said;
  says = record { short = c.requires.short; list = c.args.list.now; tokens = c.requires.tokens; spells = c.in_ok-said.ensures.answer };
  are = sym c.in_ok-parts.ensures;
}

pub returns-in_err-said-clause-answer : goal.returns-in_err-said-clause-answer
returns-in_err-said-clause-answer c =
    (passed c.args.text.now c.from_residual.result c.in_err-said.field-0.0 c.from_residual.ensures.1
    (not_spelled c.args.text.now c.requires.short c.args.list.now c.requires.tokens c.requires.one c.requires.right c.in_err-said.field-0.0 c.in_err-said.ensures.answer c.in_err-said.ensures.only)).answer

pub returns-in_err-said-clause-only : goal.returns-in_err-said-clause-only
returns-in_err-said-clause-only c =
    (passed c.args.text.now c.from_residual.result c.in_err-said.field-0.0 c.from_residual.ensures.1
    (not_spelled c.args.text.now c.requires.short c.args.list.now c.requires.tokens c.requires.one c.requires.right c.in_err-said.field-0.0 c.in_err-said.ensures.answer c.in_err-said.ensures.only)).only

pub returns : goal.returns
returns c =
    let a : Answer c.read_parts.result c.args.text.now =
    answered c.args.text.now c.requires.short c.args.list.now c.requires.tokens c.requires.one c.requires.right (problem_view c.in_ok-said.said) c.in_ok-said.ensures.answer c.in_ok-said.ensures.only.0 c.in_ok-said.ensures.only.1 c.read_parts.result
    (subst (λ (p : Parts). AnswersParts c.read_parts.result p) c.in_ok-parts.ensures c.read_parts.ensures) in
    record { answer = a.answer; only = a.only }
