use Rattle.std.proofs.Common.{◌≤◌, ◌+◌, Ok, Err, arith, subst}
use Rattle.geo_tokens.specs.declared.fault.TextFault.{TextFault}
use Rattle.geo_tokens.specs.declared.fault.TextFault.TheVariants as faults
use Rattle.layout_text.specs.FirstFault.{HasFaultFrom, AnswersLayout, IsOnlyLayout}
use Rattle.layout_text.proofs.Tuples.{accepted_tuple}
use Rattle.layout_text.proofs.Answered.{shifted, shifted_only, is_within, accepted_only}
use Rattle.layout_text.proofs.ReadBack.{printed}
use Rattle.layout_text.proofs.read.read_layout.Goals as goal

pub overflow_add-result : goal.overflow_add-result
overflow_add-result c =
    let h : HasFaultFrom c.args.problem.now c.args.text.now 0 c.in-Err-At.place c.in-Err-At.word = subst (λ (f : TextFault). AnswersLayout (Err f) c.args.problem.now c.args.text.now 0) c.in-Err-At.field-0-is c.in-Err-At.ensures.answer in
    let i : c.in-Err-At.place ≤ 1048576 = is_within c.args.problem.now c.args.text.now c.args.from c.in-Err-At.place c.in-Err-At.word h in
    omega (arith, c.requires)

pub returns-in-Err-At-clause-answer : goal.returns-in-Err-At-clause-answer
returns-in-Err-At-clause-answer c =
    shifted c.args.problem.now c.args.text.now c.args.from c.in-Err-At.place c.in-Err-At.word (subst (λ (f : TextFault). AnswersLayout (Err f) c.args.problem.now c.args.text.now 0) c.in-Err-At.field-0-is c.in-Err-At.ensures.answer)

pub returns-in-Err-At-clause-only : goal.returns-in-Err-At-clause-only
returns-in-Err-At-clause-only c =
    shifted_only c.args.problem.now c.args.text.now c.args.from c.in-Err-At.place c.in-Err-At.word (subst (λ (f : TextFault). IsOnlyLayout (Err f) c.args.problem.now c.args.text.now 0) c.in-Err-At.field-0-is c.in-Err-At.ensures.only)

pub returns-in-Ok-clause-only : goal.returns-in-Ok-clause-only
returns-in-Ok-clause-only c = accepted_only c.args.problem.now c.args.text.now c.args.from c.in-Ok.layout c.in-Ok.ensures.only

pub returns-in-Ok-clause-tuple : goal.returns-in-Ok-clause-tuple
returns-in-Ok-clause-tuple c = accepted_tuple c.args.problem.now c.args.text.now c.in-Ok.layout c.is_said.ensures.formed c.in-Ok.ensures.answer

pub returns-in-Ok-clause-printed : goal.returns-in-Ok-clause-printed
returns-in-Ok-clause-printed c =
    printed c.args.problem.now c.is_said.ensures.formed c.is_said.ensures.said c.args.text.now c.args.from (Ok c.in-Ok.layout) (accepted_only c.args.problem.now c.args.text.now c.args.from c.in-Ok.layout c.in-Ok.ensures.only)

pub returns-in-Err-At-clause-printed : goal.returns-in-Err-At-clause-printed
returns-in-Err-At-clause-printed c =
    printed c.args.problem.now c.is_said.ensures.formed c.is_said.ensures.said c.args.text.now c.args.from (Err (faults.At (c.args.from + c.in-Err-At.place) c.in-Err-At.word))
    (shifted_only c.args.problem.now c.args.text.now c.args.from c.in-Err-At.place c.in-Err-At.word (subst (λ (f : TextFault). IsOnlyLayout (Err f) c.args.problem.now c.args.text.now 0) c.in-Err-At.field-0-is c.in-Err-At.ensures.only))
