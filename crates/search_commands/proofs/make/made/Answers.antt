use Rattle.std.proofs.Common.{◌∙◌, Err, List, ℕ, subst}
use Rattle.std.proofs.lemmas.Result.{IfOk-weaker}
use Rattle.geo_tokens.specs.declared.fault.TextFault.{TextFault}
use Rattle.geo_tokens.specs.declared.fault.TextFault.TheVariants as faults
use Rattle.problem_generator.specs.Made.{made_text}
use Rattle.command_reply.specs.Accepted.{AnswersAccepted, HasRead, IsRefused}
use Rattle.search_commands.proofs.Found.{made_not_refused}
use Rattle.search_commands.proofs.make.made.Goals as goal

pub returns-in-Ok : goal.returns-in-Ok
returns-in-Ok c =
    let same = c.deref.ensures.value ∙ c.in_ok-text.ensures in
    let read : HasRead (made_text c.args.seed) c.in-Ok.accepted = subst (λ (t : List ℕ). HasRead t c.in-Ok.accepted) same c.in-Ok.ensures in
    let rack = c.made_problems_are_accepted.ensures.each c.in-Ok.accepted.problem read.accepted.spells in
    IfOk-weaker c.summed.result _ _ (λ r f input. f c.args.seed input read rack) c.summed.ensures

pub unreachable-requires : goal.unreachable-requires
unreachable-requires c =
    let same = c.deref.ensures.value ∙ c.in_ok-text.ensures in
    let answered : AnswersAccepted (Err c.in-Err-At.field-0) (made_text c.args.seed) = subst (λ (t : List ℕ). AnswersAccepted (Err c.in-Err-At.field-0) t) same c.in-Err-At.ensures in
    let refused : IsRefused (made_text c.args.seed) c.in-Err-At._place c.in-Err-At._word = subst (λ (f : TextFault). AnswersAccepted (Err f) (made_text c.args.seed)) c.in-Err-At.field-0-is answered in
    made_not_refused c.args.seed c.in-Err-At._place c.in-Err-At._word c.made_problems_are_accepted.ensures.accepted c.made_problems_are_accepted.ensures.each refused
