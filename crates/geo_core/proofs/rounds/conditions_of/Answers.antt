use Rattle.std.proofs.Common.{subst, Err}
use Rattle.geo_tokens.specs.declared.fault.TextFault.{TextFault}
use Rattle.rule_ground.specs.Phases.{AnswersGrounded}
use Rattle.fewer_rules.proofs.NoFault.{no_fault}
use Rattle.geo_core.proofs.rounds.conditions_of.Goals as goal

pub unreachable-requires : goal.unreachable-requires
unreachable-requires c =
    no_fault c.args.problem.now c.in-Err-At._place c.in-Err-At._word c.requires (subst (λ (f : TextFault). AnswersGrounded (Err f) c.args.problem.now) c.in-Err-At.field-0-is c.in-Err-At.ensures.answers)
