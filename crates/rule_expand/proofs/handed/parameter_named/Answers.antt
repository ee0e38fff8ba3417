use Rattle.std.proofs.Common.{sym, ◌∙◌}
use Rattle.rule_expand.proofs.HandedOn.{param-handed}
use Rattle.rule_expand.proofs.handed.parameter_named.Goals as goal

pub returns-in-Some : goal.returns-in-Some
returns-in-Some c = λ p ms h. param-handed p c.args.name.now c.args.params.now ms c.in-Some.i (sym c.parameter_index.ensures ∙ c.in-Some.is) h
