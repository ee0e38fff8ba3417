use Rattle.std.proofs.Common.{◌∙◌, sym}
use Rattle.rule_names.proofs.Sights.{macro-inside, called-some, called-none}
use Rattle.rule_names.proofs.calls.macro_called.Goals as goal

pub macro_before-requires : goal.macro_before-requires
macro_before-requires c = macro-inside c.args.problem.now c.args.name.now c.in-Some.position (sym c.macro_index.ensures ∙ c.in-Some.is)

pub returns-in-Some : goal.returns-in-Some
returns-in-Some c = c.macro_before.ensures ∙ called-some c.args.problem.now c.args.statement c.in-Some.position c.args.name.now (sym c.macro_index.ensures ∙ c.in-Some.is)

pub returns-in-None : goal.returns-in-None
returns-in-None c = called-none c.args.problem.now c.args.statement c.args.name.now (sym c.macro_index.ensures ∙ c.in-None.is)
