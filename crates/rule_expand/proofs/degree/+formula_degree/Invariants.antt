use Rattle.std.proofs.Common.{◌≡◌, drop}
use Rattle.rule_expand.specs.PlainView.{plain_formulas_view}
use Rattle.rule_expand.specs.Degree.{formulas_break}
use Rattle.rule_expand.proofs.degree.+formula_degree.Given as goal

abbrev pub invariant-some_multiplies-loop-f : goal.invariant-some_multiplies-loop-f
invariant-some_multiplies-loop-f l = formulas_break (plain_formulas_view (drop l.f-index l.fs)) ≡ formulas_break (plain_formulas_view l.fs)
