use Rattle.std.proofs.Common.{◌≡◌, drop}
use Rattle.rule_expand.specs.PlainView.{plain_formulas_view}
use Rattle.rule_ground.specs.Grounding.{some_needs}
use Rattle.rule_ground.proofs.needs.+needs.Given as goal

abbrev pub invariant-some_needs-loop-f : goal.invariant-some_needs-loop-f
invariant-some_needs-loop-f l = some_needs l.s (plain_formulas_view (drop l.f-index l.fs)) ≡ some_needs l.s (plain_formulas_view l.fs)
