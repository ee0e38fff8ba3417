use Rattle.std.proofs.Common.{◌≡◌}
use Rattle.rule_names.specs.Mistakes.{earlier, first_of}
use Rattle.rule_names.specs.ScopeView.{scope_view}
use Rattle.rule_names.proofs.Passed.{passed_from}
use Rattle.rule_names.proofs.calls.all_passed.Given as goal

-- the first so far, and that of the rest
abbrev pub invariant-params : goal.invariant-params
invariant-params l = earlier l.found (first_of (passed_from l.problem (scope_view l.scope) l.params l.given l.i)) ≡ first_of (passed_from l.problem (scope_view l.scope) l.params l.given 0)
