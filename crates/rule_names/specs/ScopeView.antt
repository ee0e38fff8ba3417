-- What the names in sight of the program stand for.
use Rattle.std.specs.Prelude.{map}
use Rattle.problem_data.specs.ProblemView.{param_data}
use Rattle.rule_names.specs.Sight.{Sight, binding}
use Rattle.rule_names.specs.declared.scope.Scope.{Scope}
use Rattle.rule_names.specs.declared.scope.Scope.TheOpen.{Scope-F}
use Rattle.rule_names.specs.declared.scope.Scope.TheFolds.{fold-Scope}

abbrev pub scope_layer : Scope-F Sight → Sight
scope_layer (Scope-F.Parameters params) = map param_data params.now
scope_layer (Scope-F.Variable outer name kind) = binding name.now kind outer.now

abbrev pub scope_view : Scope → Sight
scope_view = fold-Scope Sight scope_layer
