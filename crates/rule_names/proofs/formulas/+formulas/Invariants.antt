use Rattle.std.proofs.Common.{◌≡◌, map, drop}
use Rattle.rule_syntax.specs.Tree.{formulas}
use Rattle.rule_syntax.specs.View.{formula_view}
use Rattle.rule_names.specs.Mistakes.{earlier, first_of}
use Rattle.rule_names.specs.ScopeView.{scope_view}
use Rattle.rule_names.specs.Names.{formulas_mistakes}
use Rattle.rule_names.proofs.formulas.+formulas.Given as goal

-- the first so far, and that of the rest
abbrev pub invariant-formulas_mistake-parts : goal.invariant-formulas_mistake-parts
invariant-formulas_mistake-parts l =
    earlier l.found (first_of (formulas_mistakes l.problem l.statement (scope_view l.scope) (formulas (map formula_view (drop l.part-index l.parts))))) ≡ first_of (formulas_mistakes l.problem l.statement (scope_view l.scope) (formulas (map formula_view l.parts)))
