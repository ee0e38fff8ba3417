use Rattle.std.proofs.Common.{◌≡◌, map, drop}
use Rattle.rule_syntax.specs.Tree.{formulas}
use Rattle.rule_syntax.specs.View.{formula_view}
use Rattle.problem_data.specs.Divisors.{lesser, least_in, formulas_zeros}
use Rattle.statement_faults.proofs.divisors.+formula_zeros.Given as goal

-- the least place so far, and that of the rest
abbrev pub invariant-formulas_zero-parts : goal.invariant-formulas_zero-parts
invariant-formulas_zero-parts l = lesser l.found (least_in (formulas_zeros (formulas (map formula_view (drop l.part-index l.parts))))) ≡ least_in (formulas_zeros (formulas (map formula_view l.parts)))
