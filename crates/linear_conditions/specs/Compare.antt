-- The condition of a comparison.
use Rattle.std.specs.Prelude.{◌≡◌, ◌&&◌, true, List, map}
use Rattle.std.specs.List.{list_all}
use Rattle.rule_syntax.specs.declared.tree.Rel.{Rel}
use Rattle.geo_conditions.specs.Form.{Sum}
use Rattle.geo_tokens.specs.declared.fault.FaultWord.TheVariants.{Overflow}
use Rattle.problem_data.specs.Problem.{ProblemData}
use Rattle.rule_expand.specs.Plain.{PlainExprTree}
use Rattle.rule_expand.specs.PlainTruth.{PlainEnv}
use Rattle.linear_conditions.specs.CondTree.{CondTree}
use Rattle.linear_conditions.specs.declared.short.Short.{Short}
use Rattle.linear_conditions.specs.Views.{short_view}
use Rattle.linear_conditions.specs.Fixings.{Fixing}
use Rattle.linear_conditions.specs.Sums.{fits_sum}
use Rattle.linear_conditions.specs.Forms.{sum_of_expr, fits_expr}
use Rattle.linear_conditions.specs.Leaves.{difference, Leaves, leaves_of, leaf_fits}
use Rattle.linear_conditions.specs.Folding.{fold_linear, joined}
use Rattle.linear_conditions.specs.Counts.{Counts, Outcome, Done, and_then, allowed, within_limits, one_visit, count_sums}

-- its visit and its leaves are counted, and then they are folded
abbrev pub ground_leaves : Leaves → Counts → Outcome CondTree
ground_leaves l k = and_then Counts CondTree (within_limits (count_sums l.forms (one_visit k))) (λ k' same. Done (joined l.all (map fold_linear l.forms)) k')

-- the same, if they are within the bounds
abbrev pub allowed_leaves : Leaves → Counts → Outcome CondTree
allowed_leaves l k = allowed CondTree (list_all leaf_fits l.forms) Overflow (ground_leaves l k)

-- the condition that a difference stands in a relation to 0: first `overflow`, where a form is out of bounds, and then the counts
abbrev pub ground_difference : Sum → Rel → Counts → Outcome CondTree
ground_difference f rel k = allowed CondTree (fits_sum f && list_all leaf_fits (leaves_of rel f).forms) Overflow (ground_leaves (leaves_of rel f) k)

-- first `overflow`, where a form is out of bounds, and then the counts
abbrev pub ground_compare : ProblemData → PlainExprTree → Rel → PlainExprTree → PlainEnv → List Fixing → Counts → Outcome CondTree
ground_compare p a rel b env fix k =
    let f = difference (sum_of_expr p a env fix) (sum_of_expr p b env fix) in
    allowed CondTree
    (fits_expr p a env fix && (fits_expr p b env fix && (fits_sum f && list_all leaf_fits (leaves_of rel f).forms)))
    Overflow
    (ground_leaves (leaves_of rel f) k)

-- two short forms are those of the sides of a comparison, in which all is within the bounds
pub record AreSides (p : ProblemData) (a b : PlainExprTree) (env : PlainEnv) (fix : List Fixing) (left right : Short) : Type 0 where
  pub left_is : short_view left ≡ sum_of_expr p a env fix
  pub right_is : short_view right ≡ sum_of_expr p b env fix
  pub left_fits : fits_expr p a env fix ≡ true
  pub right_fits : fits_expr p b env fix ≡ true
  pub left_within : fits_sum (short_view left) ≡ true
  pub right_within : fits_sum (short_view right) ≡ true
