-- The laws of forms, foldings and comparisons, as statements.
use Rattle.std.specs.Prelude.{◌≡◌, ◌<◌, ◌||◌, not, false, List, length, ℤ, pos}
use Rattle.std.specs.List.{All}
use lib.Signed.{le_z}
use Rattle.rule_syntax.specs.declared.tree.Rel.{Rel}
use Rattle.geo_conditions.specs.Conditions.{value}
use Rattle.problem_data.specs.Problem.{ProblemData}
use Rattle.problem_data.specs.Tuple.{Tuple}
use Rattle.problem_data.specs.Cells.{IsTuple}
use Rattle.problem_data.specs.Truth.{compare}
use Rattle.rule_expand.specs.Plain.{PlainExprTree}
use Rattle.rule_expand.specs.PlainTruth.{PlainEnv, plain_value}
use Rattle.rule_expand.specs.Degree.{expr_breaks}
use Rattle.linear_conditions.specs.CondTree.{CondTree, conds, true_on, true_count}
use Rattle.linear_conditions.specs.Fixings.{Fixing}
use Rattle.linear_conditions.specs.Ordered.{IsOrdered}
use Rattle.linear_conditions.specs.Forms.{sum_of_expr}
use Rattle.linear_conditions.specs.Settled.{expr_needs, IsCovered}
use Rattle.linear_conditions.specs.Leaves.{opposite}
use Rattle.linear_conditions.specs.Folding.{fold_count}
use Rattle.linear_conditions.specs.Counts.{Counts, OnDone}
use Rattle.linear_conditions.specs.Compare.{ground_compare}

-- on a tuple with the shapes that are taken, the form of an expression that multiplies no coordinates has the expression's value
abbrev pub FormsHaveValues : Type 0
FormsHaveValues = (p : ProblemData) (t : Tuple) (fix : List Fixing) (env : PlainEnv) (e : PlainExprTree) → IsTuple p t → IsCovered p t fix env (λ s. expr_needs s e) → expr_breaks e ≡ false
    → value (sum_of_expr p e env fix) t ≡ plain_value p t e env

-- the terms of a form stand in order, and name objects and dimensions of the problem
abbrev pub FormsArePlaced : Type 0
FormsArePlaced = (p : ProblemData) (fix : List Fixing) (env : PlainEnv) (e : PlainExprTree)
    → IsOrdered (sum_of_expr p e env fix).terms × All (λ a. (a.object.0 < length p.objects) × (a.dimension < p.dims)) (sum_of_expr p e env fix).terms

-- a folded count is true exactly where so many of its children are
abbrev pub FoldedCountsCount : Type 0
FoldedCountsCount = (t : Tuple) (n : ℤ) (cs : List CondTree) → true_on t (fold_count n cs) ≡ le_z n (pos (true_count t (conds cs)))

-- on a tuple with the shapes that are taken, the condition of a comparison is true exactly where the comparison holds
abbrev pub ComparisonsAreMeant : Type 0
ComparisonsAreMeant = (p : ProblemData) (t : Tuple) (fix : List Fixing) (env : PlainEnv) (a : PlainExprTree) (rel : Rel) (b : PlainExprTree) (k : Counts) → IsTuple p t
    → IsCovered p t fix env (λ s. expr_needs s a || expr_needs s b) → expr_breaks a ≡ false → expr_breaks b ≡ false
    → OnDone CondTree (ground_compare p a rel b env fix k) (λ c. true_on t c ≡ compare rel (plain_value p t a env) (plain_value p t b env))

-- the opposite comparison holds exactly where the comparison does not
abbrev pub OppositesDiffer : Type 0
OppositesDiffer = (rel : Rel) (a b : ℤ) → compare (opposite rel) a b ≡ not (compare rel a b)
