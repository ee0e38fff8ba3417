-- The condition of a comparison is true exactly where the comparison holds.
use Rattle.std.proofs.Common.{◌≡◌, ◌&&◌, ◌||◌, Bool, true, false, not, List, [], ◌∷◌, map, ℤ, pos, ◌+ℤ◌, neg_ℤ, ap, ◌∙◌, refl, arith}
use Rattle.std.proofs.lemmas.Int.{ints}
use Rattle.std.specs.Prelude.{int_lt}
use Rattle.std.proofs.Math.Bool.{or-false}
use lib.Signed.{le_z}
use Rattle.rule_syntax.specs.declared.tree.Rel.{Rel}
use Rattle.rule_syntax.specs.declared.tree.Rel.TheVariants.{Lt, Le, Eq, Ne, Ge, Gt}
use Rattle.geo_conditions.specs.Form.{Sum}
use Rattle.geo_conditions.specs.Conditions.{value}
use Rattle.problem_data.specs.Problem.{ProblemData}
use Rattle.problem_data.specs.Tuple.{Tuple}
use Rattle.problem_data.specs.Cells.{IsTuple}
use Rattle.problem_data.specs.Truth.{compare}
use Rattle.rule_expand.specs.Plain.{PlainExprTree}
use Rattle.rule_expand.specs.PlainTruth.{PlainEnv, plain_value}
use Rattle.rule_expand.specs.Degree.{expr_breaks}
use Rattle.linear_conditions.specs.CondTree.{CondTree, true_on}
use Rattle.linear_conditions.specs.Fixings.{Fixing}
use Rattle.linear_conditions.specs.Sums.{constant_sum}
use Rattle.linear_conditions.specs.Forms.{sum_of_expr}
use Rattle.linear_conditions.specs.Settled.{expr_needs, IsCovered, signed}
use Rattle.linear_conditions.specs.Leaves.{negated, difference, plus_one, leaves_of, opposite, under}
use Rattle.linear_conditions.specs.Folding.{fold_linear, joined}
use Rattle.linear_conditions.specs.Counts.{Counts, OnDone}
use Rattle.linear_conditions.specs.Compare.{ground_compare}
use Rattle.linear_conditions.proofs.SumLaws.{add_sums-value, constant-value, negated-value}
use Rattle.linear_conditions.proofs.Counting.{fold-linear}
use Rattle.linear_conditions.proofs.Junctions.{joined-true}
use Rattle.linear_conditions.proofs.Outcomes.{on_done, on_allowed, on_any}
use Rattle.linear_conditions.proofs.Values.{sum-value}

difference-value : (f g : Sum) (t : Tuple) → value (difference f g) t ≡ value f t +ℤ neg_ℤ (value g t)
difference-value f g t = add_sums-value f (negated g) t ∙ ap (λ y. value f t +ℤ y) (negated-value g t)

-- at most 0
abbrev pub small : ℤ → Bool
small z = le_z z (pos 0)

pub small_le : (a b d : ℤ) → d ≡ a +ℤ neg_ℤ b → small d ≡ not (int_lt b a)
small_le a b d e = grind (arith, ints)

pub small_lt : (a b d : ℤ) → d ≡ (a +ℤ neg_ℤ b) +ℤ pos 1 → small d ≡ int_lt a b
small_lt a b d e = grind (arith, ints)

pub small_ge : (a b d : ℤ) → d ≡ neg_ℤ (a +ℤ neg_ℤ b) → small d ≡ not (int_lt a b)
small_ge a b d e = grind (arith, ints)

pub small_gt : (a b d : ℤ) → d ≡ neg_ℤ (a +ℤ neg_ℤ b) +ℤ pos 1 → small d ≡ int_lt b a
small_gt a b d e = grind (arith, ints)

linear-small : (t : Tuple) (f : Sum) (v : ℤ) → value f t ≡ v → true_on t (fold_linear f) ≡ small v
linear-small t f v e = fold-linear t f ∙ ap small e

negated-is : (t : Tuple) (f : Sum) (v : ℤ) → value f t ≡ v → value (negated f) t ≡ neg_ℤ v
negated-is t f v e = negated-value f t ∙ ap neg_ℤ e

plus-is : (t : Tuple) (f : Sum) (v : ℤ) → value f t ≡ v → value (plus_one f) t ≡ v +ℤ pos 1
plus-is t f v e = add_sums-value f (constant_sum (pos 1)) t ∙ ap (λ y. value f t +ℤ y) (constant-value (pos 1) t) ∙ ap (λ y. y +ℤ pos 1) e

and_true : (b : Bool) → (b && true) ≡ b
and_true true = refl
and_true false = refl

and_swap : (a b : Bool) → (a && (b && true)) ≡ (b && a)
and_swap true true = refl
and_swap true false = refl
and_swap false true = refl
and_swap false false = refl

-- one leaf
one_leaf : (t : Tuple) (f : Sum) (v : ℤ) (b : Bool) → value f t ≡ v → small v ≡ b → true_on t (joined true (fold_linear f ∷ [])) ≡ b
one_leaf t f v b e h = joined-true true t (fold_linear f ∷ []) ∙ and_true (true_on t (fold_linear f)) ∙ linear-small t f v e ∙ h

pub leaves-true : (t : Tuple) (rel : Rel) (f : Sum) (a b : ℤ) → value f t ≡ a +ℤ neg_ℤ b → true_on t (joined (leaves_of rel f).all (map fold_linear (leaves_of rel f).forms)) ≡ compare rel a b
leaves-true t Le f a b e = one_leaf t f _ _ e (small_le a b _ refl)
leaves-true t Lt f a b e = one_leaf t (plus_one f) _ _ (plus-is t f _ e) (small_lt a b _ refl)
leaves-true t Ge f a b e = one_leaf t (negated f) _ _ (negated-is t f _ e) (small_ge a b _ refl)
leaves-true t Gt f a b e = one_leaf t (plus_one (negated f)) _ _ (plus-is t (negated f) _ (negated-is t f _ e)) (small_gt a b _ refl)
leaves-true t Eq f a b e =
    joined-true true t (fold_linear f ∷ (fold_linear (negated f) ∷ []))
    ∙ and_swap (true_on t (fold_linear f)) (true_on t (fold_linear (negated f)))
    ∙ ap (λ x. x && true_on t (fold_linear f)) (linear-small t (negated f) _ (negated-is t f _ e) ∙ small_ge a b _ refl)
    ∙ ap (λ x. not (int_lt a b) && x) (linear-small t f _ e ∙ small_le a b _ refl)
leaves-true t Ne f a b e =
    joined-true false t (fold_linear (plus_one f) ∷ (fold_linear (plus_one (negated f)) ∷ []))
    ∙ ap (λ x. true_on t (fold_linear (plus_one f)) || x) (or-false (true_on t (fold_linear (plus_one (negated f)))))
    ∙ ap (λ x. x || true_on t (fold_linear (plus_one (negated f)))) (linear-small t (plus_one f) _ (plus-is t f _ e) ∙ small_lt a b _ refl)
    ∙ ap (λ x. int_lt a b || x) (linear-small t (plus_one (negated f)) _ (plus-is t (negated f) _ (negated-is t f _ e)) ∙ small_gt a b _ refl)

-- the condition of a comparison is true exactly where it holds
pub compare-true : (p : ProblemData) (t : Tuple) (fix : List Fixing) (env : PlainEnv) → IsTuple p t → (a : PlainExprTree) (rel : Rel) (b : PlainExprTree) (k : Counts) →
    IsCovered p t fix env (λ s. expr_needs s a) → IsCovered p t fix env (λ s. expr_needs s b) → expr_breaks a ≡ false → expr_breaks b ≡ false →
    OnDone CondTree (ground_compare p a rel b env fix k) (λ c. true_on t c ≡ compare rel (plain_value p t a env) (plain_value p t b env))
compare-true p t fix env tuple a rel b k ca cb ha hb =
    let f = difference (sum_of_expr p a env fix) (sum_of_expr p b env fix) in
    on_allowed CondTree _ _ _ _ (λ fits.
    on_any Counts CondTree _ _ _ (λ k' j. on_done CondTree (joined (leaves_of rel f).all (map fold_linear (leaves_of rel f).forms)) _ _
    (leaves-true t rel f (plain_value p t a env) (plain_value p t b env)
    (difference-value (sum_of_expr p a env fix) (sum_of_expr p b env fix) t
    ∙ ap (λ y. y +ℤ neg_ℤ (value (sum_of_expr p b env fix) t)) (sum-value p t fix env tuple a ca ha)
    ∙ ap (λ y. plain_value p t a env +ℤ neg_ℤ y) (sum-value p t fix env tuple b cb hb)))))

not_not : (b : Bool) → b ≡ not (not b)
not_not true = refl
not_not false = refl

de_morgan : (x y : Bool) → (x || y) ≡ not (not x && not y)
de_morgan true y = refl
de_morgan false true = refl
de_morgan false false = refl

de_morgan' : (x y : Bool) → (not x && not y) ≡ not (x || y)
de_morgan' true y = refl
de_morgan' false y = refl

pub opposite-compare : (rel : Rel) (a b : ℤ) → compare (opposite rel) a b ≡ not (compare rel a b)
opposite-compare Lt a b = refl
opposite-compare Le a b = not_not (int_lt b a)
opposite-compare Eq a b = de_morgan (int_lt a b) (int_lt b a)
opposite-compare Ne a b = de_morgan' (int_lt a b) (int_lt b a)
opposite-compare Ge a b = not_not (int_lt a b)
opposite-compare Gt a b = refl

-- a comparison under a sign
pub under-compare : (sign : Bool) (rel : Rel) (a b : ℤ) → compare (under sign rel) a b ≡ signed sign (compare rel a b)
under-compare true rel a b = refl
under-compare false rel a b = opposite-compare rel a b
