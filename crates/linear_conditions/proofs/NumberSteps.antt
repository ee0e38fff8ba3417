-- The condition of a comparison of two numbers.
use Rattle.std.proofs.Common.{◌≡◌, ◌&&◌, ◌||◌, Bool, true, false, cond, not, [], ◌∷◌, map, ℤ, pos, negsuc, ◌+ℤ◌, ◌-ℤ◌, ◌*ℤ◌, neg_ℤ, sym, ap, ◌∙◌, refl, subst, arith}
use Rattle.std.proofs.lemmas.Int.{ints}
use Rattle.std.specs.List.{list_all}
use Rattle.std.specs.Prelude.{int_lt}
use lib.Signed.{le_z}
use Rattle.rule_syntax.specs.declared.tree.Rel.{Rel}
use Rattle.rule_syntax.specs.declared.tree.Rel.TheVariants.{Lt, Le, Eq, Ne, Ge, Gt}
use Rattle.geo_tokens.specs.declared.fault.FaultWord.TheVariants as words
use Rattle.problem_data.specs.Truth.{compare}
use Rattle.linear_conditions.specs.declared.fault.GroundFault.{GroundFault}
use Rattle.linear_conditions.specs.CondTree.{CondTree}
use Rattle.linear_conditions.specs.Sums.{constant_sum, is_bounded}
use Rattle.linear_conditions.specs.Leaves.{difference, leaves_of, leaf_fits}
use Rattle.linear_conditions.specs.Folding.{certain, fold_linear, joined}
use Rattle.linear_conditions.specs.Counts.{Counts, Fault, Done, and_then, allowed, within_limits, one_visit, count_sums, visit}
use Rattle.linear_conditions.specs.Certain.{IsCertain}
use Rattle.linear_conditions.specs.Compare.{ground_difference, ground_leaves}
use Rattle.linear_conditions.specs.Faults.{IsFault, IsPast}
use Rattle.linear_conditions.proofs.SumLaws.{neg-value}
use Rattle.linear_conditions.proofs.FormSteps.{both-are}
use Rattle.linear_conditions.proofs.Compared.{small_le, small_lt, small_ge, small_gt}

-- the difference of two numbers
abbrev pub less : ℤ → ℤ → ℤ
less x y = x +ℤ (negsuc 0 *ℤ y)

pub less-is : (x y z : ℤ) → z ≡ x -ℤ y → z ≡ less x y
less-is x y z h = let e = neg-value y in omega (arith, ints, e)

pub bounded-less : (x y z : ℤ) → z ≡ x -ℤ y → (b t : Bool) → t ≡ is_bounded z → t ≡ b → is_bounded (less x y) ≡ b
bounded-less x y z e b t h k = ap is_bounded (sym (less-is x y z e)) ∙ sym h ∙ k

leaves-fit : (rel : Rel) (z : ℤ) → list_all leaf_fits (leaves_of rel (constant_sum z)).forms ≡ true
leaves-fit Le z = refl
leaves-fit Lt z = refl
leaves-fit Ge z = refl
leaves-fit Gt z = refl
leaves-fit Eq z = refl
leaves-fit Ne z = refl

no-leaves : (rel : Rel) (z : ℤ) (k : Counts) → count_sums (leaves_of rel (constant_sum z)).forms k ≡ k
no-leaves Le z k = refl
no-leaves Lt z k = refl
no-leaves Ge z k = refl
no-leaves Gt z k = refl
no-leaves Eq z k = refl
no-leaves Ne z k = refl

one : (b : Bool) → joined true (certain b ∷ []) ≡ certain b
one true = refl
one false = refl

both : (a b : Bool) → joined true (certain a ∷ certain b ∷ []) ≡ certain (b && a)
both true true = refl
both true false = refl
both false true = refl
both false false = refl

either : (a b : Bool) → joined false (certain a ∷ certain b ∷ []) ≡ certain (a || b)
either true true = refl
either true false = refl
either false true = refl
either false false = refl

negative : (x y : ℤ) → negsuc 0 *ℤ less x y ≡ neg_ℤ (x +ℤ neg_ℤ y)
negative x y = neg-value (less x y) ∙ ap (λ v. neg_ℤ (x +ℤ v)) (neg-value y)

positive : (x y : ℤ) → less x y ≡ x +ℤ neg_ℤ y
positive x y = ap (λ v. x +ℤ v) (neg-value y)

more : (x y : ℤ) → x ≡ y → x +ℤ pos 1 ≡ y +ℤ pos 1
more x y e = ap (λ v. v +ℤ pos 1) e

leaf_le : (x y : ℤ) → le_z (less x y) (pos 0) ≡ not (int_lt y x)
leaf_le x y = small_le x y _ (positive x y)

leaf_lt : (x y : ℤ) → le_z (less x y +ℤ pos 1) (pos 0) ≡ int_lt x y
leaf_lt x y = small_lt x y _ (more _ _ (positive x y))

leaf_ge : (x y : ℤ) → le_z (negsuc 0 *ℤ less x y) (pos 0) ≡ not (int_lt x y)
leaf_ge x y = small_ge x y _ (negative x y)

leaf_gt : (x y : ℤ) → le_z (negsuc 0 *ℤ less x y +ℤ pos 1) (pos 0) ≡ int_lt y x
leaf_gt x y = small_gt x y _ (more _ _ (negative x y))

folded : (rel : Rel) (x y : ℤ) → let l = leaves_of rel (constant_sum (less x y)) in joined l.all (map fold_linear l.forms) ≡ certain (compare rel x y)
folded Le x y = one _ ∙ ap certain (leaf_le x y)
folded Lt x y = one _ ∙ ap certain (leaf_lt x y)
folded Ge x y = one _ ∙ ap certain (leaf_ge x y)
folded Gt x y = one _ ∙ ap certain (leaf_gt x y)
folded Eq x y = both (le_z (less x y) (pos 0)) (le_z (negsuc 0 *ℤ less x y) (pos 0)) ∙ ap (λ a. certain (a && le_z (less x y) (pos 0))) (leaf_ge x y) ∙ ap (λ b. certain (not (int_lt x y) && b)) (leaf_le x y)
folded Ne x y = either (le_z (less x y +ℤ pos 1) (pos 0)) (le_z (negsuc 0 *ℤ less x y +ℤ pos 1) (pos 0)) ∙ ap (λ a. certain (a || le_z (negsuc 0 *ℤ less x y +ℤ pos 1) (pos 0))) (leaf_lt x y) ∙ ap (λ b. certain (int_lt x y || b)) (leaf_gt x y)

module _ (x y : ℤ) (rel : Rel) (k : Counts) where
  pub numbers-past-bounds : is_bounded (less x y) ≡ false → ground_difference (difference (constant_sum x) (constant_sum y)) rel k ≡ Fault words.Overflow
  unfolding allowed
  numbers-past-bounds h =
      let l = leaves_of rel (constant_sum (less x y)) in
      ap (λ b. cond (b && list_all leaf_fits l.forms) (ground_leaves l k) (Fault words.Overflow)) h

  counted : is_bounded (less x y) ≡ true → let l = leaves_of rel (constant_sum (less x y)) in
      ground_difference (constant_sum (less x y)) rel k ≡ and_then Counts CondTree (visit k) (λ k' same. Done (joined l.all (map fold_linear l.forms)) k')
  unfolding allowed
  counted h =
      let l = leaves_of rel (constant_sum (less x y)) in
      ap (λ b. cond b (ground_leaves l k) (Fault words.Overflow)) (both-are _ _ h (leaves-fit rel (less x y)))
      ∙ ap (λ j. and_then Counts CondTree (within_limits j) (λ k' same. Done (joined l.all (map fold_linear l.forms)) k')) (no-leaves rel (less x y) (one_visit k))

  pub numbers-done : (j : Counts) (c : CondTree) → is_bounded (less x y) ≡ true → visit k ≡ Done j j → c ≡ certain (compare rel x y) →
      ground_difference (difference (constant_sum x) (constant_sum y)) rel k ≡ Done c j
  unfolding and_then
  numbers-done j c h v e =
      let l = leaves_of rel (constant_sum (less x y)) in
      counted h ∙ ap (λ o. and_then Counts CondTree o (λ k' same. Done (joined l.all (map fold_linear l.forms)) k')) v
      ∙ ap (λ t. Done t j) (folded rel x y ∙ sym e)

  pub numbers-past : (e : GroundFault) → is_bounded (less x y) ≡ true → IsPast (visit k) e → IsFault CondTree (ground_difference (difference (constant_sum x) (constant_sum y)) rel k) e
  unfolding and_then
  numbers-past e h v =
      let l = leaves_of rel (constant_sum (less x y)) in
      subst (IsFault CondTree (ground_difference (difference (constant_sum x) (constant_sum y)) rel k)) (sym v.0)
      (counted h ∙ ap (λ o. and_then Counts CondTree o (λ k' same. Done (joined l.all (map fold_linear l.forms)) k')) v.1)

-- two numbers give a condition that is certain
pub numbers-certain : (x y : ℤ) (rel : Rel) (b : Bool) → is_bounded (less x y) ≡ true → b ≡ compare rel x y → IsCertain (ground_difference (difference (constant_sum x) (constant_sum y)) rel) 1 b
numbers-certain x y rel b h e = record { gives = λ k. counted x y rel k h ∙ ap (λ t. and_then Counts CondTree (visit k) (λ j same. Done t j)) (folded rel x y ∙ ap certain (sym e)) }
