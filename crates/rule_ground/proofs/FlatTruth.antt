-- The conditions that a condition gives are all true exactly where it is.
use Rattle.std.proofs.Common.{◌≡◌, ℕ, ◌+◌, ◌≤◌, leb, ◌&&◌, Bool, true, false, cond, List, [], ◌∷◌, ◌++◌, ℤ, pos, negsuc, ap, ◌∙◌, refl, arith, tests}
use Rattle.std.specs.List.{list_all}
use Rattle.std.proofs.lemmas.Bool.Decides.{nat_tests}
use lib.Signed.{le_z}
use Rattle.geo_base.specs.Tuple.{Tuple}
use Rattle.geo_conditions.specs.Reach.{count}
use Rattle.linear_conditions.specs.CondTree.{CondTree, CondTrees, linear, shape_is, shape_is_not, at_least, no_conds, a_cond, true_on, true_count}
use Rattle.linear_conditions.proofs.Counting.{bit}
use Rattle.rule_ground.specs.Rules.{tree_length, is_count, conds_of, conds_of_each}

and_assoc : (a b c : Bool) → (a && (b && c)) ≡ ((a && b) && c)
and_assoc true b c = refl
and_assoc false b c = refl

true-append : (t : Tuple) (xs ys : List CondTree) → list_all (true_on t) (xs ++ ys) ≡ (list_all (true_on t) xs && list_all (true_on t) ys)
true-append t [] ys = refl
true-append t (x ∷ xs) ys = ap (λ b. true_on t x && b) (true-append t xs ys) ∙ and_assoc (true_on t x) (list_all (true_on t) xs) (list_all (true_on t) ys)

alone : (b : Bool) → (b && true) ≡ b
alone true = refl
alone false = refl

count-le : (t : Tuple) (cs : CondTrees) → true_count t cs ≤ tree_length cs
count-le t no_conds = omega arith
count-le t (a_cond c cs) = omega (arith, bit (true_on t c), count-le t cs)

more : (b j : Bool) (l n : ℕ) → n ≤ l → leb l n ≡ j → (b && j) ≡ leb (l + 1) (count b + n)
more true j l n h e = grind (arith, nat_tests)
more false j l n h e = grind (arith, nat_tests)

flat_by : (t : Tuple) (n : ℤ) (cs : CondTrees) (b : Bool) → is_count n (tree_length cs) ≡ b → list_all (true_on t) (conds_of_each cs) ≡ leb (tree_length cs) (true_count t cs) →
    list_all (true_on t) (cond b (conds_of_each cs) (at_least n cs ∷ [])) ≡ le_z n (pos (true_count t cs))
flat_by t (pos n) cs true e h = h ∙ ap (λ m. leb m (true_count t cs)) (let f : tree_length cs ≡ n = grind (arith, tests) in f)
flat_by t (negsuc n) cs true e h = cc
flat_by t n cs false e h = alone (le_z n (pos (true_count t cs)))

mutual
  pub flat-true : (t : Tuple) (c : CondTree) → list_all (true_on t) (conds_of c) ≡ true_on t c
  flat-true t (linear f) = alone (true_on t (linear f))
  flat-true t (shape_is o s) = alone (true_on t (shape_is o s))
  flat-true t (shape_is_not o s) = alone (true_on t (shape_is_not o s))
  flat-true t (at_least n cs) = flat_by t n cs (is_count n (tree_length cs)) refl (each-true t cs)

  each-true : (t : Tuple) (cs : CondTrees) → list_all (true_on t) (conds_of_each cs) ≡ leb (tree_length cs) (true_count t cs)
  each-true t no_conds = refl
  each-true t (a_cond c cs) =
      true-append t (conds_of c) (conds_of_each cs)
      ∙ ap (λ b. b && list_all (true_on t) (conds_of_each cs)) (flat-true t c)
      ∙ ap (λ b. true_on t c && b) (each-true t cs)
      ∙ more (true_on t c) (leb (tree_length cs) (true_count t cs)) (tree_length cs) (true_count t cs) (count-le t cs) refl
