-- A folded count is true exactly where enough of its children are.
use Rattle.std.proofs.Common.{◌≡◌, ℕ, ◌+◌, ◌≤◌, Bool, true, false, cond, List, [], ◌∷◌, length, ℤ, pos, ◌-ℤ◌, sym, ap, ◌∙◌, refl, arith}
use Rattle.std.proofs.lemmas.Int.{ints}
use Rattle.std.specs.Prelude.{int_lt}
use lib.Signed.{le_z}
use Rattle.geo_base.specs.Tuple.{Tuple}
use Rattle.geo_conditions.specs.Form.{Sum}
use Rattle.geo_conditions.specs.Reach.{count}
use Rattle.geo_conditions.specs.Conditions.{value}
use Rattle.linear_conditions.specs.declared.verdict.Verdict.{Verdict}
use Rattle.linear_conditions.specs.declared.verdict.Verdict.TheVariants.{Holds, Fails, Open}
use Rattle.linear_conditions.specs.CondTree.{CondTree, linear, shape_is, shape_is_not, at_least, no_conds, a_cond, conds, true_on, true_count}
use Rattle.linear_conditions.specs.Sums.{has_terms}
use Rattle.linear_conditions.specs.Folding.{always, never, certain, verdict, fold_linear, count_holding, still_open, one_or_node, fold_open, fold_count}
use Rattle.linear_conditions.proofs.SumLaws.{bare-value}

-- how many of a list are true
abbrev pub counted : Tuple → List CondTree → ℕ
counted t [] = 0
counted t (c ∷ cs) = count (true_on t c) + counted t cs

pub count-from : (t : Tuple) (cs : List CondTree) → true_count t (conds cs) ≡ counted t cs
count-from t [] = refl
count-from t (c ∷ cs) = ap (λ n. count (true_on t c) + n) (count-from t cs)

pub bit : (b : Bool) → count b ≤ 1
bit true = omega arith
bit false = omega arith

pub counted-le : (t : Tuple) (cs : List CondTree) → counted t cs ≤ length cs
counted-le t [] = omega arith
counted-le t (c ∷ cs) = omega (arith, bit (true_on t c), counted-le t cs)

pub certain-true : (t : Tuple) (b : Bool) → true_on t (certain b) ≡ b
certain-true t true = refl
certain-true t false = refl

low_enough : (n : ℤ) (m : ℕ) → le_z n (pos 0) ≡ true → le_z n (pos m) ≡ true
low_enough n m h = grind (arith, ints)

too_few : (n : ℤ) (m l : ℕ) → m ≤ l → int_lt (pos l) n ≡ true → le_z n (pos m) ≡ false
too_few n m l h k = grind (arith, ints)

shifted : (n : ℤ) (h m : ℕ) → le_z (n -ℤ pos h) (pos m) ≡ le_z n (pos (h + m))
shifted n h m = grind (arith, ints)

alone : (n : ℤ) (b : Bool) → le_z n (pos 0) ≡ false → int_lt (pos 1) n ≡ false → b ≡ le_z n (pos (count b + 0))
alone n true h k = grind (arith, ints)
alone n false h k = grind (arith, ints)

held : (n : ℤ) (b : Bool) → le_z n (pos 0) ≡ b → cond b Holds Fails ≡ Holds → le_z n (pos 0) ≡ true
held n true h k = h
held n false h k = cc

failed : (n : ℤ) (b : Bool) → le_z n (pos 0) ≡ b → cond b Holds Fails ≡ Fails → le_z n (pos 0) ≡ false
failed n true h k = cc
failed n false h k = h

pub holds-true : (t : Tuple) (c : CondTree) → verdict c ≡ Holds → true_on t c ≡ true
holds-true t (linear f) h = cc
holds-true t (shape_is o s) h = cc
holds-true t (shape_is_not o s) h = cc
holds-true t (at_least n no_conds) h = held n (le_z n (pos 0)) refl h
holds-true t (at_least n (a_cond c cs)) h = cc

pub fails-false : (t : Tuple) (c : CondTree) → verdict c ≡ Fails → true_on t c ≡ false
fails-false t (linear f) h = cc
fails-false t (shape_is o s) h = cc
fails-false t (shape_is_not o s) h = cc
fails-false t (at_least n no_conds) h = failed n (le_z n (pos 0)) refl h
fails-false t (at_least n (a_cond c cs)) h = cc

count_step : (t : Tuple) (c : CondTree) (cs : List CondTree) (v : Verdict) → verdict c ≡ v →
    counted t cs ≡ count_holding cs + counted t (still_open cs) →
    count (true_on t c) + counted t cs ≡ ((elim v [ Holds ↦ 1 | Fails ↦ 0 | Open ↦ 0 ]) + count_holding cs) + counted t (elim v [ Holds ↦ still_open cs | Fails ↦ still_open cs | Open ↦ c ∷ still_open cs ])
count_step t c cs Holds h ih = omega (arith, ap count (holds-true t c h), ih)
count_step t c cs Fails h ih = omega (arith, ap count (fails-false t c h), ih)
count_step t c cs Open h ih = omega (arith, ih)

split_count : (t : Tuple) (cs : List CondTree) → counted t cs ≡ count_holding cs + counted t (still_open cs)
split_count t [] = refl
split_count t (c ∷ cs) = count_step t c cs (verdict c) refl (split_count t cs)

one_or_node-count : (t : Tuple) (n : ℤ) (cs : List CondTree) → le_z n (pos 0) ≡ false → int_lt (pos (length cs)) n ≡ false → true_on t (one_or_node n cs) ≡ le_z n (pos (counted t cs))
one_or_node-count t n [] h k = refl
one_or_node-count t n (c ∷ []) h k = alone n (true_on t c) h k
one_or_node-count t n (c ∷ (d ∷ cs)) h k = ap (λ m. le_z n (pos m)) (count-from t (c ∷ (d ∷ cs)))

open_by : (t : Tuple) (n : ℤ) (cs : List CondTree) (a b : Bool) → le_z n (pos 0) ≡ a → int_lt (pos (length cs)) n ≡ b →
    true_on t (cond a always (cond b never (one_or_node n cs))) ≡ le_z n (pos (counted t cs))
open_by t n cs true b h k = sym (low_enough n (counted t cs) h)
open_by t n cs false true h k = sym (too_few n (counted t cs) (length cs) (counted-le t cs) k)
open_by t n cs false false h k = one_or_node-count t n cs h k

fold_open-count : (t : Tuple) (n : ℤ) (cs : List CondTree) → true_on t (fold_open n cs) ≡ le_z n (pos (counted t cs))
fold_open-count t n cs = open_by t n cs (le_z n (pos 0)) (int_lt (pos (length cs)) n) refl refl

-- at least n of conditions are true
pub fold-count : (t : Tuple) (n : ℤ) (cs : List CondTree) → true_on t (fold_count n cs) ≡ le_z n (pos (counted t cs))
fold-count t n cs =
    fold_open-count t (n -ℤ pos (count_holding cs)) (still_open cs)
    ∙ shifted n (count_holding cs) (counted t (still_open cs))
    ∙ ap (λ m. le_z n (pos m)) (sym (split_count t cs))

linear_by : (t : Tuple) (f : Sum) (b : Bool) → has_terms f ≡ b → true_on t (cond b (linear f) (certain (le_z f.constant (pos 0)))) ≡ le_z (value f t) (pos 0)
linear_by t f true h = refl
linear_by t f false h = certain-true t (le_z f.constant (pos 0)) ∙ ap (λ z. le_z z (pos 0)) (sym (bare-value f t h))

-- a form is at most 0
pub fold-linear : (t : Tuple) (f : Sum) → true_on t (fold_linear f) ≡ le_z (value f t) (pos 0)
fold-linear t f = linear_by t f (has_terms f) refl
