-- A rule without its macros holds exactly where the rule holds.
use Rattle.std.proofs.Common.{◌≡◌, ℕ, zero, suc, ◌+◌, ◌≤◌, eqb, Bool, true, false, cond, not, ◌&&◌, ◌||◌, List, [], ◌∷◌, map, length, ℤ, pos, ◌+ℤ◌, ◌*ℤ◌, neg_ℤ, sym, ap, ◌∙◌, refl, arith}
use Rattle.std.specs.Prelude.{Option, None, Some, nat_le}
use Rattle.std.specs.Option.{option_map_or}
use Rattle.std.specs.List.{list_all, list_any, count_by, filter, fold, range_with_len}
use Rattle.std.specs.Int.{int_min, int_max}
use Rattle.std.specs.Str.{bytes_eq}
use Rattle.std.proofs.lemmas.Bool.Decides.{nat_tests}
use Rattle.rule_syntax.specs.declared.tree.QuantKind.{QuantKind}
use Rattle.rule_syntax.specs.declared.tree.QuantKind.TheVariants.{ForAll, Exists, AtLeast, AtMost}
use Rattle.rule_syntax.specs.Tree.{ExprTree, number, field, param, shape_number, negative, sum, product, least, greatest, value_call, SumTree, plus, minus, SumTrees, no_sums, a_sum, ProductTree, times, over, modulo, ProductTrees, no_products, a_product, ArgumentTree, argument, ArgumentTrees, no_arguments, an_argument, CollTree, all_objects, listed, boxes_of, FormulaTree, truth, falsehood, negation, all_of, any_of, implication, equivalence, comparison, quantified, formula_call, FormulaTrees, no_formulas, a_formula}
use Rattle.problem_data.specs.Problem.{BoxData, ParamData, ProblemData}
use Rattle.problem_data.specs.Tree.{BodyTree, means, equals}
use Rattle.problem_data.specs.Tuple.{Tuple, boxes_in}
use Rattle.problem_data.specs.Value.{Thing, Number, Object, Part, Env, bind, object_position, shape_position, macro_position, look, as_number, field_value, Calls, thing, sum_value, sums_value, product_value, products_value, argument_thing, things, value}
use Rattle.problem_data.specs.Truth.{compare, same_truth, quantify, boxes_of_thing, candidates, is_there, elements, holds, all_hold, some_holds, bind_all, body_value, body_truth, macro_of, calls_of, formula_holds}
use Rattle.rule_expand.specs.declared.plain.Subject.{Subject}
use Rattle.rule_expand.specs.declared.plain.Subject.TheVariants as subjects
use Rattle.rule_expand.specs.Plain as plain
use Rattle.rule_expand.specs.Plain.{PlainExprTree, PlainCollTree, PlainFormulaTree}
use Rattle.rule_expand.specs.PlainTruth.{PlainEnv, set_variable, variable_in, subject_in, plain_value, plain_sum, plain_sums, plain_product, plain_products, plain_candidates, plain_elements, plain_holds, plain_all, plain_some}
use Rattle.rule_expand.specs.Expansion.{Meant, an_expr, a_subject, Subst, give, meant_by, as_expr, field_of, binders, Expansions, meant, sum_expanded, sums_expanded, product_expanded, products_expanded, argument_meant, arguments_meant, expr_expanded, boxes_expanded, coll_expanded, formula_expanded, formulas_expanded, give_all, body_expr, body_formula, expansions_of, expanded}

-- the value of what a name became
abbrev pub meant_thing : ProblemData → Tuple → PlainEnv → Meant → Thing
meant_thing p t env (an_expr e) = Number (plain_value p t e env)
meant_thing p t env (a_subject s) = subject_in s env

abbrev pub meant_things : ProblemData → Tuple → PlainEnv → List Meant → List Thing
meant_things p t env [] = []
meant_things p t env (m ∷ rest) = meant_thing p t env m ∷ meant_things p t env rest

-- the environment that names in sight stand for
abbrev pub env_of : ProblemData → Tuple → PlainEnv → Subst → Env
env_of p t env [] = []
env_of p t env (b ∷ rest) = bind b.name (meant_thing p t env b.meant) (env_of p t env rest)

-- a variable stands for an object or a box, and not for a number
pub record IsSpatial (env : PlainEnv) : Type 0 where
  pub at : (n : ℕ) → as_number (variable_in n env) ≡ pos 0

spatial-cond : (b : Bool) (x y : Thing) → as_number x ≡ pos 0 → as_number y ≡ pos 0 → as_number (cond b x y) ≡ pos 0
spatial-cond true x y h k = h
spatial-cond false x y h k = k

spatial-bind : (j : ℕ) (v : Thing) (env : PlainEnv) → as_number v ≡ pos 0 → IsSpatial env → IsSpatial (set_variable j v env)
spatial-bind j v env h e = record { at = λ n. spatial-cond (eqb n j) v (variable_in n env) h (e.at n) }

-- giving a value to a variable from k on changes nothing that the names stand for
pub record IsFresh (p : ProblemData) (t : Tuple) (k : ℕ) (sub : Subst) : Type 0 where
  pub same : (j : ℕ) (v : Thing) (env : PlainEnv) → k ≤ j → as_number v ≡ pos 0 → IsSpatial env → env_of p t (set_variable j v env) sub ≡ env_of p t env sub

pub record AreFresh (p : ProblemData) (t : Tuple) (k : ℕ) (ms : List Meant) : Type 0 where
  pub same : (j : ℕ) (v : Thing) (env : PlainEnv) → k ≤ j → as_number v ≡ pos 0 → IsSpatial env → meant_things p t (set_variable j v env) ms ≡ meant_things p t env ms

-- the expansions stand for the meanings
pub record Expands (p : ProblemData) (t : Tuple) (c : Calls) (x : Expansions) : Type 0 where
  pub number : (m : ℕ) (ms : List Meant) (env : PlainEnv) → IsSpatial env → plain_value p t (x.number m ms) env ≡ c.number m (meant_things p t env ms)
  pub truth_of : (m : ℕ) (ms : List Meant) (k : ℕ) (env : PlainEnv) → IsSpatial env → AreFresh p t k ms → plain_holds p t (x.truth_of m ms k) env ≡ c.truth_of m (meant_things p t env ms)

look-cond : (p : ProblemData) (t : Tuple) (env : PlainEnv) (b : Bool) (a d : Meant) → meant_thing p t env (cond b a d) ≡ cond b (meant_thing p t env a) (meant_thing p t env d)
look-cond p t env true a d = refl
look-cond p t env false a d = refl

look-object : (p : ProblemData) (t : Tuple) (env : PlainEnv) (o : Option ℕ) →
    meant_thing p t env (option_map_or (λ i. a_subject (subjects.Object i)) o (an_expr (plain.number 0))) ≡ option_map_or Object o (Number (pos 0))
look-object p t env None = refl
look-object p t env (Some i) = refl

look-sub : (p : ProblemData) (t : Tuple) (env : PlainEnv) (n : List ℕ) (sub : Subst) → meant_thing p t env (meant_by p n sub) ≡ look p n (env_of p t env sub)
look-sub p t env n [] = look-object p t env (object_position p n)
look-sub p t env n (b ∷ rest) =
    look-cond p t env (bytes_eq n b.name) b.meant (meant_by p n rest) ∙ ap (λ y. cond (bytes_eq n b.name) (meant_thing p t env b.meant) y) (look-sub p t env n rest)

subject-number : (env : PlainEnv) (s : Subject) → IsSpatial env → pos 0 ≡ as_number (subject_in s env)
subject-number env (subjects.Variable n) e = sym (e.at n)
subject-number env (subjects.Object o) e = refl

number-of : (p : ProblemData) (t : Tuple) (env : PlainEnv) (m : Meant) → IsSpatial env → plain_value p t (as_expr m) env ≡ as_number (meant_thing p t env m)
number-of p t env (an_expr e) h = refl
number-of p t env (a_subject s) h = subject-number env s h

field-of : (p : ProblemData) (t : Tuple) (env : PlainEnv) (m : Meant) (f : List ℕ) → plain_value p t (field_of m f) env ≡ field_value p t (meant_thing p t env m) f
field-of p t env (an_expr e) f = refl
field-of p t env (a_subject s) f = refl

shape-of : (p : ProblemData) (t : Tuple) (env : PlainEnv) (o : Option ℕ) →
    plain_value p t (option_map_or (λ s. plain.shape_number s) o (plain.number 0)) env ≡ option_map_or (λ s. pos (s + 1)) o (pos 0)
shape-of p t env None = refl
shape-of p t env (Some s) = refl

call-number : (p : ProblemData) (t : Tuple) (c : Calls) (x : Expansions) (env : PlainEnv) → Expands p t c x → IsSpatial env → (ms : List Meant) (o : Option ℕ) →
    plain_value p t (option_map_or (λ k. x.number k ms) o (plain.number 0)) env ≡ option_map_or (λ k. c.number k (meant_things p t env ms)) o (pos 0)
call-number p t c x env h e ms None = refl
call-number p t c x env h e ms (Some k) = h.number k ms env e

call-truth : (p : ProblemData) (t : Tuple) (c : Calls) (x : Expansions) (env : PlainEnv) → Expands p t c x → IsSpatial env → (ms : List Meant) (k : ℕ) → AreFresh p t k ms → (o : Option ℕ) →
    plain_holds p t (option_map_or (λ n. x.truth_of n ms k) o plain.falsehood) env ≡ option_map_or (λ n. c.truth_of n (meant_things p t env ms)) o false
call-truth p t c x env h e ms k f None = refl
call-truth p t c x env h e ms k f (Some n) = h.truth_of n ms k env e f

mutual
  pub meant-means : (p : ProblemData) (t : Tuple) (c : Calls) (x : Expansions) → Expands p t c x → (e : ExprTree) (sub : Subst) (env : PlainEnv) → IsSpatial env →
      meant_thing p t env (meant x p e sub) ≡ thing c p t e (env_of p t env sub)
  meant-means p t c x h (number place n) sub env s = refl
  meant-means p t c x h (field a dot f) sub env s = ap Number (field-of p t env (meant_by p a.name sub) f.name ∙ ap (λ y. field_value p t y f.name) (look-sub p t env a.name sub))
  meant-means p t c x h (param a) sub env s = look-sub p t env a.name sub
  meant-means p t c x h (shape_number place a) sub env s = ap Number (shape-of p t env (shape_position p a.name))
  meant-means p t c x h (negative place e) sub env s = ap (λ z. Number (neg_ℤ z)) (number-of p t env (meant x p e sub) s ∙ ap as_number (meant-means p t c x h e sub env s))
  meant-means p t c x h (sum place e steps) sub env s =
      ap (λ z. Number (z +ℤ plain_sums p t (sums_expanded x p steps sub) env)) (number-of p t env (meant x p e sub) s ∙ ap as_number (meant-means p t c x h e sub env s))
      ∙ ap (λ z. Number (value c p t e (env_of p t env sub) +ℤ z)) (sums-mean p t c x h steps sub env s)
  meant-means p t c x h (product place e steps) sub env s =
      ap (λ z. Number (plain_products p t z (products_expanded x p steps sub) env)) (number-of p t env (meant x p e sub) s ∙ ap as_number (meant-means p t c x h e sub env s))
      ∙ ap Number (products-mean p t c x h (value c p t e (env_of p t env sub)) steps sub env s)
  meant-means p t c x h (least place a b) sub env s =
      ap (λ z. Number (int_min z (plain_value p t (as_expr (meant x p b sub)) env))) (number-of p t env (meant x p a sub) s ∙ ap as_number (meant-means p t c x h a sub env s))
      ∙ ap (λ z. Number (int_min (value c p t a (env_of p t env sub)) z)) (number-of p t env (meant x p b sub) s ∙ ap as_number (meant-means p t c x h b sub env s))
  meant-means p t c x h (greatest place a b) sub env s =
      ap (λ z. Number (int_max z (plain_value p t (as_expr (meant x p b sub)) env))) (number-of p t env (meant x p a sub) s ∙ ap as_number (meant-means p t c x h a sub env s))
      ∙ ap (λ z. Number (int_max (value c p t a (env_of p t env sub)) z)) (number-of p t env (meant x p b sub) s ∙ ap as_number (meant-means p t c x h b sub env s))
  meant-means p t c x h (value_call place m args) sub env s =
      ap Number (call-number p t c x env h s (arguments_meant x p args sub) (macro_position p m.name)
      ∙ ap (λ vs. option_map_or (λ k. c.number k vs) (macro_position p m.name) (pos 0)) (arguments-mean p t c x h args sub env s))

  pub sum-means : (p : ProblemData) (t : Tuple) (c : Calls) (x : Expansions) → Expands p t c x → (e : SumTree) (sub : Subst) (env : PlainEnv) → IsSpatial env →
      plain_sum p t (sum_expanded x p e sub) env ≡ sum_value c p t e (env_of p t env sub)
  sum-means p t c x h (plus e) sub env s = number-of p t env (meant x p e sub) s ∙ ap as_number (meant-means p t c x h e sub env s)
  sum-means p t c x h (minus e) sub env s = ap neg_ℤ (number-of p t env (meant x p e sub) s ∙ ap as_number (meant-means p t c x h e sub env s))

  pub sums-mean : (p : ProblemData) (t : Tuple) (c : Calls) (x : Expansions) → Expands p t c x → (e : SumTrees) (sub : Subst) (env : PlainEnv) → IsSpatial env →
      plain_sums p t (sums_expanded x p e sub) env ≡ sums_value c p t e (env_of p t env sub)
  sums-mean p t c x h no_sums sub env s = refl
  sums-mean p t c x h (a_sum e rest) sub env s =
      ap (λ z. z +ℤ plain_sums p t (sums_expanded x p rest sub) env) (sum-means p t c x h e sub env s)
      ∙ ap (λ z. sum_value c p t e (env_of p t env sub) +ℤ z) (sums-mean p t c x h rest sub env s)

  pub product-means : (p : ProblemData) (t : Tuple) (c : Calls) (x : Expansions) → Expands p t c x → (z : ℤ) (e : ProductTree) (sub : Subst) (env : PlainEnv) → IsSpatial env →
      plain_product p t z (product_expanded x p e sub) env ≡ product_value c p t z e (env_of p t env sub)
  product-means p t c x h z (times e) sub env s = ap (λ y. z *ℤ y) (number-of p t env (meant x p e sub) s ∙ ap as_number (meant-means p t c x h e sub env s))
  product-means p t c x h z (over place n) sub env s = refl
  product-means p t c x h z (modulo place n) sub env s = refl

  pub products-mean : (p : ProblemData) (t : Tuple) (c : Calls) (x : Expansions) → Expands p t c x → (z : ℤ) (e : ProductTrees) (sub : Subst) (env : PlainEnv) → IsSpatial env →
      plain_products p t z (products_expanded x p e sub) env ≡ products_value c p t z e (env_of p t env sub)
  products-mean p t c x h z no_products sub env s = refl
  products-mean p t c x h z (a_product e rest) sub env s =
      ap (λ y. plain_products p t y (products_expanded x p rest sub) env) (product-means p t c x h z e sub env s)
      ∙ products-mean p t c x h (product_value c p t z e (env_of p t env sub)) rest sub env s

  pub argument-means : (p : ProblemData) (t : Tuple) (c : Calls) (x : Expansions) → Expands p t c x → (e : ArgumentTree) (sub : Subst) (env : PlainEnv) → IsSpatial env →
      meant_thing p t env (argument_meant x p e sub) ≡ argument_thing c p t e (env_of p t env sub)
  argument-means p t c x h (argument place e) sub env s = meant-means p t c x h e sub env s

  pub arguments-mean : (p : ProblemData) (t : Tuple) (c : Calls) (x : Expansions) → Expands p t c x → (e : ArgumentTrees) (sub : Subst) (env : PlainEnv) → IsSpatial env →
      meant_things p t env (arguments_meant x p e sub) ≡ things c p t e (env_of p t env sub)
  arguments-mean p t c x h no_arguments sub env s = refl
  arguments-mean p t c x h (an_argument e rest) sub env s =
      ap (λ v. v ∷ meant_things p t env (arguments_meant x p rest sub)) (argument-means p t c x h e sub env s)
      ∙ ap (λ vs. argument_thing c p t e (env_of p t env sub) ∷ vs) (arguments-mean p t c x h rest sub env s)

pub expr-means : (p : ProblemData) (t : Tuple) (c : Calls) (x : Expansions) → Expands p t c x → (e : ExprTree) (sub : Subst) (env : PlainEnv) → IsSpatial env →
    plain_value p t (as_expr (meant x p e sub)) env ≡ value c p t e (env_of p t env sub)
expr-means p t c x h e sub env s = number-of p t env (meant x p e sub) s ∙ ap as_number (meant-means p t c x h e sub env s)

-- arguments that are made from fresh names are fresh
arguments-fresh : (p : ProblemData) (t : Tuple) (c : Calls) (x : Expansions) → Expands p t c x → (args : ArgumentTrees) (sub : Subst) (k : ℕ) → IsFresh p t k sub → AreFresh p t k (arguments_meant x p args sub)
arguments-fresh p t c x h args sub k f = record {
  same = λ j v env l n s.
      arguments-mean p t c x h args sub (set_variable j v env) (spatial-bind j v env n s)
      ∙ ap (things c p t args) (f.same j v env l n s)
      ∙ sym (arguments-mean p t c x h args sub env s);
}

fresh-more : (p : ProblemData) (t : Tuple) (k m : ℕ) (sub : Subst) → k ≤ m → IsFresh p t k sub → IsFresh p t m sub
fresh-more p t k m sub h f = record { same = λ j v env l n s. f.same j v env (omega arith) n s }

other : (j k : ℕ) → k + 1 ≤ j → eqb k j ≡ false
other j k h = grind (arith, nat_tests)

own : (k : ℕ) → eqb k k ≡ true
own k = grind (arith, nat_tests)

-- with the variable's number k, fresh from k + 1 on
fresh-bind : (p : ProblemData) (t : Tuple) (k : ℕ) (n : List ℕ) (sub : Subst) → IsFresh p t k sub → IsFresh p t (k + 1) (give n (a_subject (subjects.Variable k)) sub)
fresh-bind p t k n sub f = record {
  same = λ j v env l i s.
      ap (λ b. bind n (cond b v (variable_in k env)) (env_of p t (set_variable j v env) sub)) (other j k l)
      ∙ ap (λ e. bind n (variable_in k env) e) (f.same j v env (omega arith) i s);
}

-- where the variable has a value, its name stands for that value
bound-means : (p : ProblemData) (t : Tuple) (k : ℕ) (n : List ℕ) (sub : Subst) (v : Thing) (env : PlainEnv) → IsFresh p t k sub → as_number v ≡ pos 0 → IsSpatial env →
    env_of p t (set_variable k v env) (give n (a_subject (subjects.Variable k)) sub) ≡ bind n v (env_of p t env sub)
bound-means p t k n sub v env f i s =
    ap (λ b. bind n (cond b v (variable_in k env)) (env_of p t (set_variable k v env) sub)) (own k)
    ∙ ap (λ e. bind n v e) (f.same k v env (omega arith) i s)

abbrev AreSpatial : List Thing → Type 0
AreSpatial [] = Unit {0}
AreSpatial (x ∷ xs) = (as_number x ≡ pos 0) × AreSpatial xs

count-from : (h g : Thing → Bool) (n : ℕ) (xs : List Thing) → AreSpatial xs → ((v : Thing) → as_number v ≡ pos 0 → h v ≡ g v) →
    fold (λ a x. a + cond (h x) 1 0) n xs ≡ fold (λ a x. a + cond (g x) 1 0) n xs
count-from h g n [] a e = refl
count-from h g n (x ∷ xs) a e = ap (λ b. fold (λ m y. m + cond (h y) 1 0) (n + cond b 1 0) xs) (e x a.0) ∙ count-from h g (n + cond (g x) 1 0) xs a.1 e

count-same : (h g : Thing → Bool) (xs : List Thing) → AreSpatial xs → ((v : Thing) → as_number v ≡ pos 0 → h v ≡ g v) → count_by h xs ≡ count_by g xs
count-same h g xs a e = count-from h g 0 xs a e

every-same : (h g : Thing → Bool) (xs : List Thing) → AreSpatial xs → ((v : Thing) → as_number v ≡ pos 0 → h v ≡ g v) → list_all h xs ≡ list_all g xs
every-same h g [] a e = refl
every-same h g (x ∷ xs) a e = ap (λ b. b && list_all h xs) (e x a.0) ∙ ap (λ b. g x && b) (every-same h g xs a.1 e)

some-same : (h g : Thing → Bool) (xs : List Thing) → AreSpatial xs → ((v : Thing) → as_number v ≡ pos 0 → h v ≡ g v) → list_any h xs ≡ list_any g xs
some-same h g [] a e = refl
some-same h g (x ∷ xs) a e = ap (λ b. b || list_any h xs) (e x a.0) ∙ ap (λ b. g x || b) (some-same h g xs a.1 e)

quantify-same : (kind : QuantKind) (h g : Thing → Bool) (xs : List Thing) → AreSpatial xs → ((v : Thing) → as_number v ≡ pos 0 → h v ≡ g v) → quantify kind h xs ≡ quantify kind g xs
quantify-same ForAll h g xs a e = every-same h g xs a e
quantify-same Exists h g xs a e = some-same h g xs a e
quantify-same (AtLeast n) h g xs a e = ap (λ m. nat_le n m) (count-same h g xs a e)
quantify-same (AtMost n) h g xs a e = ap (λ m. nat_le m n) (count-same h g xs a e)

objects-spatial : (os : List ℕ) → AreSpatial (map Object os)
objects-spatial [] = tt
objects-spatial (o ∷ os) = (refl, objects-spatial os)

parts-spatial : (bs : List BoxData) → AreSpatial (map Part bs)
parts-spatial [] = tt
parts-spatial (b ∷ bs) = (refl, parts-spatial bs)

boxes-spatial : (p : ProblemData) (t : Tuple) (x : Thing) → AreSpatial (boxes_of_thing p t x)
boxes-spatial p t (Object o) = parts-spatial (boxes_in p t o)
boxes-spatial p t (Number z) = tt
boxes-spatial p t (Part b) = tt

candidates-spatial : (p : ProblemData) (t : Tuple) (coll : PlainCollTree) (env : PlainEnv) → AreSpatial (plain_candidates p t coll env)
candidates-spatial p t plain.all_objects env = objects-spatial (range_with_len 0 (length p.objects))
candidates-spatial p t (plain.listed os) env = objects-spatial os
candidates-spatial p t (plain.boxes_of s) env = boxes-spatial p t (subject_in s env)

spatial-if : (b : Bool) (x : Thing) (xs : List Thing) → as_number x ≡ pos 0 → AreSpatial xs → AreSpatial (cond b (x ∷ xs) xs)
spatial-if true x xs h a = (h, a)
spatial-if false x xs h a = a

filter-spatial : (test : Thing → Bool) (xs : List Thing) → AreSpatial xs → AreSpatial (filter test xs)
filter-spatial test [] a = tt
filter-spatial test (x ∷ xs) a = spatial-if (test x) x (filter test xs) a.0 (filter-spatial test xs a.1)

elements-spatial : (p : ProblemData) (t : Tuple) (coll : PlainCollTree) (env : PlainEnv) → AreSpatial (plain_elements p t coll env)
elements-spatial p t coll env = filter-spatial (is_there p t) (plain_candidates p t coll env) (candidates-spatial p t coll env)

boxes-mean : (p : ProblemData) (t : Tuple) (env : PlainEnv) (m : Meant) → plain_candidates p t (boxes_expanded m) env ≡ boxes_of_thing p t (meant_thing p t env m)
boxes-mean p t env (an_expr e) = refl
boxes-mean p t env (a_subject s) = refl

coll-means : (p : ProblemData) (t : Tuple) (env : PlainEnv) (coll : CollTree) (sub : Subst) → plain_candidates p t (coll_expanded p coll sub) env ≡ candidates p t coll (env_of p t env sub)
coll-means p t env all_objects sub = refl
coll-means p t env (listed ns) sub = refl
coll-means p t env (boxes_of a) sub = boxes-mean p t env (meant_by p a.name sub) ∙ ap (boxes_of_thing p t) (look-sub p t env a.name sub)

quantified-holds : (p : ProblemData) (t : Tuple) (kind : QuantKind) (k : ℕ) (coll : CollTree) (sub : Subst) (body : PlainFormulaTree) (env : PlainEnv) (h : Thing → Bool) →
    ((v : Thing) → as_number v ≡ pos 0 → plain_holds p t body (set_variable k v env) ≡ h v) →
    plain_holds p t (plain.quantified kind k (coll_expanded p coll sub) body) env ≡ quantify kind h (elements p t coll (env_of p t env sub))
quantified-holds p t kind k coll sub body env h f =
    quantify-same kind (λ v. plain_holds p t body (set_variable k v env)) h (plain_elements p t (coll_expanded p coll sub) env) (elements-spatial p t (coll_expanded p coll sub) env) f
    ∙ ap (λ xs. quantify kind h (filter (is_there p t) xs)) (coll-means p t env coll sub)

mutual
  pub formula-means : (p : ProblemData) (t : Tuple) (c : Calls) (x : Expansions) → Expands p t c x → (f : FormulaTree) (sub : Subst) (k : ℕ) (env : PlainEnv) → IsSpatial env → IsFresh p t k sub →
      plain_holds p t (formula_expanded x p f sub k) env ≡ holds c p t f (env_of p t env sub)
  formula-means p t c x h (truth place) sub k env s r = refl
  formula-means p t c x h (falsehood place) sub k env s r = refl
  formula-means p t c x h (negation place f) sub k env s r = ap not (formula-means p t c x h f sub k env s r)
  formula-means p t c x h (all_of place fs) sub k env s r = every-means p t c x h fs sub k env s r
  formula-means p t c x h (any_of place fs) sub k env s r = some-means p t c x h fs sub k env s r
  formula-means p t c x h (implication place f g) sub k env s r =
      let j = k + binders (formula_expanded x p f sub k) in
      ap (λ b. not b || plain_holds p t (formula_expanded x p g sub j) env) (formula-means p t c x h f sub k env s r)
      ∙ ap (λ b. not (holds c p t f (env_of p t env sub)) || b) (formula-means p t c x h g sub j env s (fresh-more p t k j sub (omega arith) r))
  formula-means p t c x h (equivalence place f g) sub k env s r =
      let j = k + binders (formula_expanded x p f sub k) in
      ap (λ b. same_truth b (plain_holds p t (formula_expanded x p g sub j) env)) (formula-means p t c x h f sub k env s r)
      ∙ ap (λ b. same_truth (holds c p t f (env_of p t env sub)) b) (formula-means p t c x h g sub j env s (fresh-more p t k j sub (omega arith) r))
  formula-means p t c x h (comparison place a rel b) sub k env s r =
      ap (λ z. compare rel z (plain_value p t (expr_expanded x p b sub) env)) (expr-means p t c x h a sub env s)
      ∙ ap (compare rel (value c p t a (env_of p t env sub))) (expr-means p t c x h b sub env s)
  formula-means p t c x h (quantified place kind v coll f) sub k env s r =
      quantified-holds p t kind k coll sub (formula_expanded x p f (give v.name (a_subject (subjects.Variable k)) sub) (k + 1)) env (λ y. holds c p t f (bind v.name y (env_of p t env sub)))
      (λ y i. formula-means p t c x h f (give v.name (a_subject (subjects.Variable k)) sub) (k + 1) (set_variable k y env) (spatial-bind k y env i s) (fresh-bind p t k v.name sub r)
      ∙ ap (holds c p t f) (bound-means p t k v.name sub y env r i s))
  formula-means p t c x h (formula_call place m args) sub k env s r =
      call-truth p t c x env h s (arguments_meant x p args sub) k (arguments-fresh p t c x h args sub k r) (macro_position p m.name)
      ∙ ap (λ vs. option_map_or (λ n. c.truth_of n vs) (macro_position p m.name) false) (arguments-mean p t c x h args sub env s)

  pub every-means : (p : ProblemData) (t : Tuple) (c : Calls) (x : Expansions) → Expands p t c x → (f : FormulaTrees) (sub : Subst) (k : ℕ) (env : PlainEnv) → IsSpatial env → IsFresh p t k sub →
      plain_all p t (formulas_expanded x p f sub k) env ≡ all_hold c p t f (env_of p t env sub)
  every-means p t c x h no_formulas sub k env s r = refl
  every-means p t c x h (a_formula f rest) sub k env s r =
      let j = k + binders (formula_expanded x p f sub k) in
      ap (λ b. b && plain_all p t (formulas_expanded x p rest sub j) env) (formula-means p t c x h f sub k env s r)
      ∙ ap (λ b. holds c p t f (env_of p t env sub) && b) (every-means p t c x h rest sub j env s (fresh-more p t k j sub (omega arith) r))

  pub some-means : (p : ProblemData) (t : Tuple) (c : Calls) (x : Expansions) → Expands p t c x → (f : FormulaTrees) (sub : Subst) (k : ℕ) (env : PlainEnv) → IsSpatial env → IsFresh p t k sub →
      plain_some p t (formulas_expanded x p f sub k) env ≡ some_holds c p t f (env_of p t env sub)
  some-means p t c x h no_formulas sub k env s r = refl
  some-means p t c x h (a_formula f rest) sub k env s r =
      let j = k + binders (formula_expanded x p f sub k) in
      ap (λ b. b || plain_some p t (formulas_expanded x p rest sub j) env) (formula-means p t c x h f sub k env s r)
      ∙ ap (λ b. holds c p t f (env_of p t env sub) || b) (some-means p t c x h rest sub j env s (fresh-more p t k j sub (omega arith) r))

params-mean : (p : ProblemData) (t : Tuple) (env : PlainEnv) (ns : List ParamData) (ms : List Meant) → env_of p t env (give_all ns ms) ≡ bind_all ns (meant_things p t env ms)
params-mean p t env [] ms = refl
params-mean p t env (n ∷ ns) [] = refl
params-mean p t env (n ∷ ns) (m ∷ ms) = ap (bind n.name (meant_thing p t env m)) (params-mean p t env ns ms)

call-fresh : (p : ProblemData) (t : Tuple) (k : ℕ) (ns : List ParamData) (ms : List Meant) → AreFresh p t k ms → IsFresh p t k (give_all ns ms)
call-fresh p t k ns ms f = record {
  same = λ j v env l i s. params-mean p t (set_variable j v env) ns ms ∙ ap (bind_all ns) (f.same j v env l i s) ∙ sym (params-mean p t env ns ms);
}

body-number : (p : ProblemData) (t : Tuple) (c : Calls) (x : Expansions) → Expands p t c x → (b : BodyTree) (sub : Subst) (env : PlainEnv) → IsSpatial env → plain_value p t (body_expr x p b sub) env ≡ body_value c p t b (env_of p t env sub)
body-number p t c x h (equals e) sub env s = expr-means p t c x h e sub env s
body-number p t c x h (means f) sub env s = refl

body-holds : (p : ProblemData) (t : Tuple) (c : Calls) (x : Expansions) → Expands p t c x → (b : BodyTree) (sub : Subst) (k : ℕ) (env : PlainEnv) → IsSpatial env → IsFresh p t k sub →
    plain_holds p t (body_formula x p b sub k) env ≡ body_truth c p t b (env_of p t env sub)
body-holds p t c x h (equals e) sub k env s r = refl
body-holds p t c x h (means f) sub k env s r = formula-means p t c x h f sub k env s r

choose-number : (p : ProblemData) (t : Tuple) (env : PlainEnv) (b : Bool) (x y : PlainExprTree) (u v : ℤ) → plain_value p t x env ≡ u → plain_value p t y env ≡ v → plain_value p t (cond b x y) env ≡ cond b u v
choose-number p t env true x y u v h k = h
choose-number p t env false x y u v h k = k

choose-truth : (p : ProblemData) (t : Tuple) (env : PlainEnv) (b : Bool) (x y : PlainFormulaTree) (u v : Bool) → plain_holds p t x env ≡ u → plain_holds p t y env ≡ v → plain_holds p t (cond b x y) env ≡ cond b u v
choose-truth p t env true x y u v h k = h
choose-truth p t env false x y u v h k = k

pub all-expand : (p : ProblemData) (t : Tuple) (n : ℕ) → Expands p t (calls_of p t n) (expansions_of p n)
all-expand p t zero = record { number = λ m ms env s. refl; truth_of = λ m ms k env s f. refl }
all-expand p t (suc n) =
    let h = all-expand p t n in
    let m = macro_of p n in
    record {
      number = λ k ms env s. choose-number p t env (eqb k n) _ _ _ _
          (body-number p t (calls_of p t n) (expansions_of p n) h m.body (give_all m.params ms) env s ∙ ap (body_value (calls_of p t n) p t m.body) (params-mean p t env m.params ms))
          (h.number k ms env s);
      truth_of = λ k ms v env s f. choose-truth p t env (eqb k n) _ _ _ _
          (body-holds p t (calls_of p t n) (expansions_of p n) h m.body (give_all m.params ms) v env s (call-fresh p t v m.params ms f) ∙ ap (body_truth (calls_of p t n) p t m.body) (params-mean p t env m.params ms))
          (h.truth_of k ms v env s f);
    }

-- a rule without its macros holds exactly where the rule holds
pub expanded-holds : (p : ProblemData) (t : Tuple) (f : FormulaTree) → plain_holds p t (expanded p f) [] ≡ formula_holds p t f
expanded-holds p t f =
    formula-means p t (calls_of p t (length p.macros)) (expansions_of p (length p.macros)) (all-expand p t (length p.macros)) f [] 0 [] (record { at = λ n. refl }) (record { same = λ j v env l i s. refl })
