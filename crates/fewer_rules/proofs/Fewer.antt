-- Grounding does not fail from fewer counts, whatever other rules the problem has, and then gives
-- the same.
use Rattle.std.proofs.Common.{◌≡◌, ℕ, ◌+◌, ◌-◌, ◌==◌, ◌≤◌, ◌&&◌, Bool, true, false, not, cond, List, [], ◌∷◌, ◌++◌, map, length, sym, ap, ◌∙◌, refl, arith, subst}
use Rattle.std.specs.List.{range_with_len}
use Rattle.std.specs.Option.{option_map_or}
use Rattle.std.proofs.lemmas.Bool.Decides.{nat_tests}
use Rattle.geo_tokens.specs.declared.fault.FaultWord.{FaultWord}
use Rattle.geo_tokens.specs.declared.fault.FaultWord.TheVariants.{Ground, Overflow}
use Rattle.geo_conditions.specs.Form.{Sum}
use Rattle.problem_data.specs.Problem.{RuleData, ProblemData}
use Rattle.problem_data.specs.Tuple.{object_of}
use Rattle.problem_data.specs.Value.{Thing, Number, Object, Part}
use Rattle.problem_data.specs.Places.{absent_place}
use Rattle.rule_expand.specs.declared.plain.Subject.TheVariants as subjects
use Rattle.rule_expand.specs.Plain.{PlainCollTree, all_objects, listed, boxes_of, PlainFormulaTree, truth, falsehood, negation, all_of, any_of, implication, equivalence, comparison, quantified, PlainFormulas, no_formulas, a_formula}
use Rattle.rule_expand.specs.PlainTruth.{PlainEnv, set_variable}
use Rattle.rule_expand.specs.Rules.{PlainDemand, apart, within, plain}
use Rattle.linear_conditions.specs.CondTree.{CondTree, shape_is}
use Rattle.linear_conditions.specs.Fixings.{Fixing, place_of}
use Rattle.linear_conditions.specs.Sums.{has_terms}
use Rattle.linear_conditions.specs.Leaves.{Leaves, under, leaves_of}
use Rattle.linear_conditions.specs.Folding.{certain, fold_linear, joined, decides}
use Rattle.linear_conditions.specs.Counts.{Counts, Outcome, Fault, Done, and_then, allowed, either_way, are_within, within_limits, one_visit, one_leaf, visit, count_sum, count_sums}
use Rattle.linear_conditions.specs.Compare.{ground_leaves, ground_compare}
use Rattle.rule_values.specs.Elements.{owner_of, elements_at}
use Rattle.rule_ground.specs.Shapes.{places, shape_places}
use Rattle.rule_ground.specs.Apart.{apart_conditions}
use Rattle.rule_ground.specs.Within.{within_conditions}
use Rattle.rule_ground.specs.Grounding.{needs, Element, whole, split, optional, gone, is_open, element_of, elements_of, things_of, gather, alone, in_turn, manner, is_counted, body_sign, quantifier_node, Body, absent_truth, shape_child, optional_child, ground_place, ground_places, add_absence, ground_group, ground_split, ground_whole, ground_optional, ground_gone, ground_element, ground_elements, ground, ground_operands, named_objects, ground_object, ground_named}
use Rattle.rule_ground.specs.declared.quantifiers.Manner.{Manner}
use Rattle.rule_ground.specs.declared.quantifiers.Manner.TheVariants as ways
use Rattle.rule_ground.specs.Rules.{conds_of, as_leaves, ground_demand}
use Rattle.fewer_rules.proofs.Forms.{compare_same}

-- ---- counts

-- no count is above the other one
pub record AreFewer (j k : Counts) : Type 0 where
  pub visits : j.visits ≤ k.visits
  pub leaves : j.leaves ≤ k.leaves
  pub terms : j.terms ≤ k.terms

pub as_many : (k : Counts) → AreFewer k k
as_many k = record { visits = omega arith; leaves = omega arith; terms = omega arith }

pub fewer_both : (i j k : Counts) → AreFewer i j → AreFewer j k → AreFewer i k
fewer_both i j k a b = record {
  visits = (let x = a.visits in let y = b.visits in omega (arith, x, y));
  leaves = (let x = a.leaves in let y = b.leaves in omega (arith, x, y));
  terms = (let x = a.terms in let y = b.terms in omega (arith, x, y));
}

fewer_visits : (j k : Counts) → AreFewer j k → AreFewer (one_visit j) (one_visit k)
fewer_visits j k a = record { visits = (let x = a.visits in omega (arith, x)); leaves = a.leaves; terms = a.terms }

fewer_leaves : (j k : Counts) → AreFewer j k → AreFewer (one_leaf j) (one_leaf k)
fewer_leaves j k a = record { visits = a.visits; leaves = (let x = a.leaves in omega (arith, x)); terms = a.terms }

visit_more : (k : Counts) → AreFewer k (one_visit k)
visit_more k = record { visits = omega arith; leaves = omega arith; terms = omega arith }

leaf_more : (k : Counts) → AreFewer k (one_leaf k)
leaf_more k = record { visits = omega arith; leaves = omega arith; terms = omega arith }

abbrev counted : Bool → Sum → Counts → Counts
counted b f k = cond b (record { visits = k.visits; leaves = k.leaves + 1; terms = k.terms + length f.terms }) k

fewer_counted : (b : Bool) (f : Sum) (j k : Counts) → AreFewer j k → AreFewer (counted b f j) (counted b f k)
fewer_counted true f j k a = record { visits = a.visits; leaves = (let x = a.leaves in omega (arith, x)); terms = (let x = a.terms in omega (arith, x)) }
fewer_counted false f j k a = a

counted_more : (b : Bool) (f : Sum) (k : Counts) → AreFewer k (counted b f k)
counted_more true f k = record { visits = omega arith; leaves = omega arith; terms = omega arith }
counted_more false f k = as_many k

fewer_sums : (fs : List Sum) (j k : Counts) → AreFewer j k → AreFewer (count_sums fs j) (count_sums fs k)
fewer_sums [] j k a = a
fewer_sums (f ∷ fs) j k a = fewer_sums fs (count_sum f j) (count_sum f k) (fewer_counted (has_terms f) f j k a)

sums_more : (fs : List Sum) (k : Counts) → AreFewer k (count_sums fs k)
sums_more [] k = as_many k
sums_more (f ∷ fs) k = fewer_both k (count_sum f k) (count_sums fs (count_sum f k)) (counted_more (has_terms f) f k) (sums_more fs (count_sum f k))

within_fewer : (j k : Counts) → AreFewer j k → are_within k ≡ true → are_within j ≡ true
within_fewer j k a e = let x = a.visits in let y = a.leaves in let z = a.terms in grind (arith, nat_tests)

-- ---- steps

-- where a step from n counts is done, the other one is done with fewer counts, and gives the same
abbrev pub Fewer : (A : Type 0) → Counts → Outcome A → Outcome A → Type 0
Fewer A n (Fault w) u = Unit {0}
Fewer A n (Done a k) (Fault w) = ⊥
Fewer A n (Done a k) (Done b j) = (a ≡ b) × (AreFewer n k) × (AreFewer j k)

fewer_from : (A : Type 0) (n m : Counts) (o u : Outcome A) → AreFewer n m → Fewer A m o u → Fewer A n o u
fewer_from A n m (Fault w) u a h = tt
fewer_from A n m (Done x k) (Fault w) a h = absurd h
fewer_from A n m (Done x k) (Done y j) a h = (h.0, fewer_both n m k a h.1, h.2)

fewer_then : (A B : Type 0) (n : Counts) (o u : Outcome A) (f g : A → Counts → Outcome B) → Fewer A n o u →
    ((a : A) (k j : Counts) → AreFewer j k → Fewer B k (f a k) (g a j)) → Fewer B n (and_then A B o f) (and_then A B u g)
unfolding and_then
fewer_then A B n (Fault w) u f g h s = tt
fewer_then A B n (Done a k) (Fault w) f g h s = absurd h
fewer_then A B n (Done a k) (Done b j) f g h s = fewer_from B n k (f a k) (g b j) h.1 (subst (λ x. Fewer B k (f a k) (g x j)) h.0 (s a k j h.2))

fewer_either : (A : Type 0) (b : Bool) (n : Counts) (o u v w : Outcome A) → Fewer A n o v → Fewer A n u w → Fewer A n (either_way A b o u) (either_way A b v w)
unfolding either_way
fewer_either A true n o u v w h l = h
fewer_either A false n o u v w h l = l

fewer_allowed : (A : Type 0) (b : Bool) (x : FaultWord) (n : Counts) (o u : Outcome A) → Fewer A n o u → Fewer A n (allowed A b x o) (allowed A b x u)
unfolding allowed
fewer_allowed A true x n o u h = h
fewer_allowed A false x n o u h = tt

step_by : (B : Type 0) (b c : Bool) (n k j : Counts) (f g : Counts → Counts → Outcome B) → are_within k ≡ b → are_within j ≡ c → AreFewer n k → AreFewer j k → Fewer B k (f k k) (g j j)
    → Fewer B n (and_then Counts B (allowed Counts b Ground (Done k k)) f) (and_then Counts B (allowed Counts c Ground (Done j j)) g)
unfolding allowed and_then
step_by B true true n k j f g e d a l h = fewer_from B n k (f k k) (g j j) a h
step_by B true false n k j f g e d a l h = (let z : false ≡ true = sym d ∙ within_fewer j k l e in absurd cc)
step_by B false c n k j f g e d a l h = tt

-- a step that counts, and what comes behind it
fewer_step : (B : Type 0) (n k j : Counts) (f g : Counts → Counts → Outcome B) → AreFewer n k → AreFewer j k → Fewer B k (f k k) (g j j)
    → Fewer B n (and_then Counts B (within_limits k) f) (and_then Counts B (within_limits j) g)
fewer_step B n k j f g a l h = step_by B (are_within k) (are_within j) n k j f g refl refl a l h

fewer_done : (A : Type 0) (a : A) (k j : Counts) → AreFewer j k → Fewer A k (Done a k) (Done a j)
fewer_done A a k j l = (refl, as_many k, l)

fewer_visit : (B : Type 0) (k j : Counts) (f g : Counts → Counts → Outcome B) → AreFewer j k → Fewer B (one_visit k) (f (one_visit k) (one_visit k)) (g (one_visit j) (one_visit j))
    → Fewer B k (and_then Counts B (visit k) f) (and_then Counts B (visit j) g)
fewer_visit B k j f g l h = fewer_step B k (one_visit k) (one_visit j) f g (visit_more k) (fewer_visits j k l) h

fewer_alone : (n : Counts) (o u : Outcome CondTree) → Fewer CondTree n o u → Fewer (List CondTree) n (alone o) (alone u)
fewer_alone n o u h = fewer_then CondTree (List CondTree) n o u _ _ h (λ c k j l. fewer_done (List CondTree) (c ∷ []) k j l)

fewer_gather : {A B : Type 0} (f g : A → Counts → Outcome (List B)) → ((x : A) (k j : Counts) → AreFewer j k → Fewer (List B) k (f x k) (g x j)) → (xs : List A) (k j : Counts) → AreFewer j k
    → Fewer (List B) k (gather f xs k) (gather g xs j)
fewer_gather {A} {B} f g s [] k j l = fewer_done (List B) [] k j l
fewer_gather {A} {B} f g s (x ∷ xs) k j l =
    fewer_then (List B) (List B) k (f x k) (g x j) _ _ (s x k j l) (λ bs m i a.
    fewer_then (List B) (List B) m (gather f xs m) (gather g xs i) _ _ (fewer_gather f g s xs m i a) (λ cs m' i' b.
    fewer_done (List B) (bs ++ cs) m' i' b))

fewer_in_turn : (all : Bool) (f g f' g' : Counts → Outcome CondTree) → ((k j : Counts) → AreFewer j k → Fewer CondTree k (f k) (f' j)) → ((k j : Counts) → AreFewer j k → Fewer CondTree k (g k) (g' j))
    → (k j : Counts) → AreFewer j k → Fewer CondTree k (in_turn all f g k) (in_turn all f' g' j)
fewer_in_turn all f g f' g' s t k j l =
    fewer_then CondTree CondTree k (f k) (f' j) _ _ (s k j l) (λ c m i a.
    fewer_either CondTree (decides all c) m _ _ _ _
    (fewer_done CondTree (joined all (c ∷ [])) m i a)
    (fewer_then CondTree CondTree m (g m) (g' i) _ _ (t m i a) (λ d m' i' b. fewer_done CondTree (joined all (c ∷ (d ∷ []))) m' i' b)))

-- ---- comparisons

leaves_fewer : (l : Leaves) (k j : Counts) → AreFewer j k → Fewer CondTree k (ground_leaves l k) (ground_leaves l j)
leaves_fewer l k j a =
    fewer_step CondTree k (count_sums l.forms (one_visit k)) (count_sums l.forms (one_visit j)) _ _
    (fewer_both k (one_visit k) (count_sums l.forms (one_visit k)) (visit_more k) (sums_more l.forms (one_visit k)))
    (fewer_sums l.forms (one_visit j) (one_visit k) (fewer_visits j k a))
    (fewer_done CondTree (joined l.all (map fold_linear l.forms)) (count_sums l.forms (one_visit k)) (count_sums l.forms (one_visit j)) (fewer_sums l.forms (one_visit j) (one_visit k) (fewer_visits j k a)))

module _ (p : ProblemData) (rs : List RuleData) where
  abbrev pub other : ProblemData
  other = record p { rules = rs }

  -- ---- elements

  element_same : (asked : Bool) (fix : List Fixing) (x : Thing) → element_of other asked fix x ≡ element_of p asked fix x
  element_same asked fix (Number z) = refl
  element_same asked fix (Object o) = refl
  element_same asked fix (Part b) = refl

  at_same : (place : ℕ) (coll : PlainCollTree) (env : PlainEnv) → elements_at other place coll env ≡ elements_at p place coll env
  at_same place all_objects env = refl
  at_same place (listed os) env = refl
  at_same place (boxes_of s) env = refl

  elements_same : (asked : Bool) (coll : PlainCollTree) (env : PlainEnv) (fix : List Fixing) → elements_of other asked coll env fix ≡ elements_of p asked coll env fix
  elements_same asked coll env fix = λ i. map (λ x. element_same asked fix x i) (at_same (option_map_or (place_of fix) (owner_of coll env) 1) coll env i)

  -- ---- quantifiers

  -- a body from fewer counts
  abbrev IsFewer : Body → Body → Type 0
  IsFewer f g = (x : Thing) (more : List Fixing) (k j : Counts) → AreFewer j k → Fewer CondTree k (f x more k) (g x more j)

  -- a leaf, a visit, and then a body
  leaf_fewer : (x : Thing) (more : List Fixing) (child : CondTree → CondTree) (f g : Body) (k j : Counts) → AreFewer j k → IsFewer f g
      → Fewer CondTree k
      (and_then Counts CondTree (within_limits (one_leaf (one_visit k))) (λ k' same. and_then CondTree CondTree (f x more k') (λ c i. Done (child c) i)))
      (and_then Counts CondTree (within_limits (one_leaf (one_visit j))) (λ k' same. and_then CondTree CondTree (g x more k') (λ c i. Done (child c) i)))
  leaf_fewer x more child f g k j l s =
      fewer_step CondTree k (one_leaf (one_visit k)) (one_leaf (one_visit j)) _ _
      (fewer_both k (one_visit k) (one_leaf (one_visit k)) (visit_more k) (leaf_more (one_visit k)))
      (fewer_leaves (one_visit j) (one_visit k) (fewer_visits j k l))
      (fewer_then CondTree CondTree (one_leaf (one_visit k)) (f x more (one_leaf (one_visit k))) (g x more (one_leaf (one_visit j))) _ _
      (s x more (one_leaf (one_visit k)) (one_leaf (one_visit j)) (fewer_leaves (one_visit j) (one_visit k) (fewer_visits j k l)))
      (λ c m i a. fewer_done CondTree (child c) m i a))

  places_fewer : (f g : Body) (m : Manner) (fix : List Fixing) (o : ℕ) (ss : List ℕ) (k j : Counts) → AreFewer j k → IsFewer f g → Fewer (List CondTree) k (ground_places f m fix o ss k) (ground_places g m fix o ss j)
  places_fewer f g m fix o ss k j l s =
      fewer_gather (λ u i. alone (ground_place f m fix o u i)) (λ u i. alone (ground_place g m fix o u i))
      (λ u h i a. fewer_alone h (ground_place f m fix o u h) (ground_place g m fix o u i) (leaf_fewer (Object o) (record { object = o; place = u } ∷ fix) (shape_child m o u) f g h i a s)) ss k j l

  absence_fewer : (o : ℕ) (cs : List CondTree) (b : Bool) (k j : Counts) → AreFewer j k
      → Fewer (List CondTree) k
      (cond b (and_then Counts (List CondTree) (within_limits (one_leaf k)) (λ k' same. Done (cs ++ (shape_is o (absent_place (object_of p o)) ∷ [])) k')) (Done cs k))
      (cond b (and_then Counts (List CondTree) (within_limits (one_leaf j)) (λ k' same. Done (cs ++ (shape_is o (absent_place (object_of p o)) ∷ [])) k')) (Done cs j))
  absence_fewer o cs true k j l =
      fewer_step (List CondTree) k (one_leaf k) (one_leaf j) _ _ (leaf_more k) (fewer_leaves j k l)
      (fewer_done (List CondTree) (cs ++ (shape_is o (absent_place (object_of p o)) ∷ [])) (one_leaf k) (one_leaf j) (fewer_leaves j k l))
  absence_fewer o cs false k j l = fewer_done (List CondTree) cs k j l

  group_fewer : (f g : Body) (m : Manner) (fix : List Fixing) (o : ℕ) (k j : Counts) → AreFewer j k → IsFewer f g → Fewer CondTree k (ground_group p f m fix o k) (ground_group other g m fix o j)
  group_fewer f g m fix o k j l s =
      fewer_then (List CondTree) CondTree k _ _ _ _ (places_fewer f g m fix o (shape_places p o) k j l s) (λ cs h i a.
      fewer_then (List CondTree) CondTree h _ _ _ _ (absence_fewer o cs (absent_truth m && (object_of p o).may_be_absent) h i a) (λ ds h' i' b.
      fewer_done CondTree (joined false ds) h' i' b))

  split_by : (b : Bool) (f g : Body) (m : Manner) (fix : List Fixing) (o : ℕ) (k j : Counts) → AreFewer j k → IsFewer f g
      → Fewer (List CondTree) k (cond b (alone (ground_group p f m fix o k)) (ground_places f m fix o (shape_places p o) k)) (cond b (alone (ground_group other g m fix o j)) (ground_places g m fix o (shape_places p o) j))
  split_by true f g m fix o k j l s = fewer_alone k (ground_group p f m fix o k) (ground_group other g m fix o j) (group_fewer f g m fix o k j l s)
  split_by false f g m fix o k j l s = places_fewer f g m fix o (shape_places p o) k j l s

  certain_fewer : (b : Bool) (k j : Counts) → AreFewer j k → Fewer CondTree k (and_then Counts CondTree (visit k) (λ k' same. Done (certain b) k')) (and_then Counts CondTree (visit j) (λ k' same. Done (certain b) k'))
  certain_fewer b k j l = fewer_visit CondTree k j _ _ l (fewer_done CondTree (certain b) (one_visit k) (one_visit j) (fewer_visits j k l))

  element_fewer : (f g : Body) (m : Manner) (fix : List Fixing) (x : Element) (k j : Counts) → AreFewer j k → IsFewer f g → Fewer (List CondTree) k (ground_element p f m fix x k) (ground_element other g m fix x j)
  element_fewer f g m fix (whole x) k j l s =
      fewer_alone k (ground_whole f fix x k) (ground_whole g fix x j) (fewer_visit CondTree k j _ _ l (s x fix (one_visit k) (one_visit j) (fewer_visits j k l)))
  element_fewer f g m fix (split o) k j l s = split_by (is_counted m) f g m fix o k j l s
  element_fewer f g m fix (optional o) k j l s =
      fewer_alone k (ground_optional p f m fix o k) (ground_optional other g m fix o j) (leaf_fewer (Object o) fix (optional_child m o (absent_place (object_of p o))) f g k j l s)
  element_fewer f g m fix (gone o) k j l s = fewer_alone k (ground_gone m k) (ground_gone m j) (certain_fewer (absent_truth m) k j l)

  -- ---- formulas

  mutual
    pub ground_fewer : (f : PlainFormulaTree) (sign : Bool) (env : PlainEnv) (fix : List Fixing) (k j : Counts) → AreFewer j k → Fewer CondTree k (ground p f sign env fix k) (ground other f sign env fix j)
    ground_fewer truth sign env fix k j l = certain_fewer sign k j l
    ground_fewer falsehood sign env fix k j l = certain_fewer (not sign) k j l
    ground_fewer (negation f) sign env fix k j l = ground_fewer f (not sign) env fix k j l
    ground_fewer (all_of fs) sign env fix k j l =
        fewer_then (List CondTree) CondTree k _ _ _ _ (operands_fewer fs sign sign env fix k j l) (λ cs h i a. fewer_done CondTree (joined sign cs) h i a)
    ground_fewer (any_of fs) sign env fix k j l =
        fewer_then (List CondTree) CondTree k _ _ _ _ (operands_fewer fs (not sign) sign env fix k j l) (λ cs h i a. fewer_done CondTree (joined (not sign) cs) h i a)
    ground_fewer (implication f g) sign env fix k j l =
        fewer_in_turn (not sign) (λ i. ground p f (not sign) env fix i) (λ i. ground p g sign env fix i) (λ i. ground other f (not sign) env fix i) (λ i. ground other g sign env fix i)
        (λ h i a. ground_fewer f (not sign) env fix h i a) (λ h i a. ground_fewer g sign env fix h i a) k j l
    ground_fewer (equivalence f g) sign env fix k j l =
        fewer_in_turn false
        (λ h. in_turn true (λ i. ground p f true env fix i) (λ i. ground p g sign env fix i) h)
        (λ h. in_turn true (λ i. ground p f false env fix i) (λ i. ground p g (not sign) env fix i) h)
        (λ h. in_turn true (λ i. ground other f true env fix i) (λ i. ground other g sign env fix i) h)
        (λ h. in_turn true (λ i. ground other f false env fix i) (λ i. ground other g (not sign) env fix i) h)
        (λ h i a. fewer_in_turn true (λ i. ground p f true env fix i) (λ i. ground p g sign env fix i) (λ i. ground other f true env fix i) (λ i. ground other g sign env fix i)
        (λ h i a. ground_fewer f true env fix h i a) (λ h i a. ground_fewer g sign env fix h i a) h i a)
        (λ h i a. fewer_in_turn true (λ i. ground p f false env fix i) (λ i. ground p g (not sign) env fix i) (λ i. ground other f false env fix i) (λ i. ground other g (not sign) env fix i)
        (λ h i a. ground_fewer f false env fix h i a) (λ h i a. ground_fewer g (not sign) env fix h i a) h i a)
        k j l
    ground_fewer (comparison a rel b) sign env fix k j l =
        subst (λ (o : Outcome CondTree). Fewer CondTree k (ground_compare p a (under sign rel) b env fix k) o) (sym (compare_same p rs env fix a (under sign rel) b j))
        (fewer_allowed CondTree _ Overflow k _ _ (leaves_fewer (leaves_of (under sign rel) _) k j l))
    ground_fewer (quantified kind v coll f) sign env fix k j l =
        let asked : Bool = needs (subjects.Variable v) f in
        let xs : List Element = elements_of p asked coll env fix in
        let body : Body = λ x more i. ground p f (body_sign kind sign) (set_variable v x env) more i in
        let after : Body = λ x more i. ground other f (body_sign kind sign) (set_variable v x env) more i in
        fewer_visit CondTree k j _ _ l
        (subst (λ (ys : List Element). Fewer CondTree (one_visit k)
        (and_then (List CondTree) CondTree (ground_elements p body (manner kind sign) fix xs (one_visit k)) (λ cs k''. Done (quantifier_node kind sign (length xs) cs) k''))
        (and_then (List CondTree) CondTree (ground_elements other after (manner kind sign) fix ys (one_visit j)) (λ cs k''. Done (quantifier_node kind sign (length ys) cs) k'')))
        (sym (elements_same asked coll env fix))
        (fewer_then (List CondTree) CondTree (one_visit k) _ _ _ _
        (fewer_gather (ground_element p body (manner kind sign) fix) (ground_element other after (manner kind sign) fix)
        (λ x h i a. element_fewer body after (manner kind sign) fix x h i a (λ y more h i a. ground_fewer f (body_sign kind sign) (set_variable v y env) more h i a)) xs (one_visit k) (one_visit j) (fewer_visits j k l))
        (λ cs h i a. fewer_done CondTree (quantifier_node kind sign (length xs) cs) h i a)))

    operands_fewer : (fs : PlainFormulas) (all sign : Bool) (env : PlainEnv) (fix : List Fixing) (k j : Counts) → AreFewer j k → Fewer (List CondTree) k (ground_operands p fs all sign env fix k) (ground_operands other fs all sign env fix j)
    operands_fewer no_formulas all sign env fix k j l = fewer_done (List CondTree) [] k j l
    operands_fewer (a_formula f rest) all sign env fix k j l =
        fewer_then CondTree (List CondTree) k _ _ _ _ (ground_fewer f sign env fix k j l) (λ c h i a.
        fewer_either (List CondTree) (decides all c) h _ _ _ _
        (fewer_done (List CondTree) (c ∷ []) h i a)
        (fewer_then (List CondTree) (List CondTree) h _ _ _ _ (operands_fewer rest all sign env fix h i a) (λ cs h' i' b. fewer_done (List CondTree) (c ∷ cs) h' i' b)))

  object_by : (b : Bool) (f g : Body) (fix : List Fixing) (o : ℕ) (k j : Counts) → AreFewer j k → IsFewer f g
      → Fewer CondTree k
      (cond b (and_then (List CondTree) CondTree (ground_places f ways.All fix o (places p o) k) (λ cs k'. Done (joined true cs) k'))
      (and_then Counts CondTree (visit k) (λ k' same. and_then CondTree CondTree (f (Object o) fix k') (λ c i. Done (joined true (c ∷ [])) i))))
      (cond b (and_then (List CondTree) CondTree (ground_places g ways.All fix o (places p o) j) (λ cs k'. Done (joined true cs) k'))
      (and_then Counts CondTree (visit j) (λ k' same. and_then CondTree CondTree (g (Object o) fix k') (λ c i. Done (joined true (c ∷ [])) i))))
  object_by true f g fix o k j l s =
      fewer_then (List CondTree) CondTree k _ _ _ _ (places_fewer f g ways.All fix o (places p o) k j l s) (λ cs h i a. fewer_done CondTree (joined true cs) h i a)
  object_by false f g fix o k j l s =
      fewer_visit CondTree k j _ _ l
      (fewer_then CondTree CondTree (one_visit k) _ _ _ _ (s (Object o) fix (one_visit k) (one_visit j) (fewer_visits j k l)) (λ c h i a. fewer_done CondTree (joined true (c ∷ [])) h i a))

  named_fewer : (names : List ℕ) (f : PlainFormulaTree) (fix : List Fixing) (k j : Counts) → AreFewer j k → Fewer CondTree k (ground_named p names f fix k) (ground_named other names f fix j)
  named_fewer [] f fix k j l = ground_fewer f true [] fix k j l
  named_fewer (o ∷ rest) f fix k j l =
      fewer_visit CondTree k j _ _ l
      (object_by (is_open p fix o) (λ x more i. ground_named p rest f more i) (λ x more i. ground_named other rest f more i) fix o (one_visit k) (one_visit j) (fewer_visits j k l) (λ x more h i a. named_fewer rest f more h i a))

  -- ---- rules

  leaves_of_rule : (cs : List CondTree) (k j : Counts) → AreFewer j k → Fewer (List CondTree) k (as_leaves cs k) (as_leaves cs j)
  leaves_of_rule cs k j l =
      let more : AreFewer (record j { leaves = j.leaves + length cs }) (record k { leaves = k.leaves + length cs }) = record { visits = l.visits; leaves = (let x = l.leaves in omega (arith, x)); terms = l.terms } in
      fewer_step (List CondTree) k (record k { leaves = k.leaves + length cs }) (record j { leaves = j.leaves + length cs }) _ _
      (record { visits = omega arith; leaves = omega arith; terms = omega arith }) more (fewer_done (List CondTree) cs _ _ more)

  pub demand_fewer : (d : PlainDemand) (k j : Counts) → AreFewer j k → Fewer (List CondTree) k (ground_demand p d k) (ground_demand other d j)
  demand_fewer apart k j l = leaves_of_rule (apart_conditions p) k j l
  demand_fewer (within ranges) k j l = leaves_of_rule (within_conditions p ranges) k j l
  demand_fewer (plain f) k j l =
      fewer_then CondTree (List CondTree) k _ _ _ _ (named_fewer (named_objects p f) f [] k j l) (λ c h i a. fewer_done (List CondTree) (conds_of c) h i a)
