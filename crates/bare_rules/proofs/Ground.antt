-- Grounding is the same where the problem has other macros and rules.
use Rattle.std.proofs.Common.{◌≡◌, ℕ, Bool, true, false, not, List, [], ◌∷◌, map, length, refl}
use Rattle.std.specs.Option.{option_map_or}
use Rattle.problem_data.specs.Problem.{MacroData, RuleData, ProblemData}
use Rattle.problem_data.specs.Value.{Thing, Number, Object, Part}
use Rattle.rule_expand.specs.declared.plain.Subject.TheVariants as subjects
use Rattle.rule_expand.specs.Plain.{PlainCollTree, all_objects, listed, boxes_of, PlainFormulaTree, truth, falsehood, negation, all_of, any_of, implication, equivalence, comparison, quantified, PlainFormulas, no_formulas, a_formula}
use Rattle.rule_expand.specs.PlainTruth.{PlainEnv, set_variable}
use Rattle.rule_expand.specs.Rules.{PlainDemand, apart, within, plain}
use Rattle.linear_conditions.specs.CondTree.{CondTree}
use Rattle.linear_conditions.specs.Fixings.{Fixing, place_of}
use Rattle.linear_conditions.specs.Leaves.{under}
use Rattle.linear_conditions.specs.Folding.{joined, decides}
use Rattle.linear_conditions.specs.Counts.{Counts, Done, and_then, either_way, visit}
use Rattle.rule_values.specs.Elements.{owner_of, elements_at}
use Rattle.rule_ground.specs.Grounding.{needs, Element, whole, split, optional, gone, element_of, elements_of, gather, in_turn, manner, body_sign, quantifier_node, Body, ground_element, ground, ground_operands, named_objects, ground_object, ground_named}
use Rattle.rule_ground.specs.declared.quantifiers.Manner.{Manner}
use Rattle.rule_ground.specs.Rules.{conds_of, ground_demand}
use Rattle.bare_rules.proofs.Forms.{compare_same}

module _ (p : ProblemData) (ms : List MacroData) (rs : List RuleData) where
  abbrev pub other : ProblemData
  other = record p { macros = ms; rules = rs }

  -- ---- elements

  element_same : (asked : Bool) (fix : List Fixing) (x : Thing) → element_of other asked fix x ≡ element_of p asked fix x
  element_same asked fix (Number z) = refl
  element_same asked fix (Object o) = refl
  element_same asked fix (Part b) = refl

  at_same : (place : ℕ) (coll : PlainCollTree) (env : PlainEnv) → elements_at other place coll env ≡ elements_at p place coll env
  at_same place all_objects env = refl
  at_same place (listed os) env = refl
  at_same place (boxes_of s) env = refl

  elements_same : (asked : Bool) (coll : PlainCollTree) (env : PlainEnv) (fix : List Fixing) → elements_of other asked coll env fix ≡ elements_of p asked coll env fix
  elements_same asked coll env fix = λ i. map (λ x. element_same asked fix x i) (at_same (option_map_or (place_of fix) (owner_of coll env) 1) coll env i)

  at_element_same : (body : Body) (m : Manner) (fix : List Fixing) (x : Element) (k : Counts) → ground_element other body m fix x k ≡ ground_element p body m fix x k
  at_element_same body m fix (whole x) k = refl
  at_element_same body m fix (split o) k = refl
  at_element_same body m fix (optional o) k = refl
  at_element_same body m fix (gone o) k = refl

  -- ---- formulas

  mutual
    ground_same : (f : PlainFormulaTree) (sign : Bool) (env : PlainEnv) (fix : List Fixing) (k : Counts) → ground other f sign env fix k ≡ ground p f sign env fix k
    ground_same truth sign env fix k = refl
    ground_same falsehood sign env fix k = refl
    ground_same (negation f) sign env fix k = ground_same f (not sign) env fix k
    ground_same (all_of fs) sign env fix k = λ i. and_then (List CondTree) CondTree (operands_same fs sign sign env fix k i) (λ cs k'. Done (joined sign cs) k')
    ground_same (any_of fs) sign env fix k = λ i. and_then (List CondTree) CondTree (operands_same fs (not sign) sign env fix k i) (λ cs k'. Done (joined (not sign) cs) k')
    ground_same (implication f g) sign env fix k = λ i. in_turn (not sign) (λ j. ground_same f (not sign) env fix j i) (λ j. ground_same g sign env fix j i) k
    ground_same (equivalence f g) sign env fix k = λ i.
        in_turn false
        (λ j. in_turn true (λ h. ground_same f true env fix h i) (λ h. ground_same g sign env fix h i) j)
        (λ j. in_turn true (λ h. ground_same f false env fix h i) (λ h. ground_same g (not sign) env fix h i) j) k
    ground_same (comparison a rel b) sign env fix k = compare_same p ms rs env fix a (under sign rel) b k
    ground_same (quantified kind v coll f) sign env fix k = λ i.
        let xs : List Element = elements_same (needs (subjects.Variable v) f) coll env fix i in
        and_then Counts CondTree (visit k) (λ k' same.
        and_then (List CondTree) CondTree
        (gather (λ x j. at_element_same (λ y more h. ground_same f (body_sign kind sign) (set_variable v y env) more h i) (manner kind sign) fix x j i) xs k')
        (λ cs k''. Done (quantifier_node kind sign (length xs) cs) k''))

    operands_same : (fs : PlainFormulas) (all sign : Bool) (env : PlainEnv) (fix : List Fixing) (k : Counts) → ground_operands other fs all sign env fix k ≡ ground_operands p fs all sign env fix k
    operands_same no_formulas all sign env fix k = refl
    operands_same (a_formula f rest) all sign env fix k = λ i.
        and_then CondTree (List CondTree) (ground_same f sign env fix k i) (λ c k'.
        either_way (List CondTree) (decides all c) (Done (c ∷ []) k')
        (and_then (List CondTree) (List CondTree) (operands_same rest all sign env fix k' i) (λ cs k''. Done (c ∷ cs) k'')))

  named_same : (names : List ℕ) (f : PlainFormulaTree) (fix : List Fixing) (k : Counts) → ground_named other names f fix k ≡ ground_named p names f fix k
  named_same [] f fix k = ground_same f true [] fix k
  named_same (o ∷ rest) f fix k = λ i. and_then Counts CondTree (visit k) (λ k' same. ground_object p (λ x more j. named_same rest f more j i) fix o k')

  pub asks_same : (d : PlainDemand) (k : Counts) → ground_demand other d k ≡ ground_demand p d k
  asks_same apart k = refl
  asks_same (within ranges) k = refl
  asks_same (plain f) k = λ i. and_then CondTree (List CondTree) (named_same (named_objects p f) f [] k i) (λ c k'. Done (conds_of c) k')
