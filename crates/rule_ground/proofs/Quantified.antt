-- A quantifier from the children of its elements.
use Rattle.std.proofs.Common.{◌≡◌, ℕ, Bool, List, length, map, sym, ap, ◌∙◌, subst}
use Rattle.std.specs.Prelude.{Result, MatchResult}
use Rattle.std.proofs.lemmas.List.{length-map}
use Rattle.geo_conditions.specs.declared.cond.Cond.{Cond}
use Rattle.rule_syntax.specs.declared.tree.QuantKind.{QuantKind}
use Rattle.problem_data.specs.Problem.{ProblemData}
use Rattle.problem_data.specs.Value.{Thing}
use Rattle.rule_expand.specs.declared.plain.Subject.TheVariants as subjects
use Rattle.rule_expand.specs.Plain.{PlainCollTree, PlainFormulaTree, quantified}
use Rattle.rule_expand.specs.PlainTruth.{PlainEnv, set_variable}
use Rattle.linear_conditions.specs.CondTree.{CondTree, cond_view}
use Rattle.linear_conditions.specs.Fixings.{Fixing}
use Rattle.linear_conditions.specs.Counts.{Counts, Done, visit}
use Rattle.linear_conditions.specs.Faults.{IsFault}
use Rattle.linear_conditions.specs.declared.fault.GroundFault.{GroundFault}
use Rattle.linear_conditions.specs.declared.fault.GroundFault.TheVariants.{Memory}
use Rattle.rule_ground.specs.declared.quantifiers.Manner.{Manner}
use Rattle.rule_ground.specs.Answers.{Gives, busy, busy_ones}
use Rattle.rule_ground.specs.Grounding.{ground, needs, manner, body_sign, quantifier_node, things_of, element_of, elements_of, ground_elements}
use Rattle.rule_ground.proofs.Arms.{step-gives, step-fault}
use Rattle.rule_ground.proofs.Behind.{then-fault}
use Rattle.rule_ground.proofs.Busy.{gives-busy, node-busy}

module _ (p : ProblemData) (kind : QuantKind) (v : ℕ) (coll : PlainCollTree) (f : PlainFormulaTree) (sign : Bool) (env : PlainEnv) (fix : List Fixing) (k k1 : Counts) (s asked : Bool) (m : Manner) (ts : List Thing)
    (counted : visit k ≡ Done k1 k1) (es : s ≡ body_sign kind sign) (em : m ≡ manner kind sign) (ea : map (element_of p asked fix) ts ≡ map (element_of p (needs (subjects.Variable v) f) fix) ts) (et : ts ≡ things_of p coll env fix) where
  same-elements : ground_elements p (λ x more j. ground p f (body_sign kind sign) (set_variable v x env) more j) (manner kind sign) fix (elements_of p (needs (subjects.Variable v) f) coll env fix) k1
      ≡ ground_elements p (λ x more j. ground p f s (set_variable v x env) more j) m fix (map (element_of p asked fix) ts) k1
  same-elements =
      (λ i. ground_elements p (λ x more j. ground p f (sym es i) (set_variable v x env) more j) (sym em i) fix (map (element_of p (needs (subjects.Variable v) f) fix) (sym et i)) k1)
      ∙ ap (λ xs. ground_elements p (λ x more j. ground p f s (set_variable v x env) more j) m fix xs k1) (sym ea)

  -- a quantifier from the children of its elements
  pub quantified-made : (j : Counts) (n : ℕ) (cs : List CondTree) (r : Result Cond GroundFault) → n ≡ length ts →
      busy m (ground_elements p (λ x more i. ground p f s (set_variable v x env) more i) m fix (map (element_of p asked fix) ts) k1) ≡ Done (busy_ones m cs) j →
      MatchResult r (λ c. cond_view c ≡ quantifier_node kind sign n cs) (λ e. e ≡ Memory) → Gives (ground p (quantified kind v coll f) sign env fix k) j r
  quantified-made j n cs r en h q =
      let xs = elements_of p (needs (subjects.Variable v) f) coll env fix in
      let l : n ≡ length xs = en ∙ ap length et ∙ sym (length-map (things_of p coll env fix) (element_of p (needs (subjects.Variable v) f) fix)) in
      step-gives (visit k) _ k1 j r counted
      (gives-busy m _ (quantifier_node kind sign (length xs)) cs j r (λ ys zs e. node-busy kind sign m (length xs) ys zs em e) (ap (busy m) same-elements ∙ h) (subst (λ w. MatchResult r (λ c. cond_view c ≡ quantifier_node kind sign w cs) (λ e. e ≡ Memory)) l q))

  pub quantified-fault : (e : GroundFault) → IsFault (List CondTree) (ground_elements p (λ x more i. ground p f s (set_variable v x env) more i) m fix (map (element_of p asked fix) ts) k1) e →
      IsFault CondTree (ground p (quantified kind v coll f) sign env fix k) e
  quantified-fault e h =
      step-fault (visit k) _ k1 e counted (then-fault (List CondTree) CondTree _ _ e (subst (λ o. IsFault (List CondTree) o e) (sym same-elements) h))
