-- Where a problem has conditions, the evaluation of each rule is calm on each tuple.
use Rattle.std.proofs.Common.{◌≡◌, ℕ, zero, suc, ◌<◌, Bool, true, false, cond, List, [], ◌∷◌, length, get_or, refl, arith}
use Rattle.std.specs.Prelude.{Option, None, Some, Result, Ok, Err, nat_lt}
use Rattle.std.specs.Option.{option_map_or}
use Rattle.std.proofs.lemmas.Bool.{ltb-false}
use Rattle.geo_base.specs.Tuple.{Tuple}
use Rattle.geo_tokens.specs.declared.fault.TextFault.{TextFault}
use Rattle.geo_tokens.specs.declared.fault.TextFault.TheVariants as faults
use Rattle.geo_tokens.specs.declared.fault.FaultWord.TheVariants.{Expand, Product}
use Rattle.problem_data.specs.Problem.{ProblemData}
use Rattle.problem_data.specs.Cells.{IsTuple}
use Rattle.problem_data.specs.WellFormed.{IsWellFormed}
use Rattle.rule_expand.specs.Counts.{nodes, depth}
use Rattle.rule_expand.specs.Rules.{PlainDemand, apart, within, plain, PlainRuleData, rules_expanded, is_large, multiplies_coordinates, first_place, expansion_fault}
use Rattle.rule_values.specs.Calm.{IsCalm, IsCalmDemand, AreCalm}
use Rattle.linear_conditions.specs.CondTree.{CondTree}
use Rattle.linear_conditions.specs.Counts.{Counts, Outcome, Fault, Done, OnDone}
use Rattle.linear_conditions.proofs.Outcomes.{on_done, on_then}
use Rattle.linear_conditions.proofs.Values.{left_false}
use Rattle.rule_ground.specs.Own.{own_conditions}
use Rattle.rule_ground.proofs.RuleSteps.{before-parts}
use Rattle.rule_ground.specs.Rules.{ground_demand, before, before_rest, ground_rules, no_counts, grounded}
use Rattle.rule_ground.proofs.Calm.{formula-calm}

-- a rule that has conditions, and the rules behind it
record HasRest (o : Outcome (List CondTree)) (rest : Counts → Result (List CondTree) TextFault) : Type 0 where
  made : List CondTree
  counts : Counts
  done : o ≡ Done made counts
  others : List CondTree
  behind : rest counts ≡ Ok others

before-ok : (cs all : List CondTree) (r : Result (List CondTree) TextFault) → before cs r ≡ Ok all → (ds : List CondTree) × (r ≡ Ok ds)
before-ok cs all (Ok ds) e = (ds, refl)
before-ok cs all (Err x) e = cc

has-rest : (place : ℕ) (o : Outcome (List CondTree)) (rest : Counts → Result (List CondTree) TextFault) (cs : List CondTree) → before_rest place o rest ≡ Ok cs → HasRest o rest
unfolding before_rest
has-rest place (Fault x) rest cs e = cc
has-rest place (Done a k) rest cs e = let b = before-ok a cs (rest k) e in record { made = a; counts = k; done = refl; others = b.0; behind = b.1 }

none-first : (test : PlainDemand → Bool) (r : PlainRuleData) (rest : List PlainRuleData) → first_place test (r ∷ rest) ≡ None → (test r.demand ≡ false) × (first_place test rest ≡ None)
none-first test r rest e = by_test (test r.demand) refl e
  where
    by_test : (b : Bool) → test r.demand ≡ b → cond b (Some r.place) (first_place test rest) ≡ None → (test r.demand ≡ false) × (first_place test rest ≡ None)
    by_test true h i = cc
    by_test false h i = (h, i)

module _ (p : ProblemData) (t : Tuple) (well : IsWellFormed p) (w : IsTuple p t) where
  demand-calm : (d : PlainDemand) (k : Counts) → is_large d ≡ false → multiplies_coordinates d ≡ false → OnDone (List CondTree) (ground_demand p d k) (λ cs. IsCalmDemand p t d)
  demand-calm apart k l b = record { get = λ a j e. tt }
  demand-calm (within ranges) k l b = record { get = λ a j e. tt }
  demand-calm (plain f) k l b =
      on_then CondTree (List CondTree) _ _ (λ c. IsCalm p t f []) _
      (formula-calm p t well w f k b (ltb-false 20000 (nodes f) (left_false (nat_lt 20000 (nodes f)) (nat_lt 256 (depth f)) l)))
      (λ c j q. on_done (List CondTree) _ j _ q)

  rules-calm : (rules : List PlainRuleData) (k : Counts) (cs : List CondTree) → first_place is_large rules ≡ None → first_place multiplies_coordinates rules ≡ None → ground_rules p rules k ≡ Ok cs →
      (i : ℕ) (d : PlainRuleData) → i < length rules → IsCalmDemand p t (get_or rules i d).demand
  rules-calm [] k cs l b e i d h = absurd (omega arith)
  rules-calm (r ∷ rest) k cs l b e zero d h =
      let m = has-rest r.place (ground_demand p r.demand k) (λ j. ground_rules p rest j) cs e in
      (demand-calm r.demand k (none-first is_large r rest l).0 (none-first multiplies_coordinates r rest b).0).get m.made m.counts m.done
  rules-calm (r ∷ rest) k cs l b e (suc i) d h =
      let m = has-rest r.place (ground_demand p r.demand k) (λ j. ground_rules p rest j) cs e in
      rules-calm rest m.counts m.others (none-first is_large r rest l).1 (none-first multiplies_coordinates r rest b).1 m.behind i d (omega arith)

no-faults : (a b : Option ℕ) → option_map_or (λ place. Some (faults.At place Expand)) a (option_map_or (λ place. Some (faults.At place Product)) b None) ≡ None → (a ≡ None) × (b ≡ None)
no-faults None None e = (refl, refl)
no-faults None (Some n) e = cc
no-faults (Some m) b e = cc

-- of a problem that is not refused
pub all-calm : (p : ProblemData) (t : Tuple) (cs : List CondTree) → IsWellFormed p → IsTuple p t → expansion_fault p ≡ None → grounded p ≡ Ok cs → AreCalm p t (rules_expanded p)
all-calm p t cs well w f e =
    let n = no-faults (first_place is_large (rules_expanded p)) (first_place multiplies_coordinates (rules_expanded p)) f in
    let s = before-parts (own_conditions p) cs (ground_rules p (rules_expanded p) no_counts) e in
    rules-calm p t well w (rules_expanded p) no_counts s.0 n.0 n.1 s.1
