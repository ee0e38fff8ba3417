-- Where the rules of a problem can be grounded, they can at other places.
use Rattle.std.proofs.Common.{◌≡◌, ℕ, Bool, true, false, List, [], ◌∷◌, ◌++◌, map, refl, sym, ap, ◌∙◌, subst, cond}
use Rattle.std.specs.Prelude.{Result, Ok, Err, Option, None, Some}
use Rattle.std.specs.Option.{option_map_or}
use Rattle.geo_tokens.specs.declared.fault.TextFault.{TextFault}
use Rattle.geo_tokens.specs.declared.fault.TextFault.TheVariants as faults
use Rattle.geo_tokens.specs.declared.fault.FaultWord.TheVariants.{Expand, Product}
use Rattle.problem_data.specs.Problem.{RuleData, ProblemData}
use Rattle.rule_expand.specs.Rules.{PlainDemand, PlainRuleData, rule_expanded, rules_expanded, is_large, multiplies_coordinates, first_place, expansion_fault}
use Rattle.linear_conditions.specs.CondTree.{CondTree}
use Rattle.linear_conditions.specs.Counts.{Counts, Outcome, Fault, Done}
use Rattle.rule_ground.specs.Own.{own_conditions}
use Rattle.rule_ground.specs.Rules.{ground_demand, before, before_rest, ground_rules, no_counts, grounded}
use Rattle.rule_ground.specs.Ground.{fault_in, ground_fault}
use Rattle.problem_text.specs.ReadBack.{bare_macro, bare_rule, bare_problem}
use Rattle.bare_rules.proofs.Expanded.{demand_same}
use Rattle.bare_rules.proofs.Ground.{asks_same}

-- ---- rules without macros

abbrev asked : List PlainRuleData → List PlainDemand
asked rs = map (λ (r : PlainRuleData). r.demand) rs

asked_bare : (p : ProblemData) (rs : List RuleData) → asked (map (rule_expanded (bare_problem p)) (map bare_rule rs)) ≡ asked (map (rule_expanded p) rs)
asked_bare p [] = refl
asked_bare p (r ∷ rs) = λ i. demand_same p r.demand i ∷ asked_bare p rs i

asked_same : (p q : ProblemData) → bare_problem p ≡ bare_problem q → asked (rules_expanded p) ≡ asked (rules_expanded q)
asked_same p q e = sym (asked_bare p p.rules) ∙ ap (λ (x : ProblemData). asked (rules_expanded x)) e ∙ asked_bare q q.rules

by_test : (b : Bool) (m n : ℕ) (o u : Option ℕ) → (o ≡ None → u ≡ None) → cond b (Some m) o ≡ None → cond b (Some n) u ≡ None
by_test true m n o u h e = absurd cc
by_test false m n o u h e = h e

none_of : (test : PlainDemand → Bool) (rs qs : List PlainRuleData) → asked rs ≡ asked qs → first_place test rs ≡ None → first_place test qs ≡ None
none_of test [] [] e n = refl
none_of test [] (q ∷ qs) e n = absurd cc
none_of test (r ∷ rs) [] e n = refl
none_of test (r ∷ rs) (q ∷ qs) e n =
    let head : r.demand ≡ q.demand = cc in
    let tail : asked rs ≡ asked qs = cc in
    subst (λ (d : PlainDemand). cond (test d) (Some q.place) (first_place test qs) ≡ None) head
    (by_test (test r.demand) r.place q.place (first_place test rs) (first_place test qs) (none_of test rs qs tail) n)

none_mapped : {A B : Type 0} (f : A → B) (o : Option A) (rest : Option B) → option_map_or (λ a. Some (f a)) o rest ≡ None → (o ≡ None) × (rest ≡ None)
none_mapped f None rest e = (refl, e)
none_mapped f (Some a) rest e = absurd cc

both_none : (f g : ℕ → Option TextFault) (a b : Option ℕ) → a ≡ None → b ≡ None → option_map_or f a (option_map_or g b None) ≡ None
both_none f g a b e h = ap (λ (o : Option ℕ). option_map_or f o (option_map_or g b None)) e ∙ ap (λ (o : Option ℕ). option_map_or g o None) h

pub expands_again : (p q : ProblemData) → bare_problem p ≡ bare_problem q → expansion_fault p ≡ None → expansion_fault q ≡ None
expands_again p q same e =
    let a = none_mapped _ (first_place is_large (rules_expanded p)) _ e in
    let b = none_mapped _ (first_place multiplies_coordinates (rules_expanded p)) None a.1 in
    both_none (λ place. Some (faults.At place Expand)) (λ place. Some (faults.At place Product)) (first_place is_large (rules_expanded q)) (first_place multiplies_coordinates (rules_expanded q))
    (none_of is_large (rules_expanded p) (rules_expanded q) (asked_same p q same) a.0)
    (none_of multiplies_coordinates (rules_expanded p) (rules_expanded q) (asked_same p q same) b.0)

-- ---- conditions

-- there is no fault
abbrev GoesOn : Result (List CondTree) TextFault → Type 0
GoesOn r = (cs : List CondTree) × (r ≡ Ok cs)

goes_of : (r : Result (List CondTree) TextFault) → fault_in r ≡ None → GoesOn r
goes_of (Ok cs) e = (cs, refl)
goes_of (Err x) e = absurd cc

goes_behind : (cs : List CondTree) (r : Result (List CondTree) TextFault) → GoesOn (before cs r) → GoesOn r
goes_behind cs (Ok ds) g = (ds, refl)
goes_behind cs (Err x) g = absurd (let e = g.1 in cc)

goes_before : (cs : List CondTree) (r : Result (List CondTree) TextFault) → GoesOn r → GoesOn (before cs r)
goes_before cs r g = (cs ++ g.0, ap (before cs) g.1)

rest_goes : (m n : ℕ) (o : Outcome (List CondTree)) (f g : Counts → Result (List CondTree) TextFault) → ((k : Counts) → GoesOn (f k) → GoesOn (g k))
    → GoesOn (before_rest m o f) → GoesOn (before_rest n o g)
unfolding before_rest
rest_goes m n (Fault w) f g h goes = absurd (let e = goes.1 in cc)
rest_goes m n (Done cs k) f g h goes = goes_before cs (g k) (h k (goes_behind cs (f k) goes))

module _ (p q : ProblemData) (same : bare_problem p ≡ bare_problem q) where
  demand_again : (d : PlainDemand) (k : Counts) → ground_demand p d k ≡ ground_demand q d k
  demand_again d k =
      sym (asks_same p (map bare_macro p.macros) (map bare_rule p.rules) d k) ∙ ap (λ (x : ProblemData). ground_demand x d k) same
      ∙ asks_same q (map bare_macro q.macros) (map bare_rule q.rules) d k

  rules_go : (rs qs : List PlainRuleData) → asked rs ≡ asked qs → (k : Counts) → GoesOn (ground_rules p rs k) → GoesOn (ground_rules q qs k)
  rules_go [] [] e k goes = ([], refl)
  rules_go [] (s ∷ qs) e k goes = absurd cc
  rules_go (r ∷ rs) [] e k goes = absurd cc
  rules_go (r ∷ rs) (s ∷ qs) e k goes =
      let head : r.demand ≡ s.demand = cc in
      let tail : asked rs ≡ asked qs = cc in
      let step : ground_demand p r.demand k ≡ ground_demand q s.demand k = demand_again r.demand k ∙ ap (λ (d : PlainDemand). ground_demand q d k) head in
      subst (λ (o : Outcome (List CondTree)). GoesOn (before_rest s.place o (λ i. ground_rules q qs i))) step
      (rest_goes r.place s.place (ground_demand p r.demand k) (λ i. ground_rules p rs i) (λ i. ground_rules q qs i) (λ i. rules_go rs qs tail i) goes)

  pub grounds_again : ground_fault p ≡ None → ground_fault q ≡ None
  grounds_again e =
      ap fault_in (goes_before (own_conditions q) (ground_rules q (rules_expanded q) no_counts)
      (rules_go (rules_expanded p) (rules_expanded q) (asked_same p q same) no_counts
      (goes_behind (own_conditions p) (ground_rules p (rules_expanded p) no_counts) (goes_of (grounded p) e)))).1
