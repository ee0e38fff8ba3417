-- Where the rules of a problem can be grounded, some of them alone can.
use Rattle.std.proofs.Common.{◌≡◌, ℕ, Bool, true, false, List, [], ◌∷◌, ◌++◌, map, inl, inr, refl, sym, ap, ◌∙◌, subst, cond}
use Rattle.std.specs.Prelude.{Result, Ok, Err, Option, None, Some}
use Rattle.std.specs.Option.{option_map_or}
use Rattle.geo_tokens.specs.declared.fault.TextFault.{TextFault}
use Rattle.geo_tokens.specs.declared.fault.TextFault.TheVariants as faults
use Rattle.geo_tokens.specs.declared.fault.FaultWord.TheVariants.{Expand, Product}
use Rattle.problem_data.specs.Problem.{RuleData, ProblemData}
use Rattle.problem_data.specs.SomeRules.{numbered, AreRules, with_rules}
use Rattle.rule_expand.specs.Rules.{PlainDemand, PlainRuleData, rule_expanded, rules_expanded, is_large, multiplies_coordinates, first_place, expansion_fault}
use Rattle.linear_conditions.specs.CondTree.{CondTree}
use Rattle.linear_conditions.specs.Counts.{Counts, Outcome, Fault, Done}
use Rattle.rule_ground.specs.Own.{own_conditions}
use Rattle.rule_ground.specs.Rules.{ground_demand, before, before_rest, ground_rules, no_counts, grounded}
use Rattle.rule_ground.specs.Ground.{fault_in, ground_fault}
use Rattle.fewer_rules.proofs.Expanded.{rule_same}
use Rattle.fewer_rules.proofs.Fewer.{AreFewer, as_many, fewer_both, Fewer, demand_fewer}
use Rattle.fewer_rules.proofs.Parts.{IsPart, part_map, kept_part}

-- ---- rules without macros

by_test : (test : PlainDemand → Bool) (q : PlainRuleData) (rs qs : List PlainRuleData) (b : Bool) → test q.demand ≡ b → cond b (Some q.place) (first_place test qs) ≡ None
    → ((ss : List PlainRuleData) → IsPart ss qs → first_place test qs ≡ None → first_place test ss ≡ None) → IsPart rs (q ∷ qs) → first_place test rs ≡ None
by_test test q rs qs true e m rest h = absurd cc
by_test test q rs qs false e m rest (inl h) = rest rs h m
by_test test q rs qs false e m rest (inr (zs, is, h)) = ap (first_place test) is ∙ ap (λ (b : Bool). cond b (Some q.place) (first_place test zs)) e ∙ rest zs h m

none_in_part : (test : PlainDemand → Bool) (rs qs : List PlainRuleData) → IsPart rs qs → first_place test qs ≡ None → first_place test rs ≡ None
none_in_part test rs [] e n = ap (first_place test) e
none_in_part test rs (q ∷ qs) part n = by_test test q rs qs (test q.demand) refl n (λ ss h m. none_in_part test ss qs h m) part

none_mapped : {A B : Type 0} (f : A → B) (o : Option A) (rest : Option B) → option_map_or (λ a. Some (f a)) o rest ≡ None → (o ≡ None) × (rest ≡ None)
none_mapped f None rest e = (refl, e)
none_mapped f (Some a) rest e = absurd cc

some_expanded : (p : ProblemData) (rs : List RuleData) → map (rule_expanded (record p { rules = rs })) rs ≡ map (rule_expanded p) rs
some_expanded p rs = λ i. map (λ r. rule_same p rs r i) rs

-- the rules that are kept, without macros, are a part
expanded_part : (p : ProblemData) (keep : List ℕ) → AreRules p keep → IsPart (rules_expanded (with_rules p keep)) (rules_expanded p)
expanded_part p keep kept =
    subst (λ (qs : List PlainRuleData). IsPart qs (rules_expanded p)) (sym (some_expanded p (map (numbered p.rules) keep)))
    (part_map (rule_expanded p) (map (numbered p.rules) keep) p.rules (kept_part p keep kept))

both_none : (f g : ℕ → Option TextFault) (a b : Option ℕ) → a ≡ None → b ≡ None → option_map_or f a (option_map_or g b None) ≡ None
both_none f g a b e h = ap (λ (o : Option ℕ). option_map_or f o (option_map_or g b None)) e ∙ ap (λ (o : Option ℕ). option_map_or g o None) h

pub expands_with : (p : ProblemData) (keep : List ℕ) → AreRules p keep → expansion_fault p ≡ None → expansion_fault (with_rules p keep) ≡ None
expands_with p keep kept e =
    let part = expanded_part p keep kept in
    let a = none_mapped _ (first_place is_large (rules_expanded p)) _ e in
    let b = none_mapped _ (first_place multiplies_coordinates (rules_expanded p)) None a.1 in
    both_none (λ place. Some (faults.At place Expand)) (λ place. Some (faults.At place Product)) (first_place is_large (rules_expanded (with_rules p keep))) (first_place multiplies_coordinates (rules_expanded (with_rules p keep)))
    (none_in_part is_large (rules_expanded (with_rules p keep)) (rules_expanded p) part a.0)
    (none_in_part multiplies_coordinates (rules_expanded (with_rules p keep)) (rules_expanded p) part b.0)

-- ---- conditions

-- there is no fault
abbrev GoesOn : Result (List CondTree) TextFault → Type 0
GoesOn r = (cs : List CondTree) × (r ≡ Ok cs)

goes_of : (r : Result (List CondTree) TextFault) → fault_in r ≡ None → GoesOn r
goes_of (Ok cs) e = (cs, refl)
goes_of (Err x) e = absurd cc

no_fault : (r : Result (List CondTree) TextFault) → GoesOn r → fault_in r ≡ None
no_fault r g = ap fault_in g.1

goes_behind : (cs : List CondTree) (r : Result (List CondTree) TextFault) → GoesOn (before cs r) → GoesOn r
goes_behind cs (Ok ds) g = (ds, refl)
goes_behind cs (Err x) g = absurd (let e = g.1 in cc)

goes_before : (cs : List CondTree) (r : Result (List CondTree) TextFault) → GoesOn r → GoesOn (before cs r)
goes_before cs r g = (cs ++ g.0, ap (before cs) g.1)

-- a rule that both have
kept_by : (place : ℕ) (o u : Outcome (List CondTree)) (n : Counts) (f g : Counts → Result (List CondTree) TextFault) → Fewer (List CondTree) n o u
    → ((k j : Counts) → AreFewer j k → GoesOn (f k) → GoesOn (g j)) → GoesOn (before_rest place o f) → GoesOn (before_rest place u g)
unfolding before_rest
kept_by place (Fault w) u n f g h s goes = absurd (let e = goes.1 in cc)
kept_by place (Done cs k) (Fault w) n f g h s goes = absurd h
kept_by place (Done cs k) (Done ds j) n f g h s goes = goes_before ds (g j) (s k j h.2 (goes_behind cs (f k) goes))

-- a rule that is left out
left_by : (place : ℕ) (o u : Outcome (List CondTree)) (n j : Counts) (f : Counts → Result (List CondTree) TextFault) (r : Result (List CondTree) TextFault) → Fewer (List CondTree) n o u → AreFewer j n
    → ((k : Counts) → AreFewer j k → GoesOn (f k) → GoesOn r) → GoesOn (before_rest place o f) → GoesOn r
unfolding before_rest
left_by place (Fault w) u n j f r h l s goes = absurd (let e = goes.1 in cc)
left_by place (Done cs k) (Fault w) n j f r h l s goes = absurd h
left_by place (Done cs k) (Done ds i) n j f r h l s goes = s k (fewer_both j n k l h.1) (goes_behind cs (f k) goes)

module _ (p : ProblemData) (rs : List RuleData) where
  abbrev other : ProblemData
  other = record p { rules = rs }

  rules_go : (ss qs : List PlainRuleData) → IsPart ss qs → (k j : Counts) → AreFewer j k → GoesOn (ground_rules p qs k) → GoesOn (ground_rules other ss j)
  rules_go ss [] e k j l goes = ([], ap (λ (us : List PlainRuleData). ground_rules other us j) e)
  rules_go ss (q ∷ qs) (inl h) k j l goes =
      left_by q.place (ground_demand p q.demand k) (ground_demand other q.demand k) k j (λ i. ground_rules p qs i) (ground_rules other ss j) (demand_fewer p rs q.demand k k (as_many k)) l (λ i a. rules_go ss qs h i j a) goes
  rules_go ss (q ∷ qs) (inr (zs, e, h)) k j l goes =
      subst (λ (us : List PlainRuleData). GoesOn (ground_rules other us j)) (sym e)
      (kept_by q.place (ground_demand p q.demand k) (ground_demand other q.demand j) k (λ i. ground_rules p qs i) (λ i. ground_rules other zs i) (demand_fewer p rs q.demand k j l) (λ i i' a. rules_go zs qs h i i' a) goes)

pub grounds_with : (p : ProblemData) (keep : List ℕ) → AreRules p keep → ground_fault p ≡ None → ground_fault (with_rules p keep) ≡ None
grounds_with p keep kept e =
    let q = with_rules p keep in
    no_fault (grounded q) (goes_before (own_conditions q) (ground_rules q (rules_expanded q) no_counts)
    (rules_go p q.rules (rules_expanded q) (rules_expanded p) (expanded_part p keep kept) no_counts no_counts (as_many no_counts)
    (goes_behind (own_conditions p) (ground_rules p (rules_expanded p) no_counts) (goes_of (grounded p) e))))
