-- Grounding two rules whose conditions are counted beforehand.
use Rattle.std.proofs.Common.{◌≡◌, ℕ, ◌+◌, ◌≤◌, ◌&&◌, Bool, true, List, [], ◌∷◌, ◌++◌, length, ap, ◌∙◌, arith, cond}
use Rattle.std.specs.Prelude.{nat_le, Result, Ok, None}
use Rattle.std.proofs.lemmas.Bool.{le-leb}
use Rattle.std.proofs.lemmas.List.{length-append}
use Rattle.geo_tokens.specs.declared.fault.TextFault.{TextFault}
use Rattle.geo_tokens.specs.declared.fault.FaultWord.TheVariants.{Ground}
use Rattle.problem_data.specs.Problem.{RangeData, ProblemData}
use Rattle.rule_expand.specs.Rules.{apart, within, PlainRuleData, rules_expanded}
use Rattle.linear_conditions.specs.CondTree.{CondTree}
use Rattle.linear_conditions.specs.Counts.{Counts, Outcome, Fault, Done, and_then, allowed, within_limits}
use Rattle.rule_ground.specs.Own.{own_conditions}
use Rattle.rule_ground.specs.Within.{within_conditions}
use Rattle.rule_ground.specs.Apart.{apart_conditions}
use Rattle.rule_ground.specs.Rules.{as_leaves, before, before_rest, ground_rules, no_counts, grounded}
use Rattle.rule_ground.specs.Ground.{conditions_in, conditions, fault_in, ground_fault}

-- nothing but leaves
abbrev leaves : ℕ → Counts
leaves n = record { visits = 0; leaves = n; terms = 0 }

allowed_leaves : (b : Bool) (k : Counts) → b ≡ true → allowed Counts b Ground (Done k k) ≡ Done k k
unfolding allowed
allowed_leaves b k e = ap (λ c. cond c (Done k k) (Fault Ground)) e

few_leaves : (n : ℕ) → n ≤ 1000000 → within_limits (leaves n) ≡ Done (leaves n) (leaves n)
few_leaves n few = allowed_leaves (nat_le n 1000000 && true) (leaves n) (ap (λ b. b && true) (le-leb n 1000000 few))

counted : (cs : List CondTree) (n : ℕ) → n + length cs ≤ 1000000 → as_leaves cs (leaves n) ≡ Done cs (leaves (n + length cs))
unfolding and_then
counted cs n few = ap (λ o. and_then Counts (List CondTree) o (λ k same. Done cs k)) (few_leaves (n + length cs) few)

step : (place : ℕ) (cs : List CondTree) (k : Counts) (o : Outcome (List CondTree)) (rest : Counts → Result (List CondTree) TextFault) → o ≡ Done cs k → before_rest place o rest ≡ before cs (rest k)
unfolding before_rest
step place cs k o rest e = ap (λ u. before_rest place u rest) e

-- the rules `within` and `apart`, at any places
abbrev pub two_rules : ℕ → ℕ → List RangeData → List PlainRuleData
two_rules a b ranges =
    record { place = a; demand = within ranges } ∷ record { place = b; demand = apart } ∷ []

module _ (p : ProblemData) (a b : ℕ) (ranges : List RangeData) (are : rules_expanded p ≡ two_rules a b ranges)
    (few : length (within_conditions p ranges) + length (apart_conditions p) ≤ 1000000) where
  abbrev ws : List CondTree
  ws = within_conditions p ranges

  abbrev bs : List CondTree
  bs = apart_conditions p

  second : (k : ℕ) → k + length bs ≤ 1000000 → ground_rules p (record { place = b; demand = apart } ∷ []) (leaves k) ≡ Ok (bs ++ [])
  second k less = step b bs (leaves (k + length bs)) (as_leaves bs (leaves k)) (λ k'. ground_rules p [] k') (counted bs k less)

  both : ground_rules p (two_rules a b ranges) no_counts ≡ Ok (ws ++ (bs ++ []))
  both =
      let first : 0 + length ws ≤ 1000000 = omega arith in
      let all : 0 + length ws + length bs ≤ 1000000 = omega arith in
      step a ws (leaves (0 + length ws)) (as_leaves ws (leaves 0)) (λ k. ground_rules p (record { place = b; demand = apart } ∷ []) k) (counted ws 0 first)
      ∙ ap (before ws) (second (0 + length ws) all)

  grounded_is : grounded p ≡ Ok (own_conditions p ++ (ws ++ (bs ++ [])))
  grounded_is = ap (before (own_conditions p)) (ap (λ rs. ground_rules p rs no_counts) are ∙ both)

  pub no_fault : ground_fault p ≡ None
  no_fault = ap fault_in grounded_is

  pub conditions_length : length (conditions p) ≡ length (own_conditions p) + (length ws + length bs)
  conditions_length = ap (λ r. length (conditions_in r)) grounded_is ∙ simp length-append (omega arith)
