-- The conditions of a problem: of its objects, and then rule by rule; and the fault where those of
-- the rules are too many or too large.
use Rattle.std.specs.Prelude.{ℕ, ◌+◌, ◌==◌, Bool, false, if◌then◌else◌, List, [], ◌∷◌, ◌++◌, length, ℤ, pos, negsuc, Result, Ok, Err}
use Rattle.geo_tokens.specs.declared.fault.TextFault.{TextFault}
use Rattle.geo_tokens.specs.declared.fault.TextFault.TheVariants as faults
use Rattle.problem_data.specs.Problem.{ProblemData}
use Rattle.rule_expand.specs.Rules.{PlainDemand, apart, within, plain, PlainRuleData, rules_expanded}
use Rattle.linear_conditions.specs.CondTree.{CondTree, linear, shape_is, shape_is_not, at_least, CondTrees, no_conds, a_cond}
use Rattle.linear_conditions.specs.Counts.{Counts, Outcome, Fault, Done, and_then, within_limits}
use Rattle.rule_ground.specs.Own.{own_conditions}
use Rattle.rule_ground.specs.Apart.{apart_conditions}
use Rattle.rule_ground.specs.Within.{within_conditions}
use Rattle.rule_ground.specs.Grounding.{named_objects, ground_named}

abbrev pub tree_length : CondTrees → ℕ
tree_length no_conds = 0
tree_length (a_cond c cs) = tree_length cs + 1

-- the number z is m
abbrev pub is_count : ℤ → ℕ → Bool
is_count (pos n) m = n == m
is_count (negsuc n) m = false

abbrev mutual
  -- a node all of whose children must hold gives the conditions of each of them in turn
  pub conds_of : CondTree → List CondTree
  conds_of (linear f) = linear f ∷ []
  conds_of (shape_is o s) = shape_is o s ∷ []
  conds_of (shape_is_not o s) = shape_is_not o s ∷ []
  conds_of (at_least n cs) = if is_count n (tree_length cs) then conds_of_each cs else at_least n cs ∷ []

  pub conds_of_each : CondTrees → List CondTree
  conds_of_each no_conds = []
  conds_of_each (a_cond c cs) = conds_of c ++ conds_of_each cs

-- conditions each of which counts as one leaf
abbrev pub as_leaves : List CondTree → Counts → Outcome (List CondTree)
as_leaves cs k = and_then Counts (List CondTree) (within_limits (record k { leaves = k.leaves + length cs })) (λ k' same. Done cs k')

abbrev pub ground_demand : ProblemData → PlainDemand → Counts → Outcome (List CondTree)
ground_demand p apart k = as_leaves (apart_conditions p) k
ground_demand p (within ranges) k = as_leaves (within_conditions p ranges) k
ground_demand p (plain f) k = and_then CondTree (List CondTree) (ground_named p (named_objects p f) f [] k) (λ c k'. Done (conds_of c) k')

-- conditions before those that are made behind them
abbrev pub before : List CondTree → Result (List CondTree) TextFault → Result (List CondTree) TextFault
before cs (Ok ds) = Ok (cs ++ ds)
before cs (Err e) = Err e

-- a rule's conditions before those of the rules behind it; or its fault, at its place
unfoldable pub before_rest : ℕ → Outcome (List CondTree) → (Counts → Result (List CondTree) TextFault) → Result (List CondTree) TextFault
before_rest place (Fault w) rest = Err (faults.At place w)
before_rest place (Done cs k) rest = before cs (rest k)

-- the rules in file order, counted together
abbrev pub ground_rules : ProblemData → List PlainRuleData → Counts → Result (List CondTree) TextFault
ground_rules p [] k = Ok []
ground_rules p (r ∷ rest) k = before_rest r.place (ground_demand p r.demand k) (λ k'. ground_rules p rest k')

abbrev pub no_counts : Counts
no_counts = record { visits = 0; leaves = 0; terms = 0 }

-- all conditions of a problem, or its fault: those that its objects have by themselves, which are
-- not counted, and those of its rules
abbrev pub grounded : ProblemData → Result (List CondTree) TextFault
grounded p = before (own_conditions p) (ground_rules p (rules_expanded p) no_counts)
