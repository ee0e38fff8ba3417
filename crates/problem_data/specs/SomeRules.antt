-- A problem with some of its rules alone. Rules have numbers, from 1 in file order.
use Rattle.std.specs.Prelude.{◌<◌, ◌≤◌, ◌-◌, ℕ, List, [], length, map, slice_index_or, All, AllPairs}
use Rattle.std.specs.List.{range_with_len}
use Rattle.problem_data.specs.Problem.{RuleData, apart, ProblemData}

-- what stands past the end of a list of rules
abbrev pub no_rule : RuleData
no_rule = record { place = 0; name = []; demand = apart }

-- the rule of a number
abbrev pub numbered : List RuleData → ℕ → RuleData
numbered rules n = slice_index_or rules (n - 1) no_rule

-- each is the number of one of so many rules
abbrev pub HasNumbers : ℕ → List ℕ → Type 0
HasNumbers count keep = All (λ n. (1 ≤ n) × (n ≤ count)) keep

-- numbers of rules of the problem, in ascending order
pub record AreRules (p : ProblemData) (keep : List ℕ) : Type 0 where
  pub there : HasNumbers (length p.rules) keep
  pub ascending : AllPairs (λ m n. m < n) keep

-- the problem with the rules of these numbers alone
abbrev pub with_rules : ProblemData → List ℕ → ProblemData
with_rules p keep = record p { rules = map (numbered p.rules) keep }

-- the numbers of all rules
abbrev pub all_rules : ProblemData → List ℕ
all_rules p = range_with_len 1 (length p.rules)
