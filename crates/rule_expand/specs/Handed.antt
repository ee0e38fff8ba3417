-- Macros that hand one of their parameters on: a call of one is that argument.
use Rattle.std.specs.Prelude.{◌≡◌, ℕ, ◌<◌, List, length, slice_index_or, Option, None, Some}
use Rattle.problem_data.specs.Problem.{ProblemData}
use Rattle.rule_expand.specs.Plain as plain
use Rattle.rule_expand.specs.Expansion.{Meant, an_expr, as_expr, expansions_of}

abbrev pub nothing_meant : Meant
nothing_meant = an_expr (plain.number 0)

-- the argument at a place
abbrev pub nth_meant : List Meant → ℕ → Meant
nth_meant ms i = slice_index_or ms i nothing_meant

-- what the macro at k becomes is what its argument at i becomes
abbrev pub HandsOn : ProblemData → ℕ → ℕ → Type 0
HandsOn p k i = (n : ℕ) (ms : List Meant) → k < n → i < length ms → (expansions_of p n).number k ms ≡ as_expr (nth_meant ms i)

-- the parameter that the list has for a macro is one that it hands on
pub record AreHanded (p : ProblemData) (handed : List (Option ℕ)) : Type 0 where
  pub at : (k i : ℕ) → k < length handed → slice_index_or handed k None ≡ Some i → HandsOn p k i

-- the list has this parameter for the macro, and it is one of the first
pub record IsHandedIndex (handed : List (Option ℕ)) (k count i : ℕ) : Type 0 where
  pub inside : k < length handed
  pub is : slice_index_or handed k None ≡ Some i
  pub counted : i < count
