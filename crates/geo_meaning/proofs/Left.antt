-- What the loops of the evaluation keep: what is left, with what was given so far, gives the whole.
use Rattle.std.proofs.Common.{◌≡◌, Bool, ℤ, ◌+ℤ◌}
use Rattle.problem_data.specs.Problem.{ProblemData}
use Rattle.problem_data.specs.Tuple.{Tuple}
use Rattle.rule_expand.specs.Plain.{PlainSums, PlainProducts, PlainFormulas}
use Rattle.rule_expand.specs.PlainTruth.{PlainEnv, plain_sums, plain_products, plain_all, plain_some}
use Rattle.rule_values.specs.Calm.{AreTameSums, AreTameProducts, AllCalm, SomeCalm}

pub record SumsLeft (p : ProblemData) (t : Tuple) (env : PlainEnv) (left : PlainSums) (z total : ℤ) : Type 0 where
  pub tame : AreTameSums p t left env z
  pub rest : z +ℤ plain_sums p t left env ≡ total

pub record ProductsLeft (p : ProblemData) (t : Tuple) (env : PlainEnv) (left : PlainProducts) (z total : ℤ) : Type 0 where
  pub tame : AreTameProducts p t left env z
  pub rest : plain_products p t z left env ≡ total

-- all formulas before hold
pub record AllLeft (p : ProblemData) (t : Tuple) (env : PlainEnv) (left : PlainFormulas) (total : Bool) : Type 0 where
  pub calm : AllCalm p t left env
  pub rest : plain_all p t left env ≡ total

-- no formula before holds
pub record SomeLeft (p : ProblemData) (t : Tuple) (env : PlainEnv) (left : PlainFormulas) (total : Bool) : Type 0 where
  pub calm : SomeCalm p t left env
  pub rest : plain_some p t left env ≡ total
