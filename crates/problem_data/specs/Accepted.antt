-- Which texts are accepted, with the problems that they spell.
use Rattle.std.specs.Prelude.{◌≡◌, ℕ, ◌≤◌, List, length}
use Rattle.geo_tokens.specs.declared.token.Token.{Token}
use Rattle.geo_tokens.specs.Cut.{IsTokens}
use Rattle.problem_data.specs.declared.fault.Fault.{Fault}
use Rattle.problem_data.specs.Tree.{ProblemTree}
use Rattle.problem_data.specs.Grammar.{ProblemWords}
use Rattle.problem_data.specs.Whole.{IsWhole}
use Rattle.problem_data.specs.Problem.{ProblemData}
use Rattle.problem_data.specs.Parts.{Parts, parts_of}
use Rattle.problem_data.specs.Faults.{IsFault}
use Rattle.problem_data.specs.Meaning.{problem_of}
use Rattle.problem_data.specs.SomeRules.{AreRules, with_rules}

-- how many bytes a text may have
abbrev pub most_bytes : ℕ
most_bytes = 1048576

-- the text is short enough, it is cut into these tokens, and they spell these statements
pub record Says (text : List ℕ) (tree : ProblemTree) : Type 0 where
  pub short : length text ≤ most_bytes
  pub list : List Token
  pub tokens : IsTokens text list
  pub spells : IsWhole (ProblemWords text) 64 list tree

-- the text says statements without a fault, and they spell the problem
pub record Accepts (text : List ℕ) (problem : ProblemData) : Type 0 where
  pub tree : ProblemTree
  pub says : Says text tree
  pub right : (f : Fault) → IsFault (parts_of tree) f → ⊥
  pub means : problem ≡ problem_of (parts_of tree)

-- some text says these statements
pub record AreSaid (parts : Parts) : Type 0 where
  pub text : List ℕ
  pub tree : ProblemTree
  pub says : Says text tree
  pub are : parts_of tree ≡ parts

-- some text says the problem
pub record IsWhollySaid (problem : ProblemData) : Type 0 where
  pub text : List ℕ
  pub accepts : Accepts text problem

-- some text says the problem, or one that it is with further rules
pub record IsSaid (problem : ProblemData) : Type 0 where
  pub whole : ProblemData
  pub said : IsWhollySaid whole
  pub keep : List ℕ
  pub kept : AreRules whole keep
  pub is : problem ≡ with_rules whole keep
