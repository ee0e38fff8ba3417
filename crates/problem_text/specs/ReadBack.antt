-- That a canonical text says the same problem, places aside.
use Rattle.std.specs.Prelude.{◌≡◌, ◌<◌, ℕ, List, map, All, AllPairs}
use Rattle.geo_tokens.specs.declared.token.Token.{Token}
use Rattle.geo_tokens.specs.Cut.{IsTokens}
use Rattle.rule_print.specs.Spelled.{bare_expr, bare_formula}
use Rattle.problem_data.specs.Tree.{BodyTree, means, equals, ProblemTree}
use Rattle.problem_data.specs.Grammar.{ProblemWords}
use Rattle.problem_data.specs.Whole.{IsWhole}
use Rattle.problem_data.specs.declared.fault.Fault.{Fault}
use Rattle.problem_data.specs.Parts.{parts_of}
use Rattle.problem_data.specs.Faults.{IsFault}
use Rattle.problem_data.specs.Accepted.{Accepts}
use Rattle.problem_data.specs.Meaning.{problem_of}
use Rattle.problem_data.specs.Problem.{MacroData, DemandData, apart, within, plain, RuleData, ProblemData}
use Rattle.problem_text.specs.Canonical.{problem_text}

-- ---- a problem without places

abbrev pub bare_body : BodyTree → BodyTree
bare_body (means f) = means (bare_formula f)
bare_body (equals e) = equals (bare_expr e)

abbrev pub bare_macro : MacroData → MacroData
bare_macro m = record m { place = 0; body = bare_body m.body }

abbrev pub bare_demand : DemandData → DemandData
bare_demand apart = apart
bare_demand (within rs) = within rs
bare_demand (plain f) = plain (bare_formula f)

abbrev pub bare_rule : RuleData → RuleData
bare_rule r = record { place = 0; name = r.name; demand = bare_demand r.demand }

abbrev pub bare_problem : ProblemData → ProblemData
bare_problem p = record p { macros = map bare_macro p.macros; rules = map bare_rule p.rules }

-- The text is cut into tokens that spell statements by the grammar, with at most 64 levels. They
-- have no fault, and they mean the problem, places aside.
pub record SpellsProblem (text : List ℕ) (p : ProblemData) : Type 0 where
  pub tokens : List Token
  pub tree : ProblemTree
  pub cut : IsTokens text tokens
  pub spells : IsWhole (ProblemWords text) 64 tokens tree
  pub right : (f : Fault) → IsFault (parts_of tree) f → ⊥
  pub same : bare_problem (problem_of (parts_of tree)) ≡ bare_problem p

-- The text is accepted, as a problem that is p, places aside.
pub record IsReadAs (text : List ℕ) (p : ProblemData) : Type 0 where
  pub again : ProblemData
  pub accepts : Accepts text again
  pub same : bare_problem again ≡ bare_problem p

-- The canonical text spells the problem.
abbrev pub IsSpelled : ProblemData → Type 0
IsSpelled p = SpellsProblem (problem_text p) p

-- The canonical text says the same problem, places aside.
abbrev pub ReadsBack : ProblemData → Type 0
ReadsBack p = IsReadAs (problem_text p) p

-- ---- places

-- each macro has its place behind those of the macros before it
abbrev pub MacrosRise : ProblemData → Type 0
MacrosRise p = AllPairs (λ (m n : MacroData). m.place < n.place) p.macros

-- Macros have their places one behind the other, and rules behind all macros.
pub record IsInOrder (p : ProblemData) : Type 0 where
  pub macros : MacrosRise p
  pub rules : All (λ (r : RuleData). All (λ (m : MacroData). m.place < r.place) p.macros) p.rules
