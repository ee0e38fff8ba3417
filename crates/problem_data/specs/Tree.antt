-- What the statements of a text say, with the places of their tokens.
use Rattle.std.specs.Prelude.{ℕ, List, Option}
use Rattle.rule_syntax.specs.declared.tree.PlacedName.{PlacedName}
use Rattle.rule_syntax.specs.Tree.{ExprTree, FormulaTree}
use Rattle.problem_data.specs.declared.tree.Int.{Int}
use Rattle.problem_data.specs.declared.tree.RangeText.{RangeText}
use Rattle.problem_data.specs.declared.tree.AttributeText.{AttributeText}
use Rattle.problem_data.specs.declared.tree.SideText.{SideText}
use Rattle.problem_data.specs.declared.tree.ParamText.{ParamText}

-- a box, with the place of its word
pub record BoxTree : Type 0 where
  pub place : ℕ
  pub offsets : List Int
  pub sizes : List Int

pub record ShapeTree : Type 0 where
  pub name : PlacedName
  pub boxes : List BoxTree

-- an object, with the place of the word `absent` where it stands, and with the pieces of the range
-- of each coordinate
pub record ObjectTree : Type 0 where
  pub name : PlacedName
  pub shapes : List PlacedName
  pub absent : Option ℕ
  pub pieces : List (List RangeText)
  pub attributes : List AttributeText

-- the search order, with the place of its word
pub record OrderTree : Type 0 where
  pub place : ℕ
  pub names : List PlacedName

-- the sides, with the place of their word
pub record SidesTree : Type 0 where
  pub place : ℕ
  pub sides : List SideText

-- what a macro stands for
pub data BodyTree : Type 0 where
  means : FormulaTree → BodyTree
  equals : ExprTree → BodyTree

pub record MacroTree : Type 0 where
  pub name : PlacedName
  pub params : List ParamText
  pub body : BodyTree

-- what a rule asks for
pub data DemandTree : Type 0 where
  apart : DemandTree
  within : List RangeText → DemandTree
  plain : FormulaTree → DemandTree

pub record RuleTree : Type 0 where
  pub name : PlacedName
  pub demand : DemandTree

pub data StatementTree : Type 0 where
  a_shape : ShapeTree → StatementTree
  an_object : ObjectTree → StatementTree
  an_order : OrderTree → StatementTree
  some_sides : SidesTree → StatementTree
  a_macro : MacroTree → StatementTree
  a_rule : RuleTree → StatementTree

-- all that a text says
pub record ProblemTree : Type 0 where
  pub version : Int
  pub dims : Int
  pub statements : List StatementTree
