-- A problem as data. Places of shapes and objects in their lists count from 0.
use Rattle.std.specs.Prelude.{ℕ, Bool, true, false, ℤ, List, []}
use Rattle.rule_syntax.specs.Tree.{FormulaTree}
use Rattle.problem_data.specs.declared.tree.ParamKind.{ParamKind}
use Rattle.problem_data.specs.declared.tree.Side.{Side}
use Rattle.problem_data.specs.declared.tree.Side.TheVariants.{Low, High}
use Rattle.problem_data.specs.Tree.{BodyTree}

-- a box: in each dimension where it begins, as seen from the origin, and how many cells it has
pub record BoxData : Type 0 where
  pub offsets : List ℤ
  pub sizes : List ℤ

pub record ShapeData : Type 0 where
  pub name : List ℕ
  pub boxes : List BoxData

-- a range, both ends included
pub record RangeData : Type 0 where
  pub low : ℤ
  pub high : ℤ

pub record AttributeData : Type 0 where
  pub name : List ℕ
  pub value : ℤ

-- an object: its shapes by their positions, whether it may be absent, and for each coordinate of its
-- origin the pieces of its range, in ascending order
pub record ObjectData : Type 0 where
  pub name : List ℕ
  pub shapes : List ℕ
  pub may_be_absent : Bool
  pub pieces : List (List RangeData)
  pub attributes : List AttributeData

-- what stands past the end of a list of objects
abbrev pub no_object : ObjectData
no_object = record { name = []; shapes = []; may_be_absent = false; pieces = []; attributes = [] }

pub record ParamData : Type 0 where
  pub name : List ℕ
  pub kind : ParamKind

-- a macro, with the place of its name in the text
pub record MacroData : Type 0 where
  pub place : ℕ
  pub name : List ℕ
  pub params : List ParamData
  pub body : BodyTree

-- what a rule asks for
pub data DemandData : Type 0 where
  apart : DemandData
  within : List RangeData → DemandData
  plain : FormulaTree → DemandData

-- a rule, with the place of its name in the text
pub record RuleData : Type 0 where
  pub place : ℕ
  pub name : List ℕ
  pub demand : DemandData

-- Each list is in file order, but `order`: the objects by their positions, in the order of the
-- search. `version` is that of the text, and `sides` has for each dimension the end from which its
-- values are tried.
pub record ProblemData : Type 0 where
  pub version : ℕ
  pub dims : ℕ
  pub shapes : List ShapeData
  pub objects : List ObjectData
  pub macros : List MacroData
  pub rules : List RuleData
  pub order : List ℕ
  pub sides : List Side

-- the values of a coordinate are tried from the high end down
abbrev pub runs_down : Side → Bool
runs_down Low = false
runs_down High = true
