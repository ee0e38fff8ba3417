-- What a layout text says, with the places of its tokens.
use Rattle.std.specs.Prelude.{ℕ, List, Option}
use Rattle.rule_syntax.specs.declared.tree.PlacedName.{PlacedName}
use Rattle.problem_data.specs.declared.tree.Int.{Int}

-- where a line puts its object: in this shape, at these coordinates, or nowhere, with the place of
-- the word `absent`
pub data PutTree : Type 0 where
  placed : PlacedName → List Int → PutTree
  absent : ℕ → PutTree

-- a line: the name of an object, and where it is put
pub record LineTree : Type 0 where
  pub name : PlacedName
  pub put : PutTree

-- a group of the token line: which place of the object's list, from 1, and the coordinates
pub record GroupTree : Type 0 where
  pub shape : ℕ
  pub origin : List Int

-- the token line, with the place of its word
pub record TokenTree : Type 0 where
  pub place : ℕ
  pub groups : List GroupTree

-- all that a text says; the token line may be left out
pub record LayoutTree : Type 0 where
  pub lines : List LineTree
  pub token : Option TokenTree
