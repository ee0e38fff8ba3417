-- The layouts of a listing, and what is written of it.
use Rattle.std.specs.Prelude.{◌≡◌, ◌⊎◌, ℕ, ℤ, List, map, flat_map, All, AllPairs, Contains, Option, IfSome, Result, MatchResult, Bool}
use Rattle.std.specs.Io.KnownBytes.{Appends}
use Rattle.geo_base.specs.Tuple.{Tuple}
use Rattle.geo_chan.specs.declared.outside.PutFault.{PutFault}
use Rattle.geo_chan.specs.Causes.{PutCause}
use Rattle.geo_chan.specs.Written.{AppendsFront, WantsUnwritten}
use Rattle.geo_conditions.specs.declared.cond.Cond.{Cond}
use Rattle.geo_conditions.specs.Walk.{Tree, values, IsListing, EndWord}
use Rattle.geo_conditions.specs.Walk as walk
use Rattle.layout_search.specs.FirstLayout.{AreConditionsOf, walk_past}
use Rattle.layout_text.specs.Block.{block_of}
use Rattle.problem_data.specs.Problem.{ProblemData}
use Rattle.problem_data.specs.Layouts.{IsLayout}
use Rattle.rule_ground.specs.Order.{ComesBefore}
use Rattle.layout_search.specs.declared.listing.Ending.{Ending}
use Rattle.layout_search.specs.declared.listing.Ending.TheVariants.{More, End, OutOfBudget}

-- a walk of the problem under its conditions, past the values of a tuple where they are given
abbrev pub IsWalkOf : ProblemData → Tree → Type 0
IsWalkOf p W = (cs : List Cond) × (past : Option (List ℤ)) × AreConditionsOf p cs × (W ≡ walk_past p cs past)

-- the layouts whose values are the listing of the walk, with the word that ends it
pub record IsPage (p : ProblemData) (W : Tree) (most n : ℕ) (ts : List Tuple) (word : EndWord) : Type 0 where
  pub layouts : All (IsLayout p) ts
  pub listing : IsListing W most n (map (values W.variables) ts) word

-- the layout comes after the tuple, where one is given
abbrev pub ComesAfter : ProblemData → Option Tuple → Tuple → Type 0
ComesAfter p after u = IfSome after (λ t. ComesBefore p t u)

-- Layouts after a tuple, where one is given, in the stated order, and none is passed over: each
-- layout after that tuple stands among them, or comes after all of them; and none comes after them
-- where the list is said to have ended.
pub record PassesNoneOver (p : ProblemData) (after : Option Tuple) (ts : List Tuple) (word : EndWord) : Type 0 where
  pub layouts : All (IsLayout p) ts
  pub in_order : AllPairs (ComesBefore p) ts
  pub behind : All (ComesAfter p after) ts
  pub first : (u : Tuple) → IsLayout p u → ComesAfter p after u
      → Contains ts u ⊎ All (λ t. ComesBefore p t u) ts
  pub whole : word ≡ walk.End → (u : Tuple) → IsLayout p u → ComesAfter p after u → Contains ts u

-- the layout blocks, one behind another
abbrev pub blocks_of : ProblemData → List Tuple → List ℕ
blocks_of p ts = flat_map (block_of p) ts

-- the word that an ending stands for
abbrev pub word_of : Ending → EndWord
word_of More = walk.More
word_of End = walk.End
word_of OutOfBudget = walk.OutOfBudget

-- the blocks of the listing were written
abbrev pub WrotePage : ProblemData → Tree → ℕ → ℕ → Option (List ℕ) → Option (List ℕ) → Ending → Type 0
WrotePage p W most n old new e = (ts : List Tuple) × IsPage p W most n ts (word_of e) × Appends old new (blocks_of p ts)

-- a front part of them was
abbrev pub WrotePagesFront : ProblemData → Tree → ℕ → ℕ → Option (List ℕ) → Option (List ℕ) → Type 0
WrotePagesFront p W most n old new = (ts : List Tuple) × (word : EndWord) × IsPage p W most n ts word × AppendsFront old new (blocks_of p ts)

-- Ok: the blocks of the listing were written, whole, and it ends so. Else a front part of them was,
-- and Failed exactly where the count of faults rose. Over a quiet sink memory is wanted only before
-- the first block
pub record WritesPage (p : ProblemData) (W : Tree) (most n : ℕ) (written_old written_new : Option (List ℕ)) (faults_old faults_new : ℕ) (quiet_old quiet_new : Bool) (result : Result Ending PutFault) : Type 0 where
  pub bytes : MatchResult result (WrotePage p W most n written_old written_new) (λ _. WrotePagesFront p W most n written_old written_new)
  pub cause : PutCause faults_old faults_new result
  pub quiet : WantsUnwritten quiet_old quiet_new written_old written_new result
