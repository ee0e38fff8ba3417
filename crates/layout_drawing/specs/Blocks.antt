-- Boxes of placed objects as blocks of cells, by their ends in each dimension.
use Rattle.std.specs.Prelude.{◌≡◌, ◌⊎◌, ◌≤ℤ◌, ◌↔◌, ℕ, ℤ, List, length, map, All, Any}
use Rattle.std.specs.List.{Contains}
use Rattle.geo_base.specs.Boxes.{coordinate, Has}
use Rattle.geo_base.specs.Tuple.{spot}
use Rattle.problem_data.specs.Cells.{BoxHas, IsCellOf}
use Rattle.problem_data.specs.Problem.{BoxData, ProblemData}
use Rattle.problem_data.specs.Tuple.{Tuple}
use Rattle.layout_drawing.specs.declared.blocks.Block.{Block}
use Rattle.layout_drawing.specs.declared.span.Span.{Span}

-- the low and the high ends of spans
abbrev pub lows : List Span → List ℤ
lows ss = map (λ s. s.low) ss

abbrev pub highs : List Span → List ℤ
highs ss = map (λ s. s.high) ss

abbrev pub low_of : Block → ℕ → ℤ
low_of b d = coordinate (lows b.spans.items) d

abbrev pub high_of : Block → ℕ → ℤ
high_of b d = coordinate (highs b.spans.items) d

-- the block has a span in each of k dimensions
abbrev pub IsOfDims : ℕ → Block → Type 0
IsOfDims k b = length b.spans.items ≡ k

-- the block has the cell
abbrev pub BlockHas : Block → List ℤ → Type 0
BlockHas b c = Has (length b.spans.items) (lows b.spans.items) (highs b.spans.items) c

-- a block of the object o has the cell
abbrev pub Owns : List Block → ℕ → List ℤ → Type 0
Owns bs o c = (b : Block) × Contains bs b × (b.object.0 ≡ o) × BlockHas b c

abbrev pub IsOwned : List Block → List ℤ → Type 0
IsOwned bs c = (o : ℕ) × Owns bs o c

-- the block has the cells of the box a of the object o, seen from the origin
pub record IsBlockOf (k : ℕ) (a : BoxData) (origin : List ℤ) (o : ℕ) (b : Block) : Type 0 where
  pub object : b.object.0 ≡ o
  pub dims : IsOfDims k b
  pub has : (c : List ℤ) → BoxHas k a origin c → BlockHas b c
  pub only : (c : List ℤ) → BlockHas b c → BoxHas k a origin c

-- to old blocks those of the object o came
pub record Adds (p : ProblemData) (t : Tuple) (o : ℕ) (old new : List Block) : Type 0 where
  pub dims : All (IsOfDims p.dims) old → All (IsOfDims p.dims) new
  pub kept : (u : ℕ) (c : List ℤ) → Owns old u c → Owns new u c
  pub added : (c : List ℤ) → IsCellOf p t o c → Owns new o c
  pub only : (u : ℕ) (c : List ℤ) → Owns new u c → Owns old u c ⊎ ((u ≡ o) × IsCellOf p t o c)

-- the blocks of all objects where the tuple puts them
pub record AreBlocksOf (p : ProblemData) (t : Tuple) (bs : List Block) : Type 0 where
  pub dims : All (IsOfDims p.dims) bs
  pub has : (o : ℕ) (c : List ℤ) → IsCellOf p t o c → Owns bs o c
  pub only : (o : ℕ) (c : List ℤ) → Owns bs o c → IsCellOf p t o c

-- the span goes in the dimension d from the least number of all blocks to their greatest
pub record IsExtent (bs : List Block) (d : ℕ) (s : Span) : Type 0 where
  pub from : All (λ b. s.low ≤ℤ low_of b d) bs
  pub to : All (λ b. high_of b d ≤ℤ s.high) bs
  pub lowest : Any (λ b. low_of b d ≡ s.low) bs
  pub highest : Any (λ b. high_of b d ≡ s.high) bs
