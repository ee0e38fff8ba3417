-- Rows of a picture while they are painted, block by block.
use Rattle.std.specs.Prelude.{◌≡◌, ◌≢◌, ◌⊎◌, ◌<◌, ◌≤◌, ◌==◌, ◌+◌, ◌++◌, All, ℕ, ℤ, pos, ◌+ℤ◌, ◌≤ℤ◌, List, ◌∷◌, drop, flat_map, if◌then◌else◌, length, slice_index_or}
use Rattle.geo_base.specs.Boxes.{coordinate}
use Rattle.geo_conditions.specs.declared.object.ObjId.{ObjId}
use Rattle.layout_drawing.specs.declared.blocks.Block.{Block}
use Rattle.layout_drawing.specs.declared.owner.Owner.{Owner}
use Rattle.layout_drawing.specs.declared.owner.Owner.TheVariants.{Nobody, One, Several}
use Rattle.layout_drawing.specs.declared.span.Span.{Span}
use Rattle.layout_drawing.specs.Blocks.{BlockHas, IsOfDims, Owns, high_of, highs, low_of, lows}
use Rattle.layout_drawing.specs.Drawing.{free_sign, layer, most_cells, points, shared_sign, sign_of, width}

-- the owner of a cell that the object o has too
abbrev pub owner_with : Owner → ObjId → Owner
owner_with Nobody o = One o
owner_with (One u) o = if u.0 == o.0 then One u else Several
owner_with Several o = Several

abbrev pub owner_sign : Owner → ℕ
owner_sign Nobody = free_sign
owner_sign (One o) = sign_of o.0
owner_sign Several = shared_sign

-- which objects have a cell, as far as an owner says it
abbrev pub IsOwner : (ℕ → Type 0) → Owner → Type 0
IsOwner Has Nobody = (o : ℕ) → Has o → ⊥
IsOwner Has (One o) = Has o.0 × ((u : ℕ) → Has u → u ≡ o.0)
IsOwner Has Several = (o : ℕ) × (u : ℕ) × (o ≢ u) × Has o × Has u

abbrev pub owner_at : List Owner → ℕ → Owner
owner_at row k = slice_index_or row k Nobody

-- the cell at the place k of a row that begins at a
abbrev pub cell_at : ℤ → List ℤ → ℕ → List ℤ
cell_at a others k = (a +ℤ pos k) ∷ others

-- the row shows the owners of its cells
abbrev pub ShowsOwners : List Block → ℤ → List ℤ → List Owner → Type 0
ShowsOwners bs a others row = (k : ℕ) → k < length row → IsOwner (λ o. Owns bs o (cell_at a others k)) (owner_at row k)

-- the block has cells whose coordinates from x2 on are these
abbrev pub ReachesRow : Block → List ℤ → Type 0
ReachesRow b others = (d : ℕ) → d < length others → (low_of b (d + 1) ≤ℤ coordinate others d) × (coordinate others d ≤ℤ high_of b (d + 1))

-- the block was counted at one cell
abbrev pub IsCounted : Block → List ℤ → Owner → Owner → Type 0
IsCounted b c old new = (BlockHas b c × (new ≡ owner_with old b.object)) ⊎ ((BlockHas b c → ⊥) × (new ≡ old))

-- the block was counted at each cell of a row
abbrev pub CountsBlock : Block → ℤ → List ℤ → List Owner → List Owner → Type 0
CountsBlock b a others old new = (k : ℕ) → k < length old → IsCounted b (cell_at a others k) (owner_at old k) (owner_at new k)

-- the spans of a picture of these blocks: a few cells in each dimension, and in the first one each
-- block lies within
pub record IsFrame (bs : List Block) (ss : List Span) : Type 0 where
  pub some : 1 ≤ length ss
  pub dims : All (IsOfDims (length ss)) bs
  pub from : All (λ b. coordinate (lows ss) 0 ≤ℤ low_of b 0) bs
  pub to : All (λ b. high_of b 0 ≤ℤ coordinate (highs ss) 0) bs
  pub small : All (λ s. width s.low s.high ≤ most_cells) ss

-- a row of the picture has a place for each x1
abbrev pub IsWide : List Span → List Owner → Type 0
IsWide ss row = length row ≡ width (coordinate (lows ss) 0) (coordinate (highs ss) 0)

-- the layer of the picture with these coordinates from x3 on
abbrev pub layer_of : (List ℤ → ℕ) → List Span → List ℤ → List ℕ
layer_of sign ss outer = layer sign (coordinate (lows ss) 0) (coordinate (highs ss) 0) (coordinate (lows ss) 1) (coordinate (highs ss) 1) outer

-- the layers whose coordinates from x3 on begin with these, where n dimensions are fixed so
abbrev pub layers_behind : (List ℤ → ℕ) → List Span → ℕ → List ℤ → List ℕ
layers_behind sign ss n front = flat_map (λ outer. layer_of sign ss (front ++ outer)) (points (drop n (lows ss)) (drop n (highs ss)))
