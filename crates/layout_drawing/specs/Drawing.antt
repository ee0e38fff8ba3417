-- The drawing of a tuple: the least box that holds all cells, and a sign for each cell of that box.
use Rattle.std.specs.Prelude.{◌≡◌, ◌≢◌, ◌<◌, ◌≤◌, ◌*◌, ◌%◌, ◌++◌}
use Rattle.std.specs.Prelude.{ℕ, ℤ, pos, ◌+ℤ◌, ◌-ℤ◌, List, [], ◌∷◌}
use Rattle.std.specs.Prelude.{codes, flat_map, length, map, slice_index}
use Rattle.std.specs.Fmt.{signed_decimal}
use Rattle.std.specs.List.{range_with_len}
use Rattle.geo_base.specs.Boxes.{coordinate, Has}
use Rattle.geo_conditions.specs.Keeps.{gap}
use Rattle.layout_text.specs.Block.{coordinates}
use Rattle.problem_data.specs.Cells.{IsCellOf}
use Rattle.problem_data.specs.Problem.{ProblemData}
use Rattle.problem_data.specs.Tuple.{Tuple}

-- ---- the box

-- some object has the cell; an object that is not there has none
abbrev pub IsCell : ProblemData → Tuple → List ℤ → Type 0
IsCell p t c = (o : ℕ) × IsCellOf p t o c

-- in the dimension d one of these cells has the number v
abbrev pub HasEnd : (List ℤ → Type 0) → ℕ → ℤ → Type 0
HasEnd Cell d v = (c : List ℤ) × Cell c × (coordinate c d ≡ v)

-- the box from lo to hi, both included, is the least one of k dimensions that holds these cells:
-- each of its ends is that of a cell
pub record IsLeastBox (k : ℕ) (Cell : List ℤ → Type 0) (lo hi : List ℤ) : Type 0 where
  pub from : length lo ≡ k
  pub to : length hi ≡ k
  pub holds : (c : List ℤ) → Cell c → Has k lo hi c
  pub lowest : (d : ℕ) → d < k → HasEnd Cell d (coordinate lo d)
  pub highest : (d : ℕ) → d < k → HasEnd Cell d (coordinate hi d)

-- how many whole numbers lie from a to b, both included
abbrev pub width : ℤ → ℤ → ℕ
width a b = gap a (b +ℤ pos 1)

-- how many cells the box from lo to hi has
abbrev pub cell_count : List ℤ → List ℤ → ℕ
cell_count (a ∷ lo) (b ∷ hi) = width a b * cell_count lo hi
cell_count _ _ = 1

-- how many cells a drawing may have
abbrev pub most_cells : ℕ
most_cells = 1000000

-- the least box that holds all cells has too many cells for a drawing
pub record IsLarge (p : ProblemData) (t : Tuple) : Type 0 where
  pub lo : List ℤ
  pub hi : List ℤ
  pub box : IsLeastBox p.dims (IsCell p t) lo hi
  pub many : most_cells < cell_count lo hi

-- ---- the signs

unfoldable pub signs : List ℕ
signs = codes "abcdefghijklmnopqrstuvwxyzABCDEFGHIJKLMNOPQRSTUVWXYZ0123456789"

-- the sign of an object, by its number from 0
abbrev pub sign_of : ℕ → ℕ
sign_of o = slice_index signs (o % 62)

-- `.`, of a cell that no object has
abbrev pub free_sign : ℕ
free_sign = 46

-- `#`, of a cell that several objects have
abbrev pub shared_sign : ℕ
shared_sign = 35

-- of a cell, by the objects to which it belongs; one that belongs to a single object has the sign
-- of that object
pub data IsSign (Owns : ℕ → Type 0) (sign : ℕ) : Type 0 where
  free : ((o : ℕ) → Owns o → ⊥) → sign ≡ free_sign → IsSign Owns sign
  one : (o : ℕ) → Owns o → ((u : ℕ) → Owns u → u ≡ o) → sign ≡ sign_of o → IsSign Owns sign
  several : (o u : ℕ) → o ≢ u → Owns o → Owns u → sign ≡ shared_sign → IsSign Owns sign

-- each cell has its sign
abbrev pub AreSigns : (ℕ → List ℤ → Type 0) → (List ℤ → ℕ) → Type 0
AreSigns Owns sign = (c : List ℤ) → IsSign (λ o. Owns o c) (sign c)

-- ---- the picture

-- the whole numbers from a to b
abbrev pub upwards : ℤ → ℤ → List ℤ
upwards a b = map (λ n. a +ℤ pos n) (range_with_len 0 (width a b))

abbrev pub downwards : ℤ → ℤ → List ℤ
downwards a b = map (λ n. b -ℤ pos n) (range_with_len 0 (width a b))

-- the points of the box from lo to hi, upwards, the last dimension fastest
abbrev pub points : List ℤ → List ℤ → List (List ℤ)
points (a ∷ lo) (b ∷ hi) = flat_map (λ x. map (λ c. x ∷ c) (points lo hi)) (upwards a b)
points _ _ = [] ∷ []

-- a sign for each x1; the other coordinates are these
abbrev pub row : (List ℤ → ℕ) → ℤ → ℤ → List ℤ → List ℕ
row sign a b others = map (λ x. sign (x ∷ others)) (upwards a b) ++ codes "\n"

-- a layer has a line where there are more than two dimensions: the coordinates from x3 on
abbrev pub layer_line : List ℤ → List ℕ
layer_line [] = []
layer_line (x ∷ xs) = codes "layer" ++ (coordinates (codes " ") (x ∷ xs) ++ codes "\n")

-- a row for each x2, from the highest to the lowest
abbrev pub layer : (List ℤ → ℕ) → ℤ → ℤ → ℤ → ℤ → List ℤ → List ℕ
layer sign a b a2 b2 outer =
    layer_line outer ++ flat_map (λ y. row sign a b (y ∷ outer)) (downwards a2 b2)

-- one row, or rows for each combination of the coordinates from x3 on
abbrev pub picture : (List ℤ → ℕ) → List ℤ → List ℤ → List ℕ
picture sign (a ∷ []) (b ∷ []) = row sign a b []
picture sign (a ∷ a2 ∷ lo) (b ∷ b2 ∷ hi) = flat_map (layer sign a b a2 b2) (points lo hi)
picture sign _ _ = []

-- lo..hi
abbrev pub range_text : ℤ → ℤ → List ℕ
range_text a b = codes " " ++ (signed_decimal a ++ (codes ".." ++ signed_decimal b))

-- of each dimension
abbrev pub ranges : List ℤ → List ℤ → List ℕ
ranges (a ∷ lo) (b ∷ hi) = range_text a b ++ ranges lo hi
ranges _ _ = []

abbrev pub box_line : List ℤ → List ℤ → List ℕ
box_line lo hi = codes "box" ++ (ranges lo hi ++ codes "\n")

-- ---- the whole

-- The text is the drawing of the tuple. Its box has no more cells than a drawing may have; without
-- cells there is no box.
pub data IsDrawing (p : ProblemData) (t : Tuple) (text : List ℕ) : Type 0 where
  nothing : ((c : List ℤ) → IsCell p t c → ⊥) → text ≡ codes "box -\n" → IsDrawing p t text
  drawn : (lo hi : List ℤ) → IsLeastBox p.dims (IsCell p t) lo hi →
      cell_count lo hi ≤ most_cells →
      (sign : List ℤ → ℕ) → AreSigns (IsCellOf p t) sign →
      text ≡ box_line lo hi ++ picture sign lo hi → IsDrawing p t text
