-- Covers: trees of cuts of a box, which show that an object has no point in the box.
use Rattle.std.specs.Prelude.{true, ◌≡◌, ◌⊎◌, ◌&&◌, ◌||◌, ◌<◌, ◌≤◌, Contains, ◌≤ℤ◌, not, ℕ, zero, suc, Bool, false, List, [], ◌∷◌, ◌++◌, slice_get, Option, Some, None, ℤ, pos, negsuc}
use Rattle.geo_conditions.specs.declared.cond.Cond.{Cond}
use Rattle.geo_conditions.specs.Reach.{State, Region, with_at}
use Rattle.geo_conditions.specs.Conditions.{possible}
use Rattle.derivation.specs.declared.event.Event.{Event}
use Rattle.derivation.specs.declared.event.Event.TheVariants.{By, Cut, CutFrom}
use Rattle.derivation.specs.declared.side.Side.{Side}
use Rattle.derivation.specs.declared.side.Side.TheVariants.{Upto, From}
use Rattle.derivation.specs.Cuts.{near, far, is_empty}

-- a leaf names a condition by its number; a fork is cut into the part on a side and the rest, each with its cover
pub data CoverTree : Type 0 where
  Leaf : (i : ℕ) → CoverTree
  Fork : (side : Side) → (a b : CoverTree) → CoverTree

-- the event of a cut, and the events of a cover in text order
abbrev pub cut_event : Side → Event
cut_event (Upto d v) = Cut d v
cut_event (From d v) = CutFrom d v

abbrev pub events_of : CoverTree → List Event
events_of (Leaf i) = By i ∷ []
events_of (Fork side a b) = cut_event side ∷ (events_of a ++ events_of b)

-- the condition is there, and is refuted on S
abbrev pub is_refuted : Option Cond → State → Bool
is_refuted None S = false
is_refuted (Some c) S = not (possible c S)

-- condition i exists, and is refuted on S. Conditions count from 1
abbrev pub refutes : List Cond → ℕ → State → Bool
refutes cs zero S = false
refutes cs (suc i) S = is_refuted (slice_get cs i) S

-- The tree covers the box b of o at the place s: the box is empty, or a leaf's condition is refuted on it, or both parts are covered.
abbrev pub covers : List Cond → State → ℕ → ℕ → Region → CoverTree → Bool
covers cs S o s b (Leaf i) = is_empty b || refutes cs i (with_at S o s b)
covers cs S o s b (Fork side x y) = is_empty b || (covers cs S o s (near side b) x && covers cs S o s (far side b) y)

-- the dimension and the number of a cut
abbrev pub dimension_of : Side → ℕ
dimension_of (Upto d v) = d
dimension_of (From d v) = d

abbrev pub number_of : Side → ℤ
number_of (Upto d v) = v
number_of (From d v) = v

-- the cut is in a dimension below k, at a number that the text of a derivation can have
abbrev pub IsCut : ℕ → Side → Type 0
IsCut k side = (dimension_of side < k) × (negsuc 999999999 ≤ℤ number_of side) × (number_of side ≤ℤ pos 1000000000)

-- each cut of the tree is one
abbrev pub HasCutsIn : ℕ → CoverTree → Type 0
HasCutsIn k (Leaf i) = Unit {0}
HasCutsIn k (Fork side x y) = IsCut k side × HasCutsIn k x × HasCutsIn k y

-- The number names one of m conditions. Over an empty box the number 1 may stand, even where there is no condition.
abbrev pub IsNumber : ℕ → ℕ → Type 0
IsNumber m i = (i ≤ m) ⊎ (i ≡ 1)

-- the numbers of the tree: each cut is one in k dimensions, and each leaf names one of m conditions
abbrev pub HasNumbersIn : ℕ → ℕ → CoverTree → Type 0
HasNumbersIn k m (Leaf i) = IsNumber m i
HasNumbersIn k m (Fork side x y) = IsCut k side × HasNumbersIn k m x × HasNumbersIn k m y

-- each leaf names one of the numbers; only over an empty box may the number 1 stand
abbrev pub NamesOnly : List ℕ → Region → CoverTree → Type 0
NamesOnly numbers b (Leaf i) = Contains numbers i ⊎ ((i ≡ 1) × (is_empty b ≡ true))
NamesOnly numbers b (Fork side x y) = NamesOnly numbers (near side b) x × NamesOnly numbers (far side b) y
