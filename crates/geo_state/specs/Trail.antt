-- What a trailed state is seen as, and what it keeps.
use Rattle.std.specs.Prelude.{◌≡◌, ℕ, suc, ◌+◌, ◌*◌, ◌<◌, ◌≤◌, List, [], ◌∷◌, ◌++◌, length, take, slice_index_or, ℤ, pos, negsuc, ◌≤ℤ◌}
use Rattle.std.specs.List.{All}
use Rattle.geo_conditions.specs.Reach.{Reach, State, low, high, Inside}
use Rattle.geo_state.specs.Undo.{Entry, restored, IsUndoable}

-- the state, how many levels it may have, and what each open level restores, the outermost first
pub record Trail : Type 0 where
  pub state : List Reach
  pub levels : ℕ
  pub restores : List (List Reach)

-- a number from -2,000,000 to 2,000,000
abbrev pub IsSmallEnd : ℤ → Type 0
IsSmallEnd v = (negsuc 1999999 ≤ℤ v) × (v ≤ℤ pos 2000000)

-- each end of each interval is a small number
abbrev pub HasSmallIntervals : State → Type 0
HasSmallIntervals S = (o d : ℕ) → IsSmallEnd (low S o d) × IsSmallEnd (high S o d)

-- each of the states lies inside the one before it, and S inside the last one
abbrev pub ShrinkTo : List State → State → Type 0
ShrinkTo restores S = (i : ℕ) → i < length restores → Inside (slice_index_or (restores ++ S ∷ []) (suc i) []) (slice_index_or restores i [])

-- the state, and those that the open levels restore
pub record IsTrail (S : State) (restores : List State) : Type 0 where
  pub small : HasSmallIntervals S
  pub restores_small : All HasSmallIntervals restores
  pub shrinks : ShrinkTo restores S

-- what a trailed state keeps: the entries that were saved, for each object the greatest open level that has saved it, for each
-- level the number of entries when it was opened, how many levels are open, and for how many entries more there is room
pub record IsTrailed (S : State) (entries : List Entry) (marks starts : List ℕ) (depth spare : ℕ) : Type 0 where
  pub within : depth ≤ length starts
  pub objects : length marks ≡ length S
  pub room : length starts * length S ≤ length entries + spare
  pub exist : All (λ e. e.object < length S) entries
  pub undoable : IsUndoable entries marks (take depth starts)
  pub trail : IsTrail S (restored S entries (take depth starts))
