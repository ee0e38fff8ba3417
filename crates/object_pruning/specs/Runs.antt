-- Runs of groups in a row that have the same other object.
use Rattle.std.specs.Prelude.{◌≡◌, ◌≢◌, ℕ, zero, suc, true, ◌<◌, ◌≤◌, List, [], ◌∷◌, length, slice_get, Some}
use Rattle.std.specs.declared.vec.Vec.{Vec}
use Rattle.std.specs.declared.alloc.Global.{Global}
use Rattle.object_pruning.specs.declared.rows.Group.{Group}
use Rattle.object_pruning.specs.declared.rows.Run.{Run}

-- what the r-th row has; nothing past the last one
abbrev pub row : {X : Type 0} → List (Vec X Global) → ℕ → List X
row [] r = []
row (v ∷ vs) zero = v.items
row (v ∷ vs) (suc r) = row vs r

-- the number is one of the group's
abbrev pub IsInGroup : Group → ℕ → Type 0
IsInGroup g i = (g.first ≤ i) × (i ≤ g.last)

-- some group has the number, of those from the first one on and before the end
abbrev pub HaveBetween : List Group → ℕ → ℕ → ℕ → Type 0
HaveBetween gs first end i = (k : ℕ) × (g : Group) × (first ≤ k) × (k < end) × (slice_get gs k ≡ Some g) × IsInGroup g i

-- The run begins at that group and has some. They have its other object, and where it asks, they all ask for a place of that
pub record IsRun (gs : List Group) (from : ℕ) (run : Run) : Type 0 where
  pub first : run.first ≡ from
  pub some : run.first < run.end
  pub within : run.end ≤ length gs
  pub other : (k : ℕ) (g : Group) → run.first ≤ k → k < run.end → slice_get gs k ≡ Some g → g.other ≡ run.other
  pub asks : (k : ℕ) (g : Group) → run.first ≤ k → k < run.end → slice_get gs k ≡ Some g → run.asks ≡ true → g.other_place ≢ 0

-- where the j-th run begins, of runs one behind the other of which the first begins there; behind the last run, where that ends
abbrev pub start_at : ℕ → List Run → ℕ → ℕ
start_at from runs zero = from
start_at from [] (suc j) = from
start_at from (run ∷ runs) (suc j) = start_at run.end runs j

-- the runs of the first n groups
pub record AreRunsTo (gs : List Group) (n : ℕ) (runs : List Run) : Type 0 where
  pub each : (j : ℕ) (run : Run) → slice_get runs j ≡ Some run → IsRun gs (start_at 0 runs j) run
  pub whole : start_at 0 runs (length runs) ≡ n

-- the runs of all of them
abbrev pub AreRuns : List Group → List Run → Type 0
AreRuns gs runs = AreRunsTo gs (length gs) runs
