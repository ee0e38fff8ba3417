-- Marks: for each object a row with a mark for each neighbour that changed since what is kept of the object was last asked.
use Rattle.std.specs.Prelude.{◌≡◌, ◌≢◌, ◌⊎◌, ℕ, ◌<◌, Bool, true, false, List, [], length, slice_index_or}
use Rattle.geo_conditions.specs.declared.cond.Cond.{Cond}
use Rattle.geo_conditions.specs.Reach.{State, reach}
use Rattle.indexical.specs.Names.{names}
use Rattle.fixpoint.specs.Near.{Unhindered}

-- a row of marks for each object
abbrev pub MarkRows : Type 0
MarkRows = List (List Bool)

-- the row of the object o
abbrev pub marks_of : MarkRows → ℕ → List Bool
marks_of marks o = slice_index_or marks o []

-- whether the object u is marked in the row of o
abbrev pub is_marked : MarkRows → ℕ → ℕ → Bool
is_marked marks o u = slice_index_or (marks_of marks o) u false

-- n rows of n marks
pub record IsSquare (n : ℕ) (marks : MarkRows) : Type 0 where
  pub rows : length marks ≡ n
  pub each : (o : ℕ) → o < n → length (marks_of marks o) ≡ n

-- u is marked at each object, but u and those that are free; what was marked is marked still
pub record MarksAt (Free : ℕ → Type 0) (u : ℕ) (old new : MarkRows) : Type 0 where
  pub stay : (o v : ℕ) → is_marked new o v ≡ false → is_marked old o v ≡ false
  pub fresh : (o : ℕ) → o ≢ u → o < length old → is_marked new o u ≡ false → Free o

-- each object that differs in the two states is marked at each other one that it may hinder; what was marked is marked still
pub record NotesChanges (cs : List Cond) (S T : State) (old new : MarkRows) : Type 0 where
  pub stay : (o v : ℕ) → is_marked new o v ≡ false → is_marked old o v ≡ false
  pub fresh : (o u : ℕ) → o < length S → u < length S → o ≢ u → is_marked new o u ≡ false → (reach S u ≡ reach T u) ⊎ Unhindered cs T u o

-- no object that the condition names is marked
abbrev pub NamesUnmarked : List Bool → Cond → Type 0
NamesUnmarked marks c = (u : ℕ) → names u c ≡ true → slice_index_or marks u false ≡ false

-- no object is marked in the row of o, and the other rows are as they were
pub record IsCleared (o : ℕ) (old new : MarkRows) : Type 0 where
  pub itself : (u : ℕ) → is_marked new o u ≡ false
  pub others : (u : ℕ) → u ≢ o → marks_of new u ≡ marks_of old u
