-- The picks of an object in rows, by the places that their conditions ask for.
use Rattle.std.specs.Prelude.{◌≡◌, ◌⊎◌, ℕ, ◌+◌, ◌-◌, ◌<◌, ◌≤◌, List, [], ◌∷◌, ◌++◌, length, slice_get, slice_index, slice_set, Some, Contains}
use Rattle.std.specs.declared.vec.Vec.{Vec}
use Rattle.std.specs.declared.alloc.Global.{Global}
use Rattle.geo_conditions.specs.declared.object.TheConstants.{MAX_SHAPES}
use Rattle.geo_conditions.specs.declared.cond.Cond.{Cond}
use Rattle.indexical.specs.declared.facing.Facing.{Facing}
use Rattle.indexical.specs.Faces.{Faces}
use Rattle.sweep.specs.Picks.{ArePicks}
use Rattle.object_pruning.specs.declared.near.Near.{Near}
use Rattle.object_pruning.specs.declared.rows.Group.{Group}
use Rattle.object_pruning.specs.declared.rows.Rows.{Rows}
use Rattle.object_pruning.specs.Near.{IsNearRow}
pub use Rattle.object_pruning.specs.Runs.{row, IsInGroup}

-- some group has the number
abbrev pub HaveNumber : List Group → ℕ → Type 0
HaveNumber gs i = (k : ℕ) × (g : Group) × (slice_get gs k ≡ Some g) × IsInGroup g i

-- what the conditions of a group in row r ask for
abbrev pub facing_of : ℕ → Group → Facing
facing_of r g = record { place = r; other = g.other; other_place = g.other_place }

-- The group of row r has a number. Each of its numbers is a pick, and the condition asks for these places
pub record IsGroup (cs : List Cond) (o : ℕ) (picks : List ℕ) (r : ℕ) (g : Group) : Type 0 where
  pub some : g.first ≤ g.last
  pub listed : (i : ℕ) → IsInGroup g i → Contains picks i
  pub faces : (i : ℕ) (x : Cond) → IsInGroup g i → slice_get cs (i - 1) ≡ Some x → Faces x o (facing_of r g)

-- it is a group of some row, of numbers of conditions
abbrev pub IsSomeGroup : List Cond → ℕ → Group → Type 0
IsSomeGroup cs o g = (picks : List ℕ) × (r : ℕ) × ArePicks (length cs) picks × IsGroup cs o picks r g

-- so are the groups of row r
abbrev pub AreGroups : List Cond → ℕ → List ℕ → ℕ → List Group → Type 0
AreGroups cs o picks r gs = (k : ℕ) (g : Group) → slice_get gs k ≡ Some g → IsGroup cs o picks r g

-- each group of the list is a group of some row
abbrev pub AreSomeGroups : List Cond → ℕ → List Group → Type 0
AreSomeGroups cs o gs = (k : ℕ) (g : Group) → slice_get gs k ≡ Some g → IsSomeGroup cs o g

-- the rows of the first n picks
pub record AreRowsBelow (cs : List Cond) (o : ℕ) (picks : List ℕ) (n : ℕ) (rows : List (Vec Group Global)) : Type 0 where
  pub count : length rows ≡ MAX_SHAPES + 1
  pub groups : (r : ℕ) → AreGroups cs o picks r (row rows r)
  pub each : (k : ℕ) → k < n → (r : ℕ) × HaveNumber (row rows r) (slice_index picks k)

-- each pick is in some row, each row has picks whose conditions ask for its place, and it is told how near others have to be
pub record AreRows (cs : List Cond) (o : ℕ) (picks : List ℕ) (rows : Rows) : Type 0 where
  pub groups : (r : ℕ) → AreGroups cs o picks r (row rows.rows.items r)
  pub each : (k : ℕ) → k < length picks → (r : ℕ) × HaveNumber (row rows.rows.items r) (slice_index picks k)
  pub near : (r : ℕ) (n : Near) → slice_get rows.near.items r ≡ Some (Some n) → IsNearRow cs o (row rows.rows.items r) n

-- a group of the number alone, whose condition asks for these places
abbrev pub group_of : Facing → ℕ → Group
group_of f i = record { other = f.other; other_place = f.other_place; first = i; last = i }

-- the group with one number more
abbrev pub longer : Group → ℕ → Group
longer g i = record { other = g.other; other_place = g.other_place; first = g.first; last = i }

-- the number has a group of its own at the end, or is put behind a group that asks for the same places
abbrev pub PutsNumber : Facing → ℕ → List Group → List Group → Type 0
PutsNumber f i old new =
    (new ≡ old ++ group_of f i ∷ [])
    ⊎ ((k : ℕ) × (g : Group) × (slice_get old k ≡ Some g) × (g.last + 1 ≡ i) × (g.other ≡ f.other) × (g.other_place ≡ f.other_place) × (new ≡ slice_set old k (longer g i)))
