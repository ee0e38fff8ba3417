-- The groups of an object's rows, by the other object that they name.
use Rattle.std.specs.Prelude.{◌≡◌, ◌≢◌, ◌⊎◌, ℕ, zero, suc, [], ◌∷◌, ◌-◌, ◌<◌, ◌≤◌, true, List, length, slice_get, slice_index, Some, MatchOption}
use Rattle.std.specs.declared.vec.Vec.{Vec}
use Rattle.std.specs.declared.alloc.Global.{Global}
use Rattle.smallvec.specs.SmallVec.{SmallVec}
use Rattle.geo_conditions.specs.declared.cond.Cond.{Cond}
use Rattle.geo_conditions.specs.declared.object.ObjId.{ObjId}
use Rattle.indexical.specs.Names.{names}
use Rattle.sweep.specs.Picks.{ArePicks}
use Rattle.object_pruning.specs.declared.rows.Group.{Group}
use Rattle.object_pruning.specs.declared.rows.Rows.{Rows}
use Rattle.object_pruning.specs.InRows.{row, IsGroup, IsInGroup}
use Rattle.fixpoint.specs.declared.pairs.Pairs.{Pairs}
use Rattle.fixpoint.specs.declared.pairs.RowGroup.{RowGroup}

-- it is in the list
abbrev pub HasGroup : {X : Type 0} → List X → X → Type 0
HasGroup gs g = (k : ℕ) × (slice_get gs k ≡ Some g)

-- some group of the list has the number
abbrev pub HaveIn : List RowGroup → ℕ → Type 0
HaveIn bs i = (k : ℕ) × (b : RowGroup) × (slice_get bs k ≡ Some b) × IsInGroup b.group i

-- so has some group of some object
abbrev pub HaveBeside : List (Vec RowGroup Global) → ℕ → Type 0
HaveBeside lists i = (u : ℕ) × HaveIn (row lists u) i

-- the group tells that u is the other object
abbrev pub IsOther : Group → ℕ → Type 0
IsOther g u = MatchOption g.other ⊥ (λ v. v.0 ≡ u)

-- the objects that are listed there; nothing past the last list
abbrev pub names_at : List (SmallVec ObjId) → ℕ → List ObjId
names_at [] i = []
names_at (v ∷ vs) zero = v.items
names_at (v ∷ vs) (suc i) = names_at vs i

-- each condition of the group names one object at most, by the lists of what conditions name
abbrev pub NamesOne : List (SmallVec ObjId) → Group → Type 0
NamesOne named g = (i : ℕ) → IsInGroup g i → length (names_at named (i - 1)) ≤ 1

-- the group of the object o is one of u's: it tells that u is the other object, or u is o itself, and it names no other one
abbrev pub BelongsTo : List (SmallVec ObjId) → ℕ → ℕ → Group → Type 0
BelongsTo named o u g = IsOther g u ⊎ ((u ≡ o) × NamesOne named g)

-- some of those groups were put there, each where it belongs
pub record Puts (Belongs : ℕ → Group → Type 0) (Those : RowGroup → Type 0) (old : List (Vec RowGroup Global)) (others : List RowGroup) (new : List (Vec RowGroup Global)) (more : List RowGroup) : Type 0 where
  pub objects : length new ≡ length old
  pub stay : (i : ℕ) → HaveBeside old i → HaveBeside new i
  pub rest : (i : ℕ) → HaveIn others i → HaveIn more i
  pub beside : (u : ℕ) (b : RowGroup) → HasGroup (row new u) b → HasGroup (row old u) b ⊎ (Those b × Belongs u b.group)
  pub further : (b : RowGroup) → HasGroup more b → HasGroup others b ⊎ Those b
  pub each : (b : RowGroup) (i : ℕ) → Those b → IsInGroup b.group i → HaveBeside new i ⊎ HaveIn more i

-- the group is one of the rows
abbrev pub IsOfRows : Rows → RowGroup → Type 0
IsOfRows rows b = HasGroup (row rows.rows.items b.row) b.group

-- the groups of the rows of the object o, by the other object, of which there are n
pub record SortsRows (named : List (SmallVec ObjId)) (o : ℕ) (rows : Rows) (n : ℕ) (p : Pairs) : Type 0 where
  pub objects : length p.beside.items ≡ n
  pub beside : (u : ℕ) (b : RowGroup) → HasGroup (row p.beside.items u) b → IsOfRows rows b × BelongsTo named o u b.group
  pub others : (b : RowGroup) → HasGroup p.others.items b → IsOfRows rows b
  pub each : (b : RowGroup) (i : ℕ) → IsOfRows rows b → IsInGroup b.group i → HaveBeside p.beside.items i ⊎ HaveIn p.others.items i

-- it is a group of row r, of picks of conditions
abbrev pub IsGroupOf : List Cond → ℕ → ℕ → Group → Type 0
IsGroupOf cs o r g = (picks : List ℕ) × ArePicks (length cs) picks × IsGroup cs o picks r g

-- of the objects below n, the conditions of the group name none but o and u
abbrev pub NamesNoThird : List Cond → ℕ → ℕ → ℕ → Group → Type 0
NamesNoThird cs n o u g = (i : ℕ) (x : Cond) → IsInGroup g i → slice_get cs (i - 1) ≡ Some x → (v : ℕ) → v < n → names v x ≡ true → v ≢ o → v ≡ u

-- the picks of the object o in groups by the other object, of which there are n
pub record ArePairs (cs : List Cond) (o : ℕ) (picks : List ℕ) (n : ℕ) (p : Pairs) : Type 0 where
  pub objects : length p.beside.items ≡ n
  pub beside : (u : ℕ) (b : RowGroup) → HasGroup (row p.beside.items u) b → IsGroup cs o picks b.row b.group × NamesNoThird cs n o u b.group
  pub others : (b : RowGroup) → HasGroup p.others.items b → IsGroup cs o picks b.row b.group
  pub each : (k : ℕ) → k < length picks → HaveBeside p.beside.items (slice_index picks k) ⊎ HaveIn p.others.items (slice_index picks k)

-- so it is by picks of conditions
abbrev pub AreSomePairs : List Cond → ℕ → ℕ → Pairs → Type 0
AreSomePairs cs o n p = (picks : List ℕ) × ArePicks (length cs) picks × ArePairs cs o picks n p
