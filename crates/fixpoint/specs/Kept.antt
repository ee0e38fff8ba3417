-- Points that are kept of each object: with the object there, no condition that names it is refuted, but perhaps one that names
-- a neighbour that is marked.
use Rattle.std.specs.Prelude.{◌≡◌, ◌≢◌, ◌⊎◌, ℕ, ◌-◌, ◌<◌, Bool, true, List, length, slice_get, slice_index_or, Option, None, Some, if◌then◌else◌, pos}
use Rattle.std.specs.List.{All}
use lib.Signed.{le_z}
use Rattle.std.specs.declared.vec.Vec.{Vec}
use Rattle.std.specs.declared.alloc.Global.{Global}
use Rattle.geo_conditions.specs.declared.cond.Cond.{Cond}
use Rattle.geo_conditions.specs.Conditions.{possible}
use Rattle.geo_conditions.specs.Reach.{State}
use Rattle.indexical.specs.Names.{names}
use Rattle.indexical.specs.Sole.{value_with}
use Rattle.indexical.specs.declared.sole.SoleTerm.{SoleTerm}
use Rattle.object_pruning.specs.declared.kept.Placed.{Placed}
use Rattle.object_pruning.specs.Gathered.{AllPossible}
use Rattle.object_pruning.specs.Kept.{placed}
use Rattle.fixpoint.specs.Links.{row}
use Rattle.fixpoint.specs.Marks.{MarkRows, NamesUnmarked, marks_of}
use Rattle.fixpoint.specs.Near.{NearUnrefuted}

-- the slots of each object
abbrev pub Slots : ℕ → Type 0
Slots K = List (Vec (Option (Placed K)) Global)

-- what is kept in the i-th slot of the object o
abbrev pub kept_at : {K : ℕ} → Slots K → ℕ → ℕ → Option (Placed K)
kept_at kept o i = slice_index_or (row kept o) i None

-- nothing is kept
abbrev pub IsBlank : {K : ℕ} → Slots K → Type 0
IsBlank kept = (o i : ℕ) → kept_at kept o i ≡ None

-- no condition is refuted that names the object and no marked one
abbrev pub UnmarkedUnrefuted : List Cond → State → List Bool → ℕ → Type 0
UnmarkedUnrefuted cs S marks o = All (λ c. names o c ≡ true → NamesUnmarked marks c → possible c S ≡ true) cs

-- with the object at what is kept in its slots, no condition is refuted that names it and no marked one
abbrev pub StandBut : {K : ℕ} → List Cond → State → ℕ → List Bool → List (Option (Placed K)) → Type 0
StandBut {K} cs S o marks slots = (i : ℕ) (q : Placed K) → slice_index_or slots i None ≡ Some q → UnmarkedUnrefuted cs (placed S o q) marks o

-- so it is of each object with its row of marks
abbrev pub AllStand : {K : ℕ} → List Cond → State → MarkRows → Slots K → Type 0
AllStand cs S marks kept = (o : ℕ) → o < length S → StandBut cs S o (marks_of marks o) (row kept o)

-- with the object at what is kept in its slots, no condition that names it is refuted
abbrev pub Stand : {K : ℕ} → List Cond → State → ℕ → List (Option (Placed K)) → Type 0
Stand {K} cs S o slots = (i : ℕ) (q : Placed K) → slice_index_or slots i None ≡ Some q → NearUnrefuted cs (placed S o q) o

-- what is kept of o stands, and what is kept of other objects is as it was
pub record StandsAlone {K : ℕ} (cs : List Cond) (S : State) (o : ℕ) (old new : Slots K) : Type 0 where
  pub others : (u : ℕ) → u ≢ o → row new u ≡ row old u
  pub itself : Stand cs S o (row new o)

-- with the object at q each condition of those numbers is possible, or it names no marked object
abbrev pub AreAsked : {K : ℕ} → List Cond → State → ℕ → List Bool → (ℕ → Type 0) → Placed K → Type 0
AreAsked cs S o marks Those q = (k : ℕ) (x : Cond) → Those k → slice_get cs (k - 1) ≡ Some x → NamesUnmarked marks x ⊎ (possible x (placed S o q) ≡ true)

-- with the object at that point, if there is one, each condition of those numbers is possible
abbrev pub IsKnown : {K : ℕ} → List Cond → State → ℕ → (ℕ → Type 0) → Option (Placed K) → Type 0
IsKnown {K} cs S o Those known = (q : Placed K) → known ≡ Some q → AllPossible cs (placed S o q) Those

-- what is kept in the slot was kept, and each condition of those numbers is possible there
abbrev pub AsksSlot : {K : ℕ} → List Cond → State → ℕ → (ℕ → Type 0) → Option (Placed K) → Option (Placed K) → Type 0
AsksSlot {K} cs S o Those old new = (q : Placed K) → new ≡ Some q → (old ≡ Some q) × AllPossible cs (placed S o q) Those

-- what is kept was kept, and those conditions were asked there
pub record RetriesThose {K : ℕ} (cs : List Cond) (S : State) (o : ℕ) (marks : List Bool) (Those : ℕ → Type 0) (old new : List (Option (Placed K))) : Type 0 where
  pub stay : (i : ℕ) (q : Placed K) → slice_index_or new i None ≡ Some q → slice_index_or old i None ≡ Some q
  pub tried : (i : ℕ) (q : Placed K) → slice_index_or new i None ≡ Some q → AreAsked cs S o marks Those q

-- what is kept was kept, and the condition is possible there if it names a marked object
pub record RetriesMarked {K : ℕ} (c : Cond) (S : State) (o : ℕ) (marks : List Bool) (old new : List (Option (Placed K))) : Type 0 where
  pub stay : (i : ℕ) (q : Placed K) → slice_index_or new i None ≡ Some q → slice_index_or old i None ≡ Some q
  pub tried : NamesUnmarked marks c ⊎ ((i : ℕ) (q : Placed K) → slice_index_or new i None ≡ Some q → possible c (placed S o q) ≡ true)

-- the kept point, if what a form comes to there is at most 0
abbrev pub at_most_0 : {K : ℕ} → SoleTerm K → Option (Placed K) → Option (Placed K)
at_most_0 x None = None
at_most_0 x (Some q) = if le_z (value_with x q.point.coordinates) (pos 0) then Some q else None
