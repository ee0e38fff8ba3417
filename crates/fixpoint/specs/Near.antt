-- What the conditions that name an object say of it.
use Rattle.std.specs.Prelude.{◌≡◌, ◌≢◌, ◌⊎◌, ℕ, ◌-◌, ◌<◌, true, false, List, length, slice_get, Some, ℤ}
use Rattle.std.specs.List.{All}
use Rattle.geo_base.specs.Boxes.{coordinate}
use Rattle.geo_conditions.specs.declared.cond.Cond.{Cond}
use Rattle.geo_conditions.specs.Reach.{State, reach, has, low, high, dims, just, InBox, with_at, NotEmpty}
use Rattle.geo_conditions.specs.Conditions.{possible}
use Rattle.geo_conditions.specs.declared.object.ObjId.{ObjId}
use Rattle.indexical.specs.Free.{SparesAnywhere}
use Rattle.indexical.specs.Names.{names}
use Rattle.object_pruning.specs.declared.rows.Group.{Group}
use Rattle.object_pruning.specs.Runs.{IsInGroup}

-- u is another object than o, and the condition names no third one
pub record IsPair (c : Cond) (o u : ℕ) : Type 0 where
  pub apart : u ≢ o
  pub named : (v : ℕ) → names v c ≡ true → (v ≡ o) ⊎ (v ≡ u)

-- if the condition names the object, it is possible wherever that is put
abbrev pub Unhinders : Cond → State → ℕ → Type 0
Unhinders c S o = names o c ≡ true → SparesAnywhere c S o

-- each condition that names both objects is possible wherever o is put
abbrev pub Unhindered : List Cond → State → ℕ → ℕ → Type 0
Unhindered cs S u o = All (λ c. names u c ≡ true → Unhinders c S o) cs

-- each condition of those numbers is possible wherever o is put, if it names it
abbrev pub UnhinderedBy : List Cond → State → (ℕ → Type 0) → ℕ → Type 0
UnhinderedBy cs S Those o = (i : ℕ) (x : Cond) → Those i → slice_get cs (i - 1) ≡ Some x → Unhinders x S o

-- where a group of u's tells the other object, its conditions are possible wherever another object than u is put
abbrev pub LeavesPairsFree : List Cond → State → ℕ → List Group → Type 0
LeavesPairsFree cs S u gs = (k : ℕ) (g : Group) (v : ObjId) → slice_get gs k ≡ Some g → g.other ≡ Some v → (o : ℕ) → o ≢ u → UnhinderedBy cs S (IsInGroup g) o

-- the object o is the same in the two states, and each other one is the same too or leaves it unhindered in T
pub record IsUntouched (cs : List Cond) (S T : State) (o : ℕ) : Type 0 where
  pub itself : reach S o ≡ reach T o
  pub others : (u : ℕ) → u < length S → (reach S u ≡ reach T u) ⊎ Unhindered cs T u o

-- at the place s the object o has the point p of its region, and there no condition that names o is refuted
pub record NearSupports (cs : List Cond) (S : State) (o s : ℕ) (p : List ℤ) : Type 0 where
  pub place : has S o s ≡ true
  pub point : InBox p (reach S o).region
  pub unrefuted : All (λ c. names o c ≡ true → possible c (with_at S o s (just p)) ≡ true) cs

-- no condition that names the object is refuted
abbrev pub NearUnrefuted : List Cond → State → ℕ → Type 0
NearUnrefuted cs S o = All (λ c. names o c ≡ true → possible c S ≡ true) cs

-- the object has all its points, under the conditions that name it
pub record IsFine (cs : List Cond) (S : State) (o : ℕ) : Type 0 where
  pub full : NotEmpty (reach S o)
  pub places : (s : ℕ) → has S o s ≡ true → (p : List ℤ) × NearSupports cs S o s p
  pub lows : (d : ℕ) → d < dims S o → (s : ℕ) × (p : List ℤ) × NearSupports cs S o s p × (coordinate p d ≡ low S o d)
  pub highs : (d : ℕ) → d < dims S o → (s : ℕ) × (p : List ℤ) × NearSupports cs S o s p × (coordinate p d ≡ high S o d)

-- conditions that name no object are possible
abbrev pub BarePossible : List Cond → State → Type 0
BarePossible cs S = All (λ c. ((o : ℕ) → o < length S → names o c ≡ false) → possible c S ≡ true) cs
