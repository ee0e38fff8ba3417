-- The numbers of an object's conditions by the other objects that they name.
use Rattle.std.specs.Prelude.{◌≡◌, ◌≢◌, ◌⊎◌, ℕ, ◌-◌, ◌<◌, ◌≤◌, Bool, true, false, List, length, slice_get, slice_index_or, Some}
use Rattle.std.specs.declared.vec.Vec.{Vec}
use Rattle.std.specs.declared.alloc.Global.{Global}
use Rattle.smallvec.specs.SmallVec.{SmallVec}
use Rattle.geo_conditions.specs.declared.object.ObjId.{ObjId}
use Rattle.object_pruning.specs.InRows.{row}
use Rattle.fixpoint.specs.Among.{is_among}
use Rattle.fixpoint.specs.Pairs.{HaveIn, names_at}
use Rattle.fixpoint.specs.declared.pairs.Pairs.{Pairs}
use Rattle.fixpoint.specs.declared.partners.Partners.{Partners}

-- the number stands in the list
abbrev pub HasNumber : List ℕ → ℕ → Type 0
HasNumber numbers i = (k : ℕ) × (slice_get numbers k ≡ Some i)

-- a marked object has the number
abbrev pub HaveMarked : List Bool → List (Vec ℕ Global) → ℕ → Type 0
HaveMarked marks few i = (u : ℕ) × (slice_index_or marks u false ≡ true) × HasNumber (row few u) i

-- the number was put to those objects, and perhaps to others
pub record PutsAt (i : ℕ) (Those : ℕ → Type 0) (old new : List (Vec ℕ Global)) : Type 0 where
  pub objects : length new ≡ length old
  pub stay : (u j : ℕ) → HasNumber (row old u) j → HasNumber (row new u) j
  pub from : (u j : ℕ) → HasNumber (row new u) j → HasNumber (row old u) j ⊎ (j ≡ i)
  pub there : (u : ℕ) → Those u → u < length old → HasNumber (row new u) i

-- those numbers of conditions of the object o were put to each other object that the condition names, or to the others
pub record PutsNumbers (named : List (SmallVec ObjId)) (o : ℕ) (Those : ℕ → Type 0) (old : List (Vec ℕ Global)) (others : List ℕ) (new : List (Vec ℕ Global)) (more : List ℕ) : Type 0 where
  pub objects : length new ≡ length old
  pub stay : (u j : ℕ) → HasNumber (row old u) j → HasNumber (row new u) j
  pub rest : (j : ℕ) → HasNumber others j → HasNumber more j
  pub from : (u j : ℕ) → HasNumber (row new u) j → HasNumber (row old u) j ⊎ Those j
  pub further : (j : ℕ) → HasNumber more j → HasNumber others j ⊎ Those j
  pub each : (j u : ℕ) → Those j → u < length old → u ≢ o → is_among u (names_at named (j - 1)) ≡ true → HasNumber more j ⊎ HasNumber (row new u) j

-- of n objects, each other one that a condition of those numbers names has the number, or it is among those of many
pub record ArePartners (named : List (SmallVec ObjId)) (o n : ℕ) (Those : ℕ → Type 0) (p : Partners) : Type 0 where
  pub objects : length p.few.items ≤ n
  pub few : (u j : ℕ) → HasNumber (row p.few.items u) j → Those j
  pub many : (j : ℕ) → HasNumber p.many.items j → Those j
  pub each : (j u : ℕ) → Those j → u < n → u ≢ o → is_among u (names_at named (j - 1)) ≡ true → HasNumber p.many.items j ⊎ HasNumber (row p.few.items u) j

-- so it is, for the other groups of each of the first m of n objects
pub record HavePartners (named : List (SmallVec ObjId)) (pairs : List Pairs) (n m : ℕ) (partners : List Partners) : Type 0 where
  pub objects : length partners ≡ m
  pub each : (o : ℕ) (p : Pairs) (d : Partners) → o < m → ArePartners named o n (HaveIn (slice_index_or pairs o p).others.items) (slice_index_or partners o d)
