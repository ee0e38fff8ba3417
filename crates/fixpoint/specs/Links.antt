-- Which objects the conditions name, and which conditions name an object, as lists.
use Rattle.std.specs.Prelude.{◌≡◌, ◌≢◌, ◌&&◌, ℕ, zero, suc, nat_eq, ◌<◌, not, Bool, true, false, List, [], ◌∷◌, ◌++◌, length, slice_index_or}
use Rattle.std.specs.List.{All, AllPairs, list_any}
use Rattle.std.specs.declared.vec.Vec.{Vec}
use Rattle.std.specs.declared.alloc.Global.{Global}
use Rattle.smallvec.specs.SmallVec.{SmallVec}
use Rattle.geo_conditions.specs.declared.cond.Cond.{Cond}
use Rattle.geo_conditions.specs.declared.object.ObjId.{ObjId}
use Rattle.indexical.specs.Names.{names}
use Rattle.sweep.specs.Picks.{ArePicks}
use Rattle.object_pruning.specs.declared.rows.Rows.{Rows}
use Rattle.object_pruning.specs.InRows.{AreRows, HaveNumber}
pub use Rattle.object_pruning.specs.InRows.{row}
use Rattle.fixpoint.specs.declared.links.Links.{Links}
use Rattle.fixpoint.specs.declared.pairs.Pairs.{Pairs}
use Rattle.fixpoint.specs.Partners.{HavePartners}
pub use Rattle.fixpoint.specs.Among.{is_among}
use Rattle.fixpoint.specs.Pairs.{ArePairs, SortsRows, names_at}

-- the numbers, from 1 and rising, are those of the first n conditions that meet the test
pub record NumbersOf (test : Cond → Bool) (cs : List Cond) (n : ℕ) (numbers : List ℕ) : Type 0 where
  pub within : ArePicks n numbers
  pub rising : AllPairs (λ i j. i < j) numbers
  pub each : (i : ℕ) (d : Cond) → i < n → list_any (nat_eq (suc i)) numbers ≡ test (slice_index_or cs i d)

-- the numbers are those of the conditions that name the object
abbrev pub PicksOf : List Cond → ℕ → List ℕ → Type 0
PicksOf cs o numbers = NumbersOf (names o) cs (length cs) numbers

-- the condition names no object below n
abbrev pub names_none : ℕ → Cond → Bool
names_none zero c = true
names_none (suc n) c = not (names n c) && names_none n c

-- the numbers are those of the conditions that name no object below n
abbrev pub BareOf : List Cond → ℕ → List ℕ → Type 0
BareOf cs n numbers = NumbersOf (names_none n) cs (length cs) numbers

-- of the objects below n, the list has those that the condition names
pub record NamedBy (c : Cond) (n : ℕ) (list : List ObjId) : Type 0 where
  pub below : All (λ u. u.0 < n) list
  pub each : (o : ℕ) → o < n → is_among o list ≡ names o c

-- of n objects, those are marked that the condition names
pub record AreMarked (c : Cond) (n : ℕ) (marks : List Bool) : Type 0 where
  pub objects : length marks ≡ n
  pub each : (o : ℕ) → o < n → slice_index_or marks o false ≡ names o c

-- the rows of the object o by picks of conditions
abbrev pub AreSomeRows : List Cond → ℕ → Rows → Type 0
AreSomeRows cs o rows = (picks : List ℕ) × ArePicks (length cs) picks × AreRows cs o picks rows

-- another row than the first has the number: its condition asks for a place
abbrev pub IsByPlace : Rows → ℕ → Type 0
IsByPlace rows i = (r : ℕ) × (r ≢ 0) × HaveNumber (row rows.rows.items r) i

-- there are rows for each of n objects, and they have its picks
pub record HaveRows (cs : List Cond) (picks : List (Vec ℕ Global)) (n : ℕ) (rows : List Rows) : Type 0 where
  pub objects : length rows ≡ n
  pub each : (o : ℕ) (d : Rows) → o < n → AreRows cs o (row picks o) (slice_index_or rows o d)

-- there are pairs for the rows of each of the first n objects
pub record SortAllRows (named : List (SmallVec ObjId)) (rows : List Rows) (n : ℕ) (pairs : List Pairs) : Type 0 where
  pub objects : length pairs ≡ n
  pub each : (o : ℕ) (d : Rows) (p : Pairs) → o < n → SortsRows named o (slice_index_or rows o d) (length rows) (slice_index_or pairs o p)

-- there are pairs for each of n objects, and they have its picks
pub record HavePairs (cs : List Cond) (picks : List (Vec ℕ Global)) (n : ℕ) (pairs : List Pairs) : Type 0 where
  pub objects : length pairs ≡ n
  pub each : (o : ℕ) (d : Pairs) → o < n → ArePairs cs o (row picks o) n (slice_index_or pairs o d)

-- the links between the conditions and n objects
pub record AreLinks (cs : List Cond) (n : ℕ) (l : Links) : Type 0 where
  pub conditions : length l.named.items ≡ length cs
  pub named : (i : ℕ) (d : Cond) → i < length cs → NamedBy (slice_index_or cs i d) n (names_at l.named.items i)
  pub objects : length l.picks.items ≡ n
  pub picks : (o : ℕ) → o < n → PicksOf cs o (row l.picks.items o)
  pub bare : BareOf cs n l.bare.items
  pub rows : HaveRows cs l.picks.items n l.rows.items
  pub pairs : HavePairs cs l.picks.items n l.pairs.items
  pub partners : HavePartners l.named.items l.pairs.items n n l.partners.items

-- the list, with the number at its end where the test is met
abbrev pub put_where : Bool → ℕ → List ℕ → List ℕ
put_where true k numbers = numbers ++ k ∷ []
put_where false k numbers = numbers

-- the objects that the condition names have its number in their lists too
abbrev pub Numbers : Cond → ℕ → List (Vec ℕ Global) → List (Vec ℕ Global) → Type 0
Numbers c k old new = (o : ℕ) → o < length old → row new o ≡ put_where (names o c) k (row old o)
