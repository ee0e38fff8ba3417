-- Lists of covers, one for each place that is left to an object.
use Rattle.std.specs.Prelude.{if◌then◌else◌, nat_le, ◌≡◌, ◌≤ℤ◌, ◌&&◌, ◌==◌, ◌+◌, ℕ, suc, Bool, true, false, List, [], ◌∷◌, ◌++◌, length, Option, Some, None}
use Rattle.geo_base.specs.Boxes.{coordinate}
use Rattle.geo_conditions.specs.declared.cond.Cond.{Cond}
use Rattle.geo_conditions.specs.Reach.{State, Region, reach, dims}
use Rattle.derivation.specs.declared.event.Event.{Event}
use Rattle.derivation.specs.declared.event.Event.TheVariants.{Cover, EndCovers}
use Rattle.derivation.specs.Covers.{CoverTree, events_of, covers, HasNumbersIn}

-- a cover of a place
pub record PlaceCover : Type 0 where
  pub place : ℕ
  pub tree : CoverTree

-- the events of the covers, one after another
abbrev pub open_events : List PlaceCover → List Event
open_events [] = []
open_events (c ∷ more) = Cover c.place ∷ (events_of c.tree ++ open_events more)

-- the same, and the end of their list
abbrev pub covers_events : List PlaceCover → List Event
covers_events list = open_events list ++ EndCovers ∷ []

-- the first place from n on that is there, where the list begins with the place k
abbrev pub next_at : ℕ → ℕ → List Bool → Option ℕ
next_at k n [] = None
next_at k n (b ∷ bs) = if b && nat_le n k then Some k else next_at (suc k) n bs

-- the first place from n on that is there. Places count from 1
abbrev pub next_place : ℕ → List Bool → Option ℕ
next_place n bs = next_at 1 n bs

abbrev pub is_that : Option ℕ → ℕ → Bool
is_that None s = false
is_that (Some r) s = r == s

abbrev pub is_nothing : Option ℕ → Bool
is_nothing None = true
is_nothing (Some r) = false

-- From place n on, the covers name exactly the places that are left to o, in order, and each covers the box: each names the first place
-- that is left behind the one before, and behind the last none is left.
abbrev pub all_cover : List Cond → State → ℕ → Region → ℕ → List PlaceCover → Bool
all_cover cs S o b n [] = is_nothing (next_place n (reach S o).places)
all_cover cs S o b n (c ∷ more) = is_that (next_place n (reach S o).places) c.place && (covers cs S o c.place b c.tree && all_cover cs S o b (c.place + 1) more)

-- the same of the trees of a list of covers
abbrev pub HaveNumbersIn : ℕ → ℕ → List PlaceCover → Type 0
HaveNumbersIn k m [] = Unit {0}
HaveNumbersIn k m (c ∷ more) = HasNumbersIn k m c.tree × HaveNumbersIn k m more

-- the covers name the places that are left below n, and each covers the box: with covers from n on they are a whole list
pub record CoversBelow (cs : List Cond) (S : State) (o : ℕ) (b : Region) (n : ℕ) (list : List PlaceCover) : Type 0 where
  pub whole : (more : List PlaceCover) → all_cover cs S o b n more ≡ true → all_cover cs S o b 1 (list ++ more) ≡ true

-- behind the old events there are now the covers of the places below n
pub record RecordedBelow (cs : List Cond) (S : State) (o : ℕ) (b : Region) (n : ℕ) (old now : List Event) : Type 0 where
  pub list : List PlaceCover
  pub events : now ≡ old ++ open_events list
  pub below : CoversBelow cs S o b n list
  pub numbers : HaveNumbersIn (dims S o) (length cs) list

-- behind the old events there is now a whole list of covers
pub record RecordedCovers (cs : List Cond) (S : State) (o : ℕ) (b : Region) (old now : List Event) : Type 0 where
  pub list : List PlaceCover
  pub events : now ≡ old ++ covers_events list
  pub all : all_cover cs S o b 1 list ≡ true
  pub numbers : HaveNumbersIn (dims S o) (length cs) list

-- the first box lies in the second, by ends
pub record SmallerBox (c b : Region) : Type 0 where
  pub same_lo : length c.lo ≡ length b.lo
  pub same_hi : length c.hi ≡ length b.hi
  pub lows : (d : ℕ) → coordinate b.lo d ≤ℤ coordinate c.lo d
  pub highs : (d : ℕ) → coordinate c.hi d ≤ℤ coordinate b.hi d
