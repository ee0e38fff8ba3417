-- States and tuples: what is still open to each object, and what one choice is.
use Rattle.std.specs.List.{All}
use lib.Signed.{le_z}
use Rattle.geo_conditions.specs.declared.object.TheConstants.{MAX_OBJECTS, MAX_SHAPES}
use Rattle.geo_base.specs.Boxes.{coordinate}
pub use Rattle.geo_base.specs.Tuple.{Spot, Tuple, nothing_put, spot}
use Rattle.std.specs.Prelude.{◌&&◌, ◌==◌, ◌+◌, ◌-◌, ◌≡◌, Option, None, Some, ℕ, zero, suc, ◌<◌, ◌≤◌, Bool, true, false, cond, ◌||◌, List, [], ◌∷◌, ◌++◌, length, replicate, slice_index_or, slice_set, map, ℤ, ◌≤ℤ◌}

-- a box: in each dimension the numbers from its low end to its high end
pub record Region : Type 0 where
  pub lo : List ℤ
  pub hi : List ℤ

-- what is still open to one object: whether each place is there, the first place first, and its region
pub record Reach : Type 0 where
  pub places : List Bool
  pub region : Region

-- a state: what is open to each object
abbrev pub State : Type 0
State = List Reach

-- the place is there. Places count from 1
abbrev pub place_in : List Bool → ℕ → Bool
place_in places zero = false
place_in places (suc k) = slice_index_or places k false

abbrev pub count : Bool → ℕ
count true = 1
count false = 0

-- how many of the tests are true
abbrev pub how_many : List Bool → ℕ
how_many [] = 0
how_many (b ∷ bs) = count b + how_many bs

-- that place is there, and one place is
abbrev pub is_only : List Bool → ℕ → Bool
is_only places s = place_in places s && (how_many places == 1)

-- the first place that is there, where one is
abbrev pub first_place : List Bool → ℕ
first_place [] = 0
first_place (true ∷ bs) = 1
first_place (false ∷ bs) = suc (first_place bs)

-- the place that is there alone; 0 where none is there, or several are
abbrev pub sole_place : List Bool → ℕ
sole_place places = cond (how_many places == 1) (first_place places) 0

-- the set of that place alone
abbrev pub only : ℕ → List Bool
only zero = []
only (suc zero) = true ∷ []
only (suc (suc k)) = false ∷ only (suc k)

abbrev pub nowhere : Reach
nowhere = record { places = []; region = record { lo = []; hi = [] } }

-- what is open to the object o; nothing, past the last object
abbrev pub reach : State → ℕ → Reach
reach S o = slice_index_or S o nowhere

abbrev pub has : State → ℕ → ℕ → Bool
has S o s = place_in (reach S o).places s

-- the ends of an interval
abbrev pub low : State → ℕ → ℕ → ℤ
low S o d = coordinate (reach S o).region.lo d

abbrev pub high : State → ℕ → ℕ → ℤ
high S o d = coordinate (reach S o).region.hi d

-- the number of dimensions of the object
abbrev pub dims : State → ℕ → ℕ
dims S o = length (reach S o).region.lo

-- the point as a box
abbrev pub just : List ℤ → Region
just p = record { lo = p; hi = p }

-- the point lies in the box
pub record InBox (p : List ℤ) (b : Region) : Type 0 where
  pub same_lo : length p ≡ length b.lo
  pub same_hi : length p ≡ length b.hi
  pub above : (d : ℕ) → coordinate b.lo d ≤ℤ coordinate p d
  pub below : (d : ℕ) → coordinate p d ≤ℤ coordinate b.hi d

-- S with the object o at the place s in the box b
abbrev pub with_at : State → ℕ → ℕ → Region → State
with_at S o s b = slice_set S o (record { places = only s; region = b })

-- the first reach is within the second: its set of places, and each interval
pub record Within (r q : Reach) : Type 0 where
  pub same_lo : length r.region.lo ≡ length q.region.lo
  pub same_hi : length r.region.hi ≡ length q.region.hi
  pub places : (s : ℕ) → place_in r.places s ≡ true → place_in q.places s ≡ true
  pub lows : (d : ℕ) → coordinate q.region.lo d ≤ℤ coordinate r.region.lo d
  pub highs : (d : ℕ) → coordinate r.region.hi d ≤ℤ coordinate q.region.hi d

-- the state S is inside the state T
pub record Inside (S T : State) : Type 0 where
  pub objects : length S ≡ length T
  pub each : (o : ℕ) → Within (reach S o) (reach T o)

-- neither the set of places nor an interval is empty
pub record NotEmpty (r : Reach) : Type 0 where
  pub place : (s : ℕ) × (place_in r.places s ≡ true)
  pub ranges : (d : ℕ) → coordinate r.region.lo d ≤ℤ coordinate r.region.hi d

-- no set of places and no interval is empty
abbrev pub HasNoEmpty : State → Type 0
HasNoEmpty S = (o : ℕ) → o < length S → NotEmpty (reach S o)

-- the place and the origin are open
pub record SpotIn (p : Spot) (r : Reach) : Type 0 where
  pub place : place_in r.places p.place ≡ true
  pub origin : InBox p.origin r.region

-- the tuple is inside S
pub record TupleIn (t : Tuple) (S : State) : Type 0 where
  pub objects : length t ≡ length S
  pub each : (o : ℕ) → o < length S → SpotIn (spot t o) (reach S o)

abbrev pub just_spot : Spot → Reach
just_spot p = record { places = only p.place; region = just p.origin }

-- the state in which the tuple is the only one
abbrev pub just_this : Tuple → State
just_this t = map just_spot t

-- with that interval in the dimension d
abbrev pub with_interval : Reach → ℕ → ℤ → ℤ → Reach
with_interval r d lo hi = record {
  places = r.places;
  region = record { lo = slice_set r.region.lo d lo; hi = slice_set r.region.hi d hi };
}

-- with that low end in the dimension d
abbrev pub with_low : Reach → ℕ → ℤ → Reach
with_low r d v = record { places = r.places; region = record { lo = slice_set r.region.lo d v; hi = r.region.hi } }

-- with that high end in the dimension d
abbrev pub with_high : Reach → ℕ → ℤ → Reach
with_high r d v = record { places = r.places; region = record { lo = r.region.lo; hi = slice_set r.region.hi d v } }

-- with these places
abbrev pub with_places : Reach → List Bool → Reach
with_places r places = record { places = places; region = r.region }

-- with the place s put in or taken out
abbrev pub with_place : Reach → ℕ → Bool → Reach
with_place r s there = record { places = slice_set r.places (s - 1) there; region = r.region }

-- without the place s
abbrev pub without : Reach → ℕ → Reach
without r s = with_place r s false

-- the set of the places from 1 to n
abbrev pub first_places : ℕ → List Bool
first_places n = replicate n true ++ replicate (MAX_SHAPES - n) false

-- each region has k dimensions
abbrev pub HasDims : ℕ → State → Type 0
HasDims k S = All (λ r. (length r.region.lo ≡ k) × (length r.region.hi ≡ k)) S

-- a state of at most 200 objects in k dimensions, each with a set of 16 places
pub record IsState (k : ℕ) (S : State) : Type 0 where
  pub few : length S ≤ MAX_OBJECTS
  pub dims : HasDims k S
  pub places : All (λ r. length r.places ≡ MAX_SHAPES) S

-- the state, or the state with one object put at a place in a box
pub record Put : Type 0 where
  pub object : ℕ
  pub place : ℕ
  pub region : Region

abbrev pub put_on : Option Put → State → State
put_on None S = S
put_on (Some p) S = with_at S p.object p.place p.region

-- the lesser of two numbers, and the greater
abbrev pub lesser : ℤ → ℤ → ℤ
lesser a b = cond (le_z a b) a b

abbrev pub greater : ℤ → ℤ → ℤ
greater a b = cond (le_z a b) b a

abbrev pub pairwise : (ℤ → ℤ → ℤ) → List ℤ → List ℤ → List ℤ
pairwise f [] ys = []
pairwise f (x ∷ xs) [] = []
pairwise f (x ∷ xs) (y ∷ ys) = f x y ∷ pairwise f xs ys

-- the places of either
abbrev pub either : List Bool → List Bool → List Bool
either [] bs = bs
either (a ∷ as') [] = a ∷ as'
either (a ∷ as') (b ∷ bs) = (a || b) ∷ either as' bs

-- the places of either, and the hull of the regions
abbrev pub join_reach : Reach → Reach → Reach
join_reach r q = record {
  places = either r.places q.places;
  region = record { lo = pairwise lesser r.region.lo q.region.lo; hi = pairwise greater r.region.hi q.region.hi };
}

-- the join of two states of as many objects
abbrev pub join : State → State → State
join [] T = []
join (r ∷ S) [] = []
join (r ∷ S) (q ∷ T) = join_reach r q ∷ join S T

-- the object and the dimension exist in S
abbrev pub Exists : State → ℕ → ℕ → Type 0
Exists S o d = (o < length S) × (d < dims S o)
