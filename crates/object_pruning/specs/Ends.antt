-- The ends of the intervals of one object, and what its places and points say of them.
use Rattle.std.specs.Prelude.{◌≡◌, ◌≢◌, ◌⊎◌, ◌<◌, ◌≤ℤ◌, ℕ, ℤ, Bool, true, false, List, length, Option, None, Some}
use Rattle.geo_base.specs.Boxes.{coordinate}
use Rattle.geo_base.specs.Ways.{toward}
use Rattle.geo_conditions.specs.declared.cond.Cond.{Cond}
use Rattle.geo_conditions.specs.Conditions.{AllFit}
use Rattle.geo_conditions.specs.Reach.{State, reach, has, low, high, dims, Inside}
use Rattle.geo_conditions.specs.Keeps.{size}
use Rattle.object_pruning.specs.declared.kept.Placed.{Placed}
use Rattle.object_pruning.specs.Pruning.{CanBe, HasSamePoints}

-- the low end of an interval where the way goes up, else its high end
abbrev pub end : Bool → State → ℕ → ℕ → ℤ
end true S o d = low S o d
end false S o d = high S o d

-- some point of the object has that coordinate, and none lies before it
pub record IsOutermost (cs : List Cond) (S : State) (o d : ℕ) (up : Bool) (v : ℤ) : Type 0 where
  pub there : (s : ℕ) × (p : List ℤ) × CanBe cs S o s p × (coordinate p d ≡ v)
  pub first : (s : ℕ) (p : List ℤ) → CanBe cs S o s p → toward up v ≤ℤ toward up (coordinate p d)

-- the object can be there, and that coordinate of it is outermost
abbrev pub IsOutermostPoint : {K : ℕ} → List Cond → State → ℕ → ℕ → Bool → Placed K → Type 0
IsOutermostPoint cs S o d up q = CanBe cs S o q.place q.point.coordinates × IsOutermost cs S o d up (coordinate q.point.coordinates d)

-- the object can be there, and of its points at the place s none lies before it in the dimension d
abbrev pub IsFirstAt : {K : ℕ} → List Cond → State → ℕ → ℕ → ℕ → Bool → Placed K → Type 0
IsFirstAt cs S o s d up q = CanBe cs S o q.place q.point.coordinates × ((p : List ℤ) → CanBe cs S o s p → toward up (coordinate q.point.coordinates d) ≤ℤ toward up (coordinate p d))

-- the first coordinate of the two is at most the second one, as the way counts
abbrev pub IsBefore : {K : ℕ} → ℕ → Bool → Placed K → Placed K → Type 0
IsBefore d up a b = toward up (coordinate a.point.coordinates d) ≤ℤ toward up (coordinate b.point.coordinates d)

-- of two points the one that comes first, or the only one
abbrev pub IsSooner : {K : ℕ} → ℕ → Bool → Option (Placed K) → Placed K → Placed K → Type 0
IsSooner d up None q r = r ≡ q
IsSooner d up (Some b) q r = ((r ≡ b) ⊎ (r ≡ q)) × IsBefore d up r b × IsBefore d up r q

-- some point of the object has the end as its coordinate
abbrev pub IsTightEnd : List Cond → State → ℕ → ℕ → Bool → Type 0
IsTightEnd cs S o d up = (s : ℕ) × (p : List ℤ) × CanBe cs S o s p × (coordinate p d ≡ end up S o d)

-- the object can be there, and has that end of the interval
abbrev pub IsEndPoint : {K : ℕ} → List Cond → State → ℕ → ℕ → Bool → Placed K → Type 0
IsEndPoint cs S o d up q = CanBe cs S o q.place q.point.coordinates × (coordinate q.point.coordinates d ≡ end up S o d)

-- some point is there
abbrev pub HasSome : List Cond → State → ℕ → Type 0
HasSome cs S o = (s : ℕ) × (p : List ℤ) × CanBe cs S o s p

-- the conditions fit S, which has the object, and some point of it is there
pub record CanMove (all cs : List Cond) (S : State) (o : ℕ) : Type 0 where
  pub fits : AllFit all S
  pub object : o < length S
  pub some : HasSome cs S o

-- each place has a point
abbrev pub HavePoints : List Cond → State → ℕ → Type 0
HavePoints cs S o = (s : ℕ) → has S o s ≡ true → (p : List ℤ) × CanBe cs S o s p

-- T is S or smaller, as the flag says
abbrev pub Shrinks : Bool → State → State → Type 0
Shrinks false S T = T ≡ S
Shrinks true S T = size T < size S

-- the end alone moved, or nothing did, and no point was lost
pub record MovesEnd (cs : List Cond) (o d : ℕ) (up : Bool) (S : State) (moved : Bool) (T : State) : Type 0 where
  pub points : HasSamePoints cs o S T
  pub tight : IsTightEnd cs T o d up
  pub places : (reach T o).places ≡ (reach S o).places
  pub others : (e : ℕ) (other : Bool) → (e ≢ d) ⊎ (other ≢ up) → end other T o e ≡ end other S o e
  pub inside : Inside T S
  pub shrinks : Shrinks moved S T

-- both ends of each interval moved, or stood right
pub record MovesEnds (cs : List Cond) (o : ℕ) (S : State) (moved : Bool) (T : State) : Type 0 where
  pub points : HasSamePoints cs o S T
  pub tight : (d : ℕ) (up : Bool) → d < dims S o → IsTightEnd cs T o d up
  pub places : (reach T o).places ≡ (reach S o).places
  pub inside : Inside T S
  pub shrinks : Shrinks moved S T

-- the places without a point are gone, and nothing else
pub record DropsPlaces (cs : List Cond) (o : ℕ) (S : State) (some dropped : Bool) (T : State) : Type 0 where
  pub points : HasSamePoints cs o S T
  pub have : HavePoints cs T o
  pub found : some ≡ true → HasSome cs T o
  pub none : some ≡ false → HasSome cs S o → ⊥
  pub region : (reach T o).region ≡ (reach S o).region
  pub inside : Inside T S
  pub shrinks : Shrinks dropped S T
