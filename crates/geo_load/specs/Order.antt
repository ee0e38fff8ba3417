-- Orders in which objects come in, over any relation: `blocks i j` says that j cannot come in where
-- i stands before it.
use Rattle.std.specs.Prelude.{◌≡◌, ◌≢◌, ◌<◌, ◌≤◌, ◌⊎◌, ◌==◌, ◌++◌, not, ℕ, List, [], ◌∷◌, length}
use Rattle.std.specs.List.{filter}
use Rattle.geo_load.specs.declared.order.Loading.{Loading}
use Rattle.geo_load.specs.declared.order.Loading.TheVariants.{Order, Cycle}

abbrev pub Has : List ℕ → ℕ → Type 0
Has [] o = ⊥
Has (x ∷ xs) o = (x ≡ o) ⊎ Has xs o

abbrev pub HasNot : List ℕ → ℕ → Type 0
HasNot xs o = Has xs o → ⊥

-- each object stands once
abbrev pub IsOnce : List ℕ → Type 0
IsOnce [] = Unit {0}
IsOnce (x ∷ xs) = HasNot xs x × IsOnce xs

-- the numbers ascend
abbrev pub IsAscending : List ℕ → Type 0
IsAscending [] = Unit {0}
IsAscending (x ∷ xs) = ((o : ℕ) → Has xs o → x < o) × IsAscending xs

-- the objects without one
abbrev pub without : ℕ → List ℕ → List ℕ
without o xs = filter (λ u. not (u == o)) xs

-- the object of least number
pub record IsLeast (objects : List ℕ) (o : ℕ) : Type 0 where
  pub there : Has objects o
  pub least : (u : ℕ) → Has objects u → o ≤ u

-- the path begins with the object of least number
abbrev pub BeginsLeast : List ℕ → List ℕ → Type 0
BeginsLeast objects [] = ⊥
BeginsLeast objects (o ∷ path) = IsLeast objects o

-- each of the objects stands in the order, once, and no other
pub record IsOrderOf (objects order : List ℕ) : Type 0 where
  pub once : IsOnce order
  pub there : (o : ℕ) → Has objects o → Has order o
  pub only : (o : ℕ) → Has order o → Has objects o

-- lexicographically before
abbrev pub IsLess : List ℕ → List ℕ → Type 0
IsLess [] [] = ⊥
IsLess [] (y ∷ ys) = Unit {0}
IsLess (x ∷ xs) [] = ⊥
IsLess (x ∷ xs) (y ∷ ys) = (x < y) ⊎ ((x ≡ y) × IsLess xs ys)

module _ (blocks : ℕ → ℕ → Type 0) where
  -- o blocks another one of these
  abbrev pub BlocksOne : List ℕ → ℕ → Type 0
  BlocksOne left o = (u : ℕ) × Has left u × (u ≢ o) × blocks o u

  -- o blocks no other one of these
  abbrev pub IsClear : List ℕ → ℕ → Type 0
  IsClear left o = (u : ℕ) → Has left u → u ≢ o → blocks o u → ⊥

  -- no object is blocked by one that stands before it
  abbrev pub IsFree : List ℕ → Type 0
  IsFree [] = Unit {0}
  IsFree (o ∷ rest) = ((u : ℕ) → Has rest u → blocks o u → ⊥) × IsFree rest

  -- ---- the order that is answered

  -- the one of least number that blocks no other one left
  pub record IsNext (left : List ℕ) (o : ℕ) : Type 0 where
    pub there : Has left o
    pub clear : IsClear left o
    pub least : (u : ℕ) → Has left u → u < o → BlocksOne left u

  -- of these objects those of the order come in, one after another, and `left` are left
  abbrev pub Loads : List ℕ → List ℕ → List ℕ → Type 0
  Loads objects [] left = objects ≡ left
  Loads objects (o ∷ order) left = IsNext objects o × Loads (without o objects) order left

  -- some are left, and each of them blocks another one
  pub record IsStuck (left : List ℕ) : Type 0 where
    pub some : 0 < length left
    pub each : (o : ℕ) → Has left o → BlocksOne left o

  -- ---- the cycle that is answered

  -- u is the object of least number that o blocks, of those left
  pub record IsLeastBlocked (left : List ℕ) (o u : ℕ) : Type 0 where
    pub there : Has left u
    pub other : u ≢ o
    pub blocked : blocks o u
    pub least : (w : ℕ) → Has left w → w ≢ o → blocks o w → u ≤ w

  -- each object leads to the next one, and the last to `to`
  abbrev pub IsWalk : List ℕ → List ℕ → ℕ → Type 0
  IsWalk left [] to = Unit {0}
  IsWalk left (o ∷ []) to = IsLeastBlocked left o to
  IsWalk left (o ∷ (u ∷ path)) to = IsLeastBlocked left o u × IsWalk left (u ∷ path) to

  -- The walk begins with the least object left. `lead` are those before the first one that is met
  -- again, which the cycle begins with.
  pub record IsCycle (left cycle : List ℕ) : Type 0 where
    pub lead : List ℕ
    pub first : ℕ
    pub rest : List ℕ
    pub begins : cycle ≡ first ∷ rest
    pub start : BeginsLeast left (lead ++ cycle)
    pub walk : IsWalk left (lead ++ cycle) first
    pub once : IsOnce (lead ++ cycle)

  -- an order of all objects; or some come in, and there is a cycle among those left
  abbrev pub IsLoading : List ℕ → Loading → Type 0
  IsLoading objects (Order order) = Loads objects order []
  IsLoading objects (Cycle cycle) =
      (done left : List ℕ) × Loads objects done left × IsStuck left × IsCycle left cycle

  -- ---- what is promised

  -- the order has each object once and is free, and no free order comes before it
  pub record IsBestOrder (objects order : List ℕ) : Type 0 where
    pub each : IsOrderOf objects order
    pub free : IsFree order
    pub best : (other : List ℕ) → IsOrderOf objects other → IsFree other
        → (other ≡ order) ⊎ IsLess order other

  -- no order of these objects is free
  abbrev pub HasNoOrder : List ℕ → Type 0
  HasNoOrder objects = (other : List ℕ) → IsOrderOf objects other → IsFree other → ⊥

  -- each object blocks the next one, and the last blocks `to`
  abbrev pub BlocksNext : List ℕ → ℕ → Type 0
  BlocksNext [] to = Unit {0}
  BlocksNext (o ∷ []) to = blocks o to
  BlocksNext (o ∷ (u ∷ path)) to = blocks o u × BlocksNext (u ∷ path) to

  -- some objects: each blocks the next one, and the last blocks the first
  abbrev pub IsRound : List ℕ → Type 0
  IsRound [] = ⊥
  IsRound (o ∷ path) = BlocksNext (o ∷ path) o

  -- an order is free and the least free one; with a cycle there is none
  abbrev pub Promises : List ℕ → Loading → Type 0
  Promises objects (Order order) = IsBestOrder objects order
  Promises objects (Cycle cycle) = IsRound cycle × HasNoOrder objects
