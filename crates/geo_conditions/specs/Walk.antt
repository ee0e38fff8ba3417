-- The order of the variables, prefixes of their values, and the walk.
use Rattle.std.specs.Prelude.{◌≡◌, ◌≢◌, ℕ, suc, ◌<◌, ◌≤◌, Bool, true, false, ◌==◌, ◌⊎◌, List, [], ◌∷◌, length, map, take, filter, flat_map, ℤ, pos, ◌<ℤ◌, Contains, AllPairs, Option, IfSome}
use Rattle.std.specs.List.{All}
use Rattle.geo_conditions.specs.declared.cond.Cond.{Cond}
use Rattle.geo_base.specs.Boxes.{coordinate}
use Rattle.geo_conditions.specs.Reach.{State, Reach, Tuple, spot, has, low, high, Inside}
use Rattle.geo_conditions.specs.Supported.{IsSupported}

-- a search order: the objects one after another, and for each dimension whether it runs downwards
pub record Order : Type 0 where
  pub objects : List ℕ
  pub down : List Bool

-- a variable: the place of an object, or one of its coordinates, upwards or downwards
pub data Variable : Type 0 where
  PlaceOf : (o : ℕ) → Variable
  CoordinateOf : (o d : ℕ) → (downwards : Bool) → Variable

abbrev pub object_of : Variable → ℕ
object_of (PlaceOf o) = o
object_of (CoordinateOf o d down) = o

-- the variables are of objects of S
abbrev pub AreOf : State → List Variable → Type 0
AreOf S [] = Unit {0}
AreOf S (x ∷ xs) = (object_of x < length S) × AreOf S xs

-- the value of the variable on the tuple; a place is its number
abbrev pub value_in : Tuple → Variable → ℤ
value_in t (PlaceOf o) = pos (spot t o).place
value_in t (CoordinateOf o d down) = coordinate (spot t o).origin d

-- v comes before w as a value of the variable
abbrev pub IsBefore : Variable → ℤ → ℤ → Type 0
IsBefore (PlaceOf o) v w = v <ℤ w
IsBefore (CoordinateOf o d false) v w = v <ℤ w
IsBefore (CoordinateOf o d true) v w = w <ℤ v

-- the coordinates of an object from the dimension d on
abbrev pub coordinates_from : ℕ → ℕ → List Bool → List Variable
coordinates_from o d [] = []
coordinates_from o d (b ∷ down) = CoordinateOf o d b ∷ coordinates_from o (suc d) down

-- the variables of an object
abbrev pub variables_of : List Bool → ℕ → List Variable
variables_of down o = PlaceOf o ∷ coordinates_from o 0 down

-- the variables of the objects in that order, each its place first and then its coordinates
abbrev pub variables : List ℕ → List Bool → List Variable
variables order down = flat_map (variables_of down) order

-- the values of the variables on the tuple
abbrev pub values : List Variable → Tuple → List ℤ
values xs t = map (value_in t) xs

-- the order names each object of S once, and has a direction for each of the k dimensions
pub record NamesEach (k : ℕ) (S : State) (order : Order) : Type 0 where
  pub objects : All (λ o. o < length S) order.objects
  pub each : (o : ℕ) → o < length S → Contains order.objects o
  pub once : AllPairs (λ o u. o ≢ u) order.objects
  pub dimensions : length order.down ≡ k

-- the variables of a search order
abbrev pub variables_in : Order → List Variable
variables_in order = variables order.objects order.down

-- the prefix q comes before the prefix r: lexicographically, and a prefix before its extensions
abbrev pub Precedes : List Variable → List ℤ → List ℤ → Type 0
Precedes xs q [] = ⊥
Precedes xs [] (w ∷ r) = Unit {0}
Precedes [] (v ∷ q) (w ∷ r) = ⊥
Precedes (x ∷ xs) (v ∷ q) (w ∷ r) = IsBefore x v w ⊎ ((v ≡ w) × Precedes xs q r)

-- in S the variable has that value and no other
abbrev pub IsFixed : State → Variable → ℤ → Type 0
IsFixed S (PlaceOf o) v = (s : ℕ) → has S o s ≡ true → pos s ≡ v
IsFixed S (CoordinateOf o d down) v = (low S o d ≡ v) × (high S o d ≡ v)

-- v is the first value of the variable in S
abbrev pub IsFirstValue : State → Variable → ℤ → Type 0
IsFirstValue S (PlaceOf o) v = (s : ℕ) × (pos s ≡ v) × (has S o s ≡ true) × ((u : ℕ) → has S o u ≡ true → s ≤ u)
IsFirstValue S (CoordinateOf o d false) v = low S o d ≡ v
IsFirstValue S (CoordinateOf o d true) v = high S o d ≡ v

-- in S the first variables have the values of q but for its last, which is the first value of the variable after them
abbrev pub Begins : State → List Variable → List ℤ → Type 0
Begins S xs [] = ⊥
Begins S [] (v ∷ q) = ⊥
Begins S (x ∷ xs) (v ∷ []) = IsFirstValue S x v
Begins S (x ∷ xs) (v ∷ w ∷ q) = IsFixed S x v × Begins S xs (w ∷ q)

-- the prefix q is a member of the walk. Without variables the empty tuple is the only one
abbrev pub IsMember : List Cond → State → List Variable → List ℤ → Type 0
IsMember cs S [] [] = IsSupported cs S
IsMember cs S [] (v ∷ q) = ⊥
IsMember cs S (x ∷ xs) q = (T : State) × IsSupported cs T × Inside T S × Begins T (x ∷ xs) q

-- q comes after the tuple's prefix of its length, or is that prefix and shorter than the tuple
abbrev pub IsAfter : List Variable → List ℤ → List ℤ → Type 0
IsAfter xs t q = Precedes xs (take (length q) t) q ⊎ ((q ≡ take (length q) t) × (length q < length t))

-- a walk: its conditions, the state that it begins in, its variables in order, and the values of the tuple that it comes after, if one is given
pub record Tree : Type 0 where
  pub conditions : List Cond
  pub first : List Reach
  pub variables : List Variable
  pub after : Option (List ℤ)

-- q is a member of the walk
abbrev pub IsIn : Tree → List ℤ → Type 0
IsIn W q = IsMember W.conditions W.first W.variables q × IfSome W.after (λ t. IsAfter W.variables t q)

-- w is the beginning of the walk: members in order, and each other member comes after them
pub record IsFront (W : Tree) (w : List (List ℤ)) : Type 0 where
  pub members : All (IsIn W) w
  pub in_order : AllPairs (Precedes W.variables) w
  pub first : (q : List ℤ) → IsIn W q → Contains w q ⊎ All (λ r. Precedes W.variables r q) w

-- each member of the walk is in w
abbrev pub IsWhole : Tree → List (List ℤ) → Type 0
IsWhole W w = (q : List ℤ) → IsIn W q → Contains w q

-- w is the walk: all its members, in order
pub record IsWalk (W : Tree) (w : List (List ℤ)) : Type 0 where
  pub members : All (IsIn W) w
  pub in_order : AllPairs (Precedes W.variables) w
  pub whole : IsWhole W w

-- the walk has a member beyond w
abbrev pub GoesOn : Tree → List (List ℤ) → Type 0
GoesOn W w = (q : List ℤ) × IsIn W q × All (λ r. Precedes W.variables r q) w

-- the prefix has a value for each variable
abbrev pub is_full : Tree → List ℤ → Bool
is_full W q = length q == length W.variables

-- how a listing ends
pub data EndWord : Type 0 where
  More : EndWord
  End : EndWord
  OutOfBudget : EndWord

-- the listing ends with that word, where w was walked of at most n members and found are its full members, of which most are wanted
abbrev pub EndsWith : Tree → ℕ → ℕ → List (List ℤ) → List (List ℤ) → EndWord → Type 0
EndsWith W most n w found More = length found ≡ most
EndsWith W most n w found End = (length found < most) × IsWhole W w
EndsWith W most n w found OutOfBudget = (length found < most) × (length w ≡ n) × GoesOn W w

-- the listing: the full members among the first n of the walk, the first of them as many as are wanted
pub record IsListing (W : Tree) (most n : ℕ) (found : List (List ℤ)) (word : EndWord) : Type 0 where
  pub walked : List (List ℤ)
  pub front : IsFront W walked
  pub few : length walked ≤ n
  pub full : found ≡ filter (is_full W) walked
  pub ends : EndsWith W most n walked found word

-- the end word of a listing of the walk w: there are as many full members as are wanted, or the walk has more than n members, or neither
abbrev pub IsEndWord : Tree → ℕ → ℕ → List (List ℤ) → List (List ℤ) → EndWord → Type 0
IsEndWord W most n w found More = length found ≡ most
IsEndWord W most n w found OutOfBudget = (length found < most) × (n < length w)
IsEndWord W most n w found End = (length found < most) × (length w ≤ n)

-- the same listing by the whole walk w: of the full members among its first n, the first of them as many as are wanted
pub record Lists (W : Tree) (w : List (List ℤ)) (most n : ℕ) (found : List (List ℤ)) (word : EndWord) : Type 0 where
  pub full : found ≡ take most (filter (is_full W) (take n w))
  pub ends : IsEndWord W most n w found word
