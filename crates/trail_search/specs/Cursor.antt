-- Where a search stands: the values that it has fixed, what is left to visit, and what its levels restore.
use Rattle.std.specs.Prelude.{◌≡◌, ℕ, zero, suc, ◌<◌, ◌⊎◌, Bool, true, false, List, [], ◌∷◌, length, ℤ, pos, negsuc, ◌+ℤ◌, ◌≤ℤ◌, ◌<ℤ◌, Option, Some, None, slice_index_or, take}
use Rattle.std.specs.List.{All}
use Rattle.geo_state.specs.Trail.{IsSmallEnd}
use Rattle.geo_conditions.specs.Reach.{State, has, low, high, Inside, HasNoEmpty}
use Rattle.geo_conditions.specs.Supported.{IsSupported}
use Rattle.geo_conditions.specs.Walk.{Variable, PlaceOf, CoordinateOf, IsBefore, Precedes, IsFixed, IsFirstValue, Tree, IsIn, IsFront}

-- the number next to v in the order of the variable
abbrev pub after : Variable → ℤ → ℤ
after (PlaceOf o) v = v +ℤ pos 1
after (CoordinateOf o d false) v = v +ℤ pos 1
after (CoordinateOf o d true) v = v +ℤ negsuc 0

-- in S the variable has no value before v
abbrev pub IsFrom : State → Variable → ℤ → Type 0
IsFrom S (PlaceOf o) v = (s : ℕ) → has S o s ≡ true → v ≤ℤ pos s
IsFrom S (CoordinateOf o d false) v = v ≤ℤ low S o d
IsFrom S (CoordinateOf o d true) v = high S o d ≤ℤ v

-- the dimension is one of k
abbrev pub HasDimension : ℕ → Variable → Type 0
HasDimension k (PlaceOf o) = Unit {0}
HasDimension k (CoordinateOf o d down) = d < k

-- the variable has a value after v in S
abbrev pub HasAfter : State → Variable → ℤ → Type 0
HasAfter S (PlaceOf o) v = (s : ℕ) × (has S o s ≡ true) × (v <ℤ pos s)
HasAfter S (CoordinateOf o d false) v = v <ℤ high S o d
HasAfter S (CoordinateOf o d true) v = low S o d <ℤ v

-- no state without an empty set inside S has all values of the variable from v on
abbrev pub HasNoneFrom : State → Variable → ℤ → Type 0
HasNoneFrom S x v = (T : State) → HasNoEmpty T → Inside T S → IsFrom T x v → ⊥

-- a place from 0 to 16, or a coordinate from -2,000,000 to 2,000,000
abbrev pub IsValueOf : Variable → ℤ → Type 0
IsValueOf (PlaceOf o) v = (pos 0 ≤ℤ v) × (v ≤ℤ pos 16)
IsValueOf (CoordinateOf o d down) v = IsSmallEnd v

-- each variable has such a value
abbrev pub AreValues : List Variable → List ℤ → Type 0
AreValues xs vs = (i : ℕ) (x : Variable) → i < length xs → IsValueOf (slice_index_or xs i x) (slice_index_or vs i (pos 0))

-- the fact of the variable after the values of q
abbrev pub AtNext : List Variable → List ℤ → (Variable → Type 0) → Type 0
AtNext [] q P = ⊥
AtNext (x ∷ xs) [] P = P x
AtNext (x ∷ xs) (v ∷ q) P = AtNext xs q P

-- in T the first variables have the values of q, and the next one has none before the bound
abbrev pub Meets : List Variable → List ℤ → Option ℤ → State → Type 0
Meets [] [] b T = Unit {0}
Meets [] (v ∷ q) b T = ⊥
Meets (x ∷ xs) [] None T = Unit {0}
Meets (x ∷ xs) [] (Some v) T = IsFrom T x v
Meets (x ∷ xs) (v ∷ q) b T = IsFixed T x v × Meets xs q b T

-- the prefix r is left to visit: it extends q by a value from the bound on, or branches off from q by a later value
abbrev pub Rest : List Variable → List ℤ → Option ℤ → List ℤ → Type 0
Rest [] q b r = ⊥
Rest (x ∷ xs) q b [] = ⊥
Rest (x ∷ xs) [] None (w ∷ r) = Unit {0}
Rest (x ∷ xs) [] (Some v) (w ∷ r) = IsBefore x w v → ⊥
Rest (x ∷ xs) (v ∷ q) b (w ∷ r) = IsBefore x v w ⊎ ((v ≡ w) × Rest xs q b r)

-- G is the greatest of the supported states that meet the demand
pub record IsBest (W : Tree) (q : List ℤ) (b : Option ℤ) (G : State) : Type 0 where
  pub supported : IsSupported W.conditions G
  pub inside : Inside G W.first
  pub meets : Meets W.variables q b G
  pub greatest : (T : State) → IsSupported W.conditions T → Inside T W.first → Meets W.variables q b T → Inside T G

-- N holds the supported states that meet the demand, and no other
pub record IsLeft (W : Tree) (q : List ℤ) (b : Option ℤ) (N : State) : Type 0 where
  pub inside : Inside N W.first
  pub meet : (T : State) → HasNoEmpty T → Inside T N → Meets W.variables q b T
  pub all : (T : State) → IsSupported W.conditions T → Inside T W.first → Meets W.variables q b T → Inside T N

-- no supported state meets the demand
abbrev pub NoneMeets : Tree → List ℤ → Option ℤ → Type 0
NoneMeets W q b = (T : State) → IsSupported W.conditions T → Inside T W.first → Meets W.variables q b T → ⊥

-- N is what is left of G under a further demand Q
pub record Narrows (G N : State) (Q : State → Type 0) : Type 0 where
  pub inside : Inside N G
  pub meet : (T : State) → HasNoEmpty T → Inside T N → Q T
  pub all : (T : State) → HasNoEmpty T → Inside T G → Q T → Inside T N

-- a level that restores G was opened after the values of q, to fix the next variable to v
abbrev pub IsLevel : Tree → List ℤ → ℤ → State → Type 0
IsLevel W q v G = (b : Option ℤ) × IsBest W q b G × AtNext W.variables q (λ x. IsFirstValue G x v)

-- what the open levels restore, the outermost first
pub record AreLevels (W : Tree) (q : List ℤ) (saved : List State) : Type 0 where
  pub number : length saved ≡ length q
  pub each : (i : ℕ) → i < length q → IsLevel W (take i q) (slice_index_or q i (pos 0)) (slice_index_or saved i [])

-- the bound that a token sets at a variable: its own value, and past it at the last variable
abbrev pub token_bound : Variable → List Variable → ℤ → ℤ
token_bound x [] t = after x t
token_bound x (y ∷ ys) t = t

-- the values are the first ones of the token, and the bound is the token's
abbrev pub OnWay : List Variable → List ℤ → List ℤ → Option ℤ → Type 0
OnWay [] t q b = ⊥
OnWay (x ∷ xs) [] q b = ⊥
OnWay (x ∷ xs) (t ∷ ts) [] b = b ≡ Some (token_bound x xs t)
OnWay (x ∷ xs) (t ∷ ts) (v ∷ q) b = (t ≡ v) × OnWay xs ts q b

-- r branches off from the token by a later value
abbrev pub Later : List Variable → List ℤ → List ℤ → Type 0
Later [] t r = ⊥
Later (x ∷ xs) [] r = ⊥
Later (x ∷ xs) (t ∷ ts) [] = ⊥
Later (x ∷ xs) (t ∷ ts) (w ∷ r) = IsBefore x t w ⊎ ((t ≡ w) × Later xs ts r)

-- along the token the next bound is its own; else all that is left comes after it
abbrev pub FollowsToken : Tree → Option (List ℤ) → Bool → List ℤ → Option ℤ → Type 0
FollowsToken W None along q b = along ≡ false
FollowsToken W (Some t) true q b = (length t ≡ length W.variables) × OnWay W.variables t q b
FollowsToken W (Some t) false q b = (length t ≡ length W.variables) × ((r : List ℤ) → Rest W.variables q b r → Later W.variables t r)

-- w are the members walked, and what is left of the walk is what is left to visit
pub record Stands (W : Tree) (along : Bool) (q : List ℤ) (b : Option ℤ) (w : List (List ℤ)) : Type 0 where
  pub front : IsFront W w
  pub beyond : (r : List ℤ) → Rest W.variables q b r → All (λ u. Precedes W.variables u r) w
  pub rest : (r : List ℤ) → IsIn W r → All (λ u. Precedes W.variables u r) w → Rest W.variables q b r
  pub token : FollowsToken W W.after along q b

-- the bound that a token sets at the variable of that number
abbrev pub bound_at : List Variable → List ℤ → ℕ → ℤ
bound_at [] t m = pos 0
bound_at (x ∷ xs) [] m = pos 0
bound_at (x ∷ xs) (t ∷ ts) zero = token_bound x xs t
bound_at (x ∷ xs) (t ∷ ts) (suc m) = bound_at xs ts m
