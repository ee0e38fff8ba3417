-- The laws of conditions, supported states and the walk, as statements.
use Rattle.std.specs.Prelude.{◌≡◌, ℕ, ◌<◌, ◌≤◌, ◌↔◌, false, List, length, take, ℤ, Option}
use Rattle.geo_conditions.specs.declared.cond.Cond.{Cond}
use Rattle.geo_conditions.specs.Conditions.{holds, FitsIn, IsRefuted, AllFit, AllHold}
use Rattle.geo_conditions.specs.Reach.{State, Tuple, Inside, HasNoEmpty, TupleIn, IsState, join}
use Rattle.geo_conditions.specs.Supported.{IsSupported, IsGreatest}
use Rattle.geo_conditions.specs.Walk.{Order, NamesEach, Tree, EndWord, values, variables_in, IsMember, IsFront, IsWalk, IsListing, Lists}

-- what is refuted on a state is refuted on each state inside it without an empty set
abbrev pub RefutationIsMonotone : Type 0
RefutationIsMonotone = (c : Cond) (S T : State) → Inside T S → HasNoEmpty T → IsRefuted c S → IsRefuted c T

-- what is refuted on a state is false on each tuple inside it
abbrev pub RefutedIsFalse : Type 0
RefutedIsFalse = (c : Cond) (S : State) (t : Tuple) → FitsIn c S → TupleIn t S → IsRefuted c S → holds c t ≡ false

-- two supported states with the same objects lie inside their join, and it is supported
abbrev pub SupportedStatesJoin : Type 0
SupportedStatesJoin = (k : ℕ) (cs : List Cond) (S T : State) → IsState k S → IsState k T → length S ≡ length T → IsSupported cs S → IsSupported cs T
    → Inside S (join S T) × Inside T (join S T) × IsSupported cs (join S T)

-- where a supported state lies inside S, there is a greatest one inside S
abbrev pub GreatestExists : Type 0
GreatestExists = (k : ℕ) (cs : List Cond) (S T : State) → IsState k S → IsSupported cs T → Inside T S → (G : State) × IsGreatest cs S G

-- a tuple inside S on which every condition is true lies inside the greatest supported state inside S
abbrev pub LayoutsStay : Type 0
LayoutsStay = (cs : List Cond) (S G : State) (t : Tuple) → AllFit cs S → TupleIn t S → AllHold cs t → IsGreatest cs S G → TupleIn t G

-- q has the values of a tuple inside S on which every condition is true
abbrev pub IsOfLayout : List Cond → State → Order → List ℤ → Type 0
IsOfLayout cs S order q = (t : Tuple) × TupleIn t S × AllHold cs t × (values (variables_in order) t ≡ q)

-- the full members of the walk have the values of the tuples on which every condition is true, and of no other
abbrev pub FullMembersAreLayouts : Type 0
FullMembersAreLayouts = (k : ℕ) (cs : List Cond) (S : State) (order : Order) (q : List ℤ) → 0 < k → IsState k S → AllFit cs S → NamesEach k S order
    → (IsMember cs S (variables_in order) q × (length q ≡ length (variables_in order))) ↔ IsOfLayout cs S order q

-- two tuples inside S with the same values of all variables are the same
abbrev pub ValuesTellTuples : Type 0
ValuesTellTuples = (k : ℕ) (S : State) (order : Order) (t u : Tuple) → IsState k S → NamesEach k S order → TupleIn t S → TupleIn u S → values (variables_in order) t ≡ values (variables_in order) u → t ≡ u

-- each prefix of a member, of one value or more, is a member
abbrev pub PrefixesAreMembers : Type 0
PrefixesAreMembers = (k : ℕ) (cs : List Cond) (S : State) (order : Order) (q : List ℤ) (m : ℕ) → NamesEach k S order → IsMember cs S (variables_in order) q → 0 < m → m ≤ length q → IsMember cs S (variables_in order) (take m q)

-- the walk is a list, also after a token
abbrev pub WalksAreLists : Type 0
WalksAreLists = (k : ℕ) (cs : List Cond) (S : State) (order : Order) (after : Option (List ℤ)) → IsState k S → NamesEach k S order
    → (w : List (List ℤ)) × IsWalk (record { conditions = cs; first = S; variables = variables_in order; after = after }) w

-- the fronts of a walk are its beginnings
abbrev pub FrontsBeginTheWalk : Type 0
FrontsBeginTheWalk = (W : Tree) (w u : List (List ℤ)) → IsWalk W w → IsFront W u ↔ (u ≡ take (length u) w)

-- a listing by fronts is the listing by the whole walk
abbrev pub ListingsFollowTheWalk : Type 0
ListingsFollowTheWalk = (W : Tree) (w : List (List ℤ)) (most n : ℕ) (found : List (List ℤ)) (word : EndWord) → IsWalk W w → IsListing W most n found word → Lists W w most n found word
