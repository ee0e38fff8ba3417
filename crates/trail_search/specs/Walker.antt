-- What the walker of a search is seen as, and what it keeps.
use Rattle.std.specs.Prelude.{◌≡◌, ℕ, suc, ◌<◌, ◌≤◌, ◌⊎◌, Bool, true, false, List, [], ◌∷◌, ◌++◌, length, take, get_or, ℤ, pos, Option, Some, None, Vec, Result, Ok, Err}
use Rattle.std.proofs.Common.{Global}
use Rattle.std.specs.List.{All}
use Rattle.geo_conditions.specs.declared.cond.Cond.{Cond}
use Rattle.geo_conditions.specs.Reach.{State, Reach, Inside, HasNoEmpty}
use Rattle.geo_conditions.specs.Supported.{IsSupported}
use Rattle.geo_conditions.specs.Walk.{Variable, AreOf, Tree, IsFront, IsWhole, GoesOn, is_full}
use Rattle.geo_state.specs.Trail.{Trail, IsSmallEnd}
use Rattle.geo_state.specs.declared.propagate.Settled.{Settled}
use Rattle.geo_state.specs.declared.propagate.Settled.TheVariants.{Kept, Dead}
use Rattle.trail_search.specs.declared.step.Step.{Step}
use Rattle.trail_search.specs.declared.step.Step.TheVariants.{Found, Ended, Budget, Memory}
use Rattle.trail_search.specs.Cursor.{Stands, AreLevels, IsLeft, IsBest, NoneMeets, Narrows, IsFrom, HasDimension, HasNoneFrom, AreValues, after, bound_at}

-- the variables, the token, the trail, the values of the open levels and of earlier ones, whether they are the token's, and how many members were walked
pub record Position : Type 0 where
  pub first : List Reach
  pub variables : List Variable
  pub token : Option (List ℤ)
  pub trail : Trail
  pub values : List ℤ
  pub along : Bool
  pub walked : ℕ

-- the walk of the walker under those conditions
abbrev pub tree_of : List Cond → Position → Tree
tree_of cs p = record { conditions = cs; first = p.first; variables = p.variables; after = p.token }

-- how many levels are open
abbrev pub depth : Position → ℕ
depth p = length p.trail.restores

-- the values that the open levels have fixed
abbrev pub path : Position → List ℤ
path p = take (depth p) p.values

-- a token has a small value for each variable
abbrev pub IsToken : List Variable → Option (List ℤ) → Type 0
IsToken xs None = Unit {0}
IsToken xs (Some t) = (length t ≡ length xs) × All IsSmallEnd t

-- what is true of a walker, whatever its conditions
pub record IsWell (k : ℕ) (p : Position) : Type 0 where
  pub objects : AreOf p.first p.variables
  pub dimensions : All (HasDimension k) p.variables
  pub token : IsToken p.variables p.token
  pub room : length p.variables ≤ p.trail.levels
  pub values : length p.values ≡ length p.variables
  pub depth : depth p ≤ length p.variables
  pub inside : Inside p.trail.state p.first
  pub saved : All (λ S. Inside S p.first) p.trail.restores
  pub numbers : AreValues p.variables p.values

-- the same walk
pub record SameWalk (p q : Position) : Type 0 where
  pub first : q.first ≡ p.first
  pub variables : q.variables ≡ p.variables
  pub token : q.token ≡ p.token

-- w are walked, and what the trail's state holds is what is left under the path and a bound
abbrev pub Searches : List Cond → Position → List (List ℤ) → Type 0
Searches cs p w = (b : Option ℤ) × Stands (tree_of cs p) p.along (path p) b w × AreLevels (tree_of cs p) (path p) p.trail.restores × IsLeft (tree_of cs p) (path p) b p.trail.state × (length w ≡ p.walked)

-- the same, with a settled state
abbrev pub Rests : List Cond → Position → List (List ℤ) → Type 0
Rests cs p w = (b : Option ℤ) × Stands (tree_of cs p) p.along (path p) b w × AreLevels (tree_of cs p) (path p) p.trail.restores × IsBest (tree_of cs p) (path p) b p.trail.state × (length w ≡ p.walked)

-- nothing is left under the path: it is full, or no supported state meets it
abbrev pub IsDone : Tree → List ℤ → Option ℤ → Type 0
IsDone W q b = (length q ≡ length W.variables) ⊎ NoneMeets W q b

-- w are walked, and nothing is left under the path
abbrev pub IsStuck : List Cond → Position → List (List ℤ) → Type 0
IsStuck cs p w = (b : Option ℤ) × Stands (tree_of cs p) p.along (path p) b w × AreLevels (tree_of cs p) (path p) p.trail.restores × IsDone (tree_of cs p) (path p) b × (length w ≡ p.walked)

-- the values of the token, if there is one
abbrev pub token_of : Option (Vec ℤ Global) → Option (List ℤ)
token_of None = None
token_of (Some v) = Some v.items

-- the last level is closed: x was its variable, and c is the number next to its value
pub record Closes (p q : Position) (G : State) (x : Variable) (c : ℤ) : Type 0 where
  pub restored : p.trail.restores ≡ q.trail.restores ++ G ∷ []
  pub variable : get_or p.variables (depth q) x ≡ x
  pub next : c ≡ after x (get_or p.values (depth q) (pos 0))
  pub levels : q.trail.levels ≡ p.trail.levels

-- the last level is closed: its state is restored, and then has no value of its variable up to the level's; or it has no other value at all
abbrev pub Leaves : Bool → Position → Position → Type 0
Leaves true p q = (G : State) × (x : Variable) × (c : ℤ) × Closes p q G x c × Narrows G q.trail.state (λ T. IsFrom T x c)
Leaves false p q = (x : Variable) × (c : ℤ) × Closes p q q.trail.state x c × HasNoneFrom q.trail.state x c

-- whether the walk keeps to the token with the value u of its next variable, and the token's next bound
abbrev pub StaysOn : Position → ℤ → Option ℤ → Type 0
StaysOn p u (Some v) = (t : List ℤ) × (p.along ≡ true) × (p.token ≡ Some t) × (get_or t (depth p) (pos 0) ≡ u) × (suc (depth p) < length p.variables) × (v ≡ bound_at p.variables t (suc (depth p)))
StaysOn p u None = (p.along ≡ true) → (t : List ℤ) → p.token ≡ Some t → get_or t (depth p) (pos 0) ≡ u → suc (depth p) ≡ length p.variables

-- the next variable has no value before v any more
abbrev pub Tightens : Position → ℤ → Position → Type 0
Tightens p v q = (x : Variable) × (get_or p.variables (depth p) x ≡ x) × Narrows p.trail.state q.trail.state (λ T. IsFrom T x v)

-- where a search that is not over stands: right after a full member, or before the next settle. Without variables the empty tuple is the only
-- one, and the state is the first one all the time
abbrev pub ReadyFor : List Variable → List Cond → Position → Bool → Type 0
ReadyFor [] cs p false = (p.walked ≡ 0) × (p.trail.state ≡ p.first)
ReadyFor [] cs p true = (p.walked ≡ 1) × IsSupported cs p.first × (p.token ≡ None)
ReadyFor (x ∷ xs) cs p false = (depth p < length p.variables) × (w : List (List ℤ)) × Searches cs p w
ReadyFor (x ∷ xs) cs p true = (depth p ≡ length p.variables) × (w : List (List ℤ)) × Searches cs p w

-- where a search that is not over stands, by its own variables
abbrev pub IsReady : List Cond → Position → Bool → Type 0
IsReady cs p found = ReadyFor p.variables cs p found

-- the depth then
abbrev pub StandsFor : List Variable → Position → Bool → Type 0
StandsFor [] p found = Unit {0}
StandsFor (x ∷ xs) p false = depth p < length p.variables
StandsFor (x ∷ xs) p true = depth p ≡ length p.variables

-- the depth then, by its own variables
abbrev pub StandsAt : Position → Bool → Type 0
StandsAt p found = StandsFor p.variables p found

-- from a position at which w were walked: what an answer shows, and what it leaves
abbrev pub Walks : List Cond → ℕ → Position → List (List ℤ) → Step → Position → Type 0
Walks cs n p w Found q =
    (v : List (List ℤ)) × IsFront (tree_of cs p) (w ++ v ++ path q ∷ []) × (length (w ++ v ++ path q ∷ []) ≡ q.walked) × (depth q ≡ length q.variables) × All (λ r. is_full (tree_of cs p) r ≡ false) v × (q.walked ≤ n) × IsReady cs q true
Walks cs n p w Ended q =
    (v : List (List ℤ)) × IsFront (tree_of cs p) (w ++ v) × IsWhole (tree_of cs p) (w ++ v) × (length (w ++ v) ≡ q.walked) × All (λ r. is_full (tree_of cs p) r ≡ false) v × (q.walked ≤ n)
Walks cs n p w Budget q =
    (v : List (List ℤ)) × IsFront (tree_of cs p) (w ++ v) × GoesOn (tree_of cs p) (w ++ v) × (length (w ++ v) ≡ q.walked) × All (λ r. is_full (tree_of cs p) r ≡ false) v × (q.walked ≡ n)
Walks cs n p w Memory q = Unit {0}

-- the same from a position that is ready
abbrev pub GoesOnAs : List Cond → ℕ → Position → Step → Position → Type 0
GoesOnAs cs n p s q = (w : List (List ℤ)) × (length w ≡ p.walked) × Walks cs n p w s q

-- whether it is an answer, and not want of memory
abbrev pub is_answer : Step → Bool
is_answer Found = true
is_answer Ended = true
is_answer Budget = true
is_answer Memory = false

-- what a walk keeps
pub record Walking (k : ℕ) (cs : List Cond) (n : ℕ) (p q : Position) : Type 0 where
  pub well : IsWell k q
  pub same : SameWalk p q
  pub count : q.walked ≤ n
  pub below : depth q < length q.variables
  pub walks : (w : List (List ℤ)) → Searches cs p w → (v : List (List ℤ)) × Searches cs q (w ++ v) × All (λ r. is_full (tree_of cs p) r ≡ false) v

-- what a settle that keeps the walker's state gives
abbrev pub KeptAs : List Cond → Position → Position → Type 0
KeptAs cs p q = HasNoEmpty q.trail.state × ((w : List (List ℤ)) → Searches cs p w → Rests cs q w)

-- and one that finds no supported state
abbrev pub DeadAs : List Cond → Position → Position → Type 0
DeadAs cs p q = (w : List (List ℤ)) → Searches cs p w → IsStuck cs q w

-- what each answer of a settle gives
abbrev pub SettledAs : {E : Type 0} → List Cond → Position → Result Settled E → Position → Type 0
SettledAs cs p (Ok Kept) q = KeptAs cs p q
SettledAs cs p (Ok Dead) q = DeadAs cs p q
SettledAs cs p (Err e) q = Unit {0}

-- the token's bound at the first variable, if there is a token
abbrev pub FirstBound : Position → Option ℤ → Type 0
FirstBound p (Some v) = (t : List ℤ) × (p.token ≡ Some t) × (v ≡ bound_at p.variables t 0)
FirstBound p None = p.token ≡ None

-- a walker that has not set off
pub record IsFresh (p : Position) : Type 0 where
  pub state : p.trail.state ≡ p.first
  pub restores : p.trail.restores ≡ []
  pub along : p.along ≡ false
  pub walked : p.walked ≡ 0
