-- A list of conditions in which some are taken apart.
use Rattle.std.specs.Prelude.{◌≡◌, ◌-◌, ◌<◌, ◌≤◌, ℕ, true, List, [], ◌∷◌, length, slice_get, slice_index, Option, Some, None}
use Rattle.geo_conditions.specs.declared.cond.Cond.{Cond}
use Rattle.geo_conditions.specs.Reach.{State}
use Rattle.geo_conditions.specs.Conditions.{AllFit}
use Rattle.geo_conditions.specs.Supported.{NoneRefuted}
use Rattle.derivation.specs.declared.renumbering.Renumbering.{Renumbering}
use Rattle.derivation.specs.Covers.{refutes}
use Rattle.derivation.specs.Renumbered.{StandsFor}
use Rattle.geo_state.specs.Settle.{IsBare}

-- the whole condition, where one was taken apart
abbrev pub whole_or : Option Cond → Cond → Cond
whole_or None x = x
whole_or (Some c) x = c

-- the conditions, each of which stands in its place or was taken apart there
abbrev pub wholes_of : List (Option Cond) → List Cond → List Cond
wholes_of [] ps = []
wholes_of (w ∷ ws) [] = []
wholes_of (w ∷ ws) (p ∷ ps) = whole_or w p ∷ wholes_of ws ps

-- The fronts have for each of the conditions it or one of its parts, and the rest has the other parts, each beside its condition's number.
pub record IsApart (cs fronts rest : List Cond) (wholes : List (Option Cond)) (numbers : List ℕ) : Type 0 where
  pub long : length fronts ≡ length cs
  pub wide : length wholes ≡ length cs
  pub back : wholes_of wholes fronts ≡ cs
  pub many : length numbers ≡ length rest
  pub listed : (k : ℕ) → k < length numbers → slice_index numbers k ≤ length cs
  -- where a part is refuted, so is its condition
  pub front : (k : ℕ) (S : State) → refutes fronts k S ≡ true → refutes cs k S ≡ true
  pub behind : (k : ℕ) (S : State) → refutes rest k S ≡ true → refutes cs (slice_index numbers (k - 1)) S ≡ true
  -- and where no part is, none of the conditions is
  pub enough : (S : State) → NoneRefuted fronts S → NoneRefuted rest S → NoneRefuted cs S
  pub fit : (S : State) → AllFit cs S → AllFit fronts S × AllFit rest S
  -- what names no object is not taken apart
  pub bare : (k : ℕ) (c : Cond) → slice_get cs k ≡ Some c → IsBare c → slice_get fronts k ≡ Some c

-- the parts say together what the conditions say, and each number stands for the condition whose part it names
pub record IsTakenApart (cs parts : List Cond) (r : Renumbering) : Type 0 where
  pub same : r.same ≡ length cs
  pub stands : StandsFor r parts cs
  pub enough : (S : State) → NoneRefuted parts S → NoneRefuted cs S
  pub fit : (S : State) → AllFit cs S → AllFit parts S
  pub bare : (k : ℕ) (c : Cond) → slice_get cs k ≡ Some c → IsBare c → slice_get parts k ≡ Some c
