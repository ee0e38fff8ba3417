-- Picks that are gathered for an object at a place: those whose conditions may be refuted there, in a region.
use Rattle.std.specs.Prelude.{◌≡◌, ◌⊎◌, ℕ, true, ◌-◌, ◌<◌, ◌≤◌, List, length, slice_get, slice_index, Option, Some, Contains, IfSome, MatchOption}
use Rattle.geo_base.specs.declared.kbox.KBox.{KBox}
use Rattle.geo_conditions.specs.declared.cond.Cond.{Cond}
use Rattle.geo_conditions.specs.Conditions.{possible}
use Rattle.geo_conditions.specs.declared.object.ObjId.{ObjId}
use Rattle.geo_conditions.specs.Reach.{State, Region, reach, is_only}
use Rattle.geo_conditions.specs.Regions.{region_of}
use Rattle.indexical.specs.declared.forbidden.ForbiddenPart.TheVariants.{Nothing}
use Rattle.indexical.specs.Forbidden.{Forbids, IsForbiddenPart}

-- what the number i names forbids nothing of the region, where the object o is put at the place s
abbrev pub IsNumberSpared : ℕ → List Cond → State → ℕ → ℕ → Region → ℕ → Type 0
IsNumberSpared K cs S o s b i = (x : Cond) → slice_get cs (i - 1) ≡ Some x → Forbids K x S o s b Nothing

-- The first n numbers of the list are picks, and they have each pick that is not spared.
pub record AreGathered (K : ℕ) (cs : List Cond) (S : State) (o s : ℕ) (b : Region) (picks : List ℕ) (n : ℕ) (live : List ℕ) : Type 0 where
  pub listed : (j : ℕ) → j < n → Contains picks (slice_index live j)
  pub others : (k : ℕ) → k < length picks → IsNumberSpared K cs S o s b (slice_index picks k) ⊎ ((j : ℕ) × (j < n) × (slice_index live j ≡ slice_index picks k))

-- each box stands at the place of a number that has it
abbrev pub HoldEach : {K : ℕ} → (ℕ → KBox K → Type 0) → List ℕ → List (Option (KBox K)) → Type 0
HoldEach P live parts = (j : ℕ) (part : _) → slice_get parts j ≡ Some (Some part) → P (slice_index live j) part

-- the box is what the condition that the number names forbids of the region
abbrev pub IsNumberPart : (K : ℕ) → List Cond → State → ℕ → ℕ → Region → ℕ → KBox K → Type 0
IsNumberPart K cs S o s b i part = (x : Cond) → slice_get cs (i - 1) ≡ Some x → IsForbiddenPart K x S o s b (region_of part)

-- so it is where a box stands at the place of a number
abbrev pub HoldParts : (K : ℕ) → List Cond → State → ℕ → ℕ → Region → List ℕ → List (Option (KBox K)) → Type 0
HoldParts K cs S o s b live parts = HoldEach (IsNumberPart K cs S o s b) live parts

-- The n numbers of the list go on to m ones, by some of those. Each of those is spared or is one of them.
pub record GoesOn (K : ℕ) (cs : List Cond) (S : State) (o s : ℕ) (b : Region) (Those : ℕ → Type 0) (n : ℕ) (live : List ℕ) (m : ℕ) (new : List ℕ) : Type 0 where
  pub room : m ≤ length new
  pub more : n ≤ m
  pub kept : (j : ℕ) → j < n → slice_index new j ≡ slice_index live j
  pub further : (j : ℕ) → n ≤ j → j < m → Those (slice_index new j)
  pub each : (i : ℕ) → Those i → IsNumberSpared K cs S o s b i ⊎ ((j : ℕ) × (j < m) × (slice_index new j ≡ i))

-- what the number i names is possible on T
abbrev pub IsNumberPossible : List Cond → State → ℕ → Type 0
IsNumberPossible cs T i = (x : Cond) → slice_get cs (i - 1) ≡ Some x → possible x T ≡ true

-- so is what each of those numbers names
abbrev pub AllPossible : List Cond → State → (ℕ → Type 0) → Type 0
AllPossible cs T Those = (i : ℕ) → Those i → IsNumberPossible cs T i

-- the place is the one that the other object has alone, or 0; it is told where there is another object
abbrev pub IsSolePlace : State → Option ObjId → Option ℕ → Type 0
IsSolePlace S other sole = IfSome sole (λ p. MatchOption other ⊥ (λ u. (q : ℕ) → is_only (reach S u.0).places q ≡ true → q ≡ p))
