-- Supports of an object that are kept: points of it at which no condition was refuted.
use Rattle.std.specs.Prelude.{◌≡◌, ℕ, if◌then◌else◌, List, Option, None, Some, IfSome}
use Rattle.std.specs.List.{All}
use Rattle.geo_conditions.specs.declared.cond.Cond.{Cond}
use Rattle.geo_conditions.specs.Conditions.{possible}
use Rattle.geo_conditions.specs.Reach.{State, just, with_at}
use Rattle.geo_conditions.specs.Supported.{NoneRefuted}
use Rattle.object_pruning.specs.declared.kept.Placed.{Placed}
use Rattle.object_pruning.specs.declared.kept.Asked.{Asked}

-- S with the object o there
abbrev pub placed : {K : ℕ} → State → ℕ → Placed K → State
placed S o q = with_at S o q.place (just q.point.coordinates)

-- the kept support, if the condition is possible with the object there
abbrev pub retried : {K : ℕ} → Cond → State → ℕ → Option (Placed K) → Option (Placed K)
retried c S o None = None
retried c S o (Some q) = if possible c (placed S o q) then Some q else None

-- the answer that is kept of a point is whether the condition is possible with the object there
abbrev pub IsAnswered : {K : ℕ} → Cond → State → ℕ → Option (Asked K) → Type 0
IsAnswered c S o last = IfSome last (λ a. a.possible ≡ possible c (placed S o a.q))

-- with the object at each kept support no condition of cs is refuted
abbrev pub AllSupport : {K : ℕ} → List Cond → State → ℕ → List (Option (Placed K)) → Type 0
AllSupport cs S o kept = All (λ x. IfSome x (λ q. NoneRefuted cs (placed S o q))) kept
