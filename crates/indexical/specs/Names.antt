-- The objects that a condition names.
use Rattle.std.specs.Prelude.{◌≡◌, ◌==◌, ◌||◌, ℕ, ◌<◌, ◌≤◌, Bool, true, false, List, length, slice_index_or, Option, None, Some}
use Rattle.std.specs.List.{list_any}
use Rattle.geo_conditions.specs.declared.object.ObjId.{ObjId}
use Rattle.geo_conditions.specs.declared.cond.Cond.{Cond, Lin, Shape, NotShape, AtLeast', Row_of-Cond, end_of-Cond, more_of-Cond}

abbrev mutual
  -- the object o stands in a term or a literal of the condition
  pub names : ℕ → Cond → Bool
  names o (Lin f) = list_any (λ t. t.object.0 == o) f.terms
  names o (Shape u s) = u.0 == o
  names o (NotShape u s) = u.0 == o
  names o (AtLeast' n shape cs) = any_names o cs

  pub any_names : {m : _} → ℕ → Row_of-Cond m → Bool
  any_names o end_of-Cond = false
  any_names o (more_of-Cond c cs) = names o c || any_names o cs

-- the test is met by no object from `from` on and before `end`
abbrev pub MeetNone : (ℕ → Bool) → ℕ → ℕ → Type 0
MeetNone test from end = (o : ℕ) → from ≤ o → o < end → test o ≡ false

-- the number is that of the first object that meets the test, of those from `from` on and before `end`, and `end` where none of them meets it
pub record IsNext (test : ℕ → Bool) (from end next : ℕ) : Type 0 where
  pub inside : next ≤ end
  pub meets : next < end → (from ≤ next) × (test next ≡ true)
  pub none : MeetNone test from next

-- u is the first object that meets the test, of those from `from` on; none where none meets it
abbrev pub IsFirst : (ℕ → Bool) → ℕ → Option ObjId → Type 0
IsFirst test from None = (o : ℕ) → from ≤ o → test o ≡ false
IsFirst test from (Some u) = (from ≤ u.0) × (test u.0 ≡ true) × MeetNone test from u.0

-- the same of those before `end`
abbrev pub IsFirstBefore : (ℕ → Bool) → ℕ → ℕ → Option ObjId → Type 0
IsFirstBefore test from end None = MeetNone test from end
IsFirstBefore test from end (Some u) = (u.0 < end) × (from ≤ u.0) × (test u.0 ≡ true) × MeetNone test from u.0

-- the marks of the objects that meet the test are set, and the others stay
pub record MarksThose (test : ℕ → Bool) (old new : List Bool) : Type 0 where
  pub same : length new ≡ length old
  pub each : (o : ℕ) → o < length old → slice_index_or new o false ≡ (test o || slice_index_or old o false)
