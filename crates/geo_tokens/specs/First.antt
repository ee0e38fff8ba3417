-- The first of several things, where a test says of two of them whether the one comes after the other.
use Rattle.std.specs.Prelude.{◌≡◌, Bool, true, false, Option, Some, None, if◌then◌else◌}

-- it is one of these things, and comes after none of them
pub record IsFirstBy {A : Type 0} (is_after : A → A → Bool) (P : A → Type 0) (f : A) : Type 0 where
  pub there : P f
  pub first : (g : A) → P g → is_after f g ≡ false

-- the first of these things, or None where there is none
abbrev pub IsLeastBy : {A : Type 0} → (A → A → Bool) → (A → Type 0) → Option A → Type 0
IsLeastBy is_after P None = (f : _) → P f → ⊥
IsLeastBy is_after P (Some f) = IsFirstBy is_after P f

-- the one of two that comes first
abbrev pub earlier_by : {A : Type 0} → (A → A → Bool) → Option A → Option A → Option A
earlier_by is_after None b = b
earlier_by is_after (Some f) None = Some f
earlier_by is_after (Some f) (Some g) = if is_after f g then Some g else Some f

-- the test puts things one after another, and of two that differ one comes after the other
pub record IsOrdering {A : Type 0} (is_after : A → A → Bool) : Type 0 where
  pub turn : (f g : A) → is_after f g ≡ true → is_after g f ≡ false
  pub chain : (f g h : A) → is_after f g ≡ false → is_after g h ≡ false → is_after f h ≡ false
  pub same : (f g : A) → is_after f g ≡ false → is_after g f ≡ false → f ≡ g
