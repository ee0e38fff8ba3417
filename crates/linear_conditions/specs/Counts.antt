-- What grounding counts, and how its steps follow each other.
use Rattle.std.specs.Prelude.{◌≡◌, ℕ, ◌+◌, ◌&&◌, nat_le, Bool, if◌then◌else◌, List, [], ◌∷◌, length}
use Rattle.geo_tokens.specs.declared.fault.FaultWord.{FaultWord}
use Rattle.geo_tokens.specs.declared.fault.FaultWord.TheVariants.{Ground}
use Rattle.geo_conditions.specs.Form.{Sum}
use Rattle.linear_conditions.specs.Sums.{has_terms}

-- what was counted so far
pub record Counts : Type 0 where
  pub visits : ℕ
  pub leaves : ℕ
  pub terms : ℕ

-- a step's fault, or its result with what was counted
pub data Outcome (A : Type 0) : Type 0 where
  Fault : FaultWord → Outcome A
  Done : A → Counts → Outcome A

-- one step after another
unfoldable pub and_then : (A B : Type 0) → Outcome A → (A → Counts → Outcome B) → Outcome B
and_then A B (Fault w) go = Fault w
and_then A B (Done a k) go = go a k

-- a step, if it is allowed
unfoldable pub allowed : (A : Type 0) → Bool → FaultWord → Outcome A → Outcome A
allowed A b w o = if b then o else Fault w

-- one of two steps
unfoldable pub either_way : (A : Type 0) → Bool → Outcome A → Outcome A → Outcome A
either_way A b o u = if b then o else u

abbrev pub are_within : Counts → Bool
are_within k = nat_le k.visits 20000000 && (nat_le k.leaves 1000000 && nat_le k.terms 8000000)

-- the counts, if they are within the limits
abbrev pub within_limits : Counts → Outcome Counts
within_limits k = allowed Counts (are_within k) Ground (Done k k)

abbrev pub one_visit : Counts → Counts
one_visit k = record k { visits = k.visits + 1 }

abbrev pub one_leaf : Counts → Counts
one_leaf k = record k { leaves = k.leaves + 1 }

abbrev pub visit : Counts → Outcome Counts
visit k = within_limits (one_visit k)

abbrev pub visits : ℕ → Counts → Outcome Counts
visits n k = within_limits (record k { visits = k.visits + n })

-- a form that must be at most 0; without terms it is no leaf
abbrev pub count_sum : Sum → Counts → Counts
count_sum f k = if has_terms f then record { visits = k.visits; leaves = k.leaves + 1; terms = k.terms + length f.terms } else k

abbrev pub count_sums : List Sum → Counts → Counts
count_sums [] k = k
count_sums (f ∷ fs) k = count_sums fs (count_sum f k)

-- what holds of the result of a step, if it has one
pub record OnDone (A : Type 0) (o : Outcome A) (P : A → Type 0) : Type 0 where
  pub get : (a : A) (k : Counts) → o ≡ Done a k → P a
