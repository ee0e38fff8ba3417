-- An object that stands in no other one's way.
use Rattle.std.specs.Prelude.{◌≡◌, ◌≢◌, ℕ, true, List, ℤ}
use Rattle.geo_conditions.specs.declared.cond.Cond.{Cond}
use Rattle.geo_conditions.specs.Reach.{State, just, with_at}
use Rattle.geo_conditions.specs.Conditions.{possible}
use Rattle.indexical.specs.Names.{names}

-- wherever the object o is put at the place s, the condition is possible
abbrev pub Spares : Cond → State → ℕ → ℕ → Type 0
Spares c S o s = (p : List ℤ) → possible c (with_at S o s (just p)) ≡ true

-- wherever the object o is put, at any place, the condition is possible
abbrev pub SparesAnywhere : Cond → State → ℕ → Type 0
SparesAnywhere c S o = (s : ℕ) → Spares c S o s

-- wherever an object that the condition names, but u, is put, the condition is possible
abbrev pub LeavesFree : Cond → State → ℕ → Type 0
LeavesFree c S u = (o s : ℕ) (p : List ℤ) → o ≢ u → names o c ≡ true → possible c (with_at S o s (just p)) ≡ true
