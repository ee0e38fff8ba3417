-- Boxes that are widened as long as a form stays above 0 in them.
use Rattle.std.specs.Prelude.{◌≡◌, ◌≢◌, ◌==◌, ◌&&◌, not, if◌then◌else◌, ℕ, suc, ◌+◌, ◌*◌, ◌<◌, ◌≤◌, ◌⊎◌, Bool, true, false, List, [], ◌∷◌, length, ℤ, pos, negsuc, neg_ℤ, ◌+ℤ◌, ◌≤ℤ◌}
use Rattle.geo_base.specs.Boxes.{coordinate}
use Rattle.geo_base.specs.Ways.{dimension}
use Rattle.geo_conditions.specs.declared.form.Term.{Term}
use Rattle.geo_conditions.specs.Form.{Sum}
use Rattle.geo_conditions.specs.Reach.{State, Region, just, with_at}
use Rattle.geo_conditions.specs.Conditions.{least_value}

-- the factor of the coordinate d of o in the terms; 0 where it has none
abbrev pub factor_at : List Term → ℕ → ℕ → ℤ
factor_at [] o d = pos 0
factor_at (t ∷ ts) o d = if (t.object.0 == o) && (t.dimension == d) then t.factor else factor_at ts o d

-- how much the least value of a term falls where the high end of its coordinate rises by one, and where the low end falls by one
abbrev pub cost : Bool → ℤ → ℕ
cost true (pos n) = 0
cost true (negsuc n) = suc n
cost false (pos n) = n
cost false (negsuc n) = 0

-- the high end of the box in the dimension d, or its low end, counted outwards
abbrev pub outer : Bool → Region → ℕ → ℤ
outer true b d = coordinate b.hi d
outer false b d = neg_ℤ (coordinate b.lo d)

-- The box b becomes b': one end in the dimension d moves outwards, at a price for each unit, as far as the region and what there is to
-- spend allow.
pub record Widens (high : Bool) (d price : ℕ) (region b b' : Region) (purse purse' : ℕ) : Type 0 where
  pub units : ℕ
  pub moved : outer high b' d ≡ outer high b d +ℤ pos units
  pub within : outer high b' d ≤ℤ outer high region d
  pub others : (e : ℕ) → e ≢ d → outer high b' e ≡ outer high b e
  pub other_side : (e : ℕ) → outer (not high) b' e ≡ outer (not high) b e
  pub paid : purse' + price * units ≡ purse
  pub far : (outer high b' d ≡ outer high region d) ⊎ (purse' < price)

-- Each end of the box b on one side moves outwards, and b becomes b'. In the dimensions from the place j of significance on it has come
-- to the region's end, or another unit costs more than what is left. What is spent is what the least value of the form falls by.
pub record WidensFrom (K lead j : ℕ) (f : Sum) (o : ℕ) (high : Bool) (region b b' : Region) (purse purse' : ℕ) : Type 0 where
  pub grows : (d : ℕ) → outer high b d ≤ℤ outer high b' d
  pub within : (d : ℕ) → d < K → outer high b' d ≤ℤ outer high region d
  pub other_side : (e : ℕ) → outer (not high) b' e ≡ outer (not high) b e
  pub far : (i : ℕ) → j ≤ i → i < K → (outer high b' (dimension K lead i) ≡ outer high region (dimension K lead i)) ⊎ (purse' < cost high (factor_at f.terms o (dimension K lead i)))
  pub spent : ℕ
  pub paid : purse' + spent ≡ purse
  pub value : (S : State) (s : ℕ) → o < length S → least_value f (with_at S o s b') +ℤ pos spent ≡ least_value f (with_at S o s b)

-- The box b becomes b': one end in the dimension d moves to the coordinate of the point c.
pub record BeginsAt (high : Bool) (d : ℕ) (c : List ℤ) (b b' : Region) : Type 0 where
  pub at : outer high b' d ≡ outer high (just c) d
  pub others : (e : ℕ) → e ≢ d → outer high b' e ≡ outer high b e
  pub other_side : (e : ℕ) → outer (not high) b' e ≡ outer (not high) b e
