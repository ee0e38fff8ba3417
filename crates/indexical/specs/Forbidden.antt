-- Forbidden boxes.
use Rattle.std.specs.Prelude.{◌≡◌, ℕ, true, List, ℤ}
use Rattle.geo_base.specs.Boxes.{Has}
use Rattle.geo_conditions.specs.declared.cond.Cond.{Cond, Lin, Shape, NotShape, AtLeast'}
use Rattle.geo_conditions.specs.Reach.{State, Region, just, with_at}
use Rattle.geo_conditions.specs.Conditions.{possible, IsRefuted}
use Rattle.geo_conditions.specs.Regions.{region_of}
use Rattle.indexical.specs.Disjunctions.{IsDisjunction}
use Rattle.indexical.specs.declared.forbidden.ForbiddenPart.{ForbiddenPart}
use Rattle.indexical.specs.declared.forbidden.ForbiddenPart.TheVariants.{Nothing, Exactly, Unknown}

-- The box b of the region has the point c, and with o at the place s in it the condition is refuted. Of a disjunction it has each point of
-- the region at which the condition is refuted.
pub record IsForbiddenBox (K : ℕ) (cond : Cond) (S : State) (o s : ℕ) (c : List ℤ) (region b : Region) : Type 0 where
  pub has : Has K b.lo b.hi c
  pub low : Has K region.lo region.hi b.lo
  pub high : Has K region.lo region.hi b.hi
  pub refuted : IsRefuted cond (with_at S o s b)
  pub whole : IsDisjunction o cond → (q : List ℤ) → Has K region.lo region.hi q → IsRefuted cond (with_at S o s (just q)) → Has K b.lo b.hi q

-- The box b of the region has each point of the region at which the condition is refuted with o at the place s, and with o in it the condition
-- is refuted.
pub record IsForbiddenPart (K : ℕ) (cond : Cond) (S : State) (o s : ℕ) (region b : Region) : Type 0 where
  pub low : Has K region.lo region.hi b.lo
  pub high : Has K region.lo region.hi b.hi
  pub refuted : IsRefuted cond (with_at S o s b)
  pub whole : (q : List ℤ) → Has K region.lo region.hi q → IsRefuted cond (with_at S o s (just q)) → Has K b.lo b.hi q

-- what the condition forbids of the region
abbrev pub Forbids : (K : ℕ) → Cond → State → ℕ → ℕ → Region → ForbiddenPart K → Type 0
Forbids K cond S o s region Nothing = (q : List ℤ) → Has K region.lo region.hi q → possible cond (with_at S o s (just q)) ≡ true
Forbids K cond S o s region (Exactly b) = IsForbiddenPart K cond S o s region (region_of b)
Forbids K cond S o s region Unknown = Unit {0}

-- a literal on a shape
abbrev pub IsOnShape : Cond → Type 0
IsOnShape (Lin f) = ⊥
IsOnShape (Shape o s) = Unit {0}
IsOnShape (NotShape o s) = Unit {0}
IsOnShape (AtLeast' n shape cs) = ⊥
