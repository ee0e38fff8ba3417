-- Two boxes of two objects that must not overlap.
use Rattle.std.specs.Prelude.{◌≡◌, ◌==◌, ◌||◌, if◌then◌else◌, true, ℕ, ◌<◌, ◌^◌, List, [], ◌∷◌, ◌++◌, length, ℤ, pos, negsuc, ◌+ℤ◌, ◌-ℤ◌, ◌≤ℤ◌, ◌<ℤ◌}
use Rattle.std.specs.List.{flat_map, range_with_len}
use Rattle.geo_base.specs.Boxes.{coordinate, Has}
use Rattle.geo_conditions.specs.declared.cond.Cond.{Cond, Lin, NotShape, AtLeast}
use Rattle.geo_conditions.specs.Terms.{term_of}
use Rattle.geo_conditions.specs.Reach.{State, Region, reach, low, high, is_only, just, with_at}
use Rattle.geo_conditions.specs.Conditions.{possible, FitsIn}
use Rattle.indexical.specs.declared.placed.PlacedBox.{PlacedBox}
use Rattle.indexical.specs.Names.{names}
use Rattle.indexical.specs.Listed.{conds_of}

module _ {K : ℕ} where
  -- a ends where b begins, in the dimension d, where a's origin lies so far before b's
  abbrev pub gap : PlacedBox K → PlacedBox K → ℕ → ℤ
  gap a b d = coordinate a.offset.coordinates d +ℤ coordinate a.size.coordinates d -ℤ coordinate b.offset.coordinates d

  -- the gaps of a before b, in each dimension
  abbrev pub AreGaps : PlacedBox K → PlacedBox K → List ℤ → Type 0
  AreGaps a b gaps = (d : ℕ) → d < K → coordinate gaps d ≡ gap a b d

  -- a ends before b begins, in the dimension d; b ends before a begins
  abbrev pub literals : PlacedBox K → PlacedBox K → ℕ → List Cond
  literals a b d =
      Lin (record { terms = term_of (a.object, d, pos 1) ∷ term_of (b.object, d, negsuc 0) ∷ []; constant = gap a b d })
      ∷ Lin (record { terms = term_of (a.object, d, negsuc 0) ∷ term_of (b.object, d, pos 1) ∷ []; constant = gap b a d }) ∷ []

  -- the object has another shape, where a leaf stands for it
  abbrev pub other_shape : PlacedBox K → List Cond
  other_shape a = if a.leaf then NotShape a.object a.place ∷ [] else []

  -- one of these has to be true for a and b not to overlap
  abbrev pub apart_parts : PlacedBox K → PlacedBox K → List Cond
  apart_parts a b = other_shape a ++ (other_shape b ++ flat_map (literals a b) (range_with_len 0 K))

  -- the condition that a and b do not overlap
  abbrev pub apart : (a b : PlacedBox K) → length (apart_parts a b) < 2 ^ 63 → Cond
  apart a b short = AtLeast (pos 1) (conds_of (apart_parts a b) short)

  -- On S the boxes overlap wherever their objects are: each object has the box's shape, and in no dimension one can end before the other
  -- begins.
  pub record MustOverlap (a b : PlacedBox K) (S : State) : Type 0 where
    pub first_shape : a.leaf ≡ true → is_only (reach S a.object.0).places a.place ≡ true
    pub second_shape : b.leaf ≡ true → is_only (reach S b.object.0).places b.place ≡ true
    pub first_ends : (d : ℕ) → d < K → high S b.object.0 d <ℤ (low S a.object.0 d +ℤ gap a b d)
    pub second_ends : (d : ℕ) → d < K → high S a.object.0 d <ℤ (low S b.object.0 d +ℤ gap b a d)

  -- The first and the last coordinate of a's origin, in the dimension d, at which a and b overlap there wherever b's origin lies in `held`.
  abbrev pub first : PlacedBox K → PlacedBox K → Region → ℕ → ℤ
  first a b held d = coordinate held.hi d -ℤ gap a b d +ℤ pos 1

  abbrev pub last : PlacedBox K → PlacedBox K → Region → ℕ → ℤ
  last a b held d = coordinate held.lo d +ℤ gap b a d -ℤ pos 1

  -- with a's origin between lo and hi and b's in `held` they overlap in each dimension
  abbrev pub Clashes : PlacedBox K → PlacedBox K → Region → List ℤ → List ℤ → Type 0
  Clashes a b held lo hi = (d : ℕ) → d < K → (first a b held d ≤ℤ coordinate lo d) × (coordinate hi d ≤ℤ last a b held d)

  -- with o at the place s there is no point of the region at which the boxes a and b must overlap
  abbrev pub NeedNotOverlap : (a b : PlacedBox K) → State → ℕ → ℕ → Region → Type 0
  NeedNotOverlap a b S o s region = (q : List ℤ) → Has K region.lo region.hi q → MustOverlap a b (with_at S o s (just q)) → ⊥

  -- With o at the place s in the box r of the region the boxes a and b must overlap. It has each point of the region at which they must.
  pub record IsOverlapPart (a b : PlacedBox K) (S : State) (o s : ℕ) (region r : Region) : Type 0 where
    pub low : Has K region.lo region.hi r.lo
    pub high : Has K region.lo region.hi r.hi
    pub overlap : MustOverlap a b (with_at S o s r)
    pub whole : (q : List ℤ) → Has K region.lo region.hi q → MustOverlap a b (with_at S o s (just q)) → Has K r.lo r.hi q

  -- c is possible where it is possible that a and b do not overlap, and names their objects alone
  pub record SaysApart (a b : PlacedBox K) (short : length (apart_parts a b) < 2 ^ 63) (c : Cond) : Type 0 where
    pub same : (S : State) → possible c S ≡ possible (apart a b short) S
    pub named : (o : ℕ) → names o c ≡ (a.object.0 == o) || (b.object.0 == o)
    pub exist : (S : State) → FitsIn c S → (a.object.0 < length S) × (b.object.0 < length S)
