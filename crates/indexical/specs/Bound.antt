-- A condition that keeps one coordinate of an object, where it has a place, on one side of a number, or
-- out of a hole between two numbers.
use Rattle.std.specs.Prelude.{◌≡◌, ◌==◌, ℕ, Bool, true, false, ◌∷◌, [], List, ℤ, pos, negsuc, ◌+ℤ◌, ◌<ℤ◌, Option, None, Some, IfNone, IfSome}
use Rattle.std.specs.Option.{ForSome}
use Rattle.geo_base.specs.Boxes.{coordinate, Has}
use Rattle.geo_base.specs.declared.kbox.KBox.{KBox}
use Rattle.geo_conditions.specs.declared.cond.Cond.{Cond, Lin, AtLeast}
use Rattle.geo_conditions.specs.declared.cond.Conds.{Conds}
use Rattle.geo_conditions.specs.declared.object.ObjId.{ObjId}
use Rattle.geo_conditions.specs.Form.{Sum}
use Rattle.geo_conditions.specs.Terms.{term_of}
use Rattle.geo_conditions.specs.Reach.{State, reach, low, high, is_only, only}
use Rattle.geo_conditions.specs.Conditions.{IsRefuted}
use Rattle.indexical.specs.Names.{names}
use Rattle.indexical.specs.declared.bound.BoundIndexical.{BoundIndexical}

-- the form that is above 0 where the coordinate is on the wrong side: below the number, where it has to be at least that, or else above 0 with it
abbrev pub bound_sum : Bool → ObjId → ℕ → ℤ → Sum
bound_sum true o d n = record { terms = term_of (o, d, negsuc 0) ∷ []; constant = n }
bound_sum false o d n = record { terms = term_of (o, d, pos 1) ∷ []; constant = n }

-- so it is wherever the coordinate lies between lo and hi
pub record IsPast (least : Bool) (n lo hi : ℤ) : Type 0 where
  pub below : least ≡ true → hi <ℤ n
  pub above : least ≡ false → pos 0 <ℤ (lo +ℤ n)

module _ {K : ℕ} where
  -- on S the object has the place that is asked for alone, and its coordinate is on the wrong side and,
  -- of a hole, below the number behind it
  pub record MustPass (b : BoundIndexical K) (S : State) : Type 0 where
    pub place : ForSome b.asked (λ p. is_only (reach S b.object.0).places p ≡ true)
    pub past : IsPast b.least b.constant (low S b.object.0 b.dimension) (high S b.object.0 b.dimension)
    pub until : ForSome b.until (λ v. high S b.object.0 b.dimension <ℤ v)

  -- so it is with the object at the place s between two corners
  pub record PassesAt (b : BoundIndexical K) (s : ℕ) (lo hi : List ℤ) : Type 0 where
    pub place : ForSome b.asked (λ p. is_only (only s) p ≡ true)
    pub past : IsPast b.least b.constant (coordinate lo b.dimension) (coordinate hi b.dimension)
    pub until : ForSome b.until (λ v. coordinate hi b.dimension <ℤ v)

  -- the point's coordinate is on the wrong side
  abbrev pub IsPastAt : BoundIndexical K → List ℤ → Type 0
  IsPastAt b q = IsPast b.least b.constant (coordinate q b.dimension) (coordinate q b.dimension)

  -- the point lies in the box
  abbrev pub InBox : KBox K → List ℤ → Type 0
  InBox region q = Has K region.lo.coordinates region.hi.coordinates q

  -- the box has just the points of the region at which the coordinate is on the wrong side
  pub record IsSidePart (b : BoundIndexical K) (region : KBox K) (x : Option (KBox K)) : Type 0 where
    pub none : IfNone x ((q : List ℤ) → InBox region q → IsPastAt b q → ⊥)
    pub within : IfSome x (λ r. InBox region r.lo.coordinates × InBox region r.hi.coordinates)
    pub passes : IfSome x (λ r. IsPast b.least b.constant (coordinate r.lo.coordinates b.dimension)
        (coordinate r.hi.coordinates b.dimension))
    pub whole : IfSome x (λ r. (q : List ℤ) → InBox region q → IsPastAt b q → InBox r q)

  -- c is refuted just there, and names no other object
  pub record SaysBound (b : BoundIndexical K) (c : Cond) : Type 0 where
    pub refuted : (S : State) → MustPass b S → IsRefuted c S
    pub passes : (S : State) → IsRefuted c S → MustPass b S
    pub named : (o : ℕ) → names o c ≡ (b.object.0 == o)

  -- the hole is between x, that the coordinate is at most a number, and y, that it is at least another
  pub record IsHole (b : BoundIndexical K) (x y : Cond) : Type 0 where
    pub least : b.least ≡ false
    pub asked : b.asked ≡ None
    pub end : ℤ
    pub until : b.until ≡ Some end
    pub upper : x ≡ Lin (bound_sum false b.object b.dimension b.constant)
    pub lower : y ≡ Lin (bound_sum true b.object b.dimension end)

  -- b is what the condition says that x or y holds
  abbrev pub SaysTwo : BoundIndexical K → Cond → Cond → Type 0
  SaysTwo b x y = (n : ℤ) (children : Conds) → n ≡ pos 1 → children.items.items ≡ x ∷ y ∷ []
      → SaysBound b (AtLeast n children)
