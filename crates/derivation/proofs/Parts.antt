-- The points of the parts of a box, read by index.
use Rattle.std.proofs.Common.{◌≡◌, ℕ, zero, suc, ◌<◌, false, List, [], ◌∷◌, length, set, ◌∙◌, subst, arith, ℤ, pos, negsuc, ◌+ℤ◌, ◌≤ℤ◌}
use Rattle.std.specs.Prelude.{int_lt}
use Rattle.std.specs.Int.{int_min, int_max}
use Rattle.std.proofs.lemmas.Int.{ints, clamps}
use Rattle.std.proofs.lemmas.Bool.{or_parts}
use Rattle.std.proofs.lemmas.List.{get_or-set_same}
use Rattle.std.proofs.Math.ListN.{length-set}
use Rattle.geo_base.specs.Boxes.{coordinate, Has}
use Rattle.geo_conditions.specs.Reach.{Region}
use Rattle.geo_conditions.proofs.Greatest.{at_set}
use Rattle.derivation.specs.declared.side.Side.{Side}
use Rattle.derivation.specs.declared.side.Side.TheVariants.{Upto, From}
use Rattle.derivation.specs.Cuts.{near, far, empty_between}
use Rattle.derivation.specs.Covers.{dimension_of}
use Rattle.derivation.specs.Points.{OnNear, OnFar}

upto_out : (k : ℕ) (q : List ℤ) (b : Region) (d : ℕ) (v : ℤ) → d < k → d < length b.hi → Has k b.lo (set b.hi d (int_min (coordinate b.hi d) v)) q → Has k b.lo b.hi q × (coordinate q d ≤ℤ v)
upto_out k q b d v i h has =
    let at_d : coordinate q d ≤ℤ int_min (coordinate b.hi d) v = subst (λ (x : ℤ). coordinate q d ≤ℤ x) (get_or-set_same b.hi d (int_min (coordinate b.hi d) v) (pos 0) h) (has d i).1 in (
      λ e j. (
        (has e j).0,
        let f : coordinate (set b.hi d (int_min (coordinate b.hi d) v)) e ≤ℤ coordinate b.hi e = at_set (λ n x. x ≤ℤ coordinate b.hi n) b.hi d (int_min (coordinate b.hi d) v) (λ l. omega (arith, ints, clamps)) (λ n. omega (arith, ints)) e in
            omega (arith, ints, (has e j).1),
      ),
      omega (arith, ints, clamps),
    )

from_out : (k : ℕ) (q : List ℤ) (b : Region) (d : ℕ) (v : ℤ) → d < k → d < length b.lo → Has k (set b.lo d (int_max (coordinate b.lo d) v)) b.hi q → Has k b.lo b.hi q × (v ≤ℤ coordinate q d)
from_out k q b d v i h has =
    let at_d : int_max (coordinate b.lo d) v ≤ℤ coordinate q d = subst (λ (x : ℤ). x ≤ℤ coordinate q d) (get_or-set_same b.lo d (int_max (coordinate b.lo d) v) (pos 0) h) (has d i).0 in (
      λ e j. (
        (let f : coordinate b.lo e ≤ℤ coordinate (set b.lo d (int_max (coordinate b.lo d) v)) e = at_set (λ n x. coordinate b.lo n ≤ℤ x) b.lo d (int_max (coordinate b.lo d) v) (λ l. omega (arith, ints, clamps)) (λ n. omega (arith, ints)) e in
            omega (arith, ints, (has e j).0)),
        (has e j).1,
      ),
      omega (arith, ints, clamps),
    )

-- a point of the near part is a point of the box on that side, and one of the far part a point on the other
pub near_out : (side : Side) (k : ℕ) (q : List ℤ) (b : Region) → dimension_of side < k → length b.lo ≡ k → length b.hi ≡ k → Has k (near side b).lo (near side b).hi q → Has k b.lo b.hi q × OnNear side q
near_out (Upto d v) k q b w l h has = upto_out k q b d v w (omega arith) has
near_out (From d v) k q b w l h has = from_out k q b d v w (omega arith) has

pub far_out : (side : Side) (k : ℕ) (q : List ℤ) (b : Region) → dimension_of side < k → length b.lo ≡ k → length b.hi ≡ k → Has k (far side b).lo (far side b).hi q → Has k b.lo b.hi q × OnFar side q
far_out (Upto d v) k q b w l h has = from_out k q b d (v +ℤ pos 1) w (omega arith) has
far_out (From d v) k q b w l h has = upto_out k q b d (v +ℤ negsuc 0) w (omega arith) has

-- the parts have as many dimensions
pub near_sizes : (side : Side) (k : ℕ) (b : Region) → length b.lo ≡ k → length b.hi ≡ k → (length (near side b).lo ≡ k) × (length (near side b).hi ≡ k)
near_sizes (Upto d v) k b l h = (l, length-set b.hi d _ ∙ h)
near_sizes (From d v) k b l h = (length-set b.lo d _ ∙ l, h)

pub far_sizes : (side : Side) (k : ℕ) (b : Region) → length b.lo ≡ k → length b.hi ≡ k → (length (far side b).lo ≡ k) × (length (far side b).hi ≡ k)
far_sizes (Upto d v) k b l h = (length-set b.lo d _ ∙ l, h)
far_sizes (From d v) k b l h = (l, length-set b.hi d _ ∙ h)

lt_false : (h l : ℤ) → int_lt h l ≡ false → l ≤ℤ h
lt_false h l e = grind (arith, ints)

-- where no interval is empty, each low end is at most its high end
pub ranges_of : (ls hs : List ℤ) → length ls ≡ length hs → empty_between ls hs ≡ false → (d : ℕ) → coordinate ls d ≤ℤ coordinate hs d
ranges_of [] [] l e d = omega (arith, ints)
ranges_of [] (h ∷ hs) l e d = absurd (omega arith)
ranges_of (x ∷ ls) [] l e d = absurd (omega arith)
ranges_of (x ∷ ls) (h ∷ hs) l e zero = lt_false h x (or_parts (int_lt h x) (empty_between ls hs) e).0
ranges_of (x ∷ ls) (h ∷ hs) l e (suc d) = ranges_of ls hs (omega arith) (or_parts (int_lt h x) (empty_between ls hs) e).1 d
