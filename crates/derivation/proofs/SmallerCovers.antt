-- A cover of a box covers each smaller box, and the parts of smaller boxes are smaller.
use Rattle.std.proofs.Common.{◌≡◌, ℕ, suc, ◌+◌, ◌<◌, Bool, true, ◌&&◌, List, [], ◌∷◌, length, set, refl, sym, ap, ◌∙◌, subst, inl, inr, arith, ℤ, pos, negsuc, ◌+ℤ◌, ◌≤ℤ◌}
use Rattle.std.specs.Prelude.{int_lt}
use Rattle.std.specs.Int.{int_min, int_max}
use Rattle.std.proofs.lemmas.Int.{ints, clamps}
use Rattle.std.proofs.lemmas.Bool.{cases_lt, cases_eq, false≢true, or_cases, or_left, or_right, and_parts, and_from}
use Rattle.std.proofs.lemmas.List.{get_or-set_same, get_or-set_other, get_or_past}
use Rattle.std.proofs.Math.ListN.{length-set}
use Rattle.geo_base.specs.Boxes.{coordinate}
use Rattle.geo_conditions.specs.declared.cond.Cond.{Cond}
use Rattle.geo_conditions.specs.Reach.{State, Reach, Region, reach, with_at, Within}
use Rattle.geo_conditions.specs.Conditions.{AllFit}
use Rattle.derivation.specs.declared.side.Side.{Side}
use Rattle.derivation.specs.declared.side.Side.TheVariants.{Upto, From}
use Rattle.derivation.specs.Cuts.{near, far, part_upto, part_from, empty_between, is_empty}
use Rattle.derivation.specs.Covers.{CoverTree, Leaf, Fork, refutes, covers}
use Rattle.derivation.specs.PlaceCovers.{PlaceCover, next_place, is_that, all_cover, SmallerBox}
use Rattle.derivation.proofs.Empty.{fork_is}
use Rattle.derivation.proofs.Leaves.{refutes_inside}

-- ---- boxes

-- each box lies in itself
pub box_same : (b : Region) → SmallerBox b b
box_same b = record { same_lo = refl; same_hi = refl; lows = λ d. omega (arith, ints); highs = λ d. omega (arith, ints) }

-- one box in another in a third
pub box_on : (a b c : Region) → SmallerBox a b → SmallerBox b c → SmallerBox a c
box_on a b c h k = record {
  same_lo = h.same_lo ∙ k.same_lo;
  same_hi = h.same_hi ∙ k.same_hi;
  lows = λ d. omega (arith, ints, h.lows d, k.lows d);
  highs = λ d. omega (arith, ints, h.highs d, k.highs d);
}

-- the region of a reach within another
pub box_within : (r q : Reach) → Within r q → SmallerBox r.region q.region
box_within r q w = record { same_lo = w.same_lo; same_hi = w.same_hi; lows = w.lows; highs = w.highs }

set_le : (xs ys : List ℤ) (d : ℕ) (x y : ℤ) → length xs ≡ length ys → ((e : ℕ) → coordinate xs e ≤ℤ coordinate ys e) → x ≤ℤ y → (e : ℕ) → coordinate (set xs d x) e ≤ℤ coordinate (set ys d y) e
set_le xs ys d x y l h k e = elim (cases_eq e d) [
  | inl q ↦ elim (cases_lt d (length xs)) [
    | inl b ↦ subst (λ (n : ℕ). coordinate (set xs d x) n ≤ℤ coordinate (set ys d y) n) (sym q)
        (subst (λ (z : ℤ). z ≤ℤ coordinate (set ys d y) d) (sym (get_or-set_same xs d x (pos 0) b)) (subst (λ (z : ℤ). x ≤ℤ z) (sym (get_or-set_same ys d y (pos 0) (omega arith))) k))
    | inr b ↦ subst (λ (z : ℤ). z ≤ℤ coordinate (set ys d y) e) (sym (get_or_past (set xs d x) e (pos 0) (omega (arith, length-set xs d x))))
        (subst (λ (z : ℤ). pos 0 ≤ℤ z) (sym (get_or_past (set ys d y) e (pos 0) (omega (arith, length-set ys d y)))) (omega (arith, ints)))
  ]
  | inr ne ↦ subst (λ (z : ℤ). z ≤ℤ coordinate (set ys d y) e) (sym (get_or-set_other xs d e x (pos 0) ne)) (subst (λ (z : ℤ). coordinate xs e ≤ℤ z) (sym (get_or-set_other ys d e y (pos 0) ne)) (h e))
]

-- up to a lesser number, of a smaller box
pub upto_smaller : (c b : Region) (d : ℕ) (v w : ℤ) → v ≤ℤ w → SmallerBox c b → SmallerBox (part_upto c d v) (part_upto b d w)
upto_smaller c b d v w le i = record {
  same_lo = i.same_lo;
  same_hi = length-set c.hi d _ ∙ i.same_hi ∙ sym (length-set b.hi d _);
  lows = i.lows;
  highs = set_le c.hi b.hi d (int_min (coordinate c.hi d) v) (int_min (coordinate b.hi d) w) i.same_hi i.highs (omega (arith, ints, clamps, i.highs d));
}

-- from a greater number on, of a smaller box
pub from_smaller : (c b : Region) (d : ℕ) (v w : ℤ) → w ≤ℤ v → SmallerBox c b → SmallerBox (part_from c d v) (part_from b d w)
from_smaller c b d v w le i = record {
  same_lo = length-set c.lo d _ ∙ i.same_lo ∙ sym (length-set b.lo d _);
  same_hi = i.same_hi;
  lows = set_le b.lo c.lo d (int_max (coordinate b.lo d) w) (int_max (coordinate c.lo d) v) (sym i.same_lo) i.lows (omega (arith, ints, clamps, i.lows d));
  highs = i.highs;
}

-- the parts of a smaller box are smaller
pub near_smaller : (side : Side) (c b : Region) → SmallerBox c b → SmallerBox (near side c) (near side b)
near_smaller (Upto d v) c b i = upto_smaller c b d v v (omega (arith, ints)) i
near_smaller (From d v) c b i = from_smaller c b d v v (omega (arith, ints)) i

pub far_smaller : (side : Side) (c b : Region) → SmallerBox c b → SmallerBox (far side c) (far side b)
far_smaller (Upto d v) c b i = from_smaller c b d (v +ℤ pos 1) (v +ℤ pos 1) (omega (arith, ints)) i
far_smaller (From d v) c b i = upto_smaller c b d (v +ℤ negsuc 0) (v +ℤ negsuc 0) (omega (arith, ints)) i

lt_wider : (h l h' l' : ℤ) → int_lt h l ≡ true → l ≤ℤ l' → h' ≤ℤ h → int_lt h' l' ≡ true
lt_wider h l h' l' e f g = grind (arith, ints)

pub empty_smaller : (ls hs ks gs : List ℤ) → length ks ≡ length ls → length gs ≡ length hs → ((d : ℕ) → coordinate ls d ≤ℤ coordinate ks d) → ((d : ℕ) → coordinate gs d ≤ℤ coordinate hs d) → empty_between ls hs ≡ true → empty_between ks gs ≡ true
empty_smaller [] hs ks gs a b f g e = absurd (false≢true e)
empty_smaller (l ∷ ls) [] ks gs a b f g e = absurd (false≢true e)
empty_smaller (l ∷ ls) (h ∷ hs) [] gs a b f g e = absurd (omega arith)
empty_smaller (l ∷ ls) (h ∷ hs) (k ∷ ks) [] a b f g e = absurd (omega arith)
empty_smaller (l ∷ ls) (h ∷ hs) (k ∷ ks) (m ∷ gs) a b f g e = elim (or_cases (int_lt h l) (empty_between ls hs) e) [
  | inl q ↦ or_left (int_lt m k) (empty_between ks gs) (lt_wider h l m k q (f 0) (g 0))
  | inr q ↦ or_right (int_lt m k) (empty_between ks gs) (empty_smaller ls hs ks gs (omega arith) (omega arith) (λ d. f (suc d)) (λ d. g (suc d)) q)
]

-- ---- covers

-- a cover of a box covers each smaller box
pub covers_smaller : (cs : List Cond) (S : State) (o s : ℕ) (t : CoverTree) (c b : Region) → AllFit cs S → o < length S → SmallerBox c b → covers cs S o s b t ≡ true → covers cs S o s c t ≡ true
covers_smaller cs S o s (Leaf i) c b a there k e = elim (or_cases (is_empty b) (refutes cs i (with_at S o s b)) e) [
  | inl q ↦ or_left (is_empty c) (refutes cs i (with_at S o s c)) (empty_smaller b.lo b.hi c.lo c.hi k.same_lo k.same_hi k.lows k.highs q)
  | inr q ↦ or_right (is_empty c) (refutes cs i (with_at S o s c)) (refutes_inside cs i S o s c b a there (λ d j. (k.lows d, k.highs d)) q)
]
covers_smaller cs S o s (Fork side x y) c b a there k e =
    let q = and_parts (covers cs S o s (near side b) x) (covers cs S o s (far side b) y) (sym (fork_is cs S o s b side x y) ∙ e) in
    fork_is cs S o s c side x y
    ∙ ap (λ (w : Bool). w && covers cs S o s (far side c) y) (covers_smaller cs S o s x (near side c) (near side b) a there (near_smaller side c b k) q.0)
    ∙ covers_smaller cs S o s y (far side c) (far side b) a there (far_smaller side c b k) q.1

-- a list of covers of a box covers each smaller box
pub all_smaller : (cs : List Cond) (S : State) (o n : ℕ) (list : List PlaceCover) (c b : Region) → AllFit cs S → o < length S → SmallerBox c b → all_cover cs S o b n list ≡ true → all_cover cs S o c n list ≡ true
all_smaller cs S o n [] c b a there k e = e
all_smaller cs S o n (m ∷ list) c b a there k e =
    let p = and_parts (is_that (next_place n (reach S o).places) m.place) (covers cs S o m.place b m.tree && all_cover cs S o b (m.place + 1) list) e in
    let q = and_parts (covers cs S o m.place b m.tree) (all_cover cs S o b (m.place + 1) list) p.1 in
    and_from _ _ p.0 (and_from _ _ (covers_smaller cs S o m.place m.tree c b a there k q.0) (all_smaller cs S o (m.place + 1) list c b a there k q.1))
