-- The record of what is taken away.
use Rattle.std.proofs.Common.{◌≡◌, ℕ, zero, suc, ◌+◌, ◌<◌, Bool, true, ◌&&◌, List, [], ◌∷◌, ◌++◌, length, set, refl, sym, ap, ◌∙◌, subst, inl, inr, arith, append_assoc, ℤ, pos, negsuc, ◌+ℤ◌, ◌≤ℤ◌}
use Rattle.std.specs.Int.{int_min, int_max}
use Rattle.std.proofs.lemmas.Int.{ints, clamps}
use Rattle.std.proofs.lemmas.Bool.{cases_Bool, cases_eq, or_right}
use Rattle.std.proofs.lemmas.List.{get_or-set_same, get_or-set_other}
use Rattle.std.proofs.Math.ListN.{length-set}
use Rattle.geo_base.specs.Boxes.{coordinate, IsCrossed}
use Rattle.geo_conditions.specs.declared.cond.Cond.{Cond}
use Rattle.geo_state.specs.Trail.{HasSmallIntervals, IsSmallEnd}
use Rattle.geo_conditions.specs.Reach.{State, Region, reach, has, low, high, dims, InBox, with_at, with_low, with_high, just}
use Rattle.geo_conditions.specs.Supported.{NoneRefuted, HasNoPoint}
use Rattle.geo_conditions.proofs.Points.{in_just}
use Rattle.geo_conditions.proofs.Greatest.{at_set}
use Rattle.derivation.specs.declared.event.Event.{Event}
use Rattle.derivation.specs.declared.event.Event.TheVariants.{Cut, Raise, Lower}
use Rattle.derivation.specs.declared.side.Side.TheVariants.{Upto, From}
use Rattle.derivation.specs.Cuts.{near, far, is_empty}
use Rattle.derivation.specs.Covers.{CoverTree, Leaf, Fork, events_of, covers, refutes, IsCut, HasNumbersIn}
use Rattle.derivation.specs.PlaceCovers.{RecordedCovers}
use Rattle.derivation.proofs.Listings.{bound_led}
use Rattle.derivation.proofs.Refuting.{refutes_within}
use Rattle.derivation.proofs.Empty.{fork_is, covers_empty}
use Rattle.derivation.proofs.Parts.{ranges_of}
use Rattle.plain_propagate.specs.Points.{cut_to, IsSmallRegion}
use Rattle.plain_propagate.specs.Defects.{LacksAll, LacksPoint, LacksLow, LacksHigh}
use Rattle.derivation.specs.Chains.{IsLed}
use Rattle.plain_propagate.specs.Recorded.{RecordedCover}
use Rattle.plain_propagate.proofs.PointSearch.{same_list, same_box, cut_in}

-- ---- boxes

-- a box with a crossed interval is empty
pub crossed_empty : (k : ℕ) (b : Region) → length b.lo ≡ k → length b.hi ≡ k → IsCrossed k b.lo b.hi → is_empty b ≡ true
crossed_empty k b l h x = elim (cases_Bool (is_empty b)) [
  | inl e ↦ e
  | inr e ↦ absurd (omega (arith, ints, ranges_of b.lo b.hi (l ∙ sym h) e x.0, x.2))
]

-- a box of one number in each dimension is a point, at which a condition is refuted where the box has no point
pub point_refuted : (cs : List Cond) (S : State) (o s : ℕ) (b : Region) (k d : ℕ) → d ≡ k → length b.lo ≡ k → length b.hi ≡ k → ((e : ℕ) → e < d → coordinate b.lo e ≡ coordinate b.hi e) → HasNoPoint cs S o s b → NoneRefuted cs (with_at S o s b) → ⊥
point_refuted cs S o s b k d q l h one none u =
    let same : b.hi ≡ b.lo = sym (same_list b.lo b.hi (l ∙ sym h) (λ j c. one j (omega arith))) in
    let p : b ≡ just b.lo = same_box b b.lo refl same in
    none b.lo (record { point = subst (InBox b.lo) (sym p) (in_just b.lo); unrefuted = subst (λ (r : Region). NoneRefuted cs (with_at S o s r)) p u })

-- a part of one number has no point where the box has none
pub cut_none : (cs : List Cond) (S : State) (o s : ℕ) (b c : Region) (d : ℕ) (v : ℤ) → d < length b.lo → d < length b.hi → coordinate b.lo d ≤ℤ v → v ≤ℤ coordinate b.hi d → c ≡ cut_to b d v → HasNoPoint cs S o s b → HasNoPoint cs S o s c
cut_none cs S o s b c d v k l f g e none p y = none p (record { point = cut_in b d v p k l f g (subst (InBox p) e y.point); unrefuted = y.unrefuted })

-- the part has one number in one dimension more
pub cut_single : (b c : Region) (d : ℕ) (v : ℤ) → d < length b.lo → d < length b.hi → c ≡ cut_to b d v → ((e : ℕ) → e < d → coordinate b.lo e ≡ coordinate b.hi e) → (e : ℕ) → e < d + 1 → coordinate c.lo e ≡ coordinate c.hi e
cut_single b c d v k l q one e h =
    subst (λ (r : Region). coordinate r.lo e ≡ coordinate r.hi e) (sym q) (elim (cases_eq e d) [
      | inl x ↦ subst (λ (n : ℕ). coordinate (set b.lo d v) n ≡ coordinate (set b.hi d v) n) (sym x) (get_or-set_same b.lo d v (pos 0) k ∙ sym (get_or-set_same b.hi d v (pos 0) l))
      | inr ne ↦ get_or-set_other b.lo d e v (pos 0) ne ∙ one e (omega arith) ∙ sym (get_or-set_other b.hi d e v (pos 0) ne)
    ])

-- ---- boxes with small ends

-- the region of an object of a small state
pub small_region : (S : State) (o : ℕ) (b : Region) → HasSmallIntervals S → b ≡ (reach S o).region → IsSmallRegion b
small_region S o b small e = subst IsSmallRegion (sym e) (λ d. small o d)

-- one end changed
pub small_hi : (b c : Region) (d : ℕ) (v : ℤ) → IsSmallEnd v → c.lo ≡ b.lo → c.hi ≡ set b.hi d v → IsSmallRegion b → IsSmallRegion c
small_hi b c d v n lo hi small e = (
  subst (λ (xs : List ℤ). IsSmallEnd (coordinate xs e)) (sym lo) (small e).0,
  subst (λ (xs : List ℤ). IsSmallEnd (coordinate xs e)) (sym hi) (at_set (λ j x. IsSmallEnd x) b.hi d v (λ l. n) (λ j. (small j).1) e),
)

pub small_lo : (b c : Region) (d : ℕ) (v : ℤ) → IsSmallEnd v → c.lo ≡ set b.lo d v → c.hi ≡ b.hi → IsSmallRegion b → IsSmallRegion c
small_lo b c d v n lo hi small e = (
  subst (λ (xs : List ℤ). IsSmallEnd (coordinate xs e)) (sym lo) (at_set (λ j x. IsSmallEnd x) b.lo d v (λ l. n) (λ j. (small j).0) e),
  subst (λ (xs : List ℤ). IsSmallEnd (coordinate xs e)) (sym hi) (small e).1,
)

-- both ends changed
pub small_cut : (b c : Region) (d : ℕ) (v : ℤ) → IsSmallEnd v → c ≡ cut_to b d v → IsSmallRegion b → IsSmallRegion c
small_cut b c d v n q small = subst IsSmallRegion (sym q) (λ e. (at_set (λ j x. IsSmallEnd x) b.lo d v (λ l. n) (λ j. (small j).0) e, at_set (λ j x. IsSmallEnd x) b.hi d v (λ l. n) (λ j. (small j).1) e))

-- ---- lists with one number changed

set_read : (xs : List ℤ) (d : ℕ) → set xs d (coordinate xs d) ≡ xs
set_read [] d = refl
set_read (x ∷ xs) zero = refl
set_read (x ∷ xs) (suc d) = ap (λ (ys : List ℤ). x ∷ ys) (set_read xs d)

set_twice : (xs : List ℤ) (d : ℕ) (v w : ℤ) → set (set xs d v) d w ≡ set xs d w
set_twice [] d v w = refl
set_twice (x ∷ xs) zero v w = refl
set_twice (x ∷ xs) (suc d) v w = ap (λ (ys : List ℤ). x ∷ ys) (set_twice xs d v w)

-- ---- a cover of a box, number by number

-- a leaf over an empty box
pub cover_empty : (cs : List Cond) (S : State) (o s : ℕ) (b : Region) (old now : List Event) → is_empty b ≡ true → now ≡ old ++ events_of (Leaf 1) → RecordedCover cs S o s b old now
cover_empty cs S o s b old now e n = record { tree = Leaf 1; events = n; covered = covers_empty cs S o s b (Leaf 1) e; numbers = inr refl }

-- a leaf that names a refuted condition
pub cover_refuted : (cs : List Cond) (S : State) (o s i : ℕ) (b : Region) (old now : List Event) → refutes cs i (with_at S o s b) ≡ true → now ≡ old ++ events_of (Leaf i) → RecordedCover cs S o s b old now
cover_refuted cs S o s i b old now e n = record { tree = Leaf i; events = n; covered = or_right (is_empty b) (refutes cs i (with_at S o s b)) e; numbers = inl (refutes_within cs i (with_at S o s b) e) }

-- the part of the box from a number on
abbrev pub from_on : Region → ℕ → ℤ → Region
from_on b d v = record { lo = set b.lo d v; hi = b.hi }

-- with a cover of the part from v on, the events so far are a cover of the box
pub record RecordedUpTo (cs : List Cond) (S : State) (o s : ℕ) (b : Region) (d : ℕ) (v : ℤ) (old now : List Event) : Type 0 where
  pub whole : (u : CoverTree) (end : List Event) → covers cs S o s (from_on b d v) u ≡ true → HasNumbersIn (dims S o) (length cs) u → end ≡ now ++ events_of u → RecordedCover cs S o s b old end

-- nothing is cut yet
pub upto_start : (cs : List Cond) (S : State) (o s : ℕ) (b : Region) (d : ℕ) (v : ℤ) (old : List Event) → v ≡ coordinate b.lo d → RecordedUpTo cs S o s b d v old old
upto_start cs S o s b d v old q =
    let same : from_on b d v ≡ b = ap (λ (xs : List ℤ). let r : Region = record { lo = xs; hi = b.hi } in r) (ap (set b.lo d) q ∙ set_read b.lo d) in
    record { whole = λ u end h n e. record { tree = u; events = e; covered = subst (λ (r : Region). covers cs S o s r u ≡ true) same h; numbers = n } }

near_is : (b : Region) (d : ℕ) (v : ℤ) → v ≤ℤ coordinate b.hi d → cut_to b d v ≡ near (Upto d v) (from_on b d v)
near_is b d v h =
    let e : v ≡ int_min (coordinate b.hi d) v = omega (arith, ints, clamps) in
    ap (λ (x : ℤ). let r : Region = record { lo = set b.lo d v; hi = set b.hi d x } in r) e

far_is : (b : Region) (d : ℕ) (v w : ℤ) → d < length b.lo → w ≡ v +ℤ pos 1 → from_on b d w ≡ far (Upto d v) (from_on b d v)
far_is b d v w k q =
    let here : coordinate (set b.lo d v) d ≡ v = get_or-set_same b.lo d v (pos 0) k in
    let e : w ≡ int_max (coordinate (set b.lo d v) d) (v +ℤ pos 1) = omega (arith, ints, clamps) in
    ap (λ (x : List ℤ). let r : Region = record { lo = x; hi = b.hi } in r) (ap (set b.lo d) e ∙ sym (set_twice b.lo d v (int_max (coordinate (set b.lo d v) d) (v +ℤ pos 1))))

-- one number more is cut off
pub upto_more : (cs : List Cond) (S : State) (o s : ℕ) (b c : Region) (d : ℕ) (v w : ℤ) (old now mid next : List Event) → IsCut (dims S o) (Upto d v) → d < length b.lo → v ≤ℤ coordinate b.hi d → c ≡ cut_to b d v → w ≡ v +ℤ pos 1 → mid ≡ now ++ (Cut d v ∷ []) → RecordedCover cs S o s c mid next
    → RecordedUpTo cs S o s b d v old now → RecordedUpTo cs S o s b d w old next
upto_more cs S o s b c d v w old now mid next cut k l q f m t r = record {
  whole = λ u end h n e.
      let here = subst (λ (x : Region). covers cs S o s x t.tree ≡ true) (q ∙ near_is b d v l) t.covered in
      let there = subst (λ (x : Region). covers cs S o s x u ≡ true) (far_is b d v w k f) h in
      r.whole (Fork (Upto d v) t.tree u) end
      (fork_is cs S o s (from_on b d v) (Upto d v) t.tree u ∙ ap (λ (x : Bool). x && covers cs S o s (far (Upto d v) (from_on b d v)) u) here ∙ there) (cut, t.numbers, n)
      (e ∙ ap (λ (xs : List Event). xs ++ events_of u) (t.events ∙ ap (λ (xs : List Event). xs ++ events_of t.tree) m)
      ∙ append_assoc (now ++ (Cut d v ∷ [])) (events_of t.tree) (events_of u)
      ∙ append_assoc now (Cut d v ∷ []) (events_of t.tree ++ events_of u));
}

-- the last number is covered
pub upto_end : (cs : List Cond) (S : State) (o s : ℕ) (b c : Region) (d : ℕ) (v : ℤ) (old now end : List Event) → v ≡ coordinate b.hi d → c ≡ cut_to b d v → RecordedCover cs S o s c now end → RecordedUpTo cs S o s b d v old now → RecordedCover cs S o s b old end
upto_end cs S o s b c d v old now end f q t r =
    let same : cut_to b d v ≡ from_on b d v = ap (λ (x : List ℤ). let y : Region = record { lo = set b.lo d v; hi = x } in y) (ap (set b.hi d) f ∙ set_read b.hi d) in
    r.whole t.tree end (subst (λ (x : Region). covers cs S o s x t.tree ≡ true) (q ∙ same) t.covered) t.numbers t.events

-- ---- an object without points

-- at no place there is a point
pub gone_none : (cs : List Cond) (S : State) (o : ℕ) (b : Region) → b ≡ (reach S o).region → LacksAll cs S o → (n : ℕ) → has S o n ≡ true → HasNoPoint cs S o n b
gone_none cs S o b e l n h p y = l.lacks n (p, record { place = h; point = subst (InBox p) e y.point; unrefuted = y.unrefuted })

-- a place without a point
pub place_none : (cs : List Cond) (S : State) (o s : ℕ) (b : Region) → b ≡ (reach S o).region → LacksPoint cs S o s → HasNoPoint cs S o s b
place_none cs S o s b e l p y = l.lacks (p, record { place = l.there; point = subst (InBox p) e y.point; unrefuted = y.unrefuted })

-- ---- an end without a point

-- the part of the box up to a number in one dimension
abbrev pub part_to : Region → ℕ → ℤ → Region
part_to b d v = record { lo = b.lo; hi = set b.hi d v }

in_part_to : (b : Region) (d : ℕ) (v : ℤ) (p : List ℤ) → d < length b.hi → v ≤ℤ coordinate b.hi d → InBox p (part_to b d v) → InBox p b × (coordinate p d ≤ℤ v)
in_part_to b d v p k h i = (
  record {
    same_lo = i.same_lo;
    same_hi = i.same_hi ∙ length-set b.hi d v;
    above = i.above;
    below = λ e. let f : coordinate (set b.hi d v) e ≤ℤ coordinate b.hi e = at_set (λ n x. x ≤ℤ coordinate b.hi n) b.hi d v (λ l. h) (λ n. omega (arith, ints)) e in omega (arith, ints, f, i.below e);
  },
  subst (λ (z : ℤ). coordinate p d ≤ℤ z) (get_or-set_same b.hi d v (pos 0) k) (i.below d),
)

in_part_from : (b : Region) (d : ℕ) (v : ℤ) (p : List ℤ) → d < length b.lo → coordinate b.lo d ≤ℤ v → InBox p (from_on b d v) → InBox p b × (v ≤ℤ coordinate p d)
in_part_from b d v p k h i = (
  record {
    same_lo = i.same_lo ∙ length-set b.lo d v;
    same_hi = i.same_hi;
    above = λ e. let f : coordinate b.lo e ≤ℤ coordinate (set b.lo d v) e = at_set (λ n x. coordinate b.lo n ≤ℤ x) b.lo d v (λ l. h) (λ n. omega (arith, ints)) e in omega (arith, ints, f, i.above e);
    below = i.below;
  },
  subst (λ (z : ℤ). z ≤ℤ coordinate p d) (get_or-set_same b.lo d v (pos 0) k) (i.above d),
)

-- a box with those ends is that part
pub part_to_same : (b c r : Region) (d : ℕ) (v : ℤ) → c ≡ r → b.lo ≡ c.lo → b.hi ≡ set c.hi d v → b ≡ part_to r d v
part_to_same b c r d v e lo hi = ap (λ (x : List ℤ). let y : Region = record { lo = x; hi = b.hi } in y) lo ∙ ap (λ (x : List ℤ). let y : Region = record { lo = c.lo; hi = x } in y) hi ∙ ap (λ (x : Region). part_to x d v) e

pub from_on_same : (b c r : Region) (d : ℕ) (v : ℤ) → c ≡ r → b.lo ≡ set c.lo d v → b.hi ≡ c.hi → b ≡ from_on r d v
from_on_same b c r d v e lo hi = ap (λ (x : List ℤ). let y : Region = record { lo = x; hi = b.hi } in y) lo ∙ ap (λ (x : List ℤ). let y : Region = record { lo = set c.lo d v; hi = x } in y) hi ∙ ap (λ (x : Region). from_on x d v) e

-- up to the low end there is no point
pub low_none : (cs : List Cond) (S : State) (o d : ℕ) (b : Region) (v : ℤ) → length (reach S o).region.lo ≡ length (reach S o).region.hi → v ≡ low S o d → b ≡ part_to (reach S o).region d v → LacksLow cs S o d → (n : ℕ) → has S o n ≡ true → HasNoPoint cs S o n b
low_none cs S o d b v same q e l n h p y =
    let k : d < length (reach S o).region.hi = omega (arith, l.dimension) in
    let i = in_part_to (reach S o).region d v p k (omega (arith, ints, l.wide)) (subst (InBox p) e y.point) in
    l.lacks (n, p, record { place = h; point = i.0; unrefuted = y.unrefuted }, (omega (arith, ints, i.1, i.0.above d)))

-- from the high end on there is no point
pub high_none : (cs : List Cond) (S : State) (o d : ℕ) (b : Region) (v : ℤ) → v ≡ high S o d → b ≡ from_on (reach S o).region d v → LacksHigh cs S o d → (n : ℕ) → has S o n ≡ true → HasNoPoint cs S o n b
high_none cs S o d b v q e l n h p y =
    let i = in_part_from (reach S o).region d v p l.dimension (omega (arith, ints, l.wide)) (subst (InBox p) e y.point) in
    l.lacks (n, p, record { place = h; point = i.0; unrefuted = y.unrefuted }, (omega (arith, ints, i.1, i.0.below d)))

-- the low end rises by 1, with the covers up to it
pub raise_led : (cs : List Cond) (S : State) (o d : ℕ) (b : Region) (v w : ℤ) (old mid end : List Event) → v ≡ low S o d → w ≡ low S o d +ℤ pos 1 → b ≡ part_to (reach S o).region d v → HasSmallIntervals S → LacksLow cs S o d
    → mid ≡ old ++ (Raise (record { 0 = o }) d w ∷ []) → RecordedCovers cs S o b mid end → IsLed cs S (set S o (with_low (reach S o) d (low S o d +ℤ pos 1))) old end
raise_led cs S o d b v w old mid end q f e small l m r =
    let u : ℤ = low S o d +ℤ pos 1 in
    let least : v ≡ int_min (high S o d) (u +ℤ negsuc 0) = omega (arith, ints, clamps, l.wide) in
    let same : b ≡ far (From d u) (reach S o).region = e ∙ ap (part_to (reach S o).region d) least in
    bound_led cs S (set S o (with_low (reach S o) d u)) o (From d u) old mid end l.object
    (l.dimension, omega (arith, ints, (small o d).0.0), omega (arith, ints, (small o d).0.1)) (omega (arith, ints))
    (m ∙ ap (λ (x : ℤ). old ++ (Raise (record { 0 = o }) d x ∷ [])) f) (subst (λ (x : Region). RecordedCovers cs S o x mid end) same r) refl

-- the high end falls by 1, with the covers from it on
pub lower_led : (cs : List Cond) (S : State) (o d : ℕ) (b : Region) (v w : ℤ) (old mid end : List Event) → v ≡ high S o d → w ≡ high S o d +ℤ negsuc 0 → b ≡ from_on (reach S o).region d v → HasSmallIntervals S → LacksHigh cs S o d
    → mid ≡ old ++ (Lower (record { 0 = o }) d w ∷ []) → RecordedCovers cs S o b mid end → IsLed cs S (set S o (with_high (reach S o) d (high S o d +ℤ negsuc 0))) old end
lower_led cs S o d b v w old mid end q f e small l m r =
    let u : ℤ = high S o d +ℤ negsuc 0 in
    let most : v ≡ int_max (low S o d) (u +ℤ pos 1) = omega (arith, ints, clamps, l.wide) in
    let same : b ≡ far (Upto d u) (reach S o).region = e ∙ ap (from_on (reach S o).region d) most in
    bound_led cs S (set S o (with_high (reach S o) d u)) o (Upto d u) old mid end l.object
    (l.dimension, omega (arith, ints, (small o d).1.0), omega (arith, ints, (small o d).1.1)) (omega (arith, ints))
    (m ∙ ap (λ (x : ℤ). old ++ (Lower (record { 0 = o }) d x ∷ [])) f) (subst (λ (x : Region). RecordedCovers cs S o x mid end) same r) refl

-- ---- chains behind the old events

-- a chain that is known from a state that is the same
pub led_from : (cs : List Cond) (S X T : State) (step : State → State) (old now : List Event) → X ≡ S → T ≡ step S → IsLed cs X (step X) old now → IsLed cs S T old now
led_from cs S X T step old now e f h = subst (λ (Y : State). IsLed cs S Y old now) (sym f) (subst (λ (Y : State). IsLed cs Y (step Y) old now) e h)
