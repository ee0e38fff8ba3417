-- What the loops of a pruning keep.
use Rattle.std.proofs.Common.{◌≡◌, ◌≢◌, ℕ, zero, suc, ◌+◌, ◌<◌, ◌≤◌, Bool, true, false, List, length, set, refl, sym, ap, ◌∙◌, subst, inl, inr, ◌⊎◌, arith, ℤ, pos, ◌≤ℤ◌, ◌<ℤ◌, Option, Some, None, ◌||◌}
use Rattle.std.proofs.lemmas.Int.{ints}
use Rattle.std.proofs.lemmas.Bool.{cases_eq, false≢true, lt-ltb}
use Rattle.geo_base.specs.Boxes.{coordinate}
use Rattle.geo_base.specs.Ways.{toward, dimension}
use Rattle.geo_conditions.specs.declared.cond.Cond.{Cond}
use Rattle.geo_conditions.specs.Reach.{State, Reach, Region, IsState, reach, has, low, high, dims, place_in, with_low, with_high, without, Inside}
use Rattle.geo_conditions.specs.Supported.{CanBeAt, HasNoPoint, IsFirstPoint}
use Rattle.geo_conditions.specs.Keeps.{size}
use Rattle.geo_conditions.proofs.Points.{inside_self, inside_trans}
use Rattle.geo_conditions.proofs.Monotone.{le_trans}
use Rattle.geo_conditions.proofs.Greatest.{narrowed}
use Rattle.geo_conditions.proofs.Decide.{cases_ℤ}
use Rattle.std.proofs.lemmas.List.{get_or-set_same, get_or-set_other}
use Rattle.geo_state.specs.Trail.{HasSmallIntervals, IsSmallEnd}
use Rattle.geo_state.proofs.Fits.{all_fit}
use Rattle.geo_state.proofs.Narrower.{low_within, high_within, without_within}
use Rattle.geo_state.proofs.Shapes.{lo_long, hi_long}
use Rattle.object_pruning.specs.Pruning.{outcome, CanBe, HasSamePoints, IsTight, PrunesTo}
use Rattle.object_pruning.specs.declared.prune.Pruned.TheVariants.{Empty, Changed, Same}
use Rattle.object_pruning.specs.declared.kept.Placed.{Placed}
use Rattle.object_pruning.specs.Ends.{CanMove, IsSooner, IsFirstAt, IsOutermostPoint, IsOutermost, HasSome, Shrinks, DropsPlaces, end, IsTightEnd, MovesEnd, MovesEnds}
use Rattle.object_pruning.specs.Record.{with_end}
use Rattle.object_pruning.proofs.Narrowing.{same_self, same_trans, raised_points, lowered_points, raised_smaller, lowered_smaller, dropped_points, dropped_smaller, place_gone, reach_set}

-- ---- the outermost coordinate

-- the lead is the most significant dimension
lead_first : (K d : ℕ) → d < K → dimension K d 0 ≡ d
lead_first K d h = rw (lt-ltb (d + 0) K (omega (arith, h))) (omega arith)

-- the first point of a way has the outermost coordinate in the lead dimension
pub first_outermost : (K d : ℕ) (up : Bool) (cs : List Cond) (S : State) (o s : ℕ) (b : Region) (p q : List ℤ) → d < K → IsFirstPoint K d up cs S o s b p → CanBeAt cs S o s b q → toward up (coordinate p d) ≤ℤ toward up (coordinate q d)
first_outermost K d up cs S o s b p q h f y =
    let e = lead_first K d h in
    subst (λ (i : ℕ). toward up (coordinate p i) ≤ℤ toward up (coordinate q i)) e (by_order (toward up (coordinate p (dimension K d 0))) (toward up (coordinate q (dimension K d 0))) (λ l. f.first q y (0, omega (arith, h), l, λ i m. absurd (omega arith))))
  where
    by_order : (x y : ℤ) → (y <ℤ x → ⊥) → x ≤ℤ y
    by_order x y n = elim (cases_ℤ y x) [ inl l ↦ absurd (n l) | inr l ↦ l ]

-- the best point over the places below n; without one there is no point at them
abbrev pub IsBest : {K : ℕ} → List Cond → State → ℕ → ℕ → Bool → ℕ → Option (Placed K) → Type 0
IsBest cs S o d up n None = (s : ℕ) (p : List ℤ) → s < n → CanBe cs S o s p → ⊥
IsBest cs S o d up n (Some b) = CanBe cs S o b.place b.point.coordinates
    × ((s : ℕ) (p : List ℤ) → s < n → CanBe cs S o s p → toward up (coordinate b.point.coordinates d) ≤ℤ toward up (coordinate p d))

-- a place is there only from 1 on
pub not_zero : (cs : List Cond) (S : State) (o : ℕ) (p : List ℤ) → CanBe cs S o 0 p → ⊥
not_zero cs S o p y = false≢true y.place

pub best_start : (K : ℕ) (cs : List Cond) (S : State) (o d : ℕ) (up : Bool) → IsBest {K = K} cs S o d up 1 None
best_start K cs S o d up zero p h y = not_zero cs S o p y
best_start K cs S o d up (suc s) p h y = absurd (omega arith)

-- one place more, at which the object has no point
pub best_skip : {K : ℕ} (cs : List Cond) (S : State) (o d : ℕ) (up : Bool) (n : ℕ) (b : Option (Placed K)) → IsBest cs S o d up n b → ((p : List ℤ) → CanBe cs S o n p → ⊥) → IsBest cs S o d up (n + 1) b
best_skip cs S o d up n None h none = λ s p l y. elim (cases_eq s n) [ inl e ↦ none p (subst (λ (m : ℕ). CanBe cs S o m p) e y) | inr ne ↦ h s p (omega arith) y ]
best_skip cs S o d up n (Some b) h none = (h.0, λ s p l y. elim (cases_eq s n) [ inl e ↦ absurd (none p (subst (λ (m : ℕ). CanBe cs S o m p) e y)) | inr ne ↦ h.1 s p (omega arith) y ])

-- one place more, and its first point
pub best_found : {K : ℕ} (cs : List Cond) (S : State) (o d : ℕ) (up : Bool) (n : ℕ) (b : Option (Placed K)) (q r : Placed K) → IsBest cs S o d up n b → IsFirstAt cs S o n d up q → IsSooner d up b q r → IsBest cs S o d up (n + 1) (Some r)
best_found {K} cs S o d up n None q r h f i = subst (λ (x : Placed K). IsBest cs S o d up (n + 1) (Some x)) (sym i) (
  f.0,
  λ s p l y. elim (cases_eq s n) [
    | inl m ↦ f.1 p (subst (λ (z : ℕ). CanBe cs S o z p) m y)
    | inr ne ↦ absurd (h s p (omega arith) y)
  ],
)
best_found {K} cs S o d up n (Some b) q r h f i = (
  elim i.0 [
    | inl e ↦ subst (λ (x : Placed K). CanBe cs S o x.place x.point.coordinates) (sym e) h.0
    | inr e ↦ subst (λ (x : Placed K). CanBe cs S o x.place x.point.coordinates) (sym e) f.0
  ],
  λ s p l y. elim (cases_eq s n) [
    | inl m ↦ le_trans _ _ _ i.2 (f.1 p (subst (λ (z : ℕ). CanBe cs S o z p) m y))
    | inr ne ↦ le_trans _ _ _ i.1 (h.1 s p (omega arith) y)
  ],
)

-- a point that has the end as its coordinate: none lies further out
pub at_end : {K : ℕ} (cs : List Cond) (S : State) (o d : ℕ) (up : Bool) (q : Placed K) → CanBe cs S o q.place q.point.coordinates → coordinate q.point.coordinates d ≡ end up S o d → IsOutermostPoint cs S o d up q
at_end cs S o d up q y e = (
  y,
  record {
    there = (q.place, q.point.coordinates, y, refl);
    first = λ s p z. subst (λ (v : ℤ). toward up v ≤ℤ toward up (coordinate p d)) (sym e) (by_side up (coordinate p d) (z.point.point.above d) (z.point.point.below d));
  },
)
  where
    by_side : (u : Bool) (v : ℤ) → low S o d ≤ℤ v → v ≤ℤ high S o d → toward u (end u S o d) ≤ℤ toward u v
    by_side true v l h = l
    by_side false v l h = omega (arith, ints)

pub best_end : {K : ℕ} (cs : List Cond) (S : State) (o d : ℕ) (up : Bool) (n : ℕ) (q : Placed K) → ((s : ℕ) → has S o s ≡ true → s < n) → IsBest cs S o d up n (Some q) → IsOutermostPoint cs S o d up q
best_end {K} cs S o d up n q few b = (
  b.0,
  record {
    there = (q.place, q.point.coordinates, b.0, refl);
    first = λ s p y. b.1 s p (few s y.place) y;
  },
)

pub best_none : (K : ℕ) (cs : List Cond) (S : State) (o d : ℕ) (up : Bool) (n : ℕ) → ((s : ℕ) → has S o s ≡ true → s < n) → IsBest {K = K} cs S o d up n None → HasSome cs S o → ⊥
best_none K cs S o d up n few b y = b y.0 y.1 (few y.0 y.2.place) y.2

-- ---- the places

-- of the places below n those without a point are gone
pub record DropsBelow (cs : List Cond) (o n : ℕ) (S : State) (some dropped : Bool) (T : State) : Type 0 where
  pub points : HasSamePoints cs o S T
  pub have : (s : ℕ) → s < n → has T o s ≡ true → (p : List ℤ) × CanBe cs T o s p
  pub found : some ≡ true → HasSome cs T o
  pub none : some ≡ false → (s : ℕ) → s < n → has T o s ≡ true → ⊥
  pub region : (reach T o).region ≡ (reach S o).region
  pub inside : Inside T S
  pub shrinks : Shrinks dropped S T

pub drops_start : (cs : List Cond) (o : ℕ) (S : State) → DropsBelow cs o 1 S false false S
drops_start cs o S = record {
  points = same_self cs o S;
  have = λ s h t. absurd (zero_place s h t);
  found = λ e. absurd (false≢true e);
  none = λ e s h t. zero_place s h t;
  region = refl;
  inside = inside_self S;
  shrinks = refl;
}
  where
    zero_place : (s : ℕ) → s < 1 → has S o s ≡ true → ⊥
    zero_place zero h t = false≢true t
    zero_place (suc s) h t = absurd (omega arith)

-- one place more, which has a point
pub drops_there : (cs : List Cond) (o n : ℕ) (S : State) (some dropped : Bool) (T : State) (p : List ℤ) → DropsBelow cs o n S some dropped T → CanBe cs T o n p → DropsBelow cs o (n + 1) S true dropped T
drops_there cs o n S some dropped T p k y = record {
  points = k.points;
  have = λ s h t. elim (cases_eq s n) [ inl e ↦ subst (λ (m : ℕ). (p : List ℤ) × CanBe cs T o m p) (sym e) (p, y) | inr ne ↦ k.have s (omega arith) t ];
  found = λ e. (n, p, y);
  none = λ e. absurd (false≢true (sym e));
  region = k.region;
  inside = k.inside;
  shrinks = k.shrinks;
}

-- one place more, which is not there
pub drops_absent : (cs : List Cond) (o n : ℕ) (S : State) (some dropped : Bool) (T : State) → DropsBelow cs o n S some dropped T → has T o n ≡ false → DropsBelow cs o (n + 1) S some dropped T
drops_absent cs o n S some dropped T k f = record {
  points = k.points;
  have = λ s h t. elim (cases_eq s n) [ inl e ↦ absurd (gone s e t) | inr ne ↦ k.have s (omega arith) t ];
  found = k.found;
  none = λ x s h t. elim (cases_eq s n) [ inl e ↦ gone s e t | inr ne ↦ k.none x s (omega arith) t ];
  region = k.region;
  inside = k.inside;
  shrinks = k.shrinks;
}
  where
    gone : (s : ℕ) → s ≡ n → has T o s ≡ true → ⊥
    gone s e t = false≢true (sym f ∙ subst (λ (m : ℕ). has T o m ≡ true) e t)

shrinks_on : (b : Bool) (S T U : State) → Shrinks b S T → size U < size T → size U < size S
shrinks_on true S T U h l = omega (arith, h, l)
shrinks_on false S T U h l = subst (λ (X : State). size U < size X) h l

-- one place more, which goes
pub drops_gone : (cs : List Cond) (o n : ℕ) (S : State) (some dropped : Bool) (T U : State) → o < length T → 0 < n → DropsBelow cs o n S some dropped T → has T o n ≡ true → HasNoPoint cs T o n (reach T o).region
    → U ≡ set T o (without (reach T o) n) → DropsBelow cs o (n + 1) S some true U
drops_gone cs o n S some dropped T U h l k t none q = subst (DropsBelow cs o (n + 1) S some true) (sym q) (
    let r = without (reach T o) n in
    let N = set T o r in
    let e : reach N o ≡ r = reach_set T o r h in
    let pts : HasSamePoints cs o T N = dropped_points cs T o n h l none in
    let i : Inside N T = narrowed T o r (without_within (reach T o) n) h in
    let gone : has N o n ≡ true → ⊥ = λ x. place_gone (reach T o).places n l (subst (λ (y : Reach). place_in y.places n ≡ true) e x) in
    record {
      points = same_trans cs o S T N k.points pts;
      have = λ s b x. elim (cases_eq s n) [
        | inl m ↦ absurd (gone (subst (λ (z : ℕ). has N o z ≡ true) m x))
        | inr ne ↦ let y = k.have s (omega arith) ((i.each o).places s x) in (y.0, (pts.points s y.0).0 y.1)
      ];
      found = λ x. let y = k.found x in (y.0, y.1, (pts.points y.0 y.1).0 y.2);
      none = λ x s b z. elim (cases_eq s n) [
        | inl m ↦ gone (subst (λ (z : ℕ). has N o z ≡ true) m z)
        | inr ne ↦ k.none x s (omega arith) ((i.each o).places s z)
      ];
      region = ap (λ (y : Reach). y.region) e ∙ k.region;
      inside = inside_trans N T S i k.inside;
      shrinks = shrinks_on dropped S T N k.shrinks (dropped_smaller T o n h t);
    })

-- said of the same values
pub drops_as : (cs : List Cond) (o n : ℕ) (S : State) (a a' b b' : Bool) (T T' : State) → a' ≡ a → b' ≡ b → T' ≡ T → DropsBelow cs o n S a b T → DropsBelow cs o n S a' b' T'
drops_as cs o n S a a' b b' T T' p q r k = subst (λ (x : Bool). DropsBelow cs o n S x b' T') (sym p) (subst (λ (x : Bool). DropsBelow cs o n S a x T') (sym q) (subst (DropsBelow cs o n S a b) (sym r) k))

pub drops_end : (cs : List Cond) (o n : ℕ) (S : State) (some dropped : Bool) (T : State) → ((s : ℕ) → has S o s ≡ true → s < n) → DropsBelow cs o n S some dropped T → DropsPlaces cs o S some dropped T
drops_end cs o n S some dropped T all k =
    let few : (s : ℕ) → has T o s ≡ true → s < n = λ s t. all s ((k.inside.each o).places s t) in
    record {
      points = k.points;
      have = λ s t. k.have s (few s t) t;
      found = k.found;
      none = λ x y. let z = (k.points.points y.0 y.1).0 y.2 in k.none x y.0 (few y.0 z.place) z.place;
      region = k.region;
      inside = k.inside;
      shrinks = k.shrinks;
    }

-- ---- the ends

-- an end that stands right
pub moves_none : (cs : List Cond) (S : State) (o d : ℕ) (up : Bool) → IsTightEnd cs S o d up → MovesEnd cs o d up S false S
moves_none cs S o d up t = record {
  points = same_self cs o S;
  tight = t;
  places = refl;
  others = λ i other ne. refl;
  inside = inside_self S;
  shrinks = refl;
}

pub moves_not : (cs : List Cond) (S : State) (o d : ℕ) (up : Bool) (v : ℤ) → IsOutermost cs S o d up v → v ≡ end up S o d → MovesEnd cs o d up S false S
moves_not cs S o d up v b e = moves_none cs S o d up (b.there.0, b.there.1, b.there.2, b.there.3 ∙ e)

-- the outermost coordinate lies in the interval
pub outermost_in : (cs : List Cond) (S : State) (o d : ℕ) (up : Bool) (v : ℤ) → IsOutermost cs S o d up v → (low S o d ≤ℤ v) × (v ≤ℤ high S o d)
outermost_in cs S o d up v b =
    let y = b.there.2.point.point in
    let e = b.there.3 in (
      subst (λ (z : ℤ). low S o d ≤ℤ z) e (y.above d),
      subst (λ (z : ℤ). z ≤ℤ high S o d) e (y.below d),
    )

-- and so it is small
pub outermost_small : (cs : List Cond) (S : State) (o d : ℕ) (up : Bool) (v : ℤ) → HasSmallIntervals S → IsOutermost cs S o d up v → IsSmallEnd v
outermost_small cs S o d up v m b = let i = outermost_in cs S o d up v b in (omega (arith, ints, i.0, (m o d).0.0), omega (arith, ints, i.1, (m o d).1.1))

-- said of a point that was sought on a state of the same value
module _ {K : ℕ} (cs : List Cond) (R S : State) (o d : ℕ) (up : Bool) (q : Placed K) (v : ℤ) (same : R ≡ S) where
  pub sought_within : IsOutermostPoint cs R o d up q → v ≡ coordinate q.point.coordinates d → (low S o d ≤ℤ v) × (v ≤ℤ high S o d)
  sought_within out at = subst (λ (T : State). (low T o d ≤ℤ v) × (v ≤ℤ high T o d)) same (subst (λ (z : ℤ). (low R o d ≤ℤ z) × (z ≤ℤ high R o d)) (sym at) (outermost_in cs R o d up (coordinate q.point.coordinates d) out.1))

  pub sought_small : HasSmallIntervals S → IsOutermostPoint cs R o d up q → v ≡ coordinate q.point.coordinates d → IsSmallEnd v
  sought_small small out at = subst IsSmallEnd (sym at) (outermost_small cs S o d up (coordinate q.point.coordinates d) small (subst (λ (T : State). IsOutermostPoint cs T o d up q) same out).1)

-- the low end moves
pub moves_low : (K : ℕ) (cs : List Cond) (S T : State) (o d : ℕ) (v : ℤ) → IsState K S → o < length S → d < K → IsOutermost cs S o d true v → v ≢ low S o d → T ≡ set S o (with_low (reach S o) d v) → MovesEnd cs o d true S true T
moves_low K cs S T o d v i h l b ne q = subst (MovesEnd cs o d true S true) (sym q) (
    let r = with_low (reach S o) d v in
    let N = set S o r in
    let e : reach N o ≡ r = reach_set S o r h in
    let m = outermost_in cs S o d true v b in
    let k : d < dims S o = omega (arith, l, lo_long K S o i h) in
    let pts = raised_points cs S o d v h m.0 b.first in
    record {
      points = pts;
      tight = (b.there.0, b.there.1, (pts.points b.there.0 b.there.1).0 b.there.2, b.there.3 ∙ sym (ap (λ (y : Reach). coordinate y.region.lo d) e ∙ get_or-set_same (reach S o).region.lo d v (pos 0) k));
      places = ap (λ (y : Reach). y.places) e;
      others = λ j other w. by_side other j w e;
      inside = narrowed S o r (low_within (reach S o) d v m.0) h;
      shrinks = raised_smaller S o d v h k (lo_long K S o i h ∙ sym (hi_long K S o i h)) (omega (arith, ints, m.0, ne)) m.1;
    })
  where
    by_side : (other : Bool) (j : ℕ) → (j ≢ d) ⊎ (other ≢ true) → reach (set S o (with_low (reach S o) d v)) o ≡ with_low (reach S o) d v → end other (set S o (with_low (reach S o) d v)) o j ≡ end other S o j
    by_side true j (inl n) e = ap (λ (y : Reach). coordinate y.region.lo j) e ∙ get_or-set_other (reach S o).region.lo d j v (pos 0) n
    by_side true j (inr n) e = absurd (n refl)
    by_side false j w e = ap (λ (y : Reach). coordinate y.region.hi j) e

-- the high end moves
pub moves_high : (K : ℕ) (cs : List Cond) (S T : State) (o d : ℕ) (v : ℤ) → IsState K S → o < length S → d < K → IsOutermost cs S o d false v → v ≢ high S o d → T ≡ set S o (with_high (reach S o) d v) → MovesEnd cs o d false S true T
moves_high K cs S T o d v i h l b ne q = subst (MovesEnd cs o d false S true) (sym q) (
    let r = with_high (reach S o) d v in
    let N = set S o r in
    let e : reach N o ≡ r = reach_set S o r h in
    let m = outermost_in cs S o d false v b in
    let k : d < length (reach S o).region.hi = omega (arith, l, hi_long K S o i h) in
    let pts = lowered_points cs S o d v h m.1 (λ s p y. let z = b.first s p y in turned v (coordinate p d) z) in
    record {
      points = pts;
      tight = (b.there.0, b.there.1, (pts.points b.there.0 b.there.1).0 b.there.2, b.there.3 ∙ sym (ap (λ (y : Reach). coordinate y.region.hi d) e ∙ get_or-set_same (reach S o).region.hi d v (pos 0) k));
      places = ap (λ (y : Reach). y.places) e;
      others = λ j other w. by_side other j w e;
      inside = narrowed S o r (high_within (reach S o) d v m.1) h;
      shrinks = lowered_smaller S o d v h (omega (arith, l, lo_long K S o i h)) (lo_long K S o i h ∙ sym (hi_long K S o i h)) (omega (arith, ints, m.1, ne)) m.0;
    })
  where
    turned : (a b : ℤ) → toward false a ≤ℤ toward false b → b ≤ℤ a
    turned a b h = omega (arith, ints)

    by_side : (other : Bool) (j : ℕ) → (j ≢ d) ⊎ (other ≢ false) → reach (set S o (with_high (reach S o) d v)) o ≡ with_high (reach S o) d v → end other (set S o (with_high (reach S o) d v)) o j ≡ end other S o j
    by_side false j (inl n) e = ap (λ (y : Reach). coordinate y.region.hi j) e ∙ get_or-set_other (reach S o).region.hi d j v (pos 0) n
    by_side false j (inr n) e = absurd (n refl)
    by_side true j w e = ap (λ (y : Reach). coordinate y.region.lo j) e

-- either end moves
pub moves_set : (K : ℕ) (cs : List Cond) (S T : State) (o d : ℕ) (up : Bool) (v : ℤ) → IsState K S → o < length S → d < K → IsOutermost cs S o d up v → v ≢ end up S o d → T ≡ with_end S o d up v → MovesEnd cs o d up S true T
moves_set K cs S T o d true v i h l b ne q = moves_low K cs S T o d v i h l b ne q
moves_set K cs S T o d false v i h l b ne q = moves_high K cs S T o d v i h l b ne q

-- an end keeps its point where it stays and no point is lost
pub tight_kept : (cs : List Cond) (o d : ℕ) (up : Bool) (S T : State) → HasSamePoints cs o S T → end up T o d ≡ end up S o d → IsTightEnd cs S o d up → IsTightEnd cs T o d up
tight_kept cs o d up S T k e y = (y.0, y.1, (k.points y.0 y.1).0 y.2, y.3 ∙ sym e)

pub shrinks_or : (a b : Bool) (S T U : State) → Shrinks a S T → Shrinks b T U → Shrinks (a || b) S U
shrinks_or true true S T U h k = omega (arith, h, k)
shrinks_or true false S T U h k = subst (λ (X : State). size X < size S) (sym k) h
shrinks_or false true S T U h k = subst (λ (X : State). size U < size X) h k
shrinks_or false false S T U h k = k ∙ h

-- both ends of each interval below n moved, or stood right
pub record MovesBelow (cs : List Cond) (o n : ℕ) (S : State) (moved : Bool) (T : State) : Type 0 where
  pub points : HasSamePoints cs o S T
  pub tight : (d : ℕ) (up : Bool) → d < n → IsTightEnd cs T o d up
  pub places : (reach T o).places ≡ (reach S o).places
  pub inside : Inside T S
  pub shrinks : Shrinks moved S T

pub moves_start : (cs : List Cond) (o : ℕ) (S : State) → MovesBelow cs o 0 S false S
moves_start cs o S = record { points = same_self cs o S; tight = λ d up h. absurd (omega arith); places = refl; inside = inside_self S; shrinks = refl }

-- both ends of one interval more
pub moves_on : (cs : List Cond) (o n : ℕ) (S T U V : State) (m a b : Bool) → MovesBelow cs o n S m T → MovesEnd cs o n true T a U → MovesEnd cs o n false U b V → MovesBelow cs o (n + 1) S ((m || a) || b) V
moves_on cs o n S T U V m a b k x y = record {
  points = same_trans cs o S U V (same_trans cs o S T U k.points x.points) y.points;
  tight = λ d up h. elim (cases_eq d n) [
    | inl e ↦ subst (λ (i : ℕ). IsTightEnd cs V o i up) (sym e) (here up)
    | inr ne ↦ tight_kept cs o d up U V y.points (y.others d up (inl ne)) (tight_kept cs o d up T U x.points (x.others d up (inl ne)) (k.tight d up (omega arith)))
  ];
  places = y.places ∙ x.places ∙ k.places;
  inside = inside_trans V U S y.inside (inside_trans U T S x.inside k.inside);
  shrinks = shrinks_or (m || a) b S U V (shrinks_or m a S T U k.shrinks x.shrinks) y.shrinks;
}
  where
    here : (up : Bool) → IsTightEnd cs V o n up
    here true = tight_kept cs o n true U V y.points (y.others n true (inr (λ e. false≢true (sym e)))) x.tight
    here false = y.tight

pub moves_end : (K : ℕ) (cs : List Cond) (o n : ℕ) (S : State) (moved : Bool) (T : State) → IsState K S → o < length S → K ≤ n → MovesBelow cs o n S moved T → MovesEnds cs o S moved T
moves_end K cs o n S moved T i h l k = record {
  points = k.points;
  tight = λ d up b. k.tight d up (omega (arith, b, l, lo_long K S o i h));
  places = k.places;
  inside = k.inside;
  shrinks = k.shrinks;
}

-- ---- the whole object

-- a point that is there stays
pub some_kept : (cs : List Cond) (o : ℕ) (S T : State) → HasSamePoints cs o S T → HasSome cs S o → HasSome cs T o
some_kept cs o S T k y = (y.0, y.1, (k.points y.0 y.1).0 y.2)

-- an end that moved leaves what a further move asks for
pub can_move_on : (all cs : List Cond) (o d : ℕ) (up : Bool) (S T : State) (moved : Bool) → MovesEnd cs o d up S moved T → CanMove all cs S o → CanMove all cs T o
can_move_on all cs o d up S T moved m k = record {
  fits = all_fit all S T m.inside k.fits;
  object = omega (arith, m.inside.objects, k.object);
  some = some_kept cs o S T m.points k.some;
}

-- without a point no place is left
pub none_left : (cs : List Cond) (o : ℕ) (S T : State) (some dropped : Bool) → DropsPlaces cs o S some dropped T → some ≡ false → (s : ℕ) → has T o s ≡ true → ⊥
none_left cs o S T some dropped k e s t = let y = k.have s t in k.none e (s, y.0, (k.points.points s y.0).1 y.1)

pub prunes_empty : (cs : List Cond) (o : ℕ) (S T : State) (dropped : Bool) → DropsPlaces cs o S false dropped T → PrunesTo cs o S Empty T
prunes_empty cs o S T dropped k = (λ s p y. k.none refl (s, p, y), k.inside)

-- places first, and then ends: all is tight
tight_of : (cs : List Cond) (o : ℕ) (S T U : State) (some dropped moved : Bool) → DropsPlaces cs o S some dropped T → MovesEnds cs o T moved U → IsTight cs U o
tight_of cs o S T U some dropped moved k m = record {
  places = λ s t. let y = k.have s (subst (λ (bs : List Bool). place_in bs s ≡ true) m.places t) in (y.0, (m.points.points s y.0).0 y.1);
  lows = λ d b. m.tight d true (omega (arith, b, (m.inside.each o).same_lo));
  highs = λ d b. m.tight d false (omega (arith, b, (m.inside.each o).same_lo));
}

pub prunes_changed : (cs : List Cond) (o : ℕ) (S T U : State) (some dropped moved : Bool) → DropsPlaces cs o S some dropped T → MovesEnds cs o T moved U → (dropped || moved) ≡ true → PrunesTo cs o S Changed U
prunes_changed cs o S T U some dropped moved k m e = (
  same_trans cs o S T U k.points m.points,
  tight_of cs o S T U some dropped moved k m,
  inside_trans U T S m.inside k.inside,
  subst (λ (b : Bool). Shrinks b S U) e (shrinks_or dropped moved S T U k.shrinks m.shrinks),
)

pub prunes_same : (cs : List Cond) (o : ℕ) (S T U : State) (some dropped moved : Bool) → DropsPlaces cs o S some dropped T → MovesEnds cs o T moved U → (dropped || moved) ≡ false → PrunesTo cs o S Same U
prunes_same cs o S T U some dropped moved k m e =
    let q : U ≡ S = subst (λ (b : Bool). Shrinks b S U) e (shrinks_or dropped moved S T U k.shrinks m.shrinks) in
    (q, subst (λ (X : State). IsTight cs X o) q (tight_of cs o S T U some dropped moved k m))

-- whether something moved or not
pub prunes_as : (cs : List Cond) (o : ℕ) (S T U : State) (some dropped moved : Bool) → DropsPlaces cs o S some dropped T → MovesEnds cs o T moved U → PrunesTo cs o S (outcome (dropped || moved)) U
prunes_as cs o S T U some dropped moved k m = by (dropped || moved) refl
  where
    by : (b : Bool) → (dropped || moved) ≡ b → PrunesTo cs o S (outcome b) U
    by true e = prunes_changed cs o S T U some dropped moved k m e
    by false e = prunes_same cs o S T U some dropped moved k m e
