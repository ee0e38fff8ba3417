-- The first state: how it is made, its tuples and its ends; and what the search order names.
use Rattle.std.proofs.Common.{◌≡◌, ◌<◌, ◌≤◌, ◌+◌, ◌-◌, ◌↔◌, ℕ, zero, suc, ℤ, pos, negsuc, ◌≤ℤ◌, Bool, true, false, List, [], ◌∷◌, ◌++◌, length, map, take, get_or, replicate, subst, sym, ◌∙◌, ap, arith, refl}
use Rattle.std.specs.Prelude.{slice_index_or, All}
use Rattle.std.proofs.lemmas.Bool.{false≢true, cases_lt}
use Rattle.std.proofs.lemmas.Int.{ints}
use Rattle.std.proofs.Math.Logic.{⊎_elim}
use Rattle.std.proofs.lemmas.List.{ext_get_or, length-map, get_or-map, get_or_past, get_or-replicate, get_or_append_left, get_or-append_right, length-replicate, take_more, take_all, map-append}
use Rattle.geo_base.specs.Boxes.{coordinate}
use Rattle.geo_base.specs.declared.point.Point.{Point}
use Rattle.geo_base.specs.declared.kbox.KBox.{KBox}
use Rattle.geo_conditions.specs.Regions.{region_of}
use Rattle.geo_base.specs.Tuple.{Spot, Tuple, spot}
use Rattle.geo_conditions.specs.declared.object.TheConstants.{MAX_SHAPES}
use Rattle.geo_conditions.specs.Reach.{State, Reach, Region, reach, nowhere, place_in, first_places, InBox, SpotIn, TupleIn}
use Rattle.geo_conditions.specs.declared.object.ObjId.{ObjId}
use Rattle.geo_conditions.specs.Order.{numbers_of}
use Rattle.geo_conditions.specs.Walk.{Order, NamesEach}
use Rattle.problem_data.specs.declared.tree.Side.{Side}
use Rattle.problem_data.specs.Problem.{RangeData, ObjectData, no_object, ProblemData, runs_down}
use Rattle.problem_data.specs.Pieces.{hull, hulls}
use Rattle.problem_data.specs.Tuple.{object_of}
use Rattle.problem_data.specs.Cells.{range_at, IsInRanges, IsWideSpotOf, IsWideTuple}
use Rattle.problem_data.specs.Places.{place_count}
use Rattle.problem_data.specs.WellFormed.{IsRange, IsObject, IsWellFormed}
use Rattle.rule_ground.specs.Order.{order_of}
use Rattle.rule_ground.specs.Start.{whole_region, whole_reach, first_state, HasSmallEnds}
use Rattle.problem_data.proofs.Hulls.{hulls_are_ranges}

-- ---- the order

pub names-each : (p : ProblemData) → IsWellFormed p → NamesEach p.dims (first_state p) (order_of p)
names-each p w =
    let n : length p.objects ≡ length (map whole_reach p.objects) = sym (length-map p.objects whole_reach) in
    record {
      objects = subst (λ (m : ℕ). All (λ o. o < m) p.order) n w.order;
      each = λ o h. w.each o (subst (λ (m : ℕ). o < m) (sym n) h);
      once = w.once;
      dimensions = length-map p.sides runs_down ∙ w.sides;
    }

-- ---- a region

low_of : RangeData → ℤ
low_of r = r.low

-- lists of ends that agree with the ranges
pub ends-made : (k : ℕ) (f : RangeData → ℤ) (xs : List ℤ) (rs : List RangeData) → length xs ≡ k → length rs ≡ k → ((e : ℕ) → e < k → coordinate xs e ≡ f (range_at rs e)) → xs ≡ map f rs
ends-made k f xs rs m n each =
    ext_get_or (pos 0) xs (map f rs) (m ∙ sym (length-map rs f ∙ n))
    (λ i h. each i (subst (λ (c : ℕ). i < c) m h)
    ∙ sym (get_or-map f rs i (record { low = pos 0; high = pos 0 }) (pos 0) (subst (λ (c : ℕ). i < c) (m ∙ sym n) h)))

pub region-made : (k : ℕ) (lo hi : List ℤ) (rs : List RangeData) → length lo ≡ k → length hi ≡ k → length rs ≡ k
    → ((e : ℕ) → e < k → coordinate lo e ≡ (range_at rs e).low) → ((e : ℕ) → e < k → coordinate hi e ≡ (range_at rs e).high)
    → (lo ≡ map (λ (r : RangeData). r.low) rs) × (hi ≡ map (λ (r : RangeData). r.high) rs)
region-made k lo hi rs a b n lows highs = (ends-made k (λ (r : RangeData). r.low) lo rs a n lows, ends-made k (λ (r : RangeData). r.high) hi rs b n highs)

pub region-is : (lo hi : List ℤ) (rs : List RangeData) → (lo ≡ map (λ (r : RangeData). r.low) rs) × (hi ≡ map (λ (r : RangeData). r.high) rs)
    → (let whole : Region = record { lo = map (λ (r : RangeData). r.low) rs; hi = map (λ (r : RangeData). r.high) rs } in let made : Region = record { lo = lo; hi = hi } in made ≡ whole)
region-is lo hi rs e = λ i. record { lo = e.0 i; hi = e.1 i }

-- ---- one object more

pub object-at : (p : ProblemData) (i : ℕ) (o : ObjectData) → IsWellFormed p → o ≡ get_or p.objects i o → i < length p.objects → IsObject p o
object-at p i o w is h = subst (IsObject p) (sym is) (w.objects i o h)

pub state-more : (os : List ObjectData) (i : ℕ) (o : ObjectData) (S T : State) (r : Region) → i < length os → o ≡ get_or os i o
    → S ≡ map whole_reach (take i os) → r ≡ whole_region o → T ≡ S ++ record { places = first_places (place_count o); region = r } ∷ [] → T ≡ map whole_reach (take (i + 1) os)
state-more os i o S T r h is s e t =
    t
    ∙ (λ j. s j ++ record { places = first_places (place_count o); region = e j } ∷ [])
    ∙ ap (λ (x : ObjectData). map whole_reach (take i os) ++ whole_reach x ∷ []) is
    ∙ sym (map-append whole_reach (take i os) (get_or os i o ∷ []))
    ∙ ap (map whole_reach) (sym (take_more os i o h))

-- ---- places

place-first : (n s : ℕ) → s < n → n ≤ MAX_SHAPES → slice_index_or (first_places n) s false ≡ true
place-first n s h l =
    let long : s < length (replicate n true) = (let e : length (replicate n true) ≡ n = length-replicate n true in omega (arith, e)) in
    get_or_append_left (replicate n true) (replicate (MAX_SHAPES - n) false) false s long ∙ get_or-replicate n s true false h

place-past : (n s : ℕ) → n ≤ s → slice_index_or (first_places n) s false ≡ false
place-past n s h =
    get_or-append_right (replicate n true) (replicate (MAX_SHAPES - n) false) n s false (length-replicate n true) h
    ∙ none (MAX_SHAPES - n) (s - n)
  where
    none : (m j : ℕ) → slice_index_or (replicate m false) j false ≡ false
    none zero j = refl
    none (suc m) zero = refl
    none (suc m) (suc j) = none m j

pub place-there : (n s : ℕ) → n ≤ MAX_SHAPES → (place_in (first_places n) s ≡ true) ↔ ((1 ≤ s) × (s ≤ n))
place-there n zero l = ((λ e. absurd (false≢true e)), (λ h. absurd (omega arith)))
place-there n (suc s) l = (
  (λ e. ⊎_elim (λ h. (omega arith, omega arith)) (λ h. absurd (false≢true (sym (place-past n s h) ∙ e))) (cases_lt s n)),
  (λ h. place-first n s (omega (arith, h.1)) l),
)

-- ---- coordinates of mapped ranges

low-there : (f : RangeData → ℤ) (rs : List RangeData) (d : ℕ) → d < length rs → coordinate (map f rs) d ≡ f (range_at rs d)
low-there f rs d h = get_or-map f rs d (record { low = pos 0; high = pos 0 }) (pos 0) h

pub in-box-out : (rs : List RangeData) (x : List ℤ) → InBox x (record { lo = map (λ (r : RangeData). r.low) rs; hi = map (λ (r : RangeData). r.high) rs }) → (length x ≡ length rs) × IsInRanges rs x
in-box-out rs x b = (
  b.same_lo ∙ length-map rs (λ (r : RangeData). r.low),
  (λ d h. (
    subst (λ (v : ℤ). v ≤ℤ coordinate x d) (low-there (λ (r : RangeData). r.low) rs d h) (b.above d),
    subst (λ (v : ℤ). coordinate x d ≤ℤ v) (low-there (λ (r : RangeData). r.high) rs d h) (b.below d),
  )),
)

at_zero : (a b : ℤ) → a ≡ pos 0 → b ≡ pos 0 → a ≤ℤ b
at_zero a b e f = omega (arith, ints)

pub in-box-in : (rs : List RangeData) (x : List ℤ) → length x ≡ length rs → IsInRanges rs x → InBox x (record { lo = map (λ (r : RangeData). r.low) rs; hi = map (λ (r : RangeData). r.high) rs })
in-box-in rs x n i = record {
  same_lo = n ∙ sym (length-map rs (λ (r : RangeData). r.low));
  same_hi = n ∙ sym (length-map rs (λ (r : RangeData). r.high));
  above = λ d. ⊎_elim
      (λ h. subst (λ (v : ℤ). v ≤ℤ coordinate x d) (sym (low-there (λ (r : RangeData). r.low) rs d h)) (i d h).0)
      (λ h. at_zero (coordinate (map (λ (r : RangeData). r.low) rs) d) (coordinate x d) (past (λ (r : RangeData). r.low) d h) (past_x d h))
      (cases_lt d (length rs));
  below = λ d. ⊎_elim
      (λ h. subst (λ (v : ℤ). coordinate x d ≤ℤ v) (sym (low-there (λ (r : RangeData). r.high) rs d h)) (i d h).1)
      (λ h. at_zero (coordinate x d) (coordinate (map (λ (r : RangeData). r.high) rs) d) (past_x d h) (past (λ (r : RangeData). r.high) d h))
      (cases_lt d (length rs));
}
  where
    past : (f : RangeData → ℤ) (d : ℕ) → length rs ≤ d → coordinate (map f rs) d ≡ pos 0
    past f d h = get_or_past (map f rs) d (pos 0) (let m = length-map rs f in omega (arith, m, h))

    past_x : (d : ℕ) → length rs ≤ d → coordinate x d ≡ pos 0
    past_x d h = get_or_past x d (pos 0) (omega arith)

-- ---- wide tuples are those of the first state

pub reach-at : (p : ProblemData) (o : ℕ) → o < length p.objects → reach (first_state p) o ≡ whole_reach (object_of p o)
reach-at p o h = get_or-map whole_reach p.objects o no_object nowhere h

hulls-dims : (p : ProblemData) (o : ObjectData) → IsObject p o → length (hulls o) ≡ p.dims
hulls-dims p o w = length-map o.pieces hull ∙ w.dimensions

spot-out : (p : ProblemData) (o : ObjectData) (s : Spot) → IsObject p o → SpotIn s (whole_reach o) → IsWideSpotOf p o s
spot-out p o s w i =
    let place = (place-there (place_count o) s.place w.few).0 i.place in
    let box = in-box-out (hulls o) s.origin i.origin in
    record { form = record { first = place.0; last = place.1; dimensions = box.0 ∙ hulls-dims p o w }; hulls = box.1 }

spot-in : (p : ProblemData) (o : ObjectData) (s : Spot) → IsObject p o → IsWideSpotOf p o s → SpotIn s (whole_reach o)
spot-in p o s w i = record {
  place = (place-there (place_count o) s.place w.few).1 (i.form.first, i.form.last);
  origin = in-box-in (hulls o) s.origin (i.form.dimensions ∙ sym (hulls-dims p o w)) i.hulls;
}

pub tuples-are : (p : ProblemData) (t : Tuple) → IsWellFormed p → TupleIn t (first_state p) ↔ IsWideTuple p t
tuples-are p t w =
    let n : length (first_state p) ≡ length p.objects = length-map p.objects whole_reach in (
      (λ i. record {
        objects = i.objects ∙ n;
        each = λ o h. spot-out p (object_of p o) (spot t o) (w.objects o no_object h)
            (subst (SpotIn (spot t o)) (reach-at p o h) (i.each o (subst (λ (m : ℕ). o < m) (sym n) h)));
      }),
      (λ i. record {
        objects = i.objects ∙ sym n;
        each = λ o h. let l : o < length p.objects = subst (λ (m : ℕ). o < m) n h in
            subst (SpotIn (spot t o)) (sym (reach-at p o l)) (spot-in p (object_of p o) (spot t o) (w.objects o no_object l) (i.each o l));
      }),
    )

-- ---- ends of the first state

abbrev IsSmallEnd : ℤ → Type 0
IsSmallEnd v = (negsuc 999999 ≤ℤ v) × (v ≤ℤ pos 1000000)

small-at : (f : RangeData → ℤ) (rs : List RangeData) → ((r : RangeData) → IsRange r → IsSmallEnd (f r)) → All IsRange rs → (d : ℕ) → IsSmallEnd (coordinate (map f rs) d)
small-at f rs small all d = ⊎_elim
    (λ h. subst IsSmallEnd (sym (low-there f rs d h)) (small (range_at rs d) (all d (record { low = pos 0; high = pos 0 }) h)))
    (λ h. subst IsSmallEnd (sym (get_or_past (map f rs) d (pos 0) (let m = length-map rs f in omega (arith, m, h)))) (omega (arith, ints), omega (arith, ints)))
    (cases_lt d (length rs))

reach-small : (r : Reach) → ((d : ℕ) → IsSmallEnd (coordinate r.region.lo d)) → ((d : ℕ) → IsSmallEnd (coordinate r.region.hi d)) → (d : ℕ)
    → (negsuc 999999 ≤ℤ coordinate r.region.lo d) × (coordinate r.region.lo d ≤ℤ pos 1000000) × (negsuc 999999 ≤ℤ coordinate r.region.hi d) × (coordinate r.region.hi d ≤ℤ pos 1000000)
reach-small r a b d = ((a d).0, (a d).1, (b d).0, (b d).1)

pub ends-small : (p : ProblemData) → IsWellFormed p → HasSmallEnds (first_state p)
ends-small p w o d = ⊎_elim
    (λ h. let i : IsObject p (object_of p o) = w.objects o no_object h in
    subst (λ (r : Reach). (negsuc 999999 ≤ℤ coordinate r.region.lo d) × (coordinate r.region.lo d ≤ℤ pos 1000000) × (negsuc 999999 ≤ℤ coordinate r.region.hi d) × (coordinate r.region.hi d ≤ℤ pos 1000000))
    (sym (reach-at p o h))
    (reach-small (whole_reach (object_of p o))
    (small-at (λ (r : RangeData). r.low) (hulls (object_of p o)) (λ r s. let l = s.low in let f = s.filled in let m = s.high in (l, omega (arith, ints, l, f, m))) (hulls_are_ranges p (object_of p o) i))
    (small-at (λ (r : RangeData). r.high) (hulls (object_of p o)) (λ r s. let l = s.low in let f = s.filled in let m = s.high in (omega (arith, ints, l, f, m), m)) (hulls_are_ranges p (object_of p o) i)) d))
    (λ h. subst (λ (r : Reach). (negsuc 999999 ≤ℤ coordinate r.region.lo d) × (coordinate r.region.lo d ≤ℤ pos 1000000) × (negsuc 999999 ≤ℤ coordinate r.region.hi d) × (coordinate r.region.hi d ≤ℤ pos 1000000))
    (sym (get_or_past (map whole_reach p.objects) o nowhere (let m = length-map p.objects whole_reach in omega (arith, m, h))))
    (omega (arith, ints), omega (arith, ints), omega (arith, ints), omega (arith, ints)))
    (cases_lt o (length p.objects))

-- all objects are there
pub state-end : (p : ProblemData) (os : List ObjectData) (i : ℕ) (S : State) → os ≡ p.objects → S ≡ map whole_reach (take i os) → length os ≤ i → S ≡ first_state p
state-end p os i S e s h = s ∙ ap (map whole_reach) (take_all i os h) ∙ ap (map whole_reach) e

-- the lists of the search order are whole
pub order-is : (p : ProblemData) (objects made : List ObjId) (down flags : List Bool) (i j : ℕ) {os : List ℕ} {ss : List Side} → made ≡ objects → flags ≡ down
    → numbers_of objects ≡ take i os → down ≡ map runs_down (take j ss) → os ≡ p.order → ss ≡ p.sides → length os ≤ i → length ss ≤ j
    → (let o : Order = record { objects = numbers_of made; down = flags } in o ≡ order_of p)
order-is p objects made down flags i j {os} {ss} a b e f g h l m =
    let numbers : numbers_of made ≡ p.order = ap numbers_of a ∙ e ∙ take_all i os l ∙ g in
    let downs' : flags ≡ map runs_down p.sides = b ∙ f ∙ ap (map runs_down) (take_all j ss m) ∙ ap (map runs_down) h in
    λ k. record { objects = numbers k; down = downs' k }

-- the box of the ends that were set
pub region-whole : (k : ℕ) (o : ObjectData) (rs : List RangeData) (lo hi : Point k) (b : KBox k) → b.lo ≡ lo → b.hi ≡ hi → rs ≡ hulls o → length lo.coordinates ≡ k → length hi.coordinates ≡ k → length o.pieces ≡ k
    → ((e : ℕ) → e < k → coordinate lo.coordinates e ≡ (range_at rs e).low) → ((e : ℕ) → e < k → coordinate hi.coordinates e ≡ (range_at rs e).high) → region_of b ≡ whole_region o
region-whole k o rs lo hi b x y e m n l lows highs =
    let made = region-made k lo.coordinates hi.coordinates rs m n (ap length e ∙ length-map o.pieces hull ∙ l) lows highs in
    λ i. record { lo = (ap (λ (q : Point k). q.coordinates) x ∙ made.0 ∙ ap (map (λ (r : RangeData). r.low)) e) i; hi = (ap (λ (q : Point k). q.coordinates) y ∙ made.1 ∙ ap (map (λ (r : RangeData). r.high)) e) i }
