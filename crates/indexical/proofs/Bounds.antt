-- When a condition on one coordinate of an object is refuted.
use Rattle.std.specs.Prelude.{IfSome, IfNone, ◌≢◌, ◌==◌, ◌||◌}
use Rattle.std.specs.List.{list_any}
use Rattle.std.proofs.Math.Bool.{or-false}
use Rattle.indexical.specs.Names.{IsFirstBefore, names}
use Rattle.std.proofs.Common.{◌≡◌, not, ℕ, ◌<◌, Bool, true, false, List, [], ◌∷◌, length, get_or, refl, sym, ap, ◌∙◌, subst, inl, inr, arith, ℤ, pos, ◌+ℤ◌, ◌-ℤ◌, ◌<ℤ◌, ◌≤ℤ◌, Option, None, Some}
use Rattle.std.proofs.lemmas.Int.{ints}
use Rattle.std.specs.Option.{ForSome}
use Rattle.std.specs.Int.{int_min, int_max}
use Rattle.std.proofs.lemmas.Int.{clamps}
use Rattle.std.proofs.lemmas.Bool.{cases_Bool, cases_eq, true≢false, false≢true, not-false}
use Rattle.std.proofs.lemmas.Option.{same_Some, none-some}
use Rattle.geo_base.specs.Boxes.{IsUncrossed}
use Rattle.geo_base.specs.declared.point.Point.{Point}
use Rattle.geo_base.specs.declared.kbox.KBox.{KBox}
use Rattle.geo_base.specs.Boxes.{coordinate, Has}
use Rattle.geo_conditions.specs.declared.cond.Cond.{Cond, Lin, NotShape, AtLeast}
use Rattle.geo_conditions.specs.declared.cond.Conds.{Conds}
use Rattle.geo_conditions.specs.declared.object.ObjId.{ObjId}
use Rattle.geo_conditions.specs.Reach.{State, Reach, Region, reach, low, high, is_only, only, just, with_at}
use Rattle.geo_conditions.specs.Conditions.{possible, least_value}
use Rattle.geo_conditions.specs.Regions.{region_of}
use Rattle.geo_conditions.proofs.Children.{many_possible}
use Rattle.geo_conditions.proofs.Points.{reach_same}
use Rattle.indexical.specs.declared.bound.BoundIndexical.{BoundIndexical}
use Rattle.indexical.specs.Bound.{IsPast, MustPass, PassesAt, IsSidePart, IsHole, SaysTwo, SaysBound, bound_sum}
use Rattle.indexical.proofs.Children.{counted_false, counted_none, refuted_at_least, few_of_refuted, names_at_least}
use Rattle.indexical.proofs.Overlapping.{above, not_above}
use Rattle.indexical.proofs.Parts.{ForbidsPart}
use Rattle.indexical.proofs.Values.{low_at, high_at}

-- ---- the form

past_refuted : (least : Bool) (o : ObjId) (d : ℕ) (n : ℤ) (T : State) → IsPast least n (low T o.0 d) (high T o.0 d) → possible (Lin (bound_sum least o d n)) T ≡ false
past_refuted true o d n T p =
    let v : least_value (bound_sum true o d n) T ≡ n -ℤ high T o.0 d = omega (arith, ints) in
    let h = p.below refl in
    not_above (least_value (bound_sum true o d n) T) (omega (arith, ints, v, h))
past_refuted false o d n T p =
    let v : least_value (bound_sum false o d n) T ≡ low T o.0 d +ℤ n = omega (arith, ints) in
    let h = p.above refl in
    not_above (least_value (bound_sum false o d n) T) (omega (arith, ints, v, h))

refuted_past : (least : Bool) (o : ObjId) (d : ℕ) (n : ℤ) (T : State) → possible (Lin (bound_sum least o d n)) T ≡ false → IsPast least n (low T o.0 d) (high T o.0 d)
refuted_past true o d n T r =
    let v : least_value (bound_sum true o d n) T ≡ n -ℤ high T o.0 d = omega (arith, ints) in
    let a = above (least_value (bound_sum true o d n) T) r in
    record { below = λ e. omega (arith, ints, v, a); above = λ e. absurd (true≢false e) }
refuted_past false o d n T r =
    let v : least_value (bound_sum false o d n) T ≡ low T o.0 d +ℤ n = omega (arith, ints) in
    let a = above (least_value (bound_sum false o d n) T) r in
    record { below = λ e. absurd (false≢true e); above = λ e. omega (arith, ints, v, a) }

form_named : (least : Bool) (u : ObjId) (d : ℕ) (n : ℤ) (o : ℕ) → names o (Lin (bound_sum least u d n)) ≡ (u.0 == o)
form_named true u d n o = or-false (u.0 == o)
form_named false u d n o = or-false (u.0 == o)

-- what is first by a test is first by one that is the same
pub first_as : (f g : ℕ → Bool) (from end : ℕ) → ((o : ℕ) → g o ≡ f o) → (r : Option ObjId) → IsFirstBefore f from end r → IsFirstBefore g from end r
first_as f g from end e None m = λ o l h. e o ∙ m o l h
first_as f g from end e (Some u) k = (k.0, k.1, e u.0 ∙ k.2, λ o l h. e o ∙ k.3 o l h)

-- a test beside the same test
twice : (x y : Bool) → y ≡ x → (x || (y || false)) ≡ x
twice true y e = refl
twice false y e = or-false y ∙ e

-- a property of a value that may be there, in both forms
pub if_for : {T : Type 0} (o : Option T) (P : T → Type 0) → IfSome o P → ForSome o P
if_for None P h v e = absurd (none-some v e)
if_for (Some x) P h v e = subst P (same_Some _ _ e) h

pub for_if : {T : Type 0} (o : Option T) (P : T → Type 0) → ForSome o P → IfSome o P
for_if None P h = tt
for_if (Some x) P h = h x refl

-- ---- what a bound says

module _ {K : ℕ} (b : BoundIndexical K) where
  abbrev form : Cond
  form = Lin (bound_sum b.least b.object b.dimension b.constant)

  pub form_says : b.asked ≡ None → b.until ≡ None → SaysBound b form
  form_says none alone = record {
    refuted = λ T m. past_refuted b.least b.object b.dimension b.constant T m.past;
    passes = λ T r. record {
      place = λ p e. absurd (none-some p (sym none ∙ e));
      past = refuted_past b.least b.object b.dimension b.constant T r;
      until = λ v e. absurd (none-some v (sym alone ∙ e));
    };
    named = form_named b.least b.object b.dimension b.constant;
  }

  -- behind a literal that the object has another place
  module _ (p : ℕ) (asked : b.asked ≡ Some p) (alone : b.until ≡ None) (n : ℤ) (children : Conds) (one : n ≡ pos 1) (two : children.items.items ≡ NotShape b.object p ∷ form ∷ []) where
    counted : (T : State) → many_possible T children.items.items ≡ many_possible T (NotShape b.object p ∷ form ∷ [])
    counted T = ap (many_possible T) two

    pub placed_says : SaysBound b (AtLeast n children)
    placed_says = record {
      refuted = λ T m.
          let alone : is_only (reach T b.object.0).places p ≡ true = m.place p asked in
          let x = counted_false (possible (NotShape b.object p) T) (ap not alone) in
          let y = counted_false (possible form T) (past_refuted b.least b.object b.dimension b.constant T m.past) in
          let e = counted T in
          refuted_at_least n children T (omega (arith, ints, one, e, x, y));
      passes = λ T r.
          let few = few_of_refuted n children T r in
          let e = counted T in
          record {
            place = λ v f. subst (λ (x : ℕ). is_only (reach T b.object.0).places x ≡ true) (same_Some _ _ (sym asked ∙ f)) (not-false (is_only (reach T b.object.0).places p) (counted_none (possible (NotShape b.object p) T) (omega (arith, ints, one, e, few))));
            past = refuted_past b.least b.object b.dimension b.constant T (counted_none (possible form T) (omega (arith, ints, one, e, few)));
            until = λ v f. absurd (none-some v (sym alone ∙ f));
          };
      named = λ o. names_at_least n children o ∙ ap (list_any (names o)) two ∙ twice (b.object.0 == o) (names o form) (form_named b.least b.object b.dimension b.constant o);
    }

  -- ---- the object is put

  module _ (S : State) (s : ℕ) (there : b.object.0 < length S) where
    pub must_pass : (r : Region) → PassesAt b s r.lo r.hi → MustPass b (with_at S b.object.0 s r)
    must_pass r m = record {
      place = subst (λ (x : Reach). ForSome b.asked (λ p. is_only x.places p ≡ true)) (sym (reach_same S b.object.0 s r there)) m.place;
      past = subst (λ (v : ℤ). IsPast b.least b.constant v (high (with_at S b.object.0 s r) b.object.0 b.dimension)) (sym (low_at S b.object.0 s there r b.dimension))
          (subst (IsPast b.least b.constant (coordinate r.lo b.dimension)) (sym (high_at S b.object.0 s there r b.dimension)) m.past);
      until = subst (λ (v : ℤ). ForSome b.until (λ n. v <ℤ n)) (sym (high_at S b.object.0 s there r b.dimension)) m.until;
    }

    pub passes_at : (r : Region) → MustPass b (with_at S b.object.0 s r) → PassesAt b s r.lo r.hi
    passes_at r m = record {
      place = subst (λ (x : Reach). ForSome b.asked (λ p. is_only x.places p ≡ true)) (reach_same S b.object.0 s r there) m.place;
      past = subst (λ (v : ℤ). IsPast b.least b.constant v (coordinate r.hi b.dimension)) (low_at S b.object.0 s there r b.dimension)
          (subst (IsPast b.least b.constant (low (with_at S b.object.0 s r) b.object.0 b.dimension)) (high_at S b.object.0 s there r b.dimension) m.past);
      until = subst (λ (v : ℤ). ForSome b.until (λ n. v <ℤ n)) (high_at S b.object.0 s there r b.dimension) m.until;
    }

    module _ (cond : Cond) (says : SaysBound b cond) where
      pub bound_forbids : (region : Region) (x : Option (KBox K))
          → IfNone x ((q : List ℤ) → Has K region.lo region.hi q → PassesAt b s q q → ⊥)
          → IfSome x (λ r. Has K region.lo region.hi r.lo.coordinates × Has K region.lo region.hi r.hi.coordinates)
          → IfSome x (λ r. PassesAt b s r.lo.coordinates r.hi.coordinates)
          → IfSome x (λ r. (q : List ℤ) → Has K region.lo region.hi q → PassesAt b s q q → Has K r.lo.coordinates r.hi.coordinates q)
          → ForbidsPart cond S b.object.0 s region x
      bound_forbids region None none within passes whole = λ q has. elim (cases_Bool (possible cond (with_at S b.object.0 s (just q)))) [
        | inl e ↦ e
        | inr e ↦ absurd (none q has (passes_at (just q) (says.passes (with_at S b.object.0 s (just q)) e)))
      ]
      bound_forbids region (Some r) none within passes whole = record {
        low = within.0;
        high = within.1;
        refuted = says.refuted (with_at S b.object.0 s (region_of r)) (must_pass (region_of r) passes);
        whole = λ q has e. whole q has (passes_at (just q) (says.passes (with_at S b.object.0 s (just q)) e));
      }

      -- whether it is refuted at a point
      pub bound_answer : (c : List ℤ) (r : Bool) → (r ≡ true → PassesAt b s c c) × (PassesAt b s c c → r ≡ true) → not r ≡ possible cond (with_at S b.object.0 s (just c))
      bound_answer c true f = sym (says.refuted (with_at S b.object.0 s (just c)) (must_pass (just c) (f.0 refl)))
      bound_answer c false f = elim (cases_Bool (possible cond (with_at S b.object.0 s (just c)))) [
        | inl e ↦ sym e
        | inr e ↦ absurd (false≢true (f.1 (passes_at (just c) (says.passes (with_at S b.object.0 s (just c)) e))))
      ]

  -- ---- the part of a region

  module _ (region : KBox K) (some : IsUncrossed K region.lo.coordinates region.hi.coordinates) where
    abbrev d : ℕ
    d = b.dimension

    pub below_part : (x : Option (KBox K)) (last : ℤ) → b.least ≡ true → last ≡ b.constant -ℤ pos 1
        → IfNone x (last <ℤ coordinate region.lo.coordinates d)
        → IfSome x (λ r. coordinate region.lo.coordinates d ≤ℤ last)
        → IfSome x (λ r. r.lo ≡ region.lo)
        → IfSome x (λ r. coordinate r.hi.coordinates d ≡ int_min (coordinate region.hi.coordinates d) last)
        → IfSome x (λ r. (e : ℕ) → e ≢ d → coordinate r.hi.coordinates e ≡ coordinate region.hi.coordinates e)
        → IsSidePart b region x
    below_part None last least is none there lo hi others = record {
      none = λ q has p. let h = has d b.inside in let c = p.below least in absurd (omega (arith, ints, h.0, c, is, none));
      within = tt;
      passes = tt;
      whole = tt;
    }
    below_part (Some r) last least is none there lo hi others =
        let same : (e : ℕ) → coordinate r.lo.coordinates e ≡ coordinate region.lo.coordinates e = λ e. ap (λ (p : Point K). coordinate p.coordinates e) lo in
        record {
          none = tt;
          within = (
            λ e h. (let l = same e in let m = some e h in (omega (arith, ints, l), omega (arith, ints, l, m))),
            λ e h. elim (cases_eq e d) [
              | inl z ↦ subst (λ (v : ℕ). (coordinate region.lo.coordinates v ≤ℤ coordinate r.hi.coordinates v) × (coordinate r.hi.coordinates v ≤ℤ coordinate region.hi.coordinates v)) (sym z) (let m = some d b.inside in (omega (arith, ints, clamps, hi, there, m), omega (arith, ints, clamps, hi)))
              | inr ne ↦ (let o = others e ne in let m = some e h in (omega (arith, ints, o, m), omega (arith, ints, o)))
            ],
          );
          passes = record { below = λ e. omega (arith, ints, clamps, hi, is); above = λ e. absurd (true≢false (sym least ∙ e)) };
          whole = λ q has p e h. elim (cases_eq e d) [
            | inl z ↦ subst (λ (v : ℕ). (coordinate r.lo.coordinates v ≤ℤ coordinate q v) × (coordinate q v ≤ℤ coordinate r.hi.coordinates v)) (sym z) (let i = has d b.inside in let l = same d in let c = p.below least in (omega (arith, ints, l, i.0), omega (arith, ints, clamps, hi, i.1, c, is)))
            | inr ne ↦ (let i = has e h in let l = same e in let o = others e ne in (omega (arith, ints, l, i.0), omega (arith, ints, o, i.1)))
          ];
        }

    pub above_part : (x : Option (KBox K)) (first : ℤ) → b.least ≡ false → first ≡ pos 1 -ℤ b.constant
        → IfNone x (coordinate region.hi.coordinates d <ℤ first)
        → IfSome x (λ r. first ≤ℤ coordinate region.hi.coordinates d)
        → IfSome x (λ r. r.hi ≡ region.hi)
        → IfSome x (λ r. coordinate r.lo.coordinates d ≡ int_max (coordinate region.lo.coordinates d) first)
        → IfSome x (λ r. (e : ℕ) → e ≢ d → coordinate r.lo.coordinates e ≡ coordinate region.lo.coordinates e)
        → IsSidePart b region x
    above_part None first most is none there hi lo others = record {
      none = λ q has p. let h = has d b.inside in let c = p.above most in absurd (omega (arith, ints, h.1, c, is, none));
      within = tt;
      passes = tt;
      whole = tt;
    }
    above_part (Some r) first most is none there hi lo others =
        let same : (e : ℕ) → coordinate r.hi.coordinates e ≡ coordinate region.hi.coordinates e = λ e. ap (λ (p : Point K). coordinate p.coordinates e) hi in
        record {
          none = tt;
          within = (
            λ e h. elim (cases_eq e d) [
              | inl z ↦ subst (λ (v : ℕ). (coordinate region.lo.coordinates v ≤ℤ coordinate r.lo.coordinates v) × (coordinate r.lo.coordinates v ≤ℤ coordinate region.hi.coordinates v)) (sym z) (let m = some d b.inside in (omega (arith, ints, clamps, lo), omega (arith, ints, clamps, lo, there, m)))
              | inr ne ↦ (let o = others e ne in let m = some e h in (omega (arith, ints, o), omega (arith, ints, o, m)))
            ],
            λ e h. (let l = same e in let m = some e h in (omega (arith, ints, l, m), omega (arith, ints, l))),
          );
          passes = record { below = λ e. absurd (true≢false (sym e ∙ most)); above = λ e. omega (arith, ints, clamps, lo, is) };
          whole = λ q has p e h. elim (cases_eq e d) [
            | inl z ↦ subst (λ (v : ℕ). (coordinate r.lo.coordinates v ≤ℤ coordinate q v) × (coordinate q v ≤ℤ coordinate r.hi.coordinates v)) (sym z) (let i = has d b.inside in let l = same d in let c = p.above most in (omega (arith, ints, clamps, lo, i.0, c, is), omega (arith, ints, l, i.1)))
            | inr ne ↦ (let i = has e h in let l = same e in let o = others e ne in (omega (arith, ints, o, i.0), omega (arith, ints, l, i.1)))
          ];
        }

  module _ (s : ℕ) (region : KBox K) (asked : ForSome b.asked (λ p. is_only (only s) p ≡ true)) where
    -- the box has just the points of the region at which the coordinate is on the wrong side
    pub record IsPart (x : Option (KBox K)) : Type 0 where
      pub none : IfNone x ((q : List ℤ) → Has K region.lo.coordinates region.hi.coordinates q → PassesAt b s q q → ⊥)
      pub within : IfSome x (λ r. Has K region.lo.coordinates region.hi.coordinates r.lo.coordinates × Has K region.lo.coordinates region.hi.coordinates r.hi.coordinates)
      pub passes : IfSome x (λ r. PassesAt b s r.lo.coordinates r.hi.coordinates)
      pub whole : IfSome x (λ r. (q : List ℤ) → Has K region.lo.coordinates region.hi.coordinates q → PassesAt b s q q → Has K r.lo.coordinates r.hi.coordinates q)

    abbrev e : ℕ
    e = b.dimension

    -- no coordinate is on the wrong side
    pub side_none : IsSidePart b region None → IsPart None
    side_none p = record { none = λ q has m. p.none q has m.past; within = tt; passes = tt; whole = tt }

    -- there is no second number
    pub side_alone : (r : KBox K) → b.until ≡ None → IsSidePart b region (Some r) → IsPart (Some r)
    side_alone r alone p = record {
      none = tt;
      within = p.within;
      passes = record { place = asked; past = p.passes; until = λ v f. absurd (none-some v (sym alone ∙ f)) };
      whole = λ q has m. p.whole q has m.past;
    }

    -- and where there is one: up to it
    pub until_part : (side : KBox K) → IsSidePart b region (Some side) → (n : ℤ) → b.until ≡ Some n → (x : Option (KBox K)) (last : ℤ) → last ≡ n -ℤ pos 1
        → IfNone x (last <ℤ coordinate side.lo.coordinates e)
        → IfSome x (λ r. coordinate side.lo.coordinates e ≤ℤ last)
        → IfSome x (λ r. r.lo ≡ side.lo)
        → IfSome x (λ r. coordinate r.hi.coordinates e ≡ int_min (coordinate side.hi.coordinates e) last)
        → IfSome x (λ r. (f : ℕ) → f ≢ e → coordinate r.hi.coordinates f ≡ coordinate side.hi.coordinates f)
        → IsPart x
    until_part side p n to None last is none there lo hi others = record {
      none = λ q has m. let h = p.whole q has m.past e b.inside in let c = m.until n to in absurd (omega (arith, ints, h.0, c, is, none));
      within = tt;
      passes = tt;
      whole = tt;
    }
    until_part side p n to (Some r) last is none there lo hi others =
        let same : (f : ℕ) → coordinate r.lo.coordinates f ≡ coordinate side.lo.coordinates f = λ f. ap (λ (z : Point K). coordinate z.coordinates f) lo in
        record {
          none = tt;
          within = (
            λ f h. (let l = same f in let m = p.within.0 f h in (omega (arith, ints, l, m.0), omega (arith, ints, l, m.1))),
            λ f h. elim (cases_eq f e) [
              | inl z ↦ subst (λ (v : ℕ). (coordinate region.lo.coordinates v ≤ℤ coordinate r.hi.coordinates v) × (coordinate r.hi.coordinates v ≤ℤ coordinate region.hi.coordinates v)) (sym z)
                  (let l = p.within.0 e b.inside in let m = p.within.1 e b.inside in (omega (arith, ints, clamps, hi, there, l.0, m.0), omega (arith, ints, clamps, hi, m.1)))
              | inr ne ↦ (let o = others f ne in let m = p.within.1 f h in (omega (arith, ints, o, m.0), omega (arith, ints, o, m.1)))
            ],
          );
          passes = record {
            place = asked;
            past = record {
              below = λ w. (let h = p.passes.below w in omega (arith, ints, clamps, hi, h));
              above = λ w. (let h = p.passes.above w in let l = same e in omega (arith, ints, l, h));
            };
            until = λ v f. subst (λ (u : ℤ). coordinate r.hi.coordinates e <ℤ u) (same_Some _ _ (sym to ∙ f)) (omega (arith, ints, clamps, hi, is));
          };
          whole = λ q has m f h. elim (cases_eq f e) [
            | inl z ↦ subst (λ (v : ℕ). (coordinate r.lo.coordinates v ≤ℤ coordinate q v) × (coordinate q v ≤ℤ coordinate r.hi.coordinates v)) (sym z)
                (let i = p.whole q has m.past e b.inside in let l = same e in let c = m.until n to in (omega (arith, ints, l, i.0), omega (arith, ints, clamps, hi, i.1, c, is)))
            | inr ne ↦ (let i = p.whole q has m.past f h in let l = same f in let o = others f ne in (omega (arith, ints, l, i.0), omega (arith, ints, o, i.1)))
          ];
        }

  -- ---- a hole

  pub hole_says : (x y : Cond) → IsHole b x y → SaysTwo b x y
  hole_says x y h n children one two =
      let twoes : (T : State) → many_possible T children.items.items ≡ many_possible T (x ∷ y ∷ []) = λ T. ap (many_possible T) two in
      record {
        refuted = λ T m.
            let past : IsPast false b.constant (low T b.object.0 b.dimension) (high T b.object.0 b.dimension) = subst (λ (z : Bool). IsPast z b.constant (low T b.object.0 b.dimension) (high T b.object.0 b.dimension)) h.least m.past in
            let u = counted_false (possible x T) (subst (λ (c : Cond). possible c T ≡ false) (sym h.upper) (past_refuted false b.object b.dimension b.constant T past)) in
            let l = counted_false (possible y T) (subst (λ (c : Cond). possible c T ≡ false) (sym h.lower) (past_refuted true b.object b.dimension h.end T (record { below = λ w. m.until h.end h.until; above = λ w. absurd (true≢false w) }))) in
            let c = twoes T in
            refuted_at_least n children T (omega (arith, ints, one, c, u, l));
        passes = λ T r.
            let few = few_of_refuted n children T r in
            let c = twoes T in
            let u = subst (λ (z : Cond). possible z T ≡ false) h.upper (counted_none (possible x T) (omega (arith, ints, one, c, few))) in
            let l = subst (λ (z : Cond). possible z T ≡ false) h.lower (counted_none (possible y T) (omega (arith, ints, one, c, few))) in
            record {
              place = λ v f. absurd (none-some v (sym h.asked ∙ f));
              past = subst (λ (z : Bool). IsPast z b.constant (low T b.object.0 b.dimension) (high T b.object.0 b.dimension)) (sym h.least) (refuted_past false b.object b.dimension b.constant T u);
              until = λ v f. subst (λ (w : ℤ). high T b.object.0 b.dimension <ℤ w) (same_Some _ _ (sym h.until ∙ f)) ((refuted_past true b.object b.dimension h.end T l).below refl);
            };
        named = λ o.
            let u : names o x ≡ (b.object.0 == o) = ap (names o) h.upper ∙ form_named false b.object b.dimension b.constant o in
            let l : names o y ≡ (b.object.0 == o) = ap (names o) h.lower ∙ form_named true b.object b.dimension h.end o in
            names_at_least n children o ∙ ap (list_any (names o)) two ∙ twice (names o x) (names o y) (l ∙ sym u) ∙ u;
      }

-- ---- a bound that is found

-- two conditions, read by their places
pub two_of : (xs : List Cond) (x y : Cond) → length xs ≡ 2 → x ≡ get_or xs 0 x → y ≡ get_or xs 1 y → xs ≡ x ∷ y ∷ []
two_of [] x y h p q = absurd (omega (arith, h))
two_of (a ∷ []) x y h p q = absurd (omega (arith, h))
two_of (a ∷ b ∷ []) x y h p q = ap (λ (z : Cond). z ∷ b ∷ []) (sym p) ∙ ap (λ (z : Cond). x ∷ z ∷ []) (sym q)
two_of (a ∷ b ∷ c ∷ xs) x y h p q = absurd (omega (arith, h))

pub found_bound : {K : ℕ} (cond : Cond) (n : ℤ) (children : Conds) (x y : Cond) (r : Option (BoundIndexical K)) → cond ≡ AtLeast n children → n ≡ pos 1 → children.items.items ≡ x ∷ y ∷ []
    → IfSome r (λ b. SaysTwo b x y) → IfSome r (λ b. SaysBound b cond)
found_bound cond n children x y None is one two f = tt
found_bound cond n children x y (Some b) is one two f = subst (SaysBound b) (sym is) (f n children one two)

pub found_placed : {K : ℕ} (x y : Cond) (r : Option (BoundIndexical K)) → IfSome r (λ b. y ≡ Lin (bound_sum b.least b.object b.dimension b.constant)) → IfSome r (λ b. (p : ℕ) × (b.asked ≡ Some p) × (x ≡ NotShape b.object p)) → IfSome r (λ b. b.until ≡ None) → IfSome r (λ b. SaysTwo b x y)
found_placed x y None f a u = tt
found_placed x y (Some b) f a u = λ n children one two. placed_says b a.0 a.1 u n children one (two ∙ ap (λ (z : Cond). z ∷ y ∷ []) a.2 ∙ ap (λ (z : Cond). NotShape b.object a.0 ∷ z ∷ []) f)

pub found_two : {K : ℕ} (x y : Cond) (r : Option (BoundIndexical K)) → IfSome r (λ b. IsHole b x y) → IfSome r (λ b. SaysTwo b x y)
found_two x y None h = tt
found_two x y (Some b) h = hole_says b x y h

pub found_hole : {K : ℕ} (x y : Cond) (up down : BoundIndexical K) (r : Option (BoundIndexical K))
    → x ≡ Lin (bound_sum up.least up.object up.dimension up.constant) → y ≡ Lin (bound_sum down.least down.object down.dimension down.constant) → up.asked ≡ None
    → IfSome r (λ b. (b.object ≡ up.object) × (b.object ≡ down.object))
    → IfSome r (λ b. b.asked ≡ up.asked)
    → IfSome r (λ b. (b.dimension ≡ up.dimension) × (b.dimension ≡ down.dimension))
    → IfSome r (λ b. (b.least ≡ false) × (up.least ≡ false) × (down.least ≡ true))
    → IfSome r (λ b. b.constant ≡ up.constant)
    → IfSome r (λ b. b.until ≡ Some down.constant)
    → IfSome r (λ b. IsHole b x y)
found_hole x y up down None xs ys none o a d l c u = tt
found_hole x y up down (Some b) xs ys none o a d l c u = record {
  least = l.0;
  asked = a ∙ none;
  end = down.constant;
  until = u;
  upper = xs ∙ (λ i. Lin (bound_sum (l.1 i) (sym o.0 i) (sym d.0 i) (sym c i)));
  lower = ys ∙ (λ i. Lin (bound_sum (l.2 i) (sym o.1 i) (sym d.1 i) down.constant));
}

pub found_form : {K : ℕ} (cond : Cond) (r : Option (BoundIndexical K)) → IfSome r (λ b. cond ≡ Lin (bound_sum b.least b.object b.dimension b.constant)) → IfSome r (λ b. b.asked ≡ None) → IfSome r (λ b. b.until ≡ None) → IfSome r (λ b. SaysBound b cond)
found_form cond None f a u = tt
found_form cond (Some b) f a u = subst (SaysBound b) (sym f) (form_says b a u)
