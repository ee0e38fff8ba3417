-- Two boxes, where the object of one of them is put at a place in a box.
use Rattle.std.specs.Prelude.{MatchOption, IfNone, IfSome}
use Rattle.geo_base.specs.declared.kbox.KBox.{KBox}
use Rattle.geo_conditions.specs.Regions.{region_of}
use Rattle.std.proofs.Common.{Option, None, Some, inl, inr, ◌≡◌, ◌≢◌, ◌==◌, ℕ, ◌<◌, ◌^◌, Bool, true, false, not, List, length, refl, sym, ap, ◌∙◌, subst, arith, ℤ, ◌≤ℤ◌}
use Rattle.std.proofs.lemmas.Int.{ints, clamps}
use Rattle.std.specs.Int.{int_min, int_max}
use Rattle.std.proofs.lemmas.Bool.{cases_Bool, false≢true}
use Rattle.geo_base.specs.Boxes.{coordinate, Has}
use Rattle.geo_conditions.specs.declared.cond.Cond.{Cond}
use Rattle.geo_conditions.specs.Reach.{State, Reach, Region, reach, low, high, is_only, only, just, with_at}
use Rattle.geo_conditions.specs.Conditions.{possible, IsRefuted}
use Rattle.geo_conditions.proofs.Points.{reach_same, reach_other}
use Rattle.geo_conditions.proofs.Sets.{only_test, only_only, only_nowhere}
use Rattle.indexical.specs.declared.placed.PlacedBox.{PlacedBox}
use Rattle.indexical.specs.Forbidden.{IsForbiddenPart}
use Rattle.indexical.proofs.Parts.{ForbidsPart}
use Rattle.indexical.specs.Apart.{first, last, apart_parts, MustOverlap, NeedNotOverlap, Clashes, IsOverlapPart, SaysApart}
use Rattle.indexical.proofs.Values.{low_at, high_at}
use Rattle.indexical.proofs.Overlapping.{apart_refuted, refuted_apart}

-- an object that is put at a place has that shape alone
pub stands_at : (s p : ℕ) → 0 < s → (s == p) ≡ is_only (only s) p
stands_at s p some = only_test s p some ∙ sym (only_only s p)

pub stands_nowhere : (s p : ℕ) → s ≡ 0 → is_only (only s) p ≡ false
stands_nowhere s p e = ap (λ (x : ℕ). is_only (only x) p) e ∙ only_nowhere p

module _ {K : ℕ} (a b : PlacedBox K) where
  pub other_way : (T : State) → MustOverlap a b T → MustOverlap b a T
  other_way T o = record {
    first_shape = o.second_shape;
    second_shape = o.first_shape;
    first_ends = o.second_ends;
    second_ends = o.first_ends;
  }

  -- ---- neither is put
  pub overlap_now : (S : State) → (a.leaf ≡ true → is_only (reach S a.object.0).places a.place ≡ true) → (b.leaf ≡ true → is_only (reach S b.object.0).places b.place ≡ true)
      → Clashes a b (reach S b.object.0).region (reach S a.object.0).region.lo (reach S a.object.0).region.hi → MustOverlap a b S
  overlap_now S x y clash = record {
    first_shape = x;
    second_shape = y;
    first_ends = λ d h. let k = clash d h in omega (arith, ints, k.0);
    second_ends = λ d h. let k = clash d h in omega (arith, ints, k.1);
  }

  pub clash_now : (S : State) → MustOverlap a b S → Clashes a b (reach S b.object.0).region (reach S a.object.0).region.lo (reach S a.object.0).region.hi
  clash_now S m d h = let f = m.first_ends d h in let e = m.second_ends d h in (omega (arith, ints, f), omega (arith, ints, e))

  -- ---- a's object is put
  module _ (S : State) (s : ℕ) (there : a.object.0 < length S) (ne : b.object.0 ≢ a.object.0) where
    module _ (r : Region) where
      pub overlap_beside : (a.leaf ≡ true → is_only (only s) a.place ≡ true) → (b.leaf ≡ true → is_only (reach S b.object.0).places b.place ≡ true) → Clashes a b (reach S b.object.0).region r.lo r.hi → MustOverlap a b (with_at S a.object.0 s r)
      overlap_beside stands shape clash =
          let T = with_at S a.object.0 s r in
          let other = reach_other S a.object.0 s b.object.0 r ne in
          record {
            first_shape = λ h. subst (λ (x : Reach). is_only x.places a.place ≡ true) (sym (reach_same S a.object.0 s r there)) (stands h);
            second_shape = λ h. subst (λ (x : Reach). is_only x.places b.place ≡ true) (sym other) (shape h);
            first_ends = λ d h.
                let l = low_at S a.object.0 s there r d in
                let u : high T b.object.0 d ≡ high S b.object.0 d = ap (λ (x : Reach). coordinate x.region.hi d) other in
                let k = clash d h in
                omega (arith, ints, l, u, k.0);
            second_ends = λ d h.
                let l : low T b.object.0 d ≡ low S b.object.0 d = ap (λ (x : Reach). coordinate x.region.lo d) other in
                let u = high_at S a.object.0 s there r d in
                let k = clash d h in
                omega (arith, ints, l, u, k.1);
          }

      pub stands_out : MustOverlap a b (with_at S a.object.0 s r) → a.leaf ≡ true → is_only (only s) a.place ≡ true
      stands_out o h = subst (λ (x : Reach). is_only x.places a.place ≡ true) (reach_same S a.object.0 s r there) (o.first_shape h)

      pub shape_out : MustOverlap a b (with_at S a.object.0 s r) → b.leaf ≡ true → is_only (reach S b.object.0).places b.place ≡ true
      shape_out o h = subst (λ (x : Reach). is_only x.places b.place ≡ true) (reach_other S a.object.0 s b.object.0 r ne) (o.second_shape h)

      pub clash_out : MustOverlap a b (with_at S a.object.0 s r) → Clashes a b (reach S b.object.0).region r.lo r.hi
      clash_out o d h =
          let T = with_at S a.object.0 s r in
          let other = reach_other S a.object.0 s b.object.0 r ne in
          let l : low T b.object.0 d ≡ low S b.object.0 d = ap (λ (x : Reach). coordinate x.region.lo d) other in
          let u : high T b.object.0 d ≡ high S b.object.0 d = ap (λ (x : Reach). coordinate x.region.hi d) other in
          let l' = low_at S a.object.0 s there r d in
          let u' = high_at S a.object.0 s there r d in
          let f = o.first_ends d h in
          let e = o.second_ends d h in
          (omega (arith, ints, u, l', f), omega (arith, ints, l, u', e))

    -- the region cut down to where they clash
    pub cut_is_part : (region r : Region) → (a.leaf ≡ true → is_only (only s) a.place ≡ true) → (b.leaf ≡ true → is_only (reach S b.object.0).places b.place ≡ true)
        → ((d : ℕ) → d < K → coordinate r.lo d ≡ int_max (coordinate region.lo d) (first a b (reach S b.object.0).region d))
        → ((d : ℕ) → d < K → coordinate r.hi d ≡ int_min (coordinate region.hi d) (last a b (reach S b.object.0).region d))
        → ((d : ℕ) → d < K → coordinate r.lo d ≤ℤ coordinate r.hi d)
        → IsOverlapPart a b S a.object.0 s region r
    cut_is_part region r stands shape lo hi some = record {
      low = λ d h. let l = lo d h in let u = hi d h in let m = some d h in (omega (arith, ints, clamps, l), omega (arith, ints, clamps, l, u, m));
      high = λ d h. let l = lo d h in let u = hi d h in let m = some d h in (omega (arith, ints, clamps, l, u, m), omega (arith, ints, clamps, u));
      overlap = overlap_beside r stands shape (λ d h. let l = lo d h in let u = hi d h in (omega (arith, ints, clamps, l), omega (arith, ints, clamps, u)));
      whole = λ q has o d h.
          let k = clash_out (just q) o d h in
          let i = has d h in
          let l = lo d h in
          let u = hi d h in
          (omega (arith, ints, clamps, l, k.0, i.0), omega (arith, ints, clamps, u, k.1, i.1));
    }

    -- the same where they may clash nowhere
    pub clashing_part : (region : Region) (x : Option (KBox K)) → (a.leaf ≡ true → is_only (only s) a.place ≡ true) → (b.leaf ≡ true → is_only (reach S b.object.0).places b.place ≡ true)
        → IfNone x ((q : List ℤ) → Has K region.lo region.hi q → Clashes a b (reach S b.object.0).region q q → ⊥)
        → IfSome x (λ r. (d : ℕ) → d < K → coordinate r.lo.coordinates d ≡ int_max (coordinate region.lo d) (first a b (reach S b.object.0).region d))
        → IfSome x (λ r. (d : ℕ) → d < K → coordinate r.hi.coordinates d ≡ int_min (coordinate region.hi d) (last a b (reach S b.object.0).region d))
        → IfSome x (λ r. (d : ℕ) → d < K → coordinate r.lo.coordinates d ≤ℤ coordinate r.hi.coordinates d)
        → MatchOption x (NeedNotOverlap a b S a.object.0 s region) (λ r. IsOverlapPart a b S a.object.0 s region (region_of r))
    clashing_part region None stands shape none lo hi some = λ q has m. none q has (clash_out (just q) m)
    clashing_part region (Some r) stands shape none lo hi some = cut_is_part region (region_of r) stands shape lo hi some

  -- ---- another object is put
  module _ (S : State) (o s : ℕ) (r : Region) (ne_a : a.object.0 ≢ o) (ne_b : b.object.0 ≢ o) where
    same_overlap : (T U : State) → reach T a.object.0 ≡ reach U a.object.0 → reach T b.object.0 ≡ reach U b.object.0 → MustOverlap a b T → MustOverlap a b U
    same_overlap T U x y m = record {
      first_shape = λ h. subst (λ (z : Reach). is_only z.places a.place ≡ true) x (m.first_shape h);
      second_shape = λ h. subst (λ (z : Reach). is_only z.places b.place ≡ true) y (m.second_shape h);
      first_ends = λ d h.
          let u : high T b.object.0 d ≡ high U b.object.0 d = ap (λ (z : Reach). coordinate z.region.hi d) y in
          let l : low T a.object.0 d ≡ low U a.object.0 d = ap (λ (z : Reach). coordinate z.region.lo d) x in
          let e = m.first_ends d h in
          omega (arith, ints, u, l, e);
      second_ends = λ d h.
          let u : high T a.object.0 d ≡ high U a.object.0 d = ap (λ (z : Reach). coordinate z.region.hi d) x in
          let l : low T b.object.0 d ≡ low U b.object.0 d = ap (λ (z : Reach). coordinate z.region.lo d) y in
          let e = m.second_ends d h in
          omega (arith, ints, u, l, e);
    }

    pub overlap_aside : MustOverlap a b S → MustOverlap a b (with_at S o s r)
    overlap_aside = same_overlap S (with_at S o s r) (sym (reach_other S o s a.object.0 r ne_a)) (sym (reach_other S o s b.object.0 r ne_b))

    pub aside_overlap : MustOverlap a b (with_at S o s r) → MustOverlap a b S
    aside_overlap = same_overlap (with_at S o s r) S (reach_other S o s a.object.0 r ne_a) (reach_other S o s b.object.0 r ne_b)

  -- the whole region
  pub region_is_part : (S : State) (o s : ℕ) (region : Region) → ((d : ℕ) → d < K → coordinate region.lo d ≤ℤ coordinate region.hi d) → MustOverlap a b (with_at S o s region) → IsOverlapPart a b S o s region region
  region_is_part S o s region some m = record {
    low = λ d h. let i = some d h in (omega (arith, ints), i);
    high = λ d h. let i = some d h in (i, omega (arith, ints));
    overlap = m;
    whole = λ q has o. has;
  }

  -- ---- a condition that says that they do not overlap
  module _ (short : length (apart_parts a b) < 2 ^ 63) (cond : Cond) (says : SaysApart a b short cond) where
    pub refuted_says : (T : State) → MustOverlap a b T → IsRefuted cond T
    refuted_says T m = says.same T ∙ apart_refuted a b T short m

    pub says_refuted : (T : State) → IsRefuted cond T → MustOverlap a b T
    says_refuted T r = refuted_apart a b T short (sym (says.same T) ∙ r)

    pub possible_says : (T : State) → (MustOverlap a b T → ⊥) → possible cond T ≡ true
    possible_says T free = elim (cases_Bool (possible cond T)) [ inl e ↦ e | inr e ↦ absurd (free (says_refuted T e)) ]

    -- whether they must is whether it is refuted
    pub says_answer : (T : State) (r : Bool) → (r ≡ true → MustOverlap a b T) × (MustOverlap a b T → r ≡ true) → not r ≡ possible cond T
    says_answer T true f = sym (refuted_says T (f.0 refl))
    says_answer T false f = sym (possible_says T (λ m. false≢true (f.1 m)))

    pub overlap_forbidden : (S : State) (o s : ℕ) (region r : Region) → IsOverlapPart a b S o s region r → IsForbiddenPart K cond S o s region r
    overlap_forbidden S o s region r w = record {
      low = w.low;
      high = w.high;
      refuted = refuted_says (with_at S o s r) w.overlap;
      whole = λ q has f. w.whole q has (says_refuted (with_at S o s (just q)) f);
    }

-- ---- answers that are a box or none

module _ {K : ℕ} (a b : PlacedBox K) where
  overlap_other_way : (S : State) (o s : ℕ) (region r : Region) → IsOverlapPart b a S o s region r → IsOverlapPart a b S o s region r
  overlap_other_way S o s region r w = record {
    low = w.low;
    high = w.high;
    overlap = other_way b a (with_at S o s r) w.overlap;
    whole = λ q has m. w.whole q has (other_way a b (with_at S o s (just q)) m);
  }

  pub matched_other_way : (S : State) (o s : ℕ) (region : Region) → b.object.0 ≡ o → (x : Option (KBox K))
      → MatchOption x (NeedNotOverlap b a S b.object.0 s region) (λ r. IsOverlapPart b a S b.object.0 s region (region_of r))
      → MatchOption x (NeedNotOverlap a b S o s region) (λ r. IsOverlapPart a b S o s region (region_of r))
  matched_other_way S o s region of None h = λ q has m. h q has (subst (λ (u : ℕ). MustOverlap b a (with_at S u s (just q))) (sym of) (other_way a b (with_at S o s (just q)) m))
  matched_other_way S o s region of (Some r) h = overlap_other_way S o s region (region_of r) (subst (λ (u : ℕ). IsOverlapPart b a S u s region (region_of r)) of h)

  -- what they forbid of the region is what the condition does
  pub matched_part : (short : length (apart_parts a b) < 2 ^ 63) (cond : Cond) → SaysApart a b short cond → (S : State) (o s : ℕ) (region : Region) (x : Option (KBox K))
      → MatchOption x (NeedNotOverlap a b S o s region) (λ r. IsOverlapPart a b S o s region (region_of r)) → ForbidsPart cond S o s region x
  matched_part short cond says S o s region None h = λ q has. possible_says a b short cond says (with_at S o s (just q)) (h q has)
  matched_part short cond says S o s region (Some r) h = overlap_forbidden a b short cond says S o s region (region_of r) h
