-- A box one end of which was moved outwards.
use Rattle.std.proofs.Common.{◌≡◌, ◌≢◌, ℕ, ◌+◌, ◌*◌, ◌<◌, ◌≤◌, ◌⊎◌, inl, inr, Bool, true, false, List, refl, sym, ap, ◌∙◌, ◌-◌, subst, arith, ℤ, pos, ◌+ℤ◌, ◌≤ℤ◌, ◌<ℤ◌, not}
use Rattle.std.specs.Prelude.{AllPairs}
use Rattle.std.proofs.lemmas.Int.{ints}
use Rattle.std.proofs.lemmas.Bool.{cases_lt, cases_eq, true≢false}
use lib.Signed.{le_z}
use Rattle.geo_base.specs.Boxes.{coordinate, Has}
use Rattle.geo_base.proofs.Mirror.{place, place_in, dimension-place}
use Rattle.geo_conditions.specs.Reach.{Region, just}
use Rattle.geo_base.specs.Ways.{dimension}
use Rattle.geo_conditions.specs.Form.{Sum, StandsBefore}
use Rattle.indexical.specs.Widening.{cost, factor_at, outer, Widens, WidensFrom}
use Rattle.indexical.proofs.Values.{value_widened}
use Rattle.indexical.proofs.WholePart.{once_of}

module _ (d price price' purse purse' units gap : ℕ) (same_price : price ≡ price') (within : units ≤ gap) (paid : purse' + price * units ≡ purse) (empty : units < gap → purse' < price) where
  pub widens_high : (high : Bool) (lo hi hi' : List ℤ) (region : Region) → high ≡ true → coordinate hi d +ℤ pos gap ≡ coordinate region.hi d → coordinate hi' d ≡ coordinate hi d +ℤ pos units
      → ((e : ℕ) → e ≢ d → coordinate hi' e ≡ coordinate hi e) → Widens high d price' region (record { lo = lo; hi = hi }) (record { lo = lo; hi = hi' }) purse purse'
  widens_high true lo hi hi' region u far moved others = subst (λ (p : ℕ). Widens true d p region (record { lo = lo; hi = hi }) (record { lo = lo; hi = hi' }) purse purse') same_price (record {
    units = units;
    moved = moved;
    within = omega (arith, ints, far, moved);
    others = others;
    other_side = λ e. refl;
    paid = paid;
    far = elim (cases_lt units gap) [ inl l ↦ inr (empty l) | inr m ↦ inl (omega (arith, ints, far, moved)) ];
  })
  widens_high false lo hi hi' region u far moved others = absurd (true≢false (sym u))

  pub widens_low : (high : Bool) (lo lo' hi : List ℤ) (region : Region) → high ≡ false → coordinate region.lo d +ℤ pos gap ≡ coordinate lo d → coordinate lo' d +ℤ pos units ≡ coordinate lo d
      → ((e : ℕ) → e ≢ d → coordinate lo' e ≡ coordinate lo e) → Widens high d price' region (record { lo = lo; hi = hi }) (record { lo = lo'; hi = hi }) purse purse'
  widens_low true lo lo' hi region u far moved others = absurd (true≢false u)
  widens_low false lo lo' hi region u far moved others = subst (λ (p : ℕ). Widens false d p region (record { lo = lo; hi = hi }) (record { lo = lo'; hi = hi }) purse purse') same_price (record {
    units = units;
    moved = omega (arith, ints, moved);
    within = omega (arith, ints, far, moved);
    others = λ e ne. let h = others e ne in omega (arith, ints, h);
    other_side = λ e. refl;
    paid = paid;
    far = elim (cases_lt units gap) [ inl l ↦ inr (empty l) | inr m ↦ inl (omega (arith, ints, far, moved)) ];
  })

-- ---- one side in all dimensions

module _ (K lead : ℕ) (f : Sum) (o : ℕ) (high : Bool) (region : Region) where
  pub WidensFrom-start : (b : Region) (purse : ℕ) → ((d : ℕ) → d < K → outer high b d ≤ℤ outer high region d) → WidensFrom K lead K f o high region b b purse purse
  WidensFrom-start b purse inside = record {
    grows = λ d. omega (arith, ints);
    within = inside;
    other_side = λ e. refl;
    far = λ i h l. absurd (omega arith);
    spent = 0;
    paid = omega arith;
    value = λ S s there. omega (arith, ints);
  }

  pub WidensFrom-more : (j : ℕ) (b b1 b2 : Region) (p p1 p2 : ℕ) → 0 < j → AllPairs StandsBefore f.terms → WidensFrom K lead j f o high region b b1 p p1
      → Widens high (dimension K lead (j - 1)) (cost high (factor_at f.terms o (dimension K lead (j - 1)))) region b1 b2 p1 p2 → WidensFrom K lead (j - 1) f o high region b b2 p p2
  WidensFrom-more j b b1 b2 p p1 p2 some form was w =
      let d0 = dimension K lead (j - 1) in
      record {
        grows = λ d. elim (cases_eq d d0) [
          | inl e ↦ subst (λ (x : ℕ). outer high b x ≤ℤ outer high b2 x) (sym e) (let h = was.grows d0 in omega (arith, ints, h, w.moved))
          | inr ne ↦ (let h = was.grows d in let g = w.others d ne in omega (arith, ints, h, g))
        ];
        within = λ d l. elim (cases_eq d d0) [
          | inl e ↦ subst (λ (x : ℕ). outer high b2 x ≤ℤ outer high region x) (sym e) w.within
          | inr ne ↦ (let h = was.within d l in let g = w.others d ne in omega (arith, ints, h, g))
        ];
        other_side = λ e. w.other_side e ∙ was.other_side e;
        far = λ i h l. elim (cases_eq (dimension K lead i) d0) [
          | inl e ↦ subst (λ (x : ℕ). (outer high b2 x ≡ outer high region x) ⊎ (p2 < cost high (factor_at f.terms o x))) (sym e) w.far
          | inr ne ↦ elim (was.far i (later i ne h) l) [
            | inl e ↦ inl (w.others (dimension K lead i) ne ∙ e)
            | inr g ↦ inr (let q = w.paid in omega (arith, g, q))
          ]
        ];
        spent = was.spent + cost high (factor_at f.terms o d0) * w.units;
        paid = (let x = was.paid in let y = w.paid in omega (arith, x, y));
        value = λ S s there.
            let x = was.value S s there in
            let y = value_widened S o s there f high d0 p1 p2 region b1 b2 (once_of f.terms o d0 form) w in
            omega (arith, ints, x, y);
      }
    where
      -- a place with another dimension than that of j - 1 is a later one
      later : (i : ℕ) → dimension K lead i ≢ dimension K lead (j - 1) → j - 1 ≤ i → j ≤ i
      later i ne h = elim (cases_lt (j - 1) i) [
        | inl l ↦ omega arith
        | inr m ↦ (let e : i ≡ j - 1 = omega arith in absurd (ne (ap (dimension K lead) e)))
      ]

-- ---- both sides

-- on one side the box has grown within the region, as far as what is left allows
pub record Grown (K : ℕ) (f : Sum) (o : ℕ) (high : Bool) (region b b' : Region) (purse : ℕ) : Type 0 where
  pub grows : (d : ℕ) → outer high b d ≤ℤ outer high b' d
  pub within : (d : ℕ) → d < K → outer high b' d ≤ℤ outer high region d
  pub far : (d : ℕ) → d < K → (outer high b' d ≡ outer high region d) ⊎ (purse < cost high (factor_at f.terms o d))

module _ (K lead : ℕ) (f : Sum) (o : ℕ) (region b0 b1 b2 : Region) (p0 p1 p2 : ℕ) (lead_in : lead < K) where
  first_side : (h : Bool) → WidensFrom K lead 0 f o h region b0 b1 p0 p1 → ((e : ℕ) → outer h b2 e ≡ outer h b1 e) → p2 ≤ p1 → Grown K f o h region b0 b2 p2
  first_side h w same less = record {
    grows = λ d. let x = w.grows d in let y = same d in omega (arith, ints, x, y);
    within = λ d l. let x = w.within d l in let y = same d in omega (arith, ints, x, y);
    far = λ d l. subst (λ (x : ℕ). (outer h b2 x ≡ outer h region x) ⊎ (p2 < cost h (factor_at f.terms o x))) (dimension-place K lead d lead_in l)
        (elim (w.far (place K lead d) (omega arith) (place_in K lead d lead_in l)) [ inl e ↦ inl (same (dimension K lead (place K lead d)) ∙ e) | inr g ↦ inr (omega arith) ]);
  }

  second_side : (h : Bool) → ((e : ℕ) → outer h b1 e ≡ outer h b0 e) → WidensFrom K lead 0 f o h region b1 b2 p1 p2 → Grown K f o h region b0 b2 p2
  second_side h same w = record {
    grows = λ d. let x = w.grows d in let y = same d in omega (arith, ints, x, y);
    within = w.within;
    far = λ d l. subst (λ (x : ℕ). (outer h b2 x ≡ outer h region x) ⊎ (p2 < cost h (factor_at f.terms o x))) (dimension-place K lead d lead_in l)
        (w.far (place K lead d) (omega arith) (place_in K lead d lead_in l));
  }

  -- one side first, and then the other
  pub both_sides : (up h : Bool) → WidensFrom K lead 0 f o up region b0 b1 p0 p1 → WidensFrom K lead 0 f o (not up) region b1 b2 p1 p2 → Grown K f o h region b0 b2 p2
  both_sides true true w v = first_side true w v.other_side (omega (arith, v.paid))
  both_sides true false w v = second_side false w.other_side v
  both_sides false true w v = second_side true w.other_side v
  both_sides false false w v = first_side false w v.other_side (omega (arith, v.paid))

  -- what lies in the box that was widened lies in the wide one, and its corners lie in the region
  pub grown_has : (c : List ℤ) → Grown K f o true region (just c) b2 p2 → Grown K f o false region (just c) b2 p2 → Has K b2.lo b2.hi c
  grown_has c h l d i = (omega (arith, ints, l.grows d), h.grows d)

  pub grown_within : (c : List ℤ) → Has K region.lo region.hi c → Grown K f o true region (just c) b2 p2 → Grown K f o false region (just c) b2 p2 → Has K region.lo region.hi b2.lo × Has K region.lo region.hi b2.hi
  grown_within c has h l = (
    λ d i. (omega (arith, ints, l.within d i), omega (arith, ints, (has d i).1, l.grows d)),
    λ d i. (omega (arith, ints, (has d i).0, h.grows d), h.within d i),
  )

-- a value that is refuted is above 0
pub above_0 : (z : ℤ) → le_z z (pos 0) ≡ false → pos 0 <ℤ z
above_0 z e = grind (arith, ints)

pub far_sides : (K : ℕ) (f : Sum) (o : ℕ) (region b b' : Region) (p : ℕ) → Grown K f o true region b b' p → Grown K f o false region b b' p → (up : Bool) (d : ℕ) → d < K → (outer up b' d ≡ outer up region d) ⊎ (p < cost up (factor_at f.terms o d))
far_sides K f o region b b' p h l true = h.far
far_sides K f o region b b' p h l false = l.far

-- the same box under another name
pub begins_at : (K lead j : ℕ) (f : Sum) (o : ℕ) (h : Bool) (region b b' b1 : Region) (p0 p1 : ℕ) → b ≡ b' → WidensFrom K lead j f o h region b b1 p0 p1 → WidensFrom K lead j f o h region b' b1 p0 p1
begins_at K lead j f o h region b b' b1 p0 p1 e w = subst (λ (x : Region). WidensFrom K lead j f o h region x b1 p0 p1) e w
