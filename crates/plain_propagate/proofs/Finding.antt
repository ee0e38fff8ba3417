-- Finding a defect.
use Rattle.std.proofs.Common.{◌≡◌, ℕ, zero, suc, ◌+◌, ◌<◌, ◌≤◌, Bool, true, false, List, length, refl, sym, ◌∙◌, subst, inl, inr, arith, pos, ◌≤ℤ◌, ◌<ℤ◌}
use Rattle.std.proofs.lemmas.Int.{ints}
use Rattle.std.proofs.lemmas.Bool.{cases_lt, cases_eq, false≢true}
use Rattle.std.proofs.lemmas.List.{get_or_past}
use Rattle.geo_conditions.specs.declared.cond.Cond.{Cond}
use Rattle.geo_state.proofs.Shapes.{place_few}
use Rattle.geo_conditions.specs.Reach.{State, reach, has, low, high, dims}
use Rattle.geo_conditions.specs.Supported.{IsSupported, NoneInside, NoneRefuted}
use Rattle.geo_conditions.proofs.Points.{unrefuted_wider, supports_wider}
use Rattle.plain_propagate.specs.Points.{HasSupport, HasEnd}
use Rattle.plain_propagate.specs.Defects.{LacksAll, PlacesFine, ObjectFine}

-- a condition that is refuted on a state is so on every state inside
pub refuted_hopeless : (cs : List Cond) (S : State) → (NoneRefuted cs S → ⊥) → NoneInside cs S
refuted_hopeless cs S h T s i = h (unrefuted_wider cs T S i s.nonempty s.unrefuted)

-- where an object has no point, each state inside has an object without a point
pub gone_hopeless : (cs : List Cond) (S : State) (o : ℕ) → LacksAll cs S o → NoneInside cs S
gone_hopeless cs S o l T s i =
    let h : o < length T = omega (arith, i.objects, l.object) in
    let p = (s.nonempty o h).place in
    let y = s.places o p.0 h p.1 in
    l.lacks p.0 (y.0, supports_wider cs T S o p.0 y.0 h i s.nonempty y.1)

-- in an empty interval there is no point
pub gone_range : (cs : List Cond) (S : State) (o d : ℕ) → o < length S → high S o d <ℤ low S o d → LacksAll cs S o
gone_range cs S o d h l = record { object = h; lacks = λ s y. absurd (omega (arith, ints, l, y.1.point.above d, y.1.point.below d)) }

-- without places there is no point
pub gone_places : (cs : List Cond) (S : State) (o : ℕ) → o < length S → ((s : ℕ) → has S o s ≡ true → ⊥) → LacksAll cs S o
gone_places cs S o h none = record { object = h; lacks = λ s y. none s y.1.place }

-- an interval of at most one number whose low end has no point
pub gone_low : (cs : List Cond) (S : State) (o d : ℕ) → o < length S → (HasEnd cs S o d (low S o d) → ⊥) → high S o d ≤ℤ low S o d → LacksAll cs S o
gone_low cs S o d h n l = record { object = h; lacks = λ s y. n (s, y.0, y.1, omega (arith, ints, l, y.1.point.above d, y.1.point.below d)) }

-- the places before the next one are fine, and one of them is there where it says so
pub record PlacesUpTo (cs : List Cond) (S : State) (o : ℕ) (any : Bool) (n : ℕ) : Type 0 where
  pub fine : (s : ℕ) → s < n → has S o s ≡ true → HasSupport cs S o s
  pub some : any ≡ true → (s : ℕ) × (has S o s ≡ true)
  pub none : any ≡ false → (s : ℕ) → s < n → has S o s ≡ true → ⊥

-- no place comes before the first
pub places_start : (cs : List Cond) (S : State) (o : ℕ) → PlacesUpTo cs S o false 1
places_start cs S o = record {
  fine = λ s h t. absurd (zero_place s h t);
  some = λ e. absurd (false≢true e);
  none = λ e s h t. zero_place s h t;
}
  where
    zero_place : (s : ℕ) → s < 1 → has S o s ≡ true → ⊥
    zero_place zero h t = false≢true t
    zero_place (suc s) h t = absurd (omega arith)

-- one place more, which is there and has a point
pub places_there : (cs : List Cond) (S : State) (o n : ℕ) (any : Bool) → PlacesUpTo cs S o any n → has S o n ≡ true → HasSupport cs S o n → PlacesUpTo cs S o true (n + 1)
places_there cs S o n any p t y = record {
  fine = λ s h u. elim (cases_eq s n) [ inl e ↦ subst (HasSupport cs S o) (sym e) y | inr ne ↦ p.fine s (omega arith) u ];
  some = λ e. (n, t);
  none = λ e. absurd (false≢true (sym e));
}

-- one place more, which is not there
pub places_absent : (cs : List Cond) (S : State) (o n : ℕ) (any : Bool) → PlacesUpTo cs S o any n → has S o n ≡ false → PlacesUpTo cs S o any (n + 1)
places_absent cs S o n any p f = record {
  fine = λ s h u. elim (cases_eq s n) [ inl e ↦ absurd (false≢true (sym f ∙ subst (λ (z : ℕ). has S o z ≡ true) e u)) | inr ne ↦ p.fine s (omega arith) u ];
  some = p.some;
  none = λ e s h u. elim (cases_eq s n) [ inl q ↦ false≢true (sym f ∙ subst (λ (z : ℕ). has S o z ≡ true) q u) | inr ne ↦ p.none e s (omega arith) u ];
}

-- all places are tried, and one was there
pub places_end : (cs : List Cond) (S : State) (o n : ℕ) → length (reach S o).places ≡ 16 → 17 ≤ n → PlacesUpTo cs S o true n → PlacesFine cs S o
places_end cs S o n e h p = (p.some refl, λ s t. p.fine s (omega (arith, place_few (reach S o).places s t, e, h)) t)

-- all places are tried, and none was there
pub places_gone : (cs : List Cond) (S : State) (o n : ℕ) → o < length S → length (reach S o).places ≡ 16 → 17 ≤ n → PlacesUpTo cs S o false n → LacksAll cs S o
places_gone cs S o n b e h p = gone_places cs S o b (λ s t. p.none refl s (omega (arith, place_few (reach S o).places s t, e, h)) t)

-- all objects fine: the state is supported
pub all_supported : (cs : List Cond) (S : State) → NoneRefuted cs S → ((o : ℕ) → o < length S → ObjectFine cs S o) → IsSupported cs S
all_supported cs S u f = record {
  nonempty = λ o h. record {
    place = (f o h).0.0;
    ranges = λ d. elim (cases_lt d (dims S o)) [
      | inl b ↦ ((f o h).1 d b).0
      | inr b ↦ rw (get_or_past (reach S o).region.lo d (pos 0) b, get_or_past (reach S o).region.hi d (pos 0) (omega (arith, b, (f o h).2))) (omega (arith, ints))
    ];
  };
  unrefuted = u;
  places = λ o s h t. (f o h).0.1 s t;
  lows = λ o d h b. ((f o h).1 d b).1;
  highs = λ o d h b. ((f o h).1 d b).2;
}

-- a fact of the first n numbers and of the next one
pub one_more : (P : ℕ → Type 0) (n : ℕ) → ((e : ℕ) → e < n → P e) → P n → (e : ℕ) → e < n + 1 → P e
one_more P n h p e b = elim (cases_eq e n) [ inl q ↦ subst P (sym q) p | inr ne ↦ h e (omega arith) ]
