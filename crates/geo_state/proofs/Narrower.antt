-- A reach that loses a place or part of an interval lies within the old one.
use Rattle.std.proofs.Common.{◌≡◌, ℕ, zero, suc, ◌-◌, Bool, true, false, List, length, set, get_or, refl, sym, ap, ◌∙◌, subst, inl, inr, arith, ℤ, ◌≤ℤ◌}
use Rattle.std.proofs.lemmas.Int.{ints}
use Rattle.std.proofs.lemmas.Bool.{cases_lt, cases_eq, false≢true}
use Rattle.std.proofs.lemmas.List.{get_or_past, get_or-set_same, get_or-set_other}
use Rattle.std.proofs.Math.ListN.{length-set}
use Rattle.geo_conditions.specs.Reach.{State, Reach, nowhere, place_in, with_low, with_high, without, Within}
use Rattle.geo_base.specs.Boxes.{coordinate}
use Rattle.geo_conditions.proofs.Greatest.{at_set}
use Rattle.geo_state.specs.Trail.{HasSmallIntervals, IsSmallEnd}

-- a low end that rises
pub low_within : (r : Reach) (d : ℕ) (v : ℤ) → coordinate r.region.lo d ≤ℤ v → Within (with_low r d v) r
low_within r d v l = record {
  same_lo = length-set r.region.lo d v;
  same_hi = refl;
  places = λ s t. t;
  lows = at_set (λ e z. coordinate r.region.lo e ≤ℤ z) r.region.lo d v (λ b. l) (λ e. omega (arith, ints));
  highs = λ e. omega (arith, ints);
}

-- a high end that falls
pub high_within : (r : Reach) (d : ℕ) (v : ℤ) → v ≤ℤ coordinate r.region.hi d → Within (with_high r d v) r
high_within r d v l = record {
  same_lo = refl;
  same_hi = length-set r.region.hi d v;
  places = λ s t. t;
  lows = λ e. omega (arith, ints);
  highs = at_set (λ e z. z ≤ℤ coordinate r.region.hi e) r.region.hi d v (λ b. l) (λ e. omega (arith, ints));
}

-- a test that is set to false
pub set_false : (bs : List Bool) (k u : ℕ) → place_in (set bs k false) u ≡ true → place_in bs u ≡ true
set_false bs k zero h = h
set_false bs k (suc u) h = elim (cases_eq u k) [
  | inl e ↦ elim (cases_lt k (length bs)) [
    | inl b ↦ absurd (false≢true (sym (get_or-set_same bs k false false b) ∙ subst (λ (v : ℕ). get_or (set bs k false) v false ≡ true) e h))
    | inr b ↦ absurd (false≢true (sym (get_or_past (set bs k false) u false (omega (arith, length-set bs k false))) ∙ h))
  ]
  | inr ne ↦ sym (get_or-set_other bs k u false false ne) ∙ h
]

-- a place that goes
pub without_within : (r : Reach) (s : ℕ) → Within (without r s) r
without_within r s = record {
  same_lo = refl;
  same_hi = refl;
  places = λ u t. set_false r.places (s - 1) u t;
  lows = λ d. omega (arith, ints);
  highs = λ d. omega (arith, ints);
}

-- the ends of the reach in that dimension are small
abbrev Ends : ℕ → Reach → Type 0
Ends d q = IsSmallEnd (coordinate q.region.lo d) × IsSmallEnd (coordinate q.region.hi d)

-- one reach is changed, and its ends are small
pub small_set : (S : State) (o : ℕ) (r : Reach) → HasSmallIntervals S → ((d : ℕ) → IsSmallEnd (coordinate r.region.lo d) × IsSmallEnd (coordinate r.region.hi d)) → HasSmallIntervals (set S o r)
small_set S o r h k u d = elim (cases_eq u o) [
  | inl e ↦ elim (cases_lt o (length S)) [
    | inl b ↦ subst (Ends d) (sym (ap (λ (n : ℕ). get_or (set S o r) n nowhere) e ∙ get_or-set_same S o r nowhere b)) (k d)
    | inr b ↦ subst (Ends d) (get_or_past S u nowhere (omega arith) ∙ sym (get_or_past (set S o r) u nowhere (omega (arith, length-set S o r)))) (h u d)
  ]
  | inr ne ↦ subst (Ends d) (sym (get_or-set_other S o u r nowhere ne)) (h u d)
]
