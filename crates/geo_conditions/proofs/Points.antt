-- One object put at a place in a box.
use Rattle.std.proofs.Common.{◌≡◌, ◌≢◌, ℕ, zero, suc, ◌<◌, Bool, true, List, length, get_or, refl, sym, ◌∙◌, subst, inl, inr, arith, ℤ}
use Rattle.std.proofs.lemmas.Int.{ints}
use Rattle.std.proofs.lemmas.List.{get_or-set_same, get_or-set_other}
use Rattle.std.proofs.Math.ListN.{length-set}
use Rattle.std.proofs.lemmas.Bool.{cases_eq, false≢true}
use Rattle.geo_conditions.specs.declared.cond.Cond.{Cond}
use Rattle.geo_conditions.specs.Reach.{State, Reach, Region, reach, nowhere, place_in, only, just, with_at, InBox, Within, Inside, NotEmpty, HasNoEmpty}
use Rattle.geo_conditions.specs.Supported.{NoneRefuted, Supports}
use Rattle.geo_conditions.proofs.Sets.{only_self, only_same}
use Rattle.geo_conditions.proofs.Monotone.{le_trans, possible_wider}

abbrev pub at_only : ℕ → Region → Reach
at_only s b = record { places = only s; region = b }

pub reach_same : (S : State) (o s : ℕ) (b : Region) → o < length S → reach (with_at S o s b) o ≡ at_only s b
reach_same S o s b h = get_or-set_same S o (at_only s b) nowhere h

pub reach_other : (S : State) (o s u : ℕ) (b : Region) → u ≢ o → reach (with_at S o s b) u ≡ reach S u
reach_other S o s u b h = get_or-set_other S o u (at_only s b) nowhere h

pub with_length : (S : State) (o s : ℕ) (b : Region) → length (with_at S o s b) ≡ length S
with_length S o s b = length-set S o (at_only s b)

pub within_self : (r : Reach) → Within r r
within_self r = record {
  same_lo = refl;
  same_hi = refl;
  places = λ s h. h;
  lows = λ d. omega (arith, ints);
  highs = λ d. omega (arith, ints);
}

pub within_trans : (a b c : Reach) → Within a b → Within b c → Within a c
within_trans a b c h k = record {
  same_lo = h.same_lo ∙ k.same_lo;
  same_hi = h.same_hi ∙ k.same_hi;
  places = λ s p. k.places s (h.places s p);
  lows = λ d. le_trans _ _ _ (k.lows d) (h.lows d);
  highs = λ d. le_trans _ _ _ (h.highs d) (k.highs d);
}

pub inside_self : (S : State) → Inside S S
inside_self S = record { objects = refl; each = λ o. within_self (reach S o) }

pub inside_trans : (S T U : State) → Inside S T → Inside T U → Inside S U
inside_trans S T U h k = record {
  objects = h.objects ∙ k.objects;
  each = λ o. within_trans (reach S o) (reach T o) (reach U o) (h.each o) (k.each o);
}

-- a place that is there is a number from 1
pub place_from_1 : (bs : List Bool) (s : ℕ) → place_in bs s ≡ true → 0 < s
place_from_1 bs zero h = absurd (false≢true h)
place_from_1 bs (suc s) h = omega arith

-- a place and a point of a reach are within it
pub point_within : (r : Reach) (s : ℕ) (p : List ℤ) → place_in r.places s ≡ true → InBox p r.region → Within (at_only s (just p)) r
point_within r s p h i = record {
  same_lo = i.same_lo;
  same_hi = i.same_hi;
  places = λ u k. subst (λ (v : ℕ). place_in r.places v ≡ true) (sym (only_same s u k)) h;
  lows = i.above;
  highs = i.below;
}

pub point_not_empty : (s : ℕ) (p : List ℤ) → 0 < s → NotEmpty (at_only s (just p))
point_not_empty s p h = record { place = (s, only_self s h); ranges = λ d. omega (arith, ints) }

-- the same place and box in two states
pub with_inside : (S T : State) (o s : ℕ) (b : Region) → o < length S → Inside S T → Inside (with_at S o s b) (with_at T o s b)
with_inside S T o s b h i = record {
  objects = with_length S o s b ∙ i.objects ∙ sym (with_length T o s b);
  each = λ u. elim (cases_eq u o) [
    | inl e ↦ let h' : o < length T = subst (λ (n : ℕ). o < n) i.objects h in
        subst (λ (v : ℕ). Within (reach (with_at S o s b) v) (reach (with_at T o s b) v)) (sym e) (subst (λ (r : Reach). Within r (reach (with_at T o s b) o)) (sym (reach_same S o s b h)) (subst (λ (r : Reach). Within (at_only s b) r) (sym (reach_same T o s b h')) (within_self (at_only s b))))
    | inr ne ↦ subst (λ (r : Reach). Within r (reach (with_at T o s b) u)) (sym (reach_other S o s u b ne)) (subst (λ (r : Reach). Within (reach S u) r) (sym (reach_other T o s u b ne)) (i.each u))
  ];
}

-- an object put within its reach
pub put_inside : (S : State) (o s : ℕ) (b : Region) → o < length S → Within (at_only s b) (reach S o) → Inside (with_at S o s b) S
put_inside S o s b h w = record {
  objects = with_length S o s b;
  each = λ u. elim (cases_eq u o) [
    | inl e ↦ subst (λ (v : ℕ). Within (reach (with_at S o s b) v) (reach S v)) (sym e) (subst (λ (r : Reach). Within r (reach S o)) (sym (reach_same S o s b h)) w)
    | inr ne ↦ subst (λ (r : Reach). Within r (reach S u)) (sym (reach_other S o s u b ne)) (within_self (reach S u))
  ];
}

pub put_not_empty : (S : State) (o s : ℕ) (b : Region) → o < length S → HasNoEmpty S → NotEmpty (at_only s b) → HasNoEmpty (with_at S o s b)
put_not_empty S o s b h n e u k =
    elim (cases_eq u o) [
      | inl q ↦ subst (λ (v : ℕ). NotEmpty (reach (with_at S o s b) v)) (sym q) (subst NotEmpty (sym (reach_same S o s b h)) e)
      | inr ne ↦ subst NotEmpty (sym (reach_other S o s u b ne)) (n u (subst (λ (m : ℕ). u < m) (with_length S o s b) k))
    ]

pub unrefuted_wider : (cs : List Cond) (S T : State) → Inside S T → HasNoEmpty S → NoneRefuted cs S → NoneRefuted cs T
unrefuted_wider cs S T i n all k c h = possible_wider (get_or cs k c) S T i n (all k c h)

pub in_box_wider : (p : List ℤ) (r q : Reach) → Within r q → InBox p r.region → InBox p q.region
in_box_wider p r q w i = record {
  same_lo = i.same_lo ∙ w.same_lo;
  same_hi = i.same_hi ∙ w.same_hi;
  above = λ d. le_trans _ _ _ (w.lows d) (i.above d);
  below = λ d. le_trans _ _ _ (i.below d) (w.highs d);
}

-- what supports in a state without an empty set supports in a wider one
pub supports_wider : (cs : List Cond) (S T : State) (o s : ℕ) (p : List ℤ) → o < length S → Inside S T → HasNoEmpty S → Supports cs S o s p → Supports cs T o s p
supports_wider cs S T o s p h i n u = record {
  place = (i.each o).places s u.place;
  point = in_box_wider p (reach S o) (reach T o) (i.each o) u.point;
  unrefuted = unrefuted_wider cs (with_at S o s (just p)) (with_at T o s (just p)) (with_inside S T o s (just p) h i) (put_not_empty S o s (just p) h n (point_not_empty s p (place_from_1 (reach S o).places s u.place))) u.unrefuted;
}

pub in_just : (p : List ℤ) → InBox p (just p)
in_just p = record { same_lo = refl; same_hi = refl; above = λ d. omega (arith, ints); below = λ d. omega (arith, ints) }

-- an object put where it is
pub inside_put : (S : State) (o s : ℕ) (b : Region) → o < length S → at_only s b ≡ reach S o → Inside S (with_at S o s b)
inside_put S o s b h q = record {
  objects = sym (with_length S o s b);
  each = λ u. elim (cases_eq u o) [
    | inl e ↦ subst (λ (v : ℕ). Within (reach S v) (reach (with_at S o s b) v)) (sym e) (subst (λ (r : Reach). Within (reach S o) r) (sym (reach_same S o s b h)) (subst (λ (r : Reach). Within r (at_only s b)) q (within_self (at_only s b))))
    | inr ne ↦ subst (λ (r : Reach). Within (reach S u) r) (sym (reach_other S o s u b ne)) (within_self (reach S u))
  ];
}
