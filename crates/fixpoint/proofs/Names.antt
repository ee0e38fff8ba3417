-- A condition that does not name an object does not see it.
use Rattle.std.proofs.Common.{◌≡◌, ◌≢◌, ℕ, zero, suc, ◌<◌, Bool, true, false, List, length, get_or, refl, sym, ap, ◌∙◌, subst, inl, inr, ◌⊎◌, arith, ℤ, Option, Some}
use Rattle.std.specs.Prelude.{IfSome}
use Rattle.std.proofs.lemmas.Bool.{cases_eq, cases_lt, false≢true}
use Rattle.std.proofs.lemmas.List.{get_or_past}
use Rattle.geo_base.specs.Boxes.{coordinate}
use Rattle.geo_conditions.specs.declared.cond.Cond.{Cond}
use Rattle.geo_conditions.specs.Reach.{State, Reach, Region, reach, nowhere, place_in, has, just, InBox, with_at, NotEmpty, HasNoEmpty}
use Rattle.geo_conditions.specs.Conditions.{possible}
use Rattle.geo_conditions.specs.Supported.{IsSupported, Supports, NoneRefuted}
use Rattle.geo_conditions.proofs.Monotone.{possible_wider}
use Rattle.geo_conditions.proofs.Points.{reach_same, reach_other, with_length, point_within, point_not_empty, place_from_1, put_inside, put_not_empty}
use Rattle.geo_conditions.specs.declared.object.ObjId.{ObjId}
use Rattle.indexical.specs.declared.facing.Facing.{Facing}
use Rattle.indexical.specs.Faces.{Faces, IsBeside}
use Rattle.indexical.specs.Free.{SparesAnywhere}
use Rattle.indexical.specs.Names.{names}
use Rattle.indexical.proofs.Unnamed.{same_answer}
use Rattle.object_pruning.specs.Same.{SameBut}
use Rattle.fixpoint.specs.Near.{IsPair, Unhindered, IsUntouched, NearSupports, IsFine, BarePossible}

abbrev place_of : Reach → ℕ → Bool
place_of r s = place_in r.places s

-- what a condition that does not name the object sees
same_seen : (c : Cond) (S T : State) (o : ℕ) → SameBut o S T → names o c ≡ false → (u : ℕ) → names u c ≡ true → reach S u ≡ reach T u
same_seen c S T o b h u n = b.each u (λ e. absurd (false≢true (sym h ∙ subst (λ (v : ℕ). names v c ≡ true) e n)))

-- a condition that does not name the object keeps its answer
pub same_without : (c : Cond) (S T : State) (o : ℕ) → SameBut o S T → names o c ≡ false → possible c S ≡ possible c T
same_without c S T o b h = same_answer c S T (same_seen c S T o b h)

-- all of them, or one
either : (P : ℕ → Type 0) (Q : Type 0) (n : ℕ) → ((u : ℕ) → u < n → P u ⊎ Q) → ((u : ℕ) → u < n → P u) ⊎ Q
either P Q zero f = inl (λ u h. absurd (omega arith))
either P Q (suc n) f = elim (either P Q n (λ u h. f u (omega (arith, h)))) [
  | inr y ↦ inr y
  | inl g ↦ elim (f n (omega arith)) [
    | inr y ↦ inr y
    | inl p ↦ inl (λ u h. elim (cases_eq u n) [ inl e ↦ subst P (sym e) p | inr ne ↦ g u (omega (arith, h, ne)) ])
  ]
]

-- a condition stays possible with the object there, if each other one that it names is the same or leaves it possible
pub still_possible : (c : Cond) (S T : State) (o place : ℕ) (p : List ℤ) → length S ≡ length T → o < length S → ((u : ℕ) → u < length S → u ≢ o → names u c ≡ true → (reach S u ≡ reach T u) ⊎ SparesAnywhere c T o)
    → possible c (with_at S o place (just p)) ≡ true → possible c (with_at T o place (just p)) ≡ true
still_possible c S T o place p same h f was =
    elim (either (λ u. u ≢ o → names u c ≡ true → reach S u ≡ reach T u) (possible c (with_at T o place (just p)) ≡ true) (length S) (λ u b. by_test u b (names u c) refl)) [
      | inr y ↦ y
      | inl g ↦ sym (same_answer c (with_at S o place (just p)) (with_at T o place (just p)) (seen g)) ∙ was
    ]
  where
    by_test : (u : ℕ) → u < length S → (b : Bool) → names u c ≡ b → (u ≢ o → names u c ≡ true → reach S u ≡ reach T u) ⊎ (possible c (with_at T o place (just p)) ≡ true)
    by_test u b false e = inl (λ n y. absurd (false≢true (sym e ∙ y)))
    by_test u b true e = elim (cases_eq u o) [
      | inl q ↦ inl (λ n y. absurd (n q))
      | inr ne ↦ elim (f u b ne e) [ inl z ↦ inl (λ n y. z) | inr g ↦ inr (g place p) ]
    ]

    both : ((u : ℕ) → u < length S → u ≢ o → names u c ≡ true → reach S u ≡ reach T u) → (w : ℕ) → w ≢ o → names w c ≡ true → reach S w ≡ reach T w
    both g w ne m = elim (cases_lt w (length S)) [
      | inl l ↦ g w l ne m
      | inr l ↦ get_or_past S w nowhere l ∙ sym (get_or_past T w nowhere (omega (arith, l, same)))
    ]

    seen : ((u : ℕ) → u < length S → u ≢ o → names u c ≡ true → reach S u ≡ reach T u) → (w : ℕ) → names w c ≡ true → reach (with_at S o place (just p)) w ≡ reach (with_at T o place (just p)) w
    seen g w m = elim (cases_eq w o) [
      | inl q ↦ subst (λ (v : ℕ). reach (with_at S o place (just p)) v ≡ reach (with_at T o place (just p)) v) (sym q) (reach_same S o place (just p) h ∙ sym (reach_same T o place (just p) (omega (arith, h, same))))
      | inr ne ↦ reach_other S o place w (just p) ne ∙ both g w ne m ∙ sym (reach_other T o place w (just p) ne)
    ]

-- an object that the one that changed leaves unhindered is untouched
pub unhindered_untouched : (cs : List Cond) (S T : State) (o u : ℕ) → SameBut o S T → u ≢ o → Unhindered cs T o u → IsUntouched cs S T u
unhindered_untouched cs S T o u e ne free = record {
  itself = e.each u ne;
  others = λ v h. elim (cases_eq v o) [
    | inl q ↦ inr (subst (λ (z : ℕ). Unhindered cs T z u) (sym q) free)
    | inr m ↦ inl (e.each v m)
  ];
}

near_untouched : (cs : List Cond) (S T : State) (o s : ℕ) (p : List ℤ) → length S ≡ length T → o < length S → IsUntouched cs S T o → NearSupports cs S o s p → NearSupports cs T o s p
near_untouched cs S T o s p same h y z = record {
  place = ap (λ (r : Reach). place_of r s) (sym y.itself) ∙ z.place;
  point = subst (λ (r : Reach). InBox p r.region) y.itself z.point;
  unrefuted = λ k d b n. still_possible (get_or cs k d) S T o s p same h (λ u l ne m. elim (y.others u l) [ inl e ↦ inl e | inr g ↦ inr (g k d b m n) ]) (z.unrefuted k d b n);
}

-- an untouched object stays fine
pub fine_untouched : (cs : List Cond) (S T : State) (o : ℕ) → length S ≡ length T → o < length S → IsUntouched cs S T o → IsFine cs S o → IsFine cs T o
fine_untouched cs S T o same h u f =
    let q = u.itself in
    record {
      full = subst NotEmpty q f.full;
      places = λ s t. let y = f.places s (ap (λ (r : Reach). place_of r s) q ∙ t) in (y.0, near_untouched cs S T o s y.0 same h u y.1);
      lows = λ d b. let y = f.lows d (subst (λ (r : Reach). d < length r.region.lo) (sym q) b) in (y.0, y.1, near_untouched cs S T o y.0 y.1 same h u y.2, y.3 ∙ ap (λ (r : Reach). coordinate r.region.lo d) q);
      highs = λ d b. let y = f.highs d (subst (λ (r : Reach). d < length r.region.lo) (sym q) b) in (y.0, y.1, near_untouched cs S T o y.0 y.1 same h u y.2, y.3 ∙ ap (λ (r : Reach). coordinate r.region.hi d) q);
    }

-- ---- with an empty queue the state is supported

put_but : (S : State) (o s : ℕ) (b : Region) → SameBut o (with_at S o s b) S
put_but S o s b = record { objects = with_length S o s b; each = λ u ne. reach_other S o s u b ne }

-- a point inside leaves the condition possible on the whole state
widen : (c : Cond) (S : State) (o s : ℕ) (p : List ℤ) → o < length S → HasNoEmpty S → has S o s ≡ true → InBox p (reach S o).region → possible c (with_at S o s (just p)) ≡ true → possible c S ≡ true
widen c S o s p h n t i y =
    possible_wider c (with_at S o s (just p)) S (put_inside S o s (just p) h (point_within (reach S o) s p t i)) (put_not_empty S o s (just p) h n (point_not_empty s p (place_from_1 (reach S o).places s t))) y

named_or_not : (c : Cond) (n : ℕ) → ((o : ℕ) × (o < n) × (names o c ≡ true)) ⊎ ((o : ℕ) → o < n → names o c ≡ false)
named_or_not c zero = inr (λ o h. absurd (omega arith))
named_or_not c (suc n) = elim (named_or_not c n) [
  | inl y ↦ inl (y.0, omega (arith, y.1), y.2)
  | inr none ↦ by_test (names n c) refl none
]
  where
    by_test : (b : Bool) → names n c ≡ b → ((o : ℕ) → o < n → names o c ≡ false) → ((o : ℕ) × (o < suc n) × (names o c ≡ true)) ⊎ ((o : ℕ) → o < suc n → names o c ≡ false)
    by_test true e none = inl (n, omega arith, e)
    by_test false e none = inr (λ o h. elim (cases_eq o n) [ inl q ↦ subst (λ (z : ℕ). names z c ≡ false) (sym q) e | inr ne ↦ none o (omega arith) ])

near_whole : (cs : List Cond) (S : State) (o s : ℕ) (p : List ℤ) → NoneRefuted cs S → NearSupports cs S o s p → Supports cs S o s p
near_whole cs S o s p w y = record {
  place = y.place;
  point = y.point;
  unrefuted = λ k d b. by_test (get_or cs k d) (names o (get_or cs k d)) refl (w k d b) (y.unrefuted k d b);
}
  where
    by_test : (c : Cond) (b : Bool) → names o c ≡ b → possible c S ≡ true → (names o c ≡ true → possible c (with_at S o s (just p)) ≡ true) → possible c (with_at S o s (just p)) ≡ true
    by_test c true e h k = k e
    by_test c false e h k = same_without c (with_at S o s (just p)) S o (put_but S o s (just p)) e ∙ h

pub all_fine : (cs : List Cond) (S : State) → ((o : ℕ) → o < length S → IsFine cs S o) → BarePossible cs S → IsSupported cs S
all_fine cs S f bare =
    let full : HasNoEmpty S = λ o h. (f o h).full in
    let on_whole : NoneRefuted cs S = λ k d b. elim (named_or_not (get_or cs k d) (length S)) [
      | inr none ↦ bare k d b none
      | inl y ↦ let there = (f y.0 y.1).full.place in let p = (f y.0 y.1).places there.0 there.1 in
          widen (get_or cs k d) S y.0 there.0 p.0 y.1 full there.1 p.1.point (p.1.unrefuted k d b y.2)
    ] in
    record {
      nonempty = full;
      unrefuted = on_whole;
      places = λ o s h t. let y = (f o h).places s t in (y.0, near_whole cs S o s y.0 on_whole y.1);
      lows = λ o d h b. let y = (f o h).lows d b in (y.0, y.1, near_whole cs S o y.0 y.1 on_whole y.2, y.3);
      highs = λ o d h b. let y = (f o h).highs d b in (y.0, y.1, near_whole cs S o y.0 y.1 on_whole y.2, y.3);
    }

-- the condition that tells of the other object names no third one
pub told : (c : Cond) (o : ℕ) (f : Facing) (u : ObjId) → f.other ≡ Some u → Faces c o f → IsPair c o u.0
told c o f u e faces =
    let b : IsBeside c o u.0 f.other_place = subst (λ (v : Option ObjId). IfSome v (λ w. IsBeside c o w.0 f.other_place)) e faces.other in
    record { apart = b.apart; named = b.named }
