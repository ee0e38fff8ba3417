-- The two cases of a variable: what the search leaves of a state is exactly the one or the other.
use Rattle.std.proofs.Common.{◌≡◌, ℕ, zero, suc, ◌+◌, ◌-◌, ◌<◌, ◌≤◌, Bool, true, false, List, [], ◌∷◌, length, set, get_or, map, refl, sym, ap, ◌∙◌, subst, inl, inr, arith, ℤ, pos, negsuc, ◌+ℤ◌, ◌≤ℤ◌, ◌<ℤ◌}
use Rattle.std.specs.Prelude.{IsTrue, ◌↔◌}
use Rattle.std.specs.Int.{int_min, int_max}
use Rattle.std.proofs.lemmas.Int.{ints, clamps}
use Rattle.std.proofs.lemmas.Bool.{cases_lt, cases_eq, false≢true}
use Rattle.std.proofs.lemmas.List.{ext_get_or, get_or_past, get_or-set_same, get_or-set_other, set-get_or}
use Rattle.std.proofs.Math.ListN.{length-set}
use Rattle.geo_conditions.specs.Reach.{State, Reach, reach, nowhere, has, low, high, with_low, with_high, with_places, without, NotEmpty}
use Rattle.geo_conditions.proofs.Decide.{cases_ℤ}
use Rattle.geo_conditions.proofs.Points.{inside_self}
use Rattle.geo_conditions.specs.Walk.{Variable, PlaceOf, CoordinateOf, object_of, IsFixed, IsFirstValue}
use Rattle.derivation.specs.declared.side.Side.TheVariants.{Upto, From}
use Rattle.derivation.proofs.Chains.{moved_is_cut}
use Rattle.derivation.specs.Valid.{alone}
use Rattle.geo_state.proofs.Shapes.{place_few}
use Rattle.whole_derivation.proofs.Fitting.{none_in, length_none}
use Rattle.trail_search.specs.Cursor.{after, HasAfter, Narrows}
use Rattle.trail_search.specs.Record.{with_first, with_later}
use Rattle.trail_search.specs.Shed.{Clears}
use Rattle.trail_search.proofs.Moves.{place_from_1, not_true}

-- ---- places taken away

set_twice : {A : Type 0} (xs : List A) (i : ℕ) (a b : A) → set (set xs i a) i b ≡ set xs i b
set_twice [] i a b = refl
set_twice (x ∷ xs) zero a b = refl
set_twice (x ∷ xs) (suc i) a b = ap (λ (ys : List _). x ∷ ys) (set_twice xs i a b)

-- none is taken away yet
pub clears_start : (G : State) (o a : ℕ) → Clears G G o a a
clears_start G o a = record {
  places = (reach G o).places;
  state = sym (set-get_or G o nowhere);
  size = refl;
  gone = λ i l m. absurd (omega arith);
  kept = λ i l. refl;
}

set_gone_at : (bs : List Bool) (k : ℕ) → get_or (set bs k false) k false ≡ false
set_gone_at bs k = elim (cases_lt k (length bs)) [
  | inl b ↦ get_or-set_same bs k false false b
  | inr b ↦ get_or_past (set bs k false) k false (omega (arith, length-set bs k false))
]

-- one place more is
pub clears_more : (G N R : State) (o a s : ℕ) → o < length G → 1 ≤ s → a ≤ s → Clears G N o a s → R ≡ set N o (without (reach N o) s) → Clears G R o a (s + 1)
clears_more G N R o a zero h k l m q = absurd (omega arith)
clears_more G N R o a (suc n) h k l m q =
    let there : reach N o ≡ with_places (reach G o) m.places = ap (λ (S : State). reach S o) m.state ∙ get_or-set_same G o (with_places (reach G o) m.places) nowhere h in
    let at : suc n - 1 ≡ n = omega arith in
    record {
      places = set m.places n false;
      state =
          q ∙ ap (λ (r : Reach). set N o (without r (suc n))) there ∙ ap (λ (i : ℕ). set N o (with_places (reach G o) (set m.places i false))) at
          ∙ ap (λ (S : State). set S o (with_places (reach G o) (set m.places n false))) m.state ∙ set_twice G o (with_places (reach G o) m.places) (with_places (reach G o) (set m.places n false));
      size = length-set m.places n false ∙ m.size;
      gone = λ i b e. elim (cases_eq i n) [
        | inl same ↦ ap (λ (j : ℕ). get_or (set m.places n false) j false) same ∙ set_gone_at m.places n
        | inr other ↦ get_or-set_other m.places n i false false other ∙ m.gone i b (omega (arith, other))
      ];
      kept = λ i e. get_or-set_other m.places n i false false (λ same. elim e [ inl b ↦ absurd (omega (arith, b, same, l)) | inr b ↦ absurd (omega (arith, b, same)) ])
          ∙ m.kept i (elim e [ inl b ↦ inl b | inr b ↦ inr (omega (arith, b)) ]);
    }

-- ---- a place

-- no place before the least one is there
before_least : (G : State) (o u i : ℕ) → ((z : ℕ) → has G o z ≡ true → u ≤ z) → suc i < u → get_or (reach G o).places i false ≡ false
before_least G o u i least l = not_true (get_or (reach G o).places i false) (λ t. let m : u ≤ suc i = least (suc i) t in absurd (omega (arith, l, m)))

alone_at : (k : ℕ) (ps : List Bool) (i : ℕ) → i < length ps → (i ≡ k → get_or (alone (suc k) ps) i false ≡ get_or ps k false) × ((i ≡ k → ⊥) → get_or (alone (suc k) ps) i false ≡ false)
alone_at k ps i l = (
  λ e. ap (λ (j : ℕ). get_or (set (map (λ _. false) ps) k (get_or ps k false)) j false) e ∙ get_or-set_same (map (λ _. false) ps) k (get_or ps k false) false (omega (arith, l, e, length_none ps)),
  λ n. get_or-set_other (map (λ _. false) ps) k i (get_or ps k false) false n ∙ none_in ps i,
)

-- without the later places the least one is alone
pub first_place : (G N : State) (o u : ℕ) (v : ℤ) → length (reach G o).places ≡ 16 → has G o u ≡ true → ((z : ℕ) → has G o z ≡ true → u ≤ z) → v ≡ pos u → Clears G N o (u + 1) 17 → N ≡ with_first (PlaceOf o) v G
first_place G N o zero v e there least q m = absurd (false≢true there)
first_place G N o (suc k) v e there least q m =
    let ps = (reach G o).places in
    let same : m.places ≡ alone (suc k) ps = ext_get_or false m.places (alone (suc k) ps) (m.size ∙ sym (length-set (map (λ _. false) ps) k (get_or ps k false) ∙ length_none ps)) (λ i l.
    let l' : i < length ps = omega (arith, l, m.size) in
    elim (cases_eq i k) [
      | inl here ↦ m.kept i (inl (omega (arith, here))) ∙ ap (λ (j : ℕ). get_or ps j false) here ∙ sym ((alone_at k ps i l').0 here)
      | inr other ↦ elim (cases_lt i k) [
        | inl b ↦ m.kept i (inl (omega (arith, b))) ∙ before_least G o (suc k) i least (omega (arith, b)) ∙ sym ((alone_at k ps i l').1 other)
        | inr b ↦ m.gone i (omega (arith, b, other)) (omega (arith, l', e)) ∙ sym ((alone_at k ps i l').1 other)
      ]
    ]) in
    m.state ∙ ap (λ (qs : List Bool). set G o (with_places (reach G o) qs)) same ∙ ap (λ (z : ℤ). with_first (PlaceOf o) z G) (sym q)

-- without the places up to the least one the others are left
pub later_place : (G N : State) (o u c : ℕ) → has G o u ≡ true → ((z : ℕ) → has G o z ≡ true → u ≤ z) → c ≡ u + 1 → Clears G N o 1 c → N ≡ with_later (PlaceOf o) (pos u) G
later_place G N o zero c there least q m = absurd (false≢true there)
later_place G N o (suc k) c there least q m =
    let ps = (reach G o).places in
    let at : suc k - 1 ≡ k = omega arith in
    let same : m.places ≡ set ps k false = ext_get_or false m.places (set ps k false) (m.size ∙ sym (length-set ps k false)) (λ i l.
    elim (cases_eq i k) [
      | inl here ↦ m.gone i (omega arith) (omega (arith, q, here)) ∙ sym (ap (λ (j : ℕ). get_or (set ps k false) j false) here ∙ set_gone_at ps k)
      | inr other ↦ elim (cases_lt i k) [
        | inl b ↦ m.gone i (omega arith) (omega (arith, q, b)) ∙ sym (get_or-set_other ps k i false false other ∙ before_least G o (suc k) i least (omega (arith, b)))
        | inr b ↦ m.kept i (inr (omega (arith, q, b, other))) ∙ sym (get_or-set_other ps k i false false other)
      ]
    ]) in
    m.state ∙ ap (λ (qs : List Bool). set G o (with_places (reach G o) qs)) (same ∙ ap (λ (j : ℕ). set ps j false) (sym at))

-- the bound behind the first value of a place
pub place_bound : (G N : State) (o c : ℕ) (v u : ℤ) → length (reach G o).places ≡ 16 → 1 ≤ c → c ≤ 17 → (c ≤ 16 → v ≤ℤ pos c) → (1 < c → pos c ≤ℤ v) → v ≡ after (PlaceOf o) u → IsFirstValue G (PlaceOf o) u → HasAfter G (PlaceOf o) u → Clears G N o 1 c → N ≡ with_later (PlaceOf o) u G
place_bound G N o c v u e from to above below next f h m =
    let s = f.0 in
    let few : h.0 ≤ length (reach G o).places = place_few (reach G o).places h.0 h.1 in
    let one : 1 ≤ s = place_from_1 (reach G o).places s f.2 in
    let small : s < 16 = omega (arith, ints, few, e, h.2, f.1) in
    let is : v ≡ pos (s + 1) = omega (arith, ints, next, f.1) in
    let q : c ≡ s + 1 = elim (cases_lt 1 c) [
      | inl b ↦ let y : pos c ≤ℤ v = below b in
          elim (cases_lt c 17) [
            | inl d ↦ let z : v ≤ℤ pos c = above (omega (arith, d)) in omega (arith, ints, y, z, is)
            | inr d ↦ absurd (omega (arith, ints, y, is, small, d))
          ]
      | inr b ↦ let z : v ≤ℤ pos c = above (omega (arith, b)) in absurd (omega (arith, ints, z, is, one, b))
    ] in
    later_place G N o s c f.2 f.3 q m ∙ ap (λ (z : ℤ). with_later (PlaceOf o) z G) f.1

-- ---- a coordinate

pub first_up : (G N : State) (o d : ℕ) (v : ℤ) → NotEmpty (reach G o) → IsFirstValue G (CoordinateOf o d false) v → N ≡ set G o (with_high (reach G o) d v) → N ≡ with_first (CoordinateOf o d false) v G
first_up G N o d v full f q = q ∙ ap (set G o) (moved_is_cut G o (Upto d v) (let r = full.ranges d in omega (arith, ints, r, f)))

pub first_down : (G N : State) (o d : ℕ) (v : ℤ) → NotEmpty (reach G o) → IsFirstValue G (CoordinateOf o d true) v → N ≡ set G o (with_low (reach G o) d v) → N ≡ with_first (CoordinateOf o d true) v G
first_down G N o d v full f q = q ∙ ap (set G o) (moved_is_cut G o (From d v) (let r = full.ranges d in omega (arith, ints, r, f)))

pub later_up : (G N : State) (o d : ℕ) (v u : ℤ) → v ≡ after (CoordinateOf o d false) u → IsFirstValue G (CoordinateOf o d false) u → HasAfter G (CoordinateOf o d false) u → (low G o d <ℤ v → v ≤ℤ high G o d → N ≡ set G o (with_low (reach G o) d v)) → N ≡ with_later (CoordinateOf o d false) u G
later_up G N o d v u next f h q =
    let is : v ≡ int_max (low G o d) (u +ℤ pos 1) = omega (arith, ints, clamps, next, f) in
    q (omega (arith, ints, next, f)) (omega (arith, ints, next, h)) ∙ ap (λ (z : ℤ). set G o (with_low (reach G o) d z)) is

pub later_down : (G N : State) (o d : ℕ) (v u : ℤ) → v ≡ after (CoordinateOf o d true) u → IsFirstValue G (CoordinateOf o d true) u → HasAfter G (CoordinateOf o d true) u → (v <ℤ high G o d → low G o d ≤ℤ v → N ≡ set G o (with_high (reach G o) d v)) → N ≡ with_later (CoordinateOf o d true) u G
later_down G N o d v u next f h q =
    let is : v ≡ int_min (high G o d) (u +ℤ negsuc 0) = omega (arith, ints, clamps, next, f) in
    q (omega (arith, ints, next, f)) (omega (arith, ints, next, h)) ∙ ap (λ (z : ℤ). set G o (with_high (reach G o) d z)) is

-- ---- a variable without a later value

-- it has its first value already
pub fixed_already : (G : State) (x : Variable) (v : ℤ) → object_of x < length G → IsFirstValue G x v → (HasAfter G x v → ⊥) → Narrows G G (λ T. IsFixed T x v)
fixed_already G (PlaceOf o) v h f none = record {
  inside = inside_self G;
  meet = λ T n i z t.
      let there = (i.each o).places z t in
      let l : f.0 ≤ z = f.3 z there in
      elim (cases_lt f.0 z) [
        | inl b ↦ absurd (none (z, there, omega (arith, ints, b, f.1)))
        | inr b ↦ omega (arith, ints, l, b, f.1)
      ];
  all = λ T n i q. i;
}
fixed_already G (CoordinateOf o d false) v h f none = record {
  inside = inside_self G;
  meet = λ T n i.
      let r = (n o (let j : o < length T = omega (arith, i.objects, h) in j)).ranges d in
      let a = (i.each o).lows d in
      let b = (i.each o).highs d in
      let c : high G o d ≤ℤ v = elim (cases_ℤ v (high G o d)) [ inl l ↦ absurd (none l) | inr l ↦ l ] in
      (omega (arith, ints, r, a, b, c, f), omega (arith, ints, r, a, b, c, f));
  all = λ T n i q. i;
}
fixed_already G (CoordinateOf o d true) v h f none = record {
  inside = inside_self G;
  meet = λ T n i.
      let r = (n o (let j : o < length T = omega (arith, i.objects, h) in j)).ranges d in
      let a = (i.each o).lows d in
      let b = (i.each o).highs d in
      let c : v ≤ℤ low G o d = elim (cases_ℤ (low G o d) v) [ inl l ↦ absurd (none l) | inr l ↦ l ] in
      (omega (arith, ints, r, a, b, c, f), omega (arith, ints, r, a, b, c, f));
  all = λ T n i q. i;
}

-- ---- the test for a later value

pub has_later : (A S : State) (x : Variable) (v u : ℤ) (b : Bool) → IsTrue b ↔ HasAfter A x v → A ≡ S → v ≡ u → b ≡ true → HasAfter S x u
has_later A S x v u b t e f h = subst (λ (T : State). HasAfter T x u) e (subst (HasAfter A x) f (t.0 h))

pub has_no_later : (A S : State) (x : Variable) (v u : ℤ) (b : Bool) → IsTrue b ↔ HasAfter A x v → A ≡ S → v ≡ u → b ≡ false → HasAfter S x u → ⊥
has_no_later A S x v u b t e f h y = false≢true (sym h ∙ t.1 (subst (HasAfter A x) (sym f) (subst (λ (T : State). HasAfter T x u) (sym e) y)))
