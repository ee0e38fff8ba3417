-- Every state has a greatest supported state inside it, or none at all: one goes down from the state.
use Rattle.std.proofs.Common.{◌≡◌, ◌≢◌, ℕ, zero, suc, ◌<◌, ◌≤◌, Bool, true, false, List, [], ◌∷◌, length, get_or, set, refl, sym, ◌∙◌, subst, inl, inr, ◌⊎◌, arith, ℤ, pos, negsuc, ◌+ℤ◌, ◌≤ℤ◌, ◌<ℤ◌}
use Rattle.std.proofs.lemmas.Int.{ints}
use Rattle.std.proofs.lemmas.Bool.{cases_lt, cases_eq, false≢true}
use Rattle.std.proofs.lemmas.List.{get_or_past, get_or-set_same, get_or-set_other}
use Rattle.std.proofs.Math.ListN.{length-set}
use Rattle.geo_conditions.specs.declared.cond.Cond.{Cond}
use Rattle.geo_base.specs.Boxes.{coordinate}
use Rattle.geo_conditions.specs.Reach.{State, Reach, reach, nowhere, has, low, high, dims, place_in, how_many, Within, Inside, NotEmpty}
use Rattle.geo_conditions.specs.Supported.{Supports, IsSupported, IsGreatest, NoneInside}
use Rattle.geo_conditions.proofs.Points.{within_self, inside_self, inside_trans, unrefuted_wider, supports_wider}
use Rattle.geo_conditions.proofs.Decide.{search_below, decide_refuted, decide_supports, decide_end, decide_true, place_bound, HasEnd, cases_ℤ}
use Rattle.geo_conditions.specs.Keeps.{Keeps, widths, weight, size}

pub keeps_trans : (cs : List Cond) (S R Q : State) → Keeps cs S R → Keeps cs R Q → Keeps cs S Q
keeps_trans cs S R Q h k = record {
  inside = inside_trans Q R S k.inside h.inside;
  all = λ T s i. k.all T s (h.all T s i);
}

-- ---- one object narrowed

pub narrowed : (S : State) (o : ℕ) (r : Reach) → Within r (reach S o) → o < length S → Inside (set S o r) S
narrowed S o r w h = record {
  objects = length-set S o r;
  each = λ u. elim (cases_eq u o) [
    | inl e ↦ subst (λ (v : ℕ). Within (reach (set S o r) v) (reach S v)) (sym e) (subst (λ (q : Reach). Within q (reach S o)) (sym (get_or-set_same S o r nowhere h)) w)
    | inr ne ↦ subst (λ (q : Reach). Within q (reach S u)) (sym (get_or-set_other S o u r nowhere ne)) (within_self (reach S u))
  ];
}

pub still_inside : (T S : State) (o : ℕ) (r : Reach) → o < length S → Inside T S → Within (reach T o) r → Inside T (set S o r)
still_inside T S o r h i w = record {
  objects = i.objects ∙ sym (length-set S o r);
  each = λ u. elim (cases_eq u o) [
    | inl e ↦ subst (λ (v : ℕ). Within (reach T v) (reach (set S o r) v)) (sym e) (subst (λ (q : Reach). Within (reach T o) q) (sym (get_or-set_same S o r nowhere h)) w)
    | inr ne ↦ subst (λ (q : Reach). Within (reach T u) q) (sym (get_or-set_other S o u r nowhere ne)) (i.each u)
  ];
}

pub keeps_narrowed : (cs : List Cond) (S : State) (o : ℕ) (r : Reach) → o < length S → Within r (reach S o) → ((T : State) → IsSupported cs T → Inside T S → Within (reach T o) r) → Keeps cs S (set S o r)
keeps_narrowed cs S o r h w k = record {
  inside = narrowed S o r w h;
  all = λ T s i. still_inside T S o r h i (k T s i);
}

in_narrower : (T S : State) (o : ℕ) → Inside T S → o < length S → o < length T
in_narrower T S o i h = omega (arith, i.objects)

-- a place without a point
abbrev pub without_place : Reach → ℕ → Reach
without_place r s = record { places = set r.places s false; region = r.region }

pub set_false : (bs : List Bool) (k u : ℕ) → place_in (set bs k false) u ≡ true → place_in bs u ≡ true
set_false bs k zero h = h
set_false bs k (suc u) h = elim (cases_eq u k) [
  | inl e ↦ elim (cases_lt k (length bs)) [
    | inl b ↦ absurd (false≢true (sym (get_or-set_same bs k false false b) ∙ subst (λ (v : ℕ). get_or (set bs k false) v false ≡ true) e h))
    | inr b ↦ absurd (false≢true (sym (get_or_past (set bs k false) u false (omega (arith, length-set bs k false))) ∙ h))
  ]
  | inr ne ↦ sym (get_or-set_other bs k u false false ne) ∙ h
]

pub set_kept : (bs : List Bool) (k u : ℕ) → u ≢ suc k → place_in bs u ≡ true → place_in (set bs k false) u ≡ true
set_kept bs k zero ne h = h
set_kept bs k (suc u) ne h = let ne' : u ≢ k = omega arith in get_or-set_other bs k u false false ne' ∙ h

pub drop_keeps : (cs : List Cond) (S : State) (o k : ℕ) → o < length S → ((p : List ℤ) → Supports cs S o (suc k) p → ⊥) → Keeps cs S (set S o (without_place (reach S o) k))
drop_keeps cs S o k h never = keeps_narrowed cs S o (without_place (reach S o) k) h (record {
  same_lo = refl;
  same_hi = refl;
  places = λ u l. set_false (reach S o).places k u l;
  lows = λ d. omega (arith, ints);
  highs = λ d. omega (arith, ints);
}) (λ T s i. record {
  same_lo = (i.each o).same_lo;
  same_hi = (i.each o).same_hi;
  places = λ u l. set_kept (reach S o).places k u (λ e.
      let there : has T o (suc k) ≡ true = subst (λ (v : ℕ). has T o v ≡ true) e l in
      let y = s.places o (suc k) (in_narrower T S o i h) there in
      never y.0 (supports_wider cs T S o (suc k) y.0 (in_narrower T S o i h) i s.nonempty y.1)) ((i.each o).places u l);
  lows = (i.each o).lows;
  highs = (i.each o).highs;
})

-- an end without a point
abbrev pub raised : Reach → ℕ → Reach
raised r d = record { places = r.places; region = record { lo = set r.region.lo d (coordinate r.region.lo d +ℤ pos 1); hi = r.region.hi } }

abbrev pub lowered : Reach → ℕ → Reach
lowered r d = record { places = r.places; region = record { lo = r.region.lo; hi = set r.region.hi d (coordinate r.region.hi d +ℤ negsuc 0) } }

-- a supported state inside has no such end
low_above : (cs : List Cond) (S T : State) (o d : ℕ) → o < length S → d < dims S o → IsSupported cs T → Inside T S → (HasEnd cs S o d (low S o d) → ⊥) → low S o d <ℤ low T o d
low_above cs S T o d h k s i never = elim (cases_ℤ (low S o d) (low T o d)) [
  | inl l ↦ l
  | inr l ↦ let e : low T o d ≡ low S o d = omega (arith, ints, (i.each o).lows d, l) in
      let y = s.lows o d (in_narrower T S o i h) (subst (λ (n : ℕ). d < n) (sym (i.each o).same_lo) k) in
      absurd (never (y.0, y.1, supports_wider cs T S o y.0 y.1 (in_narrower T S o i h) i s.nonempty y.2, y.3 ∙ e))
]

high_below : (cs : List Cond) (S T : State) (o d : ℕ) → o < length S → d < dims S o → IsSupported cs T → Inside T S → (HasEnd cs S o d (high S o d) → ⊥) → high T o d <ℤ high S o d
high_below cs S T o d h k s i never = elim (cases_ℤ (high T o d) (high S o d)) [
  | inl l ↦ l
  | inr l ↦ let e : high T o d ≡ high S o d = omega (arith, ints, (i.each o).highs d, l) in
      let y = s.highs o d (in_narrower T S o i h) (subst (λ (n : ℕ). d < n) (sym (i.each o).same_lo) k) in
      absurd (never (y.0, y.1, supports_wider cs T S o y.0 y.1 (in_narrower T S o i h) i s.nonempty y.2, y.3 ∙ e))
]

pub at_set : (P : ℕ → ℤ → Type 0) (xs : List ℤ) (d : ℕ) (v : ℤ) → (d < length xs → P d v) → ((e : ℕ) → P e (coordinate xs e)) → (e : ℕ) → P e (coordinate (set xs d v) e)
at_set P xs d v here other e = elim (cases_eq e d) [
  | inl q ↦ elim (cases_lt d (length xs)) [
    | inl b ↦ subst (λ (n : ℕ). P n (coordinate (set xs d v) n)) (sym q) (subst (P d) (sym (get_or-set_same xs d v (pos 0) b)) (here b))
    | inr b ↦ subst (P e) (get_or_past xs e (pos 0) (omega arith) ∙ sym (get_or_past (set xs d v) e (pos 0) (omega (arith, length-set xs d v)))) (other e)
  ]
  | inr ne ↦ subst (P e) (sym (get_or-set_other xs d e v (pos 0) ne)) (other e)
]

pub raise_keeps : (cs : List Cond) (S : State) (o d : ℕ) → o < length S → d < dims S o → (HasEnd cs S o d (low S o d) → ⊥) → Keeps cs S (set S o (raised (reach S o) d))
raise_keeps cs S o d h k never = keeps_narrowed cs S o (raised (reach S o) d) h (record {
  same_lo = length-set (reach S o).region.lo d (low S o d +ℤ pos 1);
  same_hi = refl;
  places = λ u l. l;
  lows = at_set (λ e v. low S o e ≤ℤ v) (reach S o).region.lo d (low S o d +ℤ pos 1) (λ b. omega (arith, ints)) (λ e. omega (arith, ints));
  highs = λ e. omega (arith, ints);
}) (λ T s i. record {
  same_lo = (i.each o).same_lo ∙ sym (length-set (reach S o).region.lo d (low S o d +ℤ pos 1));
  same_hi = (i.each o).same_hi;
  places = (i.each o).places;
  lows = at_set (λ e v. v ≤ℤ low T o e) (reach S o).region.lo d (low S o d +ℤ pos 1) (λ b. let l : low S o d <ℤ low T o d = low_above cs S T o d h k s i never in omega (arith, ints)) (i.each o).lows;
  highs = (i.each o).highs;
})

pub lower_keeps : (cs : List Cond) (S : State) (o d : ℕ) → o < length S → d < dims S o → (HasEnd cs S o d (high S o d) → ⊥) → Keeps cs S (set S o (lowered (reach S o) d))
lower_keeps cs S o d h k never = keeps_narrowed cs S o (lowered (reach S o) d) h (record {
  same_lo = refl;
  same_hi = length-set (reach S o).region.hi d (high S o d +ℤ negsuc 0);
  places = λ u l. l;
  lows = λ e. omega (arith, ints);
  highs = at_set (λ e v. v ≤ℤ high S o e) (reach S o).region.hi d (high S o d +ℤ negsuc 0) (λ b. omega (arith, ints)) (λ e. omega (arith, ints));
}) (λ T s i. record {
  same_lo = (i.each o).same_lo;
  same_hi = (i.each o).same_hi ∙ sym (length-set (reach S o).region.hi d (high S o d +ℤ negsuc 0));
  places = (i.each o).places;
  lows = (i.each o).lows;
  highs = at_set (λ e v. high T o e ≤ℤ v) (reach S o).region.hi d (high S o d +ℤ negsuc 0) (λ b. let l : high T o d <ℤ high S o d = high_below cs S T o d h k s i never in omega (arith, ints)) (i.each o).highs;
})

-- ---- the size of a state falls

pub size_set : (S : State) (o : ℕ) (r : Reach) → o < length S → weight r < weight (reach S o) → size (set S o r) < size S
size_set [] o r h w = absurd (omega arith)
size_set (q ∷ S) zero r h w = omega arith
size_set (q ∷ S) (suc o) r h w = let k : size (set S o r) < size S = size_set S o r (omega arith) w in omega arith

pub fewer : (bs : List Bool) (k : ℕ) → place_in bs (suc k) ≡ true → how_many (set bs k false) < how_many bs
fewer [] k h = absurd (false≢true h)
fewer (true ∷ bs) zero h = omega arith
fewer (false ∷ bs) zero h = absurd (false≢true h)
fewer (b ∷ bs) (suc k) h = let l : how_many (set bs k false) < how_many bs = fewer bs k h in omega arith

pub lo_narrower : (ls hs : List ℤ) (d : ℕ) (v : ℤ) → d < length ls → length ls ≡ length hs → coordinate ls d <ℤ v → coordinate ls d <ℤ coordinate hs d → widths (set ls d v) hs < widths ls hs
lo_narrower [] hs d v h e k m = absurd (omega arith)
lo_narrower (l ∷ ls) [] d v h e k m = absurd (omega arith)
lo_narrower (l ∷ ls) (x ∷ hs) zero v h e k m = omega (arith, ints)
lo_narrower (l ∷ ls) (x ∷ hs) (suc d) v h e k m =
    let n : widths (set ls d v) hs < widths ls hs = lo_narrower ls hs d v (omega arith) (omega arith) k m in omega arith

pub hi_narrower : (ls hs : List ℤ) (d : ℕ) (v : ℤ) → d < length ls → length ls ≡ length hs → v <ℤ coordinate hs d → coordinate ls d <ℤ coordinate hs d → widths ls (set hs d v) < widths ls hs
hi_narrower [] hs d v h e k m = absurd (omega arith)
hi_narrower (l ∷ ls) [] d v h e k m = absurd (omega arith)
hi_narrower (l ∷ ls) (x ∷ hs) zero v h e k m = omega (arith, ints)
hi_narrower (l ∷ ls) (x ∷ hs) (suc d) v h e k m =
    let n : widths ls (set hs d v) < widths ls hs = hi_narrower ls hs d v (omega arith) (omega arith) k m in omega arith

-- ---- one step down

-- each region has as many low ends as high ones
abbrev pub IsEven : State → Type 0
IsEven S = (o : ℕ) → length (reach S o).region.lo ≡ length (reach S o).region.hi

-- a smaller state that keeps every supported one, or none lies inside
abbrev Smaller : List Cond → State → Type 0
Smaller cs S = (R : State) × Keeps cs S R × (size R < size S)

abbrev Outcome : List Cond → State → Type 0
Outcome cs S = NoneInside cs S ⊎ Smaller cs S

empty_places : (cs : List Cond) (S : State) (o : ℕ) → o < length S → ((s : ℕ) → s < suc (length (reach S o).places) → has S o s ≡ true → ⊥) → NoneInside cs S
empty_places cs S o h never T s i =
    let n = s.nonempty o (in_narrower T S o i h) in
    let there : has S o n.place.0 ≡ true = (i.each o).places n.place.0 n.place.1 in
    never n.place.0 (place_bound (reach S o).places n.place.0 there) there

empty_range : (cs : List Cond) (S : State) (o d : ℕ) → o < length S → high S o d <ℤ low S o d → NoneInside cs S
empty_range cs S o d h l T s i =
    let n = (s.nonempty o (in_narrower T S o i h)).ranges d in
    absurd (omega (arith, ints, n, (i.each o).lows d, (i.each o).highs d))

one_reach : (cs : List Cond) (S : State) (o : ℕ) → IsEven S → o < length S → NotEmpty (reach S o) ⊎ NoneInside cs S
one_reach cs S o e h =
    elim (search_below (λ s. has S o s ≡ true) (λ s. decide_true (has S o s)) (suc (length (reach S o).places))) [
      | inr none ↦ inr (empty_places cs S o h none)
      | inl f ↦ elim (search_below (λ d. high S o d <ℤ low S o d) (λ d. elim (cases_ℤ (high S o d) (low S o d)) [ inl l ↦ inl l | inr l ↦ inr (λ k. absurd (omega (arith, ints, l, k))) ]) (dims S o)) [
        | inl w ↦ inr (empty_range cs S o w.0 h w.2)
        | inr none ↦ inl (record {
          place = (f.0, f.2);
          ranges = λ d. elim (cases_lt d (dims S o)) [
            | inl b ↦ elim (cases_ℤ (high S o d) (low S o d)) [ inl l ↦ absurd (none d b l) | inr l ↦ l ]
            | inr b ↦ let z : low S o d ≡ pos 0 = get_or_past (reach S o).region.lo d (pos 0) b in
                let y : high S o d ≡ pos 0 = get_or_past (reach S o).region.hi d (pos 0) (omega (arith, e o)) in omega (arith, ints)
          ];
        })
      ]
    ]

-- what holds of each object, or fails for one
each_object : (P : ℕ → Type 0) (Q : Type 0) → (n : ℕ) → ((o : ℕ) → o < n → P o ⊎ Q) → ((o : ℕ) → o < n → P o) ⊎ Q
each_object P Q zero f = inl (λ o h. absurd (omega arith))
each_object P Q (suc n) f = elim (f n (omega arith)) [
  | inr q ↦ inr q
  | inl p ↦ elim (each_object P Q n (λ o h. f o (omega arith))) [
    | inr q ↦ inr q
    | inl all ↦ inl (λ o h. elim (cases_lt o n) [ inl b ↦ all o b | inr b ↦ let e : n ≡ o = omega arith in subst P e p ])
  ]
]

one_place : (cs : List Cond) (S : State) (o s : ℕ) → o < length S → (has S o s ≡ true → (p : List ℤ) × Supports cs S o s p) ⊎ Outcome cs S
one_place cs S o zero h = inl (λ k. absurd (false≢true k))
one_place cs S o (suc k) h = elim (decide_true (has S o (suc k))) [
  | inr n ↦ inl (λ t. absurd (n t))
  | inl t ↦ elim (decide_supports cs S o (suc k) t) [
    | inl y ↦ inl (λ _. y)
    | inr n ↦ inr (inr (
      set S o (without_place (reach S o) k),
      drop_keeps cs S o k h (λ p y. n (p, y)),
      size_set S o (without_place (reach S o) k) h (let l : how_many (set (reach S o).places k false) < how_many (reach S o).places = fewer (reach S o).places k t in omega arith),
    ))
  ]
]

one_low : (cs : List Cond) (S : State) (o d : ℕ) → IsEven S → o < length S → d < dims S o → HasEnd cs S o d (low S o d) ⊎ Outcome cs S
one_low cs S o d e h k = elim (decide_end cs S o d (low S o d)) [
  | inl y ↦ inl y
  | inr n ↦ elim (cases_ℤ (low S o d) (high S o d)) [
    | inl l ↦ inr (inr (
      set S o (raised (reach S o) d),
      raise_keeps cs S o d h k n,
      size_set S o (raised (reach S o) d) h (let w = lo_narrower (reach S o).region.lo (reach S o).region.hi d (coordinate (reach S o).region.lo d +ℤ pos 1) k (e o) (omega (arith, ints)) l in omega arith),
    ))
    | inr l ↦ inr (inl (λ T s i. let g = low_above cs S T o d h k s i n in let m = (s.nonempty o (in_narrower T S o i h)).ranges d in absurd (omega (arith, ints, g, m, l, (i.each o).highs d))))
  ]
]

one_high : (cs : List Cond) (S : State) (o d : ℕ) → IsEven S → o < length S → d < dims S o → HasEnd cs S o d (high S o d) ⊎ Outcome cs S
one_high cs S o d e h k = elim (decide_end cs S o d (high S o d)) [
  | inl y ↦ inl y
  | inr n ↦ elim (cases_ℤ (low S o d) (high S o d)) [
    | inl l ↦ inr (inr (
      set S o (lowered (reach S o) d),
      lower_keeps cs S o d h k n,
      size_set S o (lowered (reach S o) d) h (let w = hi_narrower (reach S o).region.lo (reach S o).region.hi d (coordinate (reach S o).region.hi d +ℤ negsuc 0) k (e o) (omega (arith, ints)) l in omega arith),
    ))
    | inr l ↦ inr (inl (λ T s i. let g = high_below cs S T o d h k s i n in let m = (s.nonempty o (in_narrower T S o i h)).ranges d in absurd (omega (arith, ints, g, m, l, (i.each o).lows d))))
  ]
]

pub one_step : (cs : List Cond) (S : State) → IsEven S → IsSupported cs S ⊎ Outcome cs S
one_step cs S e =
    elim (each_object (λ o. NotEmpty (reach S o)) (NoneInside cs S) (length S) (λ o h. one_reach cs S o e h)) [
      | inr n ↦ inr (inl n)
      | inl full ↦ elim (decide_refuted cs S) [
        | inr n ↦ inr (inl (λ T s i. n (unrefuted_wider cs T S i s.nonempty s.unrefuted)))
        | inl fine ↦ elim (each_object (λ o. (s : ℕ) → s < suc (length (reach S o).places) → has S o s ≡ true → (p : List ℤ) × Supports cs S o s p) (Outcome cs S) (length S) (λ o h. each_object (λ s. has S o s ≡ true → (p : List ℤ) × Supports cs S o s p) (Outcome cs S) (suc (length (reach S o).places)) (λ s b. one_place cs S o s h))) [
          | inr n ↦ inr n
          | inl places ↦ elim (each_object (λ o. (d : ℕ) → d < dims S o → HasEnd cs S o d (low S o d)) (Outcome cs S) (length S) (λ o h. each_object (λ d. HasEnd cs S o d (low S o d)) (Outcome cs S) (dims S o) (λ d b. one_low cs S o d e h b))) [
            | inr n ↦ inr n
            | inl lows ↦ elim (each_object (λ o. (d : ℕ) → d < dims S o → HasEnd cs S o d (high S o d)) (Outcome cs S) (length S) (λ o h. each_object (λ d. HasEnd cs S o d (high S o d)) (Outcome cs S) (dims S o) (λ d b. one_high cs S o d e h b))) [
              | inr n ↦ inr n
              | inl highs ↦ inl (record {
                nonempty = full;
                unrefuted = fine;
                places = λ o s h t. places o h s (place_bound (reach S o).places s t) t;
                lows = λ o d h b. lows o h d b;
                highs = λ o d h b. highs o h d b;
              })
            ]
          ]
        ]
      ]
    ]

pub even_kept : (S R : State) → Inside R S → IsEven S → IsEven R
even_kept S R i e o = (i.each o).same_lo ∙ e o ∙ sym (i.each o).same_hi

itself : (cs : List Cond) (S : State) → IsSupported cs S → (G : State) × IsGreatest cs S G
itself cs S s = (S, record { supported = s; inside = inside_self S; greatest = λ T t i. i })

carried : (cs : List Cond) (S R : State) → Keeps cs S R → ((G : State) × IsGreatest cs R G) ⊎ NoneInside cs R → ((G : State) × IsGreatest cs S G) ⊎ NoneInside cs S
carried cs S R k (inl g) = inl (g.0, record { supported = g.1.supported; inside = inside_trans g.0 R S g.1.inside k.inside; greatest = λ T t i. g.1.greatest T t (k.all T t i) })
carried cs S R k (inr none) = inr (λ T t i. none T t (k.all T t i))

-- down to the greatest
greatest_upto : (n : ℕ) (cs : List Cond) (S : State) → IsEven S → size S ≤ n → ((G : State) × IsGreatest cs S G) ⊎ NoneInside cs S
greatest_upto zero cs S e h = elim (one_step cs S e) [
  | inl s ↦ inl (itself cs S s)
  | inr o ↦ elim o [ inl none ↦ inr none | inr w ↦ absurd (omega (arith, w.2)) ]
]
greatest_upto (suc n) cs S e h = elim (one_step cs S e) [
  | inl s ↦ inl (itself cs S s)
  | inr o ↦ elim o [
    | inl none ↦ inr none
    | inr w ↦ carried cs S w.0 w.1 (greatest_upto n cs w.0 (even_kept S w.0 w.1.inside e) (omega (arith, w.2)))
  ]
]

-- the law: either there is a greatest supported state inside S, or there is none inside S
pub greatest_or_none : (cs : List Cond) (S : State) → IsEven S → ((G : State) × IsGreatest cs S G) ⊎ NoneInside cs S
greatest_or_none cs S e = greatest_upto (size S) cs S e (omega arith)
