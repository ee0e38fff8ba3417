-- The search over the points of a box, dimension by dimension.
use Rattle.std.proofs.Common.{◌≡◌, ◌≢◌, ℕ, zero, suc, ◌+◌, ◌<◌, ◌≤◌, Bool, true, false, List, [], ◌∷◌, length, set, refl, sym, ap, ◌∙◌, subst, inl, inr, ◌⊎◌, ◌↔◌, IsTrue, arith, ℤ, pos, ◌≤ℤ◌, ◌<ℤ◌}
use Rattle.std.proofs.lemmas.Int.{ints, by_lt_z}
use Rattle.std.specs.Int.{w64}
use mir.Val.{to_z, of_z, SFits}
use lib.Signed.{mag}
use Rattle.std.proofs.Common.{to_z-of_z, ◌^◌, ◌+ℤ◌}
use Rattle.std.proofs.lemmas.Bool.{cases_lt, cases_eq, false≢true}
use Rattle.std.proofs.lemmas.List.{get_or_past, get_or-set_same, get_or-set_other}
use Rattle.std.proofs.Math.ListN.{length-set}
use Rattle.geo_conditions.specs.declared.cond.Cond.{Cond}
use Rattle.geo_conditions.specs.Reach.{State, Region, place_in, reach, has, low, high, dims, InBox, with_at, just}
use Rattle.geo_base.specs.Boxes.{coordinate, Has}
use Rattle.geo_conditions.specs.Supported.{NoneRefuted, Supports}
use Rattle.plain_propagate.specs.Points.{HasPoint, HasEnd, cut_to}

-- two points of one length that agree in each dimension are the same
pub same_list : (p q : List ℤ) → length p ≡ length q → ((j : ℕ) → j < length p → coordinate p j ≡ coordinate q j) → p ≡ q
same_list [] [] h e = refl
same_list [] (y ∷ q) h e = absurd (omega arith)
same_list (x ∷ p) [] h e = absurd (omega arith)
same_list (x ∷ p) (y ∷ q) h e =
    let h' : length p ≡ length q = omega arith in
    ap (λ (z : ℤ). z ∷ p) (e 0 (omega arith)) ∙ ap (λ (r : List ℤ). y ∷ r) (same_list p q h' (λ j b. e (suc j) (omega arith)))

-- past the last dimension a coordinate is 0
past : (p : List ℤ) (j k : ℕ) → length p ≡ k → k ≤ j → coordinate p j ≡ pos 0
past p j k h b = get_or_past p j (pos 0) (omega arith)

-- a point that lies between the ends in each dimension lies in the box
in_all : (p : List ℤ) (b : Region) (k : ℕ) → length p ≡ k → length b.lo ≡ k → length b.hi ≡ k → ((j : ℕ) → j < k → (coordinate b.lo j ≤ℤ coordinate p j) × (coordinate p j ≤ℤ coordinate b.hi j)) → InBox p b
in_all p b k h l m i = record {
  same_lo = h ∙ sym l;
  same_hi = h ∙ sym m;
  above = λ j. elim (cases_lt j k) [ inl c ↦ (i j c).0 | inr c ↦ rw (past p j k h c, past b.lo j k l c) (omega (arith, ints)) ];
  below = λ j. elim (cases_lt j k) [ inl c ↦ (i j c).1 | inr c ↦ rw (past p j k h c, past b.hi j k m c) (omega (arith, ints)) ];
}

-- the test of the box, by the dimensions below k
pub box_test : (b : Region) (p : List ℤ) (k : ℕ) (t : Bool) → length p ≡ k → length b.lo ≡ k → length b.hi ≡ k → (IsTrue t ↔ Has k b.lo b.hi p) → IsTrue t ↔ InBox p b
box_test b p k t h l m a = (λ y. in_all p b k h l m (a.0 y), λ i. a.1 (λ j c. (i.above j, i.below j)))

-- a point that agrees with p in one dimension more
pub found : (cs : List Cond) (S : State) (o s : ℕ) (b : Region) (p : List ℤ) (d : ℕ) (v : ℤ) → HasPoint cs S o s b (set p d v) (d + 1) → HasPoint cs S o s b p d
found cs S o s b p d v y =
    (y.0, y.1, λ j c. let ne : j ≢ d = omega arith in sym (get_or-set_other p d j v (pos 0) ne) ∙ y.2 j (omega arith), y.3)

-- all numbers of the next dimension are tried
pub none_left : (cs : List Cond) (S : State) (o s : ℕ) (b : Region) (p : List ℤ) (d : ℕ) (from to : ℤ) → d < length p → from ≡ coordinate b.lo d → to ≡ coordinate b.hi d → ((w : ℤ) → from ≤ℤ w → w ≤ℤ to → HasPoint cs S o s b (set p d w) (d + 1) → ⊥) → HasPoint cs S o s b p d → ⊥
none_left cs S o s b p d from to h e f never y =
    let q = y.0 in
    let box = y.1 in
    never (coordinate q d) (subst (λ (z : ℤ). z ≤ℤ coordinate q d) (sym e) (box.above d)) (subst (λ (z : ℤ). coordinate q d ≤ℤ z) (sym f) (box.below d)) (
      q,
      box,
      λ j c. elim (cases_eq j d) [
        | inl x ↦ subst (λ (i : ℕ). coordinate (set p d (coordinate q d)) i ≡ coordinate q i) (sym x) (get_or-set_same p d (coordinate q d) (pos 0) h)
        | inr ne ↦ get_or-set_other p d j (coordinate q d) (pos 0) ne ∙ y.2 j (omega arith)
      ],
      y.3,
    )

-- the values below the next one
abbrev pub NoneBelow : List Cond → State → ℕ → ℕ → Region → List ℤ → ℕ → ℤ → ℤ → Type 0
NoneBelow cs S o s b p d from v = (w : ℤ) → from ≤ℤ w → w <ℤ v → HasPoint cs S o s b (set p d w) (d + 1) → ⊥

-- of two numbers the first is less, or the second is at most the first
pub cases_ℤ : (a b : ℤ) → (a <ℤ b) ⊎ (b ≤ℤ a)
cases_ℤ a b = by_lt_z {P = (a <ℤ b) ⊎ (b ≤ℤ a)} a b (λ h. inl h) (λ h. inr h)

-- one value more has no point
pub none_more : (cs : List Cond) (S : State) (o s : ℕ) (b : Region) (p : List ℤ) (d : ℕ) (from v next : ℤ) → NoneBelow cs S o s b p d from v → (HasPoint cs S o s b (set p d v) (d + 1) → ⊥) → next ≡ v +ℤ pos 1 → NoneBelow cs S o s b p d from next
none_more cs S o s b p d from v next below here e w h k y =
    elim (cases_ℤ w v) [
      | inl l ↦ below w h l y
      | inr m ↦ let q : w ≡ v = omega (arith, ints) in here (subst (λ (z : ℤ). HasPoint cs S o s b (set p d z) (d + 1)) q y)
    ]

-- the point with a number within the ends in the next dimension
pub within_next : (b : Region) (p : List ℤ) (d : ℕ) (v : ℤ) → d < length p → ((j : ℕ) → j < d → (coordinate b.lo j ≤ℤ coordinate p j) × (coordinate p j ≤ℤ coordinate b.hi j)) → coordinate b.lo d ≤ℤ v → v ≤ℤ coordinate b.hi d → (j : ℕ) → j < d + 1 → (coordinate b.lo j ≤ℤ coordinate (set p d v) j) × (coordinate (set p d v) j ≤ℤ coordinate b.hi j)
within_next b p d v h i l m j c = elim (cases_eq j d) [
  | inl e ↦ subst (λ (k : ℕ). (coordinate b.lo k ≤ℤ coordinate (set p d v) k) × (coordinate (set p d v) k ≤ℤ coordinate b.hi k)) (sym e) (rw (get_or-set_same p d v (pos 0) h) (l, m))
  | inr ne ↦ rw (get_or-set_other p d j v (pos 0) ne) (i j (omega arith))
]

-- a number of 64 bits stays the same
pub kept64 : (z : ℤ) → mag z < 2 ^ 63 → to_z w64 (of_z w64 z) ≡ z
kept64 z h = let f : SFits w64 z = record { sfits = h } in to_z-of_z f

-- the point with the next value is within the box as far as the next dimension
pub within_after : (b : Region) (p r lo hi : List ℤ) (d : ℕ) (from v to : ℤ) → d < length p → ((j : ℕ) → j < d → (coordinate b.lo j ≤ℤ coordinate p j) × (coordinate p j ≤ℤ coordinate b.hi j)) → lo ≡ b.lo → hi ≡ b.hi → from ≡ coordinate lo d → to ≡ coordinate hi d → from ≤ℤ v → v ≤ℤ to → r ≡ set p d v → (j : ℕ) → j < d + 1 → (coordinate b.lo j ≤ℤ coordinate r j) × (coordinate r j ≤ℤ coordinate b.hi j)
within_after b p r lo hi d from v to h i el eh ef et l m e j c =
    subst (λ (q : List ℤ). (coordinate b.lo j ≤ℤ coordinate q j) × (coordinate q j ≤ℤ coordinate b.hi j)) (sym e)
    (within_next b p d v h i (subst (λ (z : ℤ). z ≤ℤ v) (ef ∙ ap (λ (x : List ℤ). coordinate x d) el) l) (subst (λ (z : ℤ). v ≤ℤ z) (et ∙ ap (λ (x : List ℤ). coordinate x d) eh) m) j c)

-- where the point is whole: the test of the box, and of the conditions
pub whole_no : (cs : List Cond) (S : State) (o s : ℕ) (b : Region) (p : List ℤ) (k d : ℕ) → d ≡ k → length p ≡ k → length b.lo ≡ k → (InBox p b → NoneRefuted cs (with_at S o s (just p)) → ⊥) → HasPoint cs S o s b p d → ⊥
whole_no cs S o s b p k d e h l never y =
    let same : p ≡ y.0 = same_list p y.0 (h ∙ sym l ∙ sym y.1.same_lo) (λ j c. y.2 j (omega arith)) in
    never (subst (λ (r : List ℤ). InBox r b) (sym same) y.1) (subst (λ (r : List ℤ). NoneRefuted cs (with_at S o s (just r))) (sym same) y.3)

-- a box whose corners are the point is that point as a box
pub same_box : (b : Region) (p : List ℤ) → b.lo ≡ p → b.hi ≡ p → b ≡ just p
same_box b p e f = ap (λ (x : List ℤ). record { lo = x; hi = b.hi }) e ∙ ap (λ (x : List ℤ). record { lo = p; hi = x }) f

-- where the point is whole and in the box, the test of the conditions decides
pub whole_in : (cs : List Cond) (S : State) (o s : ℕ) (b n : Region) (p : List ℤ) (k d : ℕ) (t : Bool) → d ≡ k → length p ≡ k → InBox p b → n.lo ≡ p → n.hi ≡ p → (IsTrue t ↔ NoneRefuted cs (with_at S o s n)) → IsTrue t ↔ HasPoint cs S o s b p d
whole_in cs S o s b n p k d t e h i el eh a =
    let q : n ≡ just p = same_box n p el eh in (
      λ y. (p, i, λ j c. refl, subst (λ (r : Region). NoneRefuted cs (with_at S o s r)) q (a.0 y)),
      λ y. let same : p ≡ y.0 = same_list p y.0 (i.same_lo ∙ sym y.1.same_lo) (λ j c. y.2 j (omega (arith, i.same_lo))) in
          a.1 (subst (λ (r : Region). NoneRefuted cs (with_at S o s r)) (sym q) (subst (λ (r : List ℤ). NoneRefuted cs (with_at S o s (just r))) (sym same) y.3)),
    )

-- and where it is whole and not in the box, there is none
pub whole_out : (cs : List Cond) (S : State) (o s : ℕ) (b : Region) (p : List ℤ) (k d : ℕ) (t : Bool) → d ≡ k → length p ≡ k → length b.lo ≡ k → t ≡ false → (IsTrue t ↔ InBox p b) → IsTrue t ↔ HasPoint cs S o s b p d
whole_out cs S o s b p k d t e h l f a =
    (λ y. absurd (false≢true (sym f ∙ y)), λ y. let same : p ≡ y.0 = same_list p y.0 (h ∙ sym l ∙ sym y.1.same_lo) (λ j c. y.2 j (omega arith)) in a.1 (subst (λ (r : List ℤ). InBox r b) (sym same) y.1))

-- no number up to the high end has such a point
pub ended : (cs : List Cond) (S : State) (o s : ℕ) (b : Region) (p : List ℤ) (d : ℕ) (from to v : ℤ) → d < length p → from ≡ coordinate b.lo d → to ≡ coordinate b.hi d → NoneBelow cs S o s b p d from v → to <ℤ v → IsTrue false ↔ HasPoint cs S o s b p d
ended cs S o s b p d from to v h e f below k =
    (λ y. absurd (false≢true y), λ y. absurd (none_left cs S o s b p d from to h e f (λ w l m. below w l (omega (arith, ints))) y))

-- ---- the box cut to one value in one dimension

-- a point of the cut box lies in the whole box
pub cut_in : (b : Region) (d : ℕ) (v : ℤ) (q : List ℤ) → d < length b.lo → d < length b.hi → coordinate b.lo d ≤ℤ v → v ≤ℤ coordinate b.hi d → InBox q (cut_to b d v) → InBox q b
cut_in b d v q k l e f i = record {
  same_lo = i.same_lo ∙ length-set b.lo d v;
  same_hi = i.same_hi ∙ length-set b.hi d v;
  above = λ j. elim (cases_eq j d) [
    | inl x ↦ subst (λ (n : ℕ). coordinate b.lo n ≤ℤ coordinate q n) (sym x) (let m : coordinate (set b.lo d v) d ≤ℤ coordinate q d = i.above d in let w : coordinate (set b.lo d v) d ≡ v = get_or-set_same b.lo d v (pos 0) k in omega (arith, ints, m, w, e))
    | inr ne ↦ subst (λ (z : ℤ). z ≤ℤ coordinate q j) (get_or-set_other b.lo d j v (pos 0) ne) (i.above j)
  ];
  below = λ j. elim (cases_eq j d) [
    | inl x ↦ subst (λ (n : ℕ). coordinate q n ≤ℤ coordinate b.hi n) (sym x) (let m : coordinate q d ≤ℤ coordinate (set b.hi d v) d = i.below d in let w : coordinate (set b.hi d v) d ≡ v = get_or-set_same b.hi d v (pos 0) l in omega (arith, ints, m, w, f))
    | inr ne ↦ subst (λ (z : ℤ). coordinate q j ≤ℤ z) (get_or-set_other b.hi d j v (pos 0) ne) (i.below j)
  ];
}

-- and has that number
pub cut_value : (b : Region) (d : ℕ) (v : ℤ) (q : List ℤ) → d < length b.lo → d < length b.hi → InBox q (cut_to b d v) → coordinate q d ≡ v
cut_value b d v q k l i =
    let m : coordinate (set b.lo d v) d ≤ℤ coordinate q d = i.above d in
    let n : coordinate q d ≤ℤ coordinate (set b.hi d v) d = i.below d in
    let w : coordinate (set b.lo d v) d ≡ v = get_or-set_same b.lo d v (pos 0) k in
    let u : coordinate (set b.hi d v) d ≡ v = get_or-set_same b.hi d v (pos 0) l in
    omega (arith, ints, m, n, w, u)

-- a point of the box with that number lies in the cut box
pub cut_out : (b : Region) (d : ℕ) (v : ℤ) (q : List ℤ) → d < length b.lo → d < length b.hi → InBox q b → coordinate q d ≡ v → InBox q (cut_to b d v)
cut_out b d v q k l i e = record {
  same_lo = i.same_lo ∙ sym (length-set b.lo d v);
  same_hi = i.same_hi ∙ sym (length-set b.hi d v);
  above = λ j. elim (cases_eq j d) [
    | inl x ↦ subst (λ (n : ℕ). coordinate (set b.lo d v) n ≤ℤ coordinate q n) (sym x) (let w : coordinate (set b.lo d v) d ≡ v = get_or-set_same b.lo d v (pos 0) k in omega (arith, ints, w, e))
    | inr ne ↦ subst (λ (z : ℤ). z ≤ℤ coordinate q j) (sym (get_or-set_other b.lo d j v (pos 0) ne)) (i.above j)
  ];
  below = λ j. elim (cases_eq j d) [
    | inl x ↦ subst (λ (n : ℕ). coordinate q n ≤ℤ coordinate (set b.hi d v) n) (sym x) (let w : coordinate (set b.hi d v) d ≡ v = get_or-set_same b.hi d v (pos 0) l in omega (arith, ints, w, e))
    | inr ne ↦ subst (λ (z : ℤ). coordinate q j ≤ℤ z) (sym (get_or-set_other b.hi d j v (pos 0) ne)) (i.below j)
  ];
}

-- a point of the cut box supports the end
pub end_from : (cs : List Cond) (S : State) (o d s : ℕ) (v : ℤ) (b : Region) (p : List ℤ) → d < dims S o → d < length (reach S o).region.hi → low S o d ≤ℤ v → v ≤ℤ high S o d → b ≡ cut_to (reach S o).region d v → has S o s ≡ true → HasPoint cs S o s b p 0 → HasEnd cs S o d v
end_from cs S o d s v b p k l e f q h y =
    let i : InBox y.0 (cut_to (reach S o).region d v) = subst (InBox y.0) q y.1 in
    (s, y.0, record { place = h; point = cut_in (reach S o).region d v y.0 k l e f i; unrefuted = y.3 }, cut_value (reach S o).region d v y.0 k l i)

-- a point that supports the end lies in the cut box
pub end_to : (cs : List Cond) (S : State) (o d s : ℕ) (v : ℤ) (b : Region) (p q : List ℤ) → d < dims S o → d < length (reach S o).region.hi → b ≡ cut_to (reach S o).region d v → Supports cs S o s q → coordinate q d ≡ v → HasPoint cs S o s b p 0
end_to cs S o d s v b p q k l w y e = (q, subst (InBox q) (sym w) (cut_out (reach S o).region d v q k l y.point e), λ j h. absurd (omega arith), y.unrefuted)

-- no place below the next one has such a point
abbrev pub NoneUpTo : List Cond → State → ℕ → ℕ → ℤ → ℕ → Type 0
NoneUpTo cs S o d v n = (s : ℕ) → s < n → (q : List ℤ) → Supports cs S o s q → coordinate q d ≡ v → ⊥

-- one place more without such a point
pub none_next : (cs : List Cond) (S : State) (o d : ℕ) (v : ℤ) (n : ℕ) → NoneUpTo cs S o d v n → ((q : List ℤ) → Supports cs S o n q → coordinate q d ≡ v → ⊥) → NoneUpTo cs S o d v (n + 1)
none_next cs S o d v n below here s h q y e = elim (cases_eq s n) [
  | inl x ↦ here q (subst (λ (k : ℕ). Supports cs S o k q) x y) e
  | inr ne ↦ below s (omega arith) q y e
]

-- all places are tried
pub none_end : (cs : List Cond) (S : State) (o d : ℕ) (v : ℤ) (n : ℕ) → length (reach S o).places ≡ 16 → 16 < n → NoneUpTo cs S o d v n → HasEnd cs S o d v → ⊥
none_end cs S o d v n e h below y = below y.0 (omega (arith, place_few (reach S o).places y.0 y.2.place)) y.1 y.2 y.3
  where
    place_few : (bs : List Bool) (s : ℕ) → place_in bs s ≡ true → s ≤ length bs
    place_few bs zero h = omega arith
    place_few bs (suc k) h = elim (cases_lt k (length bs)) [ inl b ↦ omega arith | inr b ↦ absurd (false≢true (sym (get_or_past bs k false b) ∙ h)) ]
