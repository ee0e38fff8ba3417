-- The numbers of conditions by the objects that they name, as they are put there.
use Rattle.std.proofs.Common.{◌≡◌, ◌≢◌, ◌⊎◌, ℕ, suc, ◌+◌, ◌-◌, ◌<◌, ◌≤◌, true, List, [], ◌∷◌, ◌++◌, length, set, get_or, refl, sym, ap, ◌∙◌, subst, inl, inr, arith, eqb-true, Some, Vec, Global}
use Rattle.std.specs.Prelude.{slice_get, nat_eq}
use Rattle.std.proofs.Math.ListN.{length-set}
use Rattle.std.proofs.lemmas.Bool.{cases_eq, false≢true, or_cases}
use Rattle.std.proofs.lemmas.List.{get_or_push, get_or_append_left}
use Rattle.std.proofs.lemmas.Option.{same_Some, slice_get-get_or, slice_get_within}
use Rattle.smallvec.specs.SmallVec.{SmallVec}
use Rattle.geo_conditions.specs.declared.object.ObjId.{ObjId}
use Rattle.object_pruning.specs.InRows.{row, IsInGroup}
use Rattle.fixpoint.specs.Among.{is_among}
use Rattle.fixpoint.specs.declared.pairs.Pairs.{Pairs}
use Rattle.fixpoint.specs.declared.pairs.RowGroup.{RowGroup}
use Rattle.fixpoint.specs.declared.partners.Partners.{Partners}
use Rattle.fixpoint.specs.Pairs.{HaveIn, names_at}
use Rattle.fixpoint.specs.Partners.{ArePartners, HasNumber, HavePartners, PutsAt, PutsNumbers}
use Rattle.fixpoint.proofs.Asked.{InBelow}
use Rattle.fixpoint.proofs.Linking.{length_more, row_set_same, row_set_other}
use Rattle.fixpoint.proofs.Paired.{get_left, get_last, get_either}

has_left : (xs : List ℕ) (y j : ℕ) → HasNumber xs j → HasNumber (xs ++ y ∷ []) j
has_left xs y j w = (w.0, get_left xs w.0 y j w.1)

has_last : (xs : List ℕ) (y : ℕ) → HasNumber (xs ++ y ∷ []) y
has_last xs y = (length xs, get_last xs y)

has_either : (xs : List ℕ) (y j : ℕ) → HasNumber (xs ++ y ∷ []) j → HasNumber xs j ⊎ (j ≡ y)
has_either xs y j w = elim (get_either xs w.0 y j w.1) [ inl p ↦ inl (w.0, p) | inr e ↦ inr e ]

pub has_none : (j : ℕ) → HasNumber [] j → ⊥
has_none j w = none w.0 w.1
  where
    none : (k : ℕ) → slice_get [] k ≡ Some j → ⊥
    none k e = cc

-- ---- one number, to some objects

pub at_none : (i : ℕ) (P : ℕ → Type 0) (old : List (Vec ℕ Global)) → ((u : ℕ) → P u → u < length old → ⊥) → PutsAt i P old old
at_none i P old none = record { objects = refl; stay = λ u j w. w; from = λ u j w. inl w; there = λ u p h. absurd (none u p h) }

pub at_there : (i : ℕ) (P : ℕ → Type 0) (u : ℕ) (old : List (Vec ℕ Global)) (v : Vec ℕ Global) → u < length old → v.items ≡ row old u ++ i ∷ [] → ((w : ℕ) → P w → w ≡ u) → PutsAt i P old (set old u v)
at_there i P u old v h items only = record {
  objects = length-set old u v;
  stay = λ w j m. elim (cases_eq w u) [
    | inl e ↦ subst (λ (z : ℕ). HasNumber (row (set old u v) z) j) (sym e) (subst (λ (l : List ℕ). HasNumber l j) (sym here) (has_left (row old u) i j (subst (λ (z : ℕ). HasNumber (row old z) j) e m)))
    | inr ne ↦ subst (λ (l : List ℕ). HasNumber l j) (sym (row_set_other old u w v ne)) m
  ];
  from = λ w j m. elim (cases_eq w u) [
    | inl e ↦ elim (has_either (row old u) i j (subst (λ (l : List ℕ). HasNumber l j) here (subst (λ (z : ℕ). HasNumber (row (set old u v) z) j) e m))) [
      | inl p ↦ inl (subst (λ (z : ℕ). HasNumber (row old z) j) (sym e) p)
      | inr q ↦ inr q
    ]
    | inr ne ↦ inl (subst (λ (l : List ℕ). HasNumber l j) (row_set_other old u w v ne) m)
  ];
  there = λ w p b. subst (λ (z : ℕ). HasNumber (row (set old u v) z) i) (sym (only w p)) (subst (λ (l : List ℕ). HasNumber l i) (sym here) (has_last (row old u) i));
}
  where
    here : row (set old u v) u ≡ row old u ++ i ∷ []
    here = row_set_same old u v h ∙ items

at_both : (i : ℕ) (P Q R : ℕ → Type 0) (old mid new : List (Vec ℕ Global)) → ((u : ℕ) → R u → P u ⊎ Q u) → PutsAt i P old mid → PutsAt i Q mid new → PutsAt i R old new
at_both i P Q R old mid new either a b = record {
  objects = b.objects ∙ a.objects;
  stay = λ u j w. b.stay u j (a.stay u j w);
  from = λ u j w. elim (b.from u j w) [ inl m ↦ a.from u j m | inr e ↦ inr e ];
  there = λ u r h. elim (either u r) [ inl p ↦ b.stay u i (a.there u p h) | inr q ↦ b.there u q (omega (arith, h, a.objects)) ];
}

-- the object is one of the first n of the list
abbrev pub AmongFirst : List ObjId → ℕ → ℕ → Type 0
AmongFirst list n u = (k : ℕ) × (x : ObjId) × (k < n) × (slice_get list k ≡ Some x) × (x.0 ≡ u)

pub at_more : (i o : ℕ) (list : List ObjId) (n : ℕ) (d : ObjId) (old mid new : List (Vec ℕ Global)) → n < length list → PutsAt i (λ u. AmongFirst list n u × (u ≢ o)) old mid → PutsAt i (λ u. (u ≡ (get_or list n d).0) × (u ≢ o)) mid new → PutsAt i (λ u. AmongFirst list (n + 1) u × (u ≢ o)) old new
at_more i o list n d old mid new h =
    at_both i (λ u. AmongFirst list n u × (u ≢ o)) (λ u. (u ≡ (get_or list n d).0) × (u ≢ o)) (λ u. AmongFirst list (n + 1) u × (u ≢ o)) old mid new
    (λ u w. elim (cases_eq w.0.0 n) [
      | inl e ↦ inr (sym w.0.4 ∙ ap (λ (y : ObjId). y.0) (same_Some _ _ (sym w.0.3 ∙ ap (slice_get list) e ∙ slice_get-get_or list n d h)), w.1)
      | inr ne ↦ inl ((w.0.0, w.0.1, omega (arith, w.0.2, ne), w.0.3, w.0.4), w.1)
    ])

among_at : (u : ℕ) (list : List ObjId) → is_among u list ≡ true → (k : ℕ) × (x : ObjId) × (slice_get list k ≡ Some x) × (x.0 ≡ u)
among_at u [] e = absurd (false≢true e)
among_at u (x ∷ list) e = elim (or_cases (nat_eq x.0 u) (is_among u list) e) [
  | inl q ↦ (0, x, refl, eqb-true x.0 u q)
  | inr r ↦ let w = among_at u list r in (suc w.0, w.1, w.2, w.3)
]

pub at_list : (i o : ℕ) (list : List ObjId) (n : ℕ) (old new : List (Vec ℕ Global)) → length list ≤ n → PutsAt i (λ u. AmongFirst list n u × (u ≢ o)) old new → PutsAt i (λ u. (is_among u list ≡ true) × (u ≢ o)) old new
at_list i o list n old new h a = record {
  objects = a.objects;
  stay = a.stay;
  from = a.from;
  there = λ u w b. let m = among_at u list w.0 in a.there u ((m.0, m.1, omega (arith, h, slice_get_within list m.0 m.1 m.2), m.2, m.3), w.1) b;
}

-- ---- some numbers

module _ (named : List (SmallVec ObjId)) (o : ℕ) where
  pub numbers_few : (i : ℕ) (list : List ObjId) (old new : List (Vec ℕ Global)) (others : List ℕ) → list ≡ names_at named (i - 1) → PutsAt i (λ u. (is_among u list ≡ true) × (u ≢ o)) old new → PutsNumbers named o (λ j. j ≡ i) old others new others
  numbers_few i list old new others e a = record {
    objects = a.objects;
    stay = a.stay;
    rest = λ j w. w;
    from = a.from;
    further = λ j w. inl w;
    each = λ j u s h ne m.
        let among : is_among u list ≡ true = subst (λ (l : List ObjId). is_among u l ≡ true) (sym e) (subst (λ (z : ℕ). is_among u (names_at named (z - 1)) ≡ true) s m) in
        inr (subst (HasNumber (row new u)) (sym s) (a.there u (among, ne) h));
  }

  pub numbers_many : (i : ℕ) (old : List (Vec ℕ Global)) (others more : List ℕ) → more ≡ others ++ i ∷ [] → PutsNumbers named o (λ j. j ≡ i) old others old more
  numbers_many i old others more e = subst (PutsNumbers named o (λ j. j ≡ i) old others old) (sym e) (record {
    objects = refl;
    stay = λ u j w. w;
    rest = λ j w. has_left others i j w;
    from = λ u j w. inl w;
    further = λ j w. has_either others i j w;
    each = λ j u s h ne m. inl (subst (HasNumber (others ++ i ∷ [])) (sym s) (has_last others i));
  })

  pub numbers_none : (P : ℕ → Type 0) (old : List (Vec ℕ Global)) (others : List ℕ) → ((j : ℕ) → P j → ⊥) → PutsNumbers named o P old others old others
  numbers_none P old others none = record {
    objects = refl;
    stay = λ u j w. w;
    rest = λ j w. w;
    from = λ u j w. inl w;
    further = λ j w. inl w;
    each = λ j u p h ne m. absurd (none j p);
  }

  pub numbers_both : (P Q R : ℕ → Type 0) (old mid new : List (Vec ℕ Global)) (others more most : List ℕ) → ((j : ℕ) → P j → R j) → ((j : ℕ) → Q j → R j) → ((j : ℕ) → R j → P j ⊎ Q j) → PutsNumbers named o P old others mid more → PutsNumbers named o Q mid more new most → PutsNumbers named o R old others new most
  numbers_both P Q R old mid new others more most left right either a b = record {
    objects = b.objects ∙ a.objects;
    stay = λ u j w. b.stay u j (a.stay u j w);
    rest = λ j w. b.rest j (a.rest j w);
    from = λ u j w. elim (b.from u j w) [
      | inl m ↦ elim (a.from u j m) [ inl k ↦ inl k | inr p ↦ inr (left j p) ]
      | inr q ↦ inr (right j q)
    ];
    further = λ j w. elim (b.further j w) [
      | inl m ↦ elim (a.further j m) [ inl k ↦ inl k | inr p ↦ inr (left j p) ]
      | inr q ↦ inr (right j q)
    ];
    each = λ j u r h ne m. elim (either j r) [
      | inl p ↦ elim (a.each j u p h ne m) [ inl w ↦ inl (b.rest j w) | inr w ↦ inr (b.stay u j w) ]
      | inr q ↦ b.each j u q (omega (arith, h, a.objects)) ne m
    ];
  }

  pub numbers_as : (P Q : ℕ → Type 0) (old new : List (Vec ℕ Global)) (others more : List ℕ) → ((j : ℕ) → P j → Q j) → ((j : ℕ) → Q j → P j) → PutsNumbers named o P old others new more → PutsNumbers named o Q old others new more
  numbers_as P Q old new others more to back a = record {
    objects = a.objects;
    stay = a.stay;
    rest = a.rest;
    from = λ u j w. elim (a.from u j w) [ inl k ↦ inl k | inr p ↦ inr (to j p) ];
    further = λ j w. elim (a.further j w) [ inl k ↦ inl k | inr p ↦ inr (to j p) ];
    each = λ j u q. a.each j u (back j q);
  }

  -- the numbers of the first n groups, from empty lists of n objects on
  abbrev pub NumbersBelow : List RowGroup → ℕ → ℕ → List (Vec ℕ Global) → List ℕ → Type 0
  NumbersBelow bs m n lists others = (start : List (Vec ℕ Global)) × (length start ≡ n) × ((u : ℕ) → row start u ≡ []) × PutsNumbers named o (InBelow bs m) start [] lists others

  pub numbers_group : (bs : List RowGroup) (m n : ℕ) (d : RowGroup) (mid new : List (Vec ℕ Global)) (more most : List ℕ) → m < length bs → NumbersBelow bs m n mid more → PutsNumbers named o (IsInGroup (get_or bs m d).group) mid more new most → NumbersBelow bs (m + 1) n new most
  numbers_group bs m n d mid new more most h w p = (
    w.0,
    w.1,
    w.2,
    numbers_both (InBelow bs m) (IsInGroup (get_or bs m d).group) (InBelow bs (m + 1)) w.0 mid new [] more most
        (λ j v. (v.0, v.1, omega (arith, v.2), v.3, v.4))
        (λ j v. (m, get_or bs m d, omega arith, slice_get-get_or bs m d h, v))
        (λ j v. elim (cases_eq v.0 m) [
          | inl e ↦ inr (subst (λ (x : RowGroup). IsInGroup x.group j) (same_Some _ _ (sym v.3 ∙ ap (slice_get bs) e ∙ slice_get-get_or bs m d h)) v.4)
          | inr ne ↦ inl (v.0, v.1, omega (arith, v.2, ne), v.3, v.4)
        ])
        w.3 p,
  )

  pub numbers_groups : (bs : List RowGroup) (m n found : ℕ) (p : Partners) → length bs ≤ m → found ≤ n → (0 < length bs → found ≡ n) → NumbersBelow bs m found p.few.items p.many.items → ArePartners named o n (HaveIn bs) p
  numbers_groups bs m n found p h low all w = record {
    objects = omega (arith, w.3.objects, w.1, low);
    few = λ u j v. elim (w.3.from u j v) [
      | inl k ↦ absurd (has_none j (subst (λ (l : List ℕ). HasNumber l j) (w.2 u) k))
      | inr k ↦ (k.0, k.1, k.3, k.4)
    ];
    many = λ j v. elim (w.3.further j v) [ inl k ↦ absurd (has_none j k) | inr k ↦ (k.0, k.1, k.3, k.4) ];
    each = λ j u v b ne m.
        let within : v.0 < length bs = slice_get_within bs v.0 v.1 v.2 in
        let full : found ≡ n = all (omega (arith, within)) in
        w.3.each j u (v.0, v.1, omega (arith, h, within), v.2, v.3) (omega (arith, b, full, w.1)) ne m;
  }

-- those of one object more
pub partners_more : (named : List (SmallVec ObjId)) (pairs : List Pairs) (n m : ℕ) (partners : List Partners) (q : Partners) → HavePartners named pairs n m partners → ((p : Pairs) → ArePartners named m n (HaveIn (get_or pairs m p).others.items) q) → HavePartners named pairs n (m + 1) (partners ++ q ∷ [])
partners_more named pairs n m partners q h one = record {
  objects = length_more partners q ∙ ap (λ (z : ℕ). z + 1) h.objects;
  each = λ o p d b. elim (cases_eq o m) [
    | inl e ↦ subst (λ (u : ℕ). ArePartners named u n (HaveIn (get_or pairs u p).others.items) (get_or (partners ++ q ∷ []) u d)) (sym e) (subst (ArePartners named m n (HaveIn (get_or pairs m p).others.items)) (sym (get_or_push partners q d m h.objects)) (one p))
    | inr ne ↦ let low : o < m = omega (arith, b, ne) in subst (ArePartners named o n (HaveIn (get_or pairs o p).others.items)) (sym (get_or_append_left partners (q ∷ []) d o (omega (arith, low, h.objects)))) (h.each o p d low)
  ];
}
