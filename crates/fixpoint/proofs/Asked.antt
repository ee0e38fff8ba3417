-- Kept points are asked again by the conditions of marked objects.
use Rattle.std.proofs.Common.{◌≡◌, ◌≢◌, ◌⊎◌, ℕ, ◌+◌, ◌-◌, ◌<◌, ◌≤◌, Bool, true, false, List, length, set, get_or, slice_index, refl, sym, ap, ◌∙◌, subst, inl, inr, arith, Some, None, Option, Vec, Global, []}
use Rattle.std.specs.Prelude.{slice_get, MatchOption}
use Rattle.std.proofs.lemmas.Bool.{cases_eq, cases_lt, false_from_ne_true}
use Rattle.std.proofs.lemmas.List.{get_or_past, get_or-set_same, get_or-set_other}
use Rattle.std.proofs.lemmas.Option.{same_Some, slice_get-get_or, slice_get_within}
use Rattle.geo_conditions.specs.declared.cond.Cond.{Cond}
use Rattle.geo_conditions.specs.declared.object.ObjId.{ObjId}
use Rattle.geo_conditions.specs.Conditions.{possible, AllFit}
use Rattle.geo_conditions.specs.Reach.{State, is_only, reach}
use Rattle.indexical.specs.Names.{names}
use Rattle.sweep.proofs.PickedConditions.{pick_in}
use Rattle.object_pruning.specs.declared.kept.Placed.{Placed}
use Rattle.object_pruning.specs.declared.rows.Group.{Group}
use Rattle.object_pruning.specs.Gathered.{AllPossible}
use Rattle.object_pruning.specs.InRows.{IsInGroup}
use Rattle.object_pruning.specs.Kept.{placed}
use Rattle.object_pruning.proofs.LivePicks.{fit, group_number, group_free}
use Rattle.object_pruning.proofs.InRows.{row_past}
use Rattle.fixpoint.specs.declared.links.Links.{Links}
use Rattle.fixpoint.specs.Links.{AreLinks, row}
use Rattle.fixpoint.specs.declared.pairs.Pairs.{Pairs}
use Rattle.fixpoint.specs.declared.pairs.RowGroup.{RowGroup}
use Rattle.fixpoint.specs.Pairs.{HaveBeside, HaveIn, IsGroupOf, NamesNoThird}
use Rattle.fixpoint.specs.Kept.{AsksSlot, RetriesMarked, RetriesThose, StandBut, Stand}
use Rattle.fixpoint.specs.Marks.{NamesUnmarked}
use Rattle.fixpoint.proofs.Linking.{each_named, nth}

-- neither of the two objects is marked, and the condition names no third one of those that marks are for
pair_unmarked : (c : Cond) (o u : ℕ) (marks : List Bool) → ((v : ℕ) → v < length marks → names v c ≡ true → v ≢ o → v ≡ u) → get_or marks o false ≡ false → get_or marks u false ≡ false → NamesUnmarked marks c
pair_unmarked c o u marks b own other v n = elim (cases_lt v (length marks)) [
  | inr past ↦ get_or_past marks v false past
  | inl h ↦ elim (cases_eq v o) [
    | inl e ↦ subst (λ (w : ℕ). get_or marks w false ≡ false) (sym e) own
    | inr ne ↦ subst (λ (w : ℕ). get_or marks w false ≡ false) (sym (b v h n ne)) other
  ]
]

-- the numbers of the groups are those of conditions
pub group_within : (cs : List Cond) (S : State) (o r : ℕ) (g : Group) → AllFit cs S → o < length S → IsGroupOf cs o r g → (i : ℕ) → IsInGroup g i → (0 < i) × (i - 1 < length cs)
group_within cs S o r g fits h a = group_number cs S o fits h g (a.0, r, a.1, a.2)

-- of the first n groups some one has the number
abbrev pub InBelow : List RowGroup → ℕ → ℕ → Type 0
InBelow bs n i = (k : ℕ) × (b : RowGroup) × (k < n) × (slice_get bs k ≡ Some b) × IsInGroup b.group i

-- the groups of one of the first n objects have it
abbrev pub BesideBelow : List (Vec RowGroup Global) → ℕ → ℕ → Type 0
BesideBelow lists n i = (u : ℕ) × (u < n) × HaveIn (row lists u) i

has_past : (lists : List (Vec RowGroup Global)) (u i : ℕ) → length lists ≤ u → HaveIn (row lists u) i → ⊥
has_past lists u i h w = none w.0 w.1 (subst (λ (bs : List RowGroup). slice_get bs w.0 ≡ Some w.1) (row_past lists u h) w.2)
  where
    none : (k : ℕ) (b : RowGroup) → slice_get [] k ≡ Some b → ⊥
    none k b e = cc

-- where a group asks for another place of u than the sole one, u has not that place alone
pub spared_by_sole : (S : State) (other : Option ObjId) (u place sole : ℕ) → ((p : ℕ) → is_only (reach S u).places p ≡ true → p ≡ sole) → MatchOption other ⊥ (λ v. (v.0 ≡ u) × (place ≢ 0) × (place ≢ sole))
    → MatchOption other ⊥ (λ v. (place ≢ 0) × (is_only (reach S v.0).places place ≡ false))
spared_by_sole S None u place sole alone m = absurd m
spared_by_sole S (Some v) u place sole alone m = (
  m.1,
  subst (λ (n : ℕ). is_only (reach S n).places place ≡ false) (sym m.0) (false_from_ne_true (is_only (reach S u).places place) (λ h. m.2 (alone place h))),
)

module _ {K : ℕ} (cs : List Cond) (S : State) (o : ℕ) where
  -- ---- the slots

  -- a slot at which the conditions of a group ask for another place
  pub slot_elsewhere : (r : ℕ) (g : Group) (q : Placed K) → AllFit cs S → o < length S → IsGroupOf cs o r g → r ≢ 0 → r ≢ q.place → AsksSlot cs S o (IsInGroup g) (Some q) (Some q)
  slot_elsewhere r g q fits here a nz ne p e = (
    e,
    λ i b x is. subst (λ (z : Placed K). possible x (placed S o z) ≡ true) (same_Some _ _ e)
        ((a.2.faces i x b is).place nz S q.place (fit cs S o fits here i x is) here (λ z. ne (sym z)) q.point.coordinates),
  )

  -- the slots before n were asked, and the others are as they were
  pub record SlotsBelow (Those : ℕ → Type 0) (n : ℕ) (old new : List (Option (Placed K))) : Type 0 where
    pub before : (i : ℕ) → i < n → AsksSlot cs S o Those (get_or old i None) (get_or new i None)
    pub after : (i : ℕ) → n ≤ i → get_or new i None ≡ get_or old i None

  pub slots_start : (P : ℕ → Type 0) (slots : List (Option (Placed K))) → SlotsBelow P 0 slots slots
  slots_start P slots = record { before = λ i h. absurd (omega arith); after = λ i h. refl }

  pub slots_more : (P : ℕ → Type 0) (n : ℕ) (old mid : List (Option (Placed K))) (x : Option (Placed K)) → n < length mid → SlotsBelow P n old mid → AsksSlot cs S o P (get_or mid n None) x → SlotsBelow P (n + 1) old (set mid n x)
  slots_more P n old mid x h s a = record {
    before = λ i b. elim (cases_eq i n) [
      | inl e ↦ subst (λ (j : ℕ). AsksSlot cs S o P (get_or old j None) (get_or (set mid n x) j None)) (sym e) (λ q is.
          let y = a q (sym (get_or-set_same mid n x None h) ∙ is) in
          (sym (s.after n (omega arith)) ∙ y.0, y.1))
      | inr ne ↦ λ q is. s.before i (omega (arith, b, ne)) q (sym (get_or-set_other mid n i x None ne) ∙ is)
    ];
    after = λ i b. get_or-set_other mid n i x None (λ e. absurd (omega (arith, b, e))) ∙ s.after i (omega (arith, b));
  }

module _ {K : ℕ} (cs : List Cond) (S : State) (o : ℕ) (marks : List Bool) where
  pub those_none : (P : ℕ → Type 0) (slots : List (Option (Placed K))) → ((i : ℕ) → P i → ⊥) → RetriesThose cs S o marks P slots slots
  those_none P slots none = record { stay = λ i q e. e; tried = λ i q e k x p. absurd (none k p) }

  -- of all slots
  pub those_slots : (P : ℕ → Type 0) (n : ℕ) (old new : List (Option (Placed K))) → length new ≤ n → SlotsBelow cs S o P n old new → RetriesThose cs S o marks P old new
  those_slots P n old new h s = record { stay = λ i q e. (at i q e).0; tried = λ i q e k x p is. inr ((at i q e).1 k p x is) }
    where
      at : (i : ℕ) (q : Placed K) → get_or new i None ≡ Some q → (get_or old i None ≡ Some q) × AllPossible cs (placed S o q) P
      at i q e = elim (cases_lt i n) [
        | inl l ↦ s.before i l q e
        | inr l ↦ let past = get_or_past new i None (omega (arith, l, h)) in absurd (cc)
      ]

  -- of the groups of an object that is not marked
  pub those_unmarked : (bs : List RowGroup) (u : ℕ) (slots : List (Option (Placed K))) → ((k : ℕ) (b : RowGroup) → slice_get bs k ≡ Some b → NamesNoThird cs (length marks) o u b.group) → get_or marks o false ≡ false → get_or marks u false ≡ false → RetriesThose cs S o marks (HaveIn bs) slots slots
  those_unmarked bs u slots a own other = record {
    stay = λ i q e. e;
    tried = λ i q e k x w at. inl (pair_unmarked x o u marks (a w.0 w.1 w.2 k x w.3 at) own other);
  }

  -- of a group that cannot be in the way
  pub those_spared : (r : ℕ) (g : Group) (slots : List (Option (Placed K))) → AllFit cs S → o < length S → IsGroupOf cs o r g → MatchOption g.other ⊥ (λ u. (g.other_place ≢ 0) × (is_only (reach S u.0).places g.other_place ≡ false)) → RetriesThose cs S o marks (IsInGroup g) slots slots
  those_spared r g slots fits here a m = record {
    stay = λ i q e. e;
    tried = λ i q e k x b at. inr (group_free cs S o fits here g (a.0, r, a.1, a.2) m k x b at q.place q.point.coordinates);
  }

  pub those_as : (P Q : ℕ → Type 0) (old new : List (Option (Placed K))) → ((i : ℕ) → Q i → P i) → RetriesThose cs S o marks P old new → RetriesThose cs S o marks Q old new
  those_as P Q old new back a = record { stay = a.stay; tried = λ i q e k x p. a.tried i q e k x (back k p) }

  pub those_both : (P Q R : ℕ → Type 0) (old mid new : List (Option (Placed K))) → ((i : ℕ) → R i → P i ⊎ Q i) → RetriesThose cs S o marks P old mid → RetriesThose cs S o marks Q mid new → RetriesThose cs S o marks R old new
  those_both P Q R old mid new either a b = record {
    stay = λ i q e. a.stay i q (b.stay i q e);
    tried = λ i q e k x r. elim (either k r) [ inl p ↦ a.tried i q (b.stay i q e) k x p | inr p ↦ b.tried i q e k x p ];
  }

  pub those_one : (number : ℕ) (c : Cond) (old new : List (Option (Placed K))) → slice_get cs (number - 1) ≡ Some c → RetriesMarked c S o marks old new → RetriesThose cs S o marks (λ i. i ≡ number) old new
  those_one number c old new at r = record {
    stay = r.stay;
    tried = λ i q e k x p g.
        let same : c ≡ x = same_Some _ _ (sym at ∙ subst (λ (m : ℕ). slice_get cs (m - 1) ≡ Some x) p g) in
        subst (λ (y : Cond). NamesUnmarked marks y ⊎ (possible y (placed S o q) ≡ true)) same (elim r.tried [ inl u ↦ inl u | inr f ↦ inr (f i q e) ]);
  }

  -- of the groups, one after another
  pub those_group : (bs : List RowGroup) (n : ℕ) (d : RowGroup) (old mid new : List (Option (Placed K))) → n < length bs → RetriesThose cs S o marks (InBelow bs n) old mid → RetriesThose cs S o marks (IsInGroup (get_or bs n d).group) mid new → RetriesThose cs S o marks (InBelow bs (n + 1)) old new
  those_group bs n d old mid new h =
      those_both (InBelow bs n) (IsInGroup (get_or bs n d).group) (InBelow bs (n + 1)) old mid new (λ i r. elim (cases_eq r.0 n) [
        | inl e ↦ inr (subst (λ (x : RowGroup). IsInGroup x.group i) (same_Some _ _ (sym r.3 ∙ ap (slice_get bs) e ∙ slice_get-get_or bs n d h)) r.4)
        | inr ne ↦ inl (r.0, r.1, omega (arith, r.2, ne), r.3, r.4)
      ])

  pub those_groups : (bs : List RowGroup) (n : ℕ) (old new : List (Option (Placed K))) → length bs ≤ n → RetriesThose cs S o marks (InBelow bs n) old new → RetriesThose cs S o marks (HaveIn bs) old new
  those_groups bs n old new h = those_as (InBelow bs n) (HaveIn bs) old new (λ i w. (w.0, w.1, omega (arith, h, slice_get_within bs w.0 w.1 w.2), w.2, w.3))

  -- of the objects
  pub those_beside : (lists : List (Vec RowGroup Global)) (n : ℕ) (old mid new : List (Option (Placed K))) → RetriesThose cs S o marks (BesideBelow lists n) old mid → RetriesThose cs S o marks (HaveIn (row lists n)) mid new → RetriesThose cs S o marks (BesideBelow lists (n + 1)) old new
  those_beside lists n old mid new =
      those_both (BesideBelow lists n) (HaveIn (row lists n)) (BesideBelow lists (n + 1)) old mid new (λ i w. elim (cases_eq w.0 n) [
        | inl e ↦ inr (subst (λ (u : ℕ). HaveIn (row lists u) i) e w.2)
        | inr ne ↦ inl (w.0, omega (arith, w.1, ne), w.2)
      ])

  -- so it is behind objects that are not marked
  pub those_skip : (lists : List (Vec RowGroup Global)) (n m : ℕ) (old new : List (Option (Placed K))) → ((u k : ℕ) (b : RowGroup) → slice_get (row lists u) k ≡ Some b → NamesNoThird cs (length marks) o u b.group) → get_or marks o false ≡ false
      → ((u : ℕ) → n ≤ u → u < m → get_or marks u false ≡ false) → RetriesThose cs S o marks (BesideBelow lists n) old new → RetriesThose cs S o marks (BesideBelow lists m) old new
  those_skip lists n m old new a own none r = record {
    stay = r.stay;
    tried = λ i q e k x w at. elim (cases_lt w.0 n) [
      | inl l ↦ r.tried i q e k x (w.0, l, w.2) at
      | inr l ↦ inl (pair_unmarked x o w.0 marks (a w.0 w.2.0 w.2.1 w.2.2 k x w.2.3 at) own (none w.0 l w.1))
    ];
  }

  pub those_lists : (lists : List (Vec RowGroup Global)) (n : ℕ) (old new : List (Option (Placed K))) → length lists ≤ n → RetriesThose cs S o marks (BesideBelow lists n) old new → RetriesThose cs S o marks (HaveBeside lists) old new
  those_lists lists n old new h = those_as (BesideBelow lists n) (HaveBeside lists) old new (λ i w. elim (cases_lt w.0 (length lists)) [
    | inl l ↦ (w.0, omega (arith, l, h), w.1)
    | inr l ↦ absurd (has_past lists w.0 i l w.1)
  ])

  -- both kinds of groups have all that name the object
  pub pairs_asked : (l : Links) (d : Pairs) (old mid new : List (Option (Placed K))) → AreLinks cs (length S) l → o < length S
      → RetriesThose cs S o marks (HaveBeside (get_or l.pairs.items o d).beside.items) old mid → RetriesThose cs S o marks (HaveIn (get_or l.pairs.items o d).others.items) mid new → StandBut cs S o marks old → Stand cs S o new
  pairs_asked l d old mid new a h first second f i q e m x hm nm =
      let pairs = get_or l.pairs.items o d in
      let picks = row l.picks.items o in
      let are = a.pairs.each o d h in
      let r = those_both (HaveBeside pairs.beside.items) (HaveIn pairs.others.items) (λ j. HaveBeside pairs.beside.items j ⊎ HaveIn pairs.others.items j) old mid new (λ j p. p) first second in
      let each : (j : ℕ) (y : Cond) → j < length picks → NamesUnmarked marks (get_or cs (nth l o j) y) ⊎ (possible (get_or cs (nth l o j) y) (placed S o q) ≡ true) = λ j y b.
      let k = pick_in (length cs) picks j (a.picks o h).within b in
      r.tried i q e (slice_index picks j) (get_or cs (nth l o j) y) (are.each j b) (slice_get-get_or cs (nth l o j) y k.1) in
      elim (each_named (λ c. NamesUnmarked marks c ⊎ (possible c (placed S o q) ≡ true)) cs (length S) o l a h each m x hm nm) [
        | inl u ↦ f i q (r.stay i q e) m x hm nm u
        | inr y ↦ y
      ]
