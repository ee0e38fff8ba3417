-- Conditions that name few objects are found by those of them that are marked.
use Rattle.std.proofs.Common.{◌≡◌, ◌≢◌, ◌⊎◌, ℕ, ◌+◌, ◌-◌, ◌<◌, ◌≤◌, Bool, true, false, List, length, get_or, sym, ap, ◌∙◌, subst, inl, inr, arith, Some, Option, Vec, Global}
use Rattle.std.specs.Prelude.{slice_get}
use Rattle.std.proofs.lemmas.Bool.{cases_eq, cases_lt, false≢true, false_from_ne_true}
use Rattle.std.proofs.lemmas.List.{get_or_past}
use Rattle.std.proofs.lemmas.Option.{same_Some, slice_get-get_or, slice_get_within}
use Rattle.geo_conditions.specs.declared.cond.Cond.{Cond}
use Rattle.geo_conditions.specs.Reach.{State}
use Rattle.geo_conditions.proofs.Decide.{decide_true, search_below}
use Rattle.fixpoint.proofs.Stable.{both}
use Rattle.indexical.specs.Names.{names}
use Rattle.object_pruning.specs.declared.kept.Placed.{Placed}
use Rattle.object_pruning.proofs.InRows.{row_past}
use Rattle.fixpoint.specs.declared.links.Links.{Links}
use Rattle.fixpoint.specs.declared.partners.Partners.{Partners}
use Rattle.fixpoint.specs.Links.{AreLinks, is_among, row}
use Rattle.fixpoint.specs.Pairs.{names_at}
use Rattle.fixpoint.specs.Kept.{RetriesThose}
use Rattle.fixpoint.specs.Marks.{NamesUnmarked}
use Rattle.fixpoint.specs.Partners.{ArePartners, HasNumber, HaveMarked}
use Rattle.fixpoint.proofs.Asked.{those_as, those_both}
use Rattle.fixpoint.proofs.Partnering.{has_none}

-- one of the first n numbers
abbrev pub FirstNumbers : List ℕ → ℕ → ℕ → Type 0
FirstNumbers numbers n i = (k : ℕ) × (k < n) × (slice_get numbers k ≡ Some i)

-- one of the first n objects that is marked has the number
abbrev pub MarkedBelow : List Bool → List (Vec ℕ Global) → ℕ → ℕ → Type 0
MarkedBelow marks few n i = (u : ℕ) × (u < n) × (get_or marks u false ≡ true) × HasNumber (row few u) i

-- whether the condition names a marked object
marked_or_not : (marks : List Bool) (x : Cond) → ((u : ℕ) × (u < length marks) × (get_or marks u false ≡ true) × (names u x ≡ true)) ⊎ NamesUnmarked marks x
marked_or_not marks x = elim (search_below (λ u. (get_or marks u false ≡ true) × (names u x ≡ true)) (λ u. both _ _ (decide_true (get_or marks u false)) (decide_true (names u x))) (length marks)) [
  | inl f ↦ inl (f.0, f.1, f.2.0, f.2.1)
  | inr none ↦ inr (λ u nu. elim (cases_lt u (length marks)) [
    | inl h ↦ false_from_ne_true (get_or marks u false) (λ m. none u h (m, nu))
    | inr past ↦ get_or_past marks u false past
  ])
]

module _ {K : ℕ} (cs : List Cond) (S : State) (o : ℕ) (marks : List Bool) where
  pub numbers_more : (numbers : List ℕ) (n d : ℕ) (old mid new : List (Option (Placed K))) → n < length numbers → RetriesThose cs S o marks (FirstNumbers numbers n) old mid → RetriesThose cs S o marks (λ i. i ≡ get_or numbers n d) mid new → RetriesThose cs S o marks (FirstNumbers numbers (n + 1)) old new
  numbers_more numbers n d old mid new h =
      those_both cs S o marks (FirstNumbers numbers n) (λ i. i ≡ get_or numbers n d) (FirstNumbers numbers (n + 1)) old mid new (λ i w. elim (cases_eq w.0 n) [
        | inl e ↦ inr (same_Some _ _ (sym w.2 ∙ ap (slice_get numbers) e ∙ slice_get-get_or numbers n d h))
        | inr ne ↦ inl (w.0, omega (arith, w.1, ne), w.2)
      ])

  pub numbers_asked : (numbers : List ℕ) (n : ℕ) (old new : List (Option (Placed K))) → length numbers ≤ n → RetriesThose cs S o marks (FirstNumbers numbers n) old new → RetriesThose cs S o marks (HasNumber numbers) old new
  numbers_asked numbers n old new h = those_as cs S o marks (FirstNumbers numbers n) (HasNumber numbers) old new (λ i w. (w.0, omega (arith, h, slice_get_within numbers w.0 i w.1), w.1))

  pub few_skip : (few : List (Vec ℕ Global)) (n m : ℕ) (old new : List (Option (Placed K))) → ((u : ℕ) → n ≤ u → u < m → get_or marks u false ≡ false) → RetriesThose cs S o marks (MarkedBelow marks few n) old new → RetriesThose cs S o marks (MarkedBelow marks few m) old new
  few_skip few n m old new none = those_as cs S o marks (MarkedBelow marks few n) (MarkedBelow marks few m) old new (λ i w. elim (cases_lt w.0 n) [
    | inl l ↦ (w.0, l, w.2, w.3)
    | inr l ↦ absurd (false≢true (sym (none w.0 l w.1) ∙ w.2))
  ])

  pub few_more : (few : List (Vec ℕ Global)) (n : ℕ) (old mid new : List (Option (Placed K))) → RetriesThose cs S o marks (MarkedBelow marks few n) old mid → RetriesThose cs S o marks (HasNumber (row few n)) mid new → RetriesThose cs S o marks (MarkedBelow marks few (n + 1)) old new
  few_more few n old mid new =
      those_both cs S o marks (MarkedBelow marks few n) (HasNumber (row few n)) (MarkedBelow marks few (n + 1)) old mid new (λ i w. elim (cases_eq w.0 n) [
        | inl e ↦ inr (subst (λ (u : ℕ). HasNumber (row few u) i) e w.3)
        | inr ne ↦ inl (w.0, omega (arith, w.1, ne), w.2, w.3)
      ])

  pub few_asked : (few : List (Vec ℕ Global)) (n : ℕ) (old new : List (Option (Placed K))) → length few ≤ n → RetriesThose cs S o marks (MarkedBelow marks few n) old new → RetriesThose cs S o marks (HaveMarked marks few) old new
  few_asked few n old new h = those_as cs S o marks (MarkedBelow marks few n) (HaveMarked marks few) old new (λ i w. elim (cases_lt w.0 (length few)) [
    | inl l ↦ (w.0, omega (arith, l, h), w.1, w.2)
    | inr l ↦ absurd (has_none i (subst (λ (numbers : List ℕ). HasNumber numbers i) (row_past few w.0 l) w.2))
  ])

  pub partners_asked : (l : Links) (p : Partners) (Those : ℕ → Type 0) (old mid new : List (Option (Placed K))) → AreLinks cs (length S) l → length marks ≡ length S → get_or marks o false ≡ false → ArePartners l.named.items o (length S) Those p
      → RetriesThose cs S o marks (HaveMarked marks p.few.items) old mid → RetriesThose cs S o marks (HasNumber p.many.items) mid new → RetriesThose cs S o marks Those old new
  partners_asked l p Those old mid new a long own are first second = record {
    stay = λ i q e. first.stay i q (second.stay i q e);
    tried = λ i q e k x w at. elim (marked_or_not marks x) [
      | inr none ↦ inl none
      | inl f ↦
          let u = f.0 in
          let below : u < length S = omega (arith, f.1, long) in
          let ne : u ≢ o = λ s. false≢true (sym own ∙ subst (λ (v : ℕ). get_or marks v false ≡ true) s f.2) in
          let here : k - 1 < length cs = slice_get_within cs (k - 1) x at in
          let same : get_or cs (k - 1) x ≡ x = same_Some _ _ (sym (slice_get-get_or cs (k - 1) x here) ∙ at) in
          let among : is_among u (names_at l.named.items (k - 1)) ≡ true = (a.named (k - 1) x here).each u below ∙ ap (names u) same ∙ f.3 in
          elim (are.each k u w below ne among) [
            | inl many ↦ second.tried i q e k x many at
            | inr few ↦ first.tried i q (second.stay i q e) k x (u, f.2, few) at
          ]
    ];
  }
