-- What is gathered of the groups of runs.
use Rattle.std.proofs.Common.{◌≡◌, ℕ, zero, suc, ◌+◌, ◌<◌, ◌≤◌, List, [], ◌∷◌, length, sym, ap, ◌∙◌, subst, inl, inr, arith, Option, Some, None, true, false}
use Rattle.std.specs.Prelude.{◌≢◌, slice_get, MatchOption, IfSome}
use Rattle.std.proofs.lemmas.Bool.{cases_eq, cases_lt, false_from_ne_true}
use Rattle.std.proofs.lemmas.Option.{same_Some, slice_get_cases}
use Rattle.geo_conditions.specs.declared.cond.Cond.{Cond}
use Rattle.geo_conditions.specs.declared.object.ObjId.{ObjId}
use Rattle.geo_conditions.specs.Conditions.{AllFit}
use Rattle.geo_conditions.specs.Reach.{State, Region, reach, is_only}
use Rattle.object_pruning.specs.declared.rows.Group.{Group}
use Rattle.object_pruning.specs.declared.rows.Run.{Run}
use Rattle.object_pruning.specs.declared.kept.Placed.{Placed}
use Rattle.object_pruning.specs.Kept.{placed}
use Rattle.object_pruning.specs.Gathered.{AllPossible, GoesOn, IsNumberSpared, IsSolePlace}
use Rattle.object_pruning.specs.InRows.{AreSomeGroups}
use Rattle.object_pruning.specs.Runs.{HaveBetween, IsInGroup, IsRun, start_at}
use Rattle.object_pruning.proofs.LivePicks.{goes_both, group_fits, group_free, group_spared}

-- where the place that is asked for is not the sole one, the other object has not that alone
pub sole_free : (S : State) (other : Option ObjId) (place : ℕ) (sole : Option ℕ) → IsSolePlace S other sole → MatchOption sole ⊥ (λ p. (place ≢ 0) × (place ≢ p)) → MatchOption other ⊥ (λ u. (place ≢ 0) × (is_only (reach S u.0).places place ≡ false))
sole_free S other place None is m = absurd m
sole_free S None place (Some p) is m = absurd is
sole_free S (Some u) place (Some p) is m = (m.0, false_from_ne_true (is_only (reach S u.0).places place) (λ h. m.1 (is place h)))

module _ (cs : List Cond) (S : State) (o : ℕ) (fits : AllFit cs S) (here : o < length S) (gs : List Group) (some : AreSomeGroups cs o gs) (run : Run) (is : IsRun gs run.first run) where
  -- the other object is there
  pub run_fits : IfSome run.other (λ u. u.0 < length S)
  run_fits = elim (slice_get_cases gs run.first).1 [
    | inl w ↦ subst (λ (u : Option ObjId). IfSome u (λ v. v.0 < length S)) (is.other run.first w.0 (omega arith) is.some w.2) (group_fits cs S o fits here w.0 (some run.first w.0 w.2))
    | inr w ↦ absurd (omega (arith, is.some, is.within, w.0))
  ]

  module _ (sole : Option ℕ) (asks : IfSome sole (λ p. run.asks ≡ true)) (none : sole ≡ Some 0) (alone : IsSolePlace S run.other sole) where
    -- where all groups ask for a place, and the other object has none alone, it has not that of a group alone
    passed : (i : ℕ) (w : HaveBetween gs run.first run.end i) → MatchOption w.1.other ⊥ (λ u. (w.1.other_place ≢ 0) × (is_only (reach S u.0).places w.1.other_place ≡ false))
    passed i w =
        let place = is.asks w.0 w.1 w.2 w.3 w.4 (subst (λ (p : Option ℕ). IfSome p (λ q. run.asks ≡ true)) none asks) in
        let of_group : IsSolePlace S w.1.other (Some 0) = subst (λ (u : Option ObjId). IsSolePlace S u (Some 0)) (sym (is.other w.0 w.1 w.2 w.3 w.4)) (subst (IsSolePlace S run.other) none alone) in
        sole_free S w.1.other w.1.other_place (Some 0) of_group (place, place)

    -- so the conditions are spared
    pub run_spared : (K s : ℕ) (b : Region) (i : ℕ) → HaveBetween gs run.first run.end i → IsNumberSpared K cs S o s b i
    run_spared K s b i w = group_spared cs S o fits here K s b w.1 (some w.0 w.1 w.4) (passed i w) i w.5

    -- and possible
    pub run_free : {K : ℕ} (q : Placed K) → AllPossible cs (placed S o q) (HaveBetween gs run.first run.end)
    run_free q i w x e = group_free cs S o fits here w.1 (some w.0 w.1 w.4) (passed i w) i x w.5 e q.place q.point.coordinates

-- where the next run begins
pub start_next : (from j : ℕ) (runs : List Run) (run : Run) → slice_get runs j ≡ Some run → start_at from runs (suc j) ≡ run.end
start_next from j [] run h = absurd (cc)
start_next from zero (p ∷ runs) run h = ap (λ (r : Run). r.end) (same_Some _ _ h)
start_next from (suc j) (p ∷ runs) run h = start_next p.end j runs run h

module _ (K : ℕ) (cs : List Cond) (S : State) (o s : ℕ) (b : Region) (gs : List Group) where
  -- of the groups between, one after another
  pub goes_between : (first k : ℕ) (d : Group) (n m l : ℕ) (live mid new : List ℕ) → first ≤ k → slice_get gs k ≡ Some d → GoesOn K cs S o s b (HaveBetween gs first k) n live m mid → GoesOn K cs S o s b (IsInGroup d) m mid l new → GoesOn K cs S o s b (HaveBetween gs first (k + 1)) n live l new
  goes_between first k d n m l live mid new low at a c =
      goes_both K cs S o s b (HaveBetween gs first k) (IsInGroup d) (HaveBetween gs first (k + 1)) n m l live mid new
      (λ i p. (p.0, p.1, p.2, omega (arith, p.3), p.4, p.5))
      (λ i q. (k, d, low, omega arith, at, q))
      (λ i r. elim (cases_eq r.0 k) [
        | inl e ↦ inr (subst (λ (x : Group). IsInGroup x i) (same_Some _ _ (sym r.4 ∙ ap (slice_get gs) e ∙ at)) r.5)
        | inr ne ↦ inl (r.0, r.1, r.2, omega (arith, r.3), r.4, r.5)
      ])
      a
      c

  -- of the runs, one after another
  pub goes_run : (k e n m l : ℕ) (run : Run) (live mid new : List ℕ) → IsRun gs k run → e ≡ run.end → GoesOn K cs S o s b (HaveBetween gs 0 k) n live m mid → GoesOn K cs S o s b (HaveBetween gs run.first run.end) m mid l new → GoesOn K cs S o s b (HaveBetween gs 0 e) n live l new
  goes_run k e n m l run live mid new is end a c =
      goes_both K cs S o s b (HaveBetween gs 0 k) (HaveBetween gs run.first run.end) (HaveBetween gs 0 e) n m l live mid new
      (λ i p. (p.0, p.1, omega arith, omega (arith, p.3, is.some, is.first, end), p.4, p.5))
      (λ i q. (q.0, q.1, omega arith, omega (arith, q.3, end), q.4, q.5))
      (λ i r. elim (cases_lt r.0 k) [
        | inl x ↦ inl (r.0, r.1, omega arith, x, r.4, r.5)
        | inr x ↦ inr (r.0, r.1, omega (arith, x, is.first), omega (arith, r.3, end), r.4, r.5)
      ])
      a
      c
