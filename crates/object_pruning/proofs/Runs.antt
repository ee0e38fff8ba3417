-- Runs of groups, as they are made.
use Rattle.std.proofs.Common.{◌≡◌, ℕ, zero, suc, ◌+◌, ◌<◌, List, [], ◌∷◌, ◌++◌, length, set, refl, sym, ap, ◌∙◌, subst, inl, inr, arith, Some, true, not, eqb}
use Rattle.std.specs.Prelude.{◌≢◌, slice_get}
use Rattle.std.proofs.lemmas.Bool.{cases_eq, cases_lt, false≢true}
use Rattle.std.proofs.lemmas.Option.{same_Some}
use Rattle.object_pruning.specs.declared.rows.Group.{Group}
use Rattle.object_pruning.specs.declared.rows.Run.{Run}
use Rattle.std.specs.declared.vec.Vec.{Vec}
use Rattle.std.specs.declared.alloc.Global.{Global}
use Rattle.object_pruning.specs.Runs.{row, IsRun, start_at, AreRuns, AreRunsTo}
use Rattle.object_pruning.proofs.InRows.{row_past}

module _ (gs : List Group) where
  -- a run more
  push_each : (from k : ℕ) (runs : List Run) (r : Run) → start_at from runs (length runs) ≡ k → IsRun gs k r → ((j : ℕ) (q : Run) → slice_get runs j ≡ Some q → IsRun gs (start_at from runs j) q)
      → (j : ℕ) (q : Run) → slice_get (runs ++ r ∷ []) j ≡ Some q → IsRun gs (start_at from (runs ++ r ∷ []) j) q
  push_each from k [] r e one each zero q h = subst (λ (n : ℕ). IsRun gs n q) (sym e) (subst (IsRun gs k) (same_Some _ _ h) one)
  push_each from k [] r e one each (suc j) q h = absurd (cc)
  push_each from k (p ∷ runs) r e one each zero q h = each 0 q h
  push_each from k (p ∷ runs) r e one each (suc j) q h = push_each p.end k runs r e one (λ i. each (suc i)) j q h

  push_whole : (from : ℕ) (runs : List Run) (r : Run) → start_at from (runs ++ r ∷ []) (length (runs ++ r ∷ [])) ≡ r.end
  push_whole from [] r = refl
  push_whole from (p ∷ runs) r = push_whole p.end runs r

  pub runs_push : (k n : ℕ) (runs : List Run) (r : Run) → AreRunsTo gs k runs → IsRun gs k r → r.end ≡ n → AreRunsTo gs n (runs ++ r ∷ [])
  runs_push k n runs r a one e = record {
    each = push_each 0 k runs r a.whole one a.each;
    whole = push_whole 0 runs r ∙ e;
  }

  -- the last run made longer
  last_each : (from n : ℕ) (runs : List Run) (r : Run) → suc n ≡ length runs → IsRun gs (start_at from runs n) r → ((j : ℕ) (q : Run) → slice_get runs j ≡ Some q → IsRun gs (start_at from runs j) q)
      → (j : ℕ) (q : Run) → slice_get (set runs n r) j ≡ Some q → IsRun gs (start_at from (set runs n r) j) q
  last_each from n [] r e one each j q h = absurd (omega (arith, e))
  last_each from zero (p ∷ runs) r e one each zero q h = subst (IsRun gs from) (same_Some _ _ h) one
  last_each from zero (p ∷ []) r e one each (suc j) q h = absurd (cc)
  last_each from zero (p ∷ p' ∷ runs) r e one each (suc j) q h = absurd (omega (arith, e))
  last_each from (suc n) (p ∷ runs) r e one each zero q h = each 0 q h
  last_each from (suc n) (p ∷ runs) r e one each (suc j) q h = last_each p.end n runs r (omega (arith, e)) one (λ i. each (suc i)) j q h

  last_whole : (from n : ℕ) (runs : List Run) (r : Run) → suc n ≡ length runs → start_at from (set runs n r) (length (set runs n r)) ≡ r.end
  last_whole from n [] r e = absurd (omega (arith, e))
  last_whole from zero (p ∷ []) r e = refl
  last_whole from zero (p ∷ p' ∷ runs) r e = absurd (omega (arith, e))
  last_whole from (suc n) (p ∷ runs) r e = last_whole p.end n runs r (omega (arith, e))

  -- where the last run ends
  last_end : (from n : ℕ) (runs : List Run) (q : Run) → suc n ≡ length runs → slice_get runs n ≡ Some q → start_at from runs (length runs) ≡ q.end
  last_end from n [] q e h = absurd (omega (arith, e))
  last_end from zero (p ∷ []) q e h = ap (λ (r : Run). r.end) (same_Some _ _ h)
  last_end from zero (p ∷ p' ∷ runs) q e h = absurd (omega (arith, e))
  last_end from (suc n) (p ∷ runs) q e h = last_end p.end n runs q (omega (arith, e)) h

  -- the run with one group more
  abbrev pub longer_run : Run → ℕ → Run
  longer_run r n = record { other = r.other; asks = r.asks; first = r.first; end = n }

  pub runs_longer : (k n : ℕ) (runs : List Run) (r : Run) (g : Group) → suc n ≡ length runs → slice_get runs n ≡ Some r → k < length gs → slice_get gs k ≡ Some g → g.other ≡ r.other → (r.asks ≡ true → g.other_place ≢ 0)
      → AreRunsTo gs k runs → AreRunsTo gs (k + 1) (set runs n (longer_run r (k + 1)))
  runs_longer k n runs r g e at here is other asks a =
      let old = a.each n r at in
      let end : k ≡ r.end = sym a.whole ∙ last_end 0 n runs r e at in
      let one : IsRun gs (start_at 0 runs n) (longer_run r (k + 1)) = record {
        first = old.first;
        some = omega (arith, old.some, end);
        within = omega (arith, here);
        other = λ j h l b s. elim (cases_eq j k) [
          | inl z ↦ ap (λ (x : Group). x.other) (same_Some _ _ (sym s ∙ ap (slice_get gs) z ∙ is)) ∙ other
          | inr nz ↦ old.other j h l (omega (arith, b, nz, end)) s
        ];
        asks = λ j h l b s. elim (cases_eq j k) [
          | inl z ↦ subst (λ (x : Group). r.asks ≡ true → x.other_place ≢ 0) (same_Some _ _ (sym is ∙ ap (slice_get gs) (sym z) ∙ s)) asks
          | inr nz ↦ old.asks j h l (omega (arith, b, nz, end)) s
        ];
      } in record {
        each = last_each 0 n runs (longer_run r (k + 1)) e one a.each;
        whole = last_whole 0 n runs (longer_run r (k + 1)) e;
      }

  -- a group by itself
  pub one_run : (k : ℕ) (r : Run) (g : Group) → k < length gs → slice_get gs k ≡ Some g → r.first ≡ k → r.end ≡ k + 1 → g.other ≡ r.other → (r.asks ≡ true → g.other_place ≢ 0) → IsRun gs k r
  one_run k r g here is first end other asks = record {
    first = first;
    some = omega (arith, first, end);
    within = omega (arith, here, end);
    other = λ j h l b s. let z : j ≡ k = omega (arith, l, b, first, end) in ap (λ (x : Group). x.other) (same_Some _ _ (sym s ∙ ap (slice_get gs) z ∙ is)) ∙ other;
    asks = λ j h l b s. let z : j ≡ k = omega (arith, l, b, first, end) in subst (λ (x : Group). r.asks ≡ true → x.other_place ≢ 0) (same_Some _ _ (sym is ∙ ap (slice_get gs) (sym z) ∙ s)) asks;
  }

-- a place that is asked for
pub place_asked : (p : ℕ) → not (eqb p 0) ≡ true → p ≢ 0
place_asked zero h e = false≢true h
place_asked (suc p) h e = absurd (cc)

-- ---- the runs of each row

row_before : {X : Type 0} (vs : List (Vec X Global)) (v : Vec X Global) (q : ℕ) → q < length vs → row (vs ++ v ∷ []) q ≡ row vs q
row_before [] v q h = absurd (omega arith)
row_before (w ∷ vs) v zero h = refl
row_before (w ∷ vs) v (suc q) h = row_before vs v q (omega arith)

row_last : {X : Type 0} (vs : List (Vec X Global)) (v : Vec X Global) → row (vs ++ v ∷ []) (length vs) ≡ v.items
row_last [] v = refl
row_last (w ∷ vs) v = row_last vs v

module _ (rows : List (Vec Group Global)) (runs : List (Vec Run Global)) where
  pub more_runs : (v : Vec Run Global) (r : ℕ) → length runs ≡ r → ((q : ℕ) → q < r → AreRuns (row rows q) (row runs q)) → AreRuns (row rows r) v.items → (q : ℕ) → q < r + 1 → AreRuns (row rows q) (row (runs ++ v ∷ []) q)
  more_runs v r e old one q h = elim (cases_eq q r) [
    | inl z ↦ subst (λ (n : ℕ). AreRuns (row rows n) (row (runs ++ v ∷ []) n)) (sym z) (subst (AreRuns (row rows r)) (sym (ap (row (runs ++ v ∷ [])) (sym e) ∙ row_last runs v)) one)
    | inr nz ↦ subst (AreRuns (row rows q)) (sym (row_before runs v q (omega (arith, h, nz, e)))) (old q (omega (arith, h, nz)))
  ]

  pub whole_runs : length runs ≡ length rows → ((q : ℕ) → q < length rows → AreRuns (row rows q) (row runs q)) → (q : ℕ) → AreRuns (row rows q) (row runs q)
  whole_runs e old q = elim (cases_lt q (length rows)) [
    | inl h ↦ old q h
    | inr h ↦ subst (λ (gs : List Group). AreRuns gs (row runs q)) (sym (row_past rows q h)) (subst (AreRuns []) (sym (row_past runs q (omega (arith, h, e)))) none)
  ]
    where
      none : AreRuns [] []
      none = record { each = λ j run h. absurd (cc); whole = refl }
