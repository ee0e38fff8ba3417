-- No picked condition is refuted where those are possible that can be in the way.
use Rattle.std.proofs.Common.{◌≡◌, ℕ, ◌<◌, true, List, length, sym, subst, inl, inr}
use Rattle.std.specs.Prelude.{slice_index}
use Rattle.std.proofs.lemmas.Bool.{cases_eq}
use Rattle.geo_conditions.specs.declared.cond.Cond.{Cond}
use Rattle.geo_conditions.specs.Conditions.{possible, AllFit}
use Rattle.geo_conditions.specs.Reach.{State}
use Rattle.geo_conditions.specs.Supported.{NoneRefuted}
use Rattle.sweep.specs.Picks.{picked}
use Rattle.sweep.proofs.PickedConditions.{picked_all, picked_at}
use Rattle.object_pruning.specs.declared.kept.Placed.{Placed}
use Rattle.object_pruning.specs.declared.rows.Group.{Group}
use Rattle.object_pruning.specs.declared.rows.Rows.{Rows}
use Rattle.object_pruning.specs.Gathered.{AllPossible, IsNumberPossible}
use Rattle.object_pruning.specs.InRows.{AreRows, HaveNumber, row}
use Rattle.object_pruning.specs.Kept.{placed}
use Rattle.object_pruning.proofs.LivePicks.{fit, row_listed, there}

-- each pick's condition is possible
pub picks_possible : (cs : List Cond) (T : State) (picks : List ℕ) → ((k : ℕ) → k < length picks → IsNumberPossible cs T (slice_index picks k)) → NoneRefuted (picked cs picks) T
picks_possible cs T picks f = picked_all (λ x. possible x T ≡ true) cs picks (λ k x p. f k p.0 x p.1)

-- and back
pub pick_possible : (cs : List Cond) (T : State) (picks : List ℕ) (k : ℕ) → NoneRefuted (picked cs picks) T → k < length picks → IsNumberPossible cs T (slice_index picks k)
pick_possible cs T picks k n h x e = picked_at (λ y. possible y T ≡ true) cs picks k x n (h, e)

module _ (cs : List Cond) (S : State) (o : ℕ) (fits : AllFit cs S) (here : o < length S) (picks : List ℕ) (rows : Rows) (are : AreRows cs o picks rows) where
  -- those of the row of no place and of that of the object's place are possible
  pub rows_possible : {K : ℕ} (q : Placed K) (any at : List Group) → any ≡ row rows.rows.items 0 → at ≡ row rows.rows.items q.place → AllPossible cs (placed S o q) (HaveNumber any) → AllPossible cs (placed S o q) (HaveNumber at) → NoneRefuted (picked cs picks) (placed S o q)
  rows_possible q any at e f a b = picks_possible cs (placed S o q) picks (λ k h x p.
      let i = slice_index picks k in
      let w = are.each k h in
      elim (cases_eq w.0 0) [
        | inl z ↦ a i (subst (λ (gs : List Group). HaveNumber gs i) (sym e) (subst (λ (r : ℕ). HaveNumber (row rows.rows.items r) i) z w.1)) x p
        | inr nz ↦ elim (cases_eq w.0 q.place) [
          | inl z ↦ b i (subst (λ (gs : List Group). HaveNumber gs i) (sym f) (subst (λ (r : ℕ). HaveNumber (row rows.rows.items r) i) z w.1)) x p
          | inr ne ↦ ((are.groups w.0 w.1.0 w.1.1 w.1.2).faces i x w.1.3 p).place nz S q.place (fit cs S o fits here i x p) here (λ y. ne (sym y)) q.point.coordinates
        ]
      ])

  -- where no pick's condition is refuted, those of a row are possible
  pub row_possible : (T : State) (r : ℕ) (gs : List Group) → gs ≡ row rows.rows.items r → NoneRefuted (picked cs picks) T → AllPossible cs T (HaveNumber gs)
  row_possible T r gs e n i w =
      let c = row_listed cs S o fits here picks rows are r i (subst (λ (hs : List Group). HaveNumber hs i) e w) in
      subst (IsNumberPossible cs T) (there picks i c) (pick_possible cs T picks c.0 n c.1)
