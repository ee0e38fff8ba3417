use Rattle.std.proofs.Common.{◌≡◌, ◌⊎◌, ◌<◌, ℕ, None, Option, Some, List, length, map, true, false, inl, inr, sym, ap, ◌∙◌, subst, arith}
use Rattle.std.specs.Prelude.{slice_get}
use Rattle.std.proofs.lemmas.Bool.{cases_eq, false_from_ne_true}
use Rattle.std.proofs.lemmas.Option.{same_Some}
use Rattle.geo_conditions.specs.declared.cond.Cond.{Cond}
use Rattle.geo_conditions.specs.Reach.{State, reach, is_only}
use Rattle.indexical.specs.declared.any.AnyIndexical.{AnyIndexical}
use Rattle.object_pruning.specs.declared.rows.Group.{Group}
use Rattle.object_pruning.specs.declared.rows.Rows.{Rows}
use Rattle.object_pruning.specs.InRows.{HaveNumber, IsSomeGroup}
use Rattle.object_pruning.proofs.LivePicks.{rows_some}
use Rattle.fixpoint.specs.Links.{row}
use Rattle.fixpoint.specs.Near.{LeavesPairsFree, UnhinderedBy}
use Rattle.fixpoint.proofs.Woken.{queues_none, queues_weaker, marks_none, marks_weaker, free_by_place}
use Rattle.fixpoint.proofs.waking.wake_by_place.Goals as goal

pub wake_row-requires : goal.wake_row-requires
wake_row-requires g c =
    let cs = map (λ (x : AnyIndexical g.row.K). x.cond) c.args.list.now in
    let S = c.args.s.now in
    let u = c.args.u.0 in
    let there : u < length S = omega (arith, c.requires.object.0, c.requires.object.1) in
    let a = c.requires.rows in
    let some : (k : ℕ) (h : Group) → slice_get c.row-groups.result.now k ≡ Some h → IsSomeGroup cs u h = rows_some cs S u c.requires.fits there a.0 c.args.rows.now a.2 a.1 c.from.result c.row-groups.result.now c.row-groups.ensures in
    let same : row c.args.rows.now.rows.items c.from-in-Some.result ≡ c.row-groups.result.now = ap (row c.args.rows.now.rows.items) (c.from-in-Some.ensures ∙ sym c.from.ensures) ∙ sym c.row-groups.ensures in
    let idle : c.is_row_idle-idle.result ≡ true → LeavesPairsFree cs S u c.row-groups.result.now = λ t. subst (LeavesPairsFree cs S u) same (c.is_row_idle-idle.ensures t) in
    (omega arith, (omega arith, (c.requires.fits, (c.requires.links, (some, (idle, (c.requires.object, c.requires.square)))))))

none : (r : ℕ) → let n : Option ℕ = None in n ≡ Some r → ⊥
none r e = cc

module _ (cs : List Cond) (S : State) (u : ℕ) (rows : Rows) (o : ℕ) where
  -- the row of the place that u has alone, where no other place is alone
  by_one : (place : ℕ) (groups : List Group) → ((r : ℕ) → is_only (reach S u).places r ≡ true → Some place ≡ Some r) → groups ≡ row rows.rows.items place → UnhinderedBy cs S (HaveNumber groups) o
      → (r : ℕ) → (is_only (reach S u).places r ≡ false) ⊎ UnhinderedBy cs S (HaveNumber (row rows.rows.items r)) o
  by_one place groups only same f r = elim (cases_eq r place) [
    | inl e ↦ inr (subst (λ (gs : List Group). UnhinderedBy cs S (HaveNumber gs) o) (same ∙ ap (row rows.rows.items) (sym e)) f)
    | inr ne ↦ inl (false_from_ne_true (is_only (reach S u).places r) (λ y. ne (sym (same_Some place r (only r y)))))
  ]

  by_none : ((r : ℕ) → is_only (reach S u).places r ≡ true → let n : Option ℕ = None in n ≡ Some r) → (r : ℕ) → (is_only (reach S u).places r ≡ false) ⊎ UnhinderedBy cs S (HaveNumber (row rows.rows.items r)) o
  by_none only r = inl (false_from_ne_true (is_only (reach S u).places r) (λ y. none r (only r y)))

pub returns-in-Some-clause-queued : goal.returns-in-Some-clause-queued
returns-in-Some-clause-queued g c =
    let cs = map (λ (x : AnyIndexical g.row.K). x.cond) c.args.list.now in
    let S = c.args.s.now in
    let u = c.args.u.0 in
    let rows = c.args.rows.now in
    let there : u < length S = omega (arith, c.requires.object.0, c.requires.object.1) in
    let same = c.row-groups.ensures ∙ ap (row rows.rows.items) c.from.ensures in
    queues_weaker _ _ u c.args.queued.now c.wake_row.new.queued (λ o ne h f. free_by_place cs S o u rows c.requires.fits there ne c.requires.rows (by_one cs S u rows o c.in-Some.place c.row-groups.result.now c.in-Some.ensures same f)) c.wake_row.ensures.queued

pub returns-in-Some-clause-marked : goal.returns-in-Some-clause-marked
returns-in-Some-clause-marked g c =
    let cs = map (λ (x : AnyIndexical g.row.K). x.cond) c.args.list.now in
    let S = c.args.s.now in
    let u = c.args.u.0 in
    let rows = c.args.rows.now in
    let there : u < length S = omega (arith, c.requires.object.0, c.requires.object.1) in
    let same = c.row-groups.ensures ∙ ap (row rows.rows.items) c.from.ensures in
    marks_weaker _ _ u c.args.dirty.now c.wake_row.new.dirty (λ o ne h f. free_by_place cs S o u rows c.requires.fits there ne c.requires.rows (by_one cs S u rows o c.in-Some.place c.row-groups.result.now c.in-Some.ensures same f)) c.wake_row.ensures.marked

pub returns-in_default-clause-queued : goal.returns-in_default-clause-queued
returns-in_default-clause-queued g c =
    let there : c.args.u.0 < length c.args.s.now = omega (arith, c.requires.object.0, c.requires.object.1) in
    queues_none _ c.args.u.0 c.args.queued.now (λ o ne h. free_by_place _ c.args.s.now o c.args.u.0 c.args.rows.now c.requires.fits there ne c.requires.rows (by_none _ c.args.s.now c.args.u.0 c.args.rows.now o c.in_default.ensures))

pub returns-in_default-clause-marked : goal.returns-in_default-clause-marked
returns-in_default-clause-marked g c =
    let there : c.args.u.0 < length c.args.s.now = omega (arith, c.requires.object.0, c.requires.object.1) in
    marks_none _ c.args.u.0 c.args.dirty.now (λ o ne h. free_by_place _ c.args.s.now o c.args.u.0 c.args.rows.now c.requires.fits there ne c.requires.rows (by_none _ c.args.s.now c.args.u.0 c.args.rows.now o c.in_default.ensures))

pub returns-in-Some-clause-square : goal.returns-in-Some-clause-square
returns-in-Some-clause-square g c = c.wake_row.ensures.square

pub returns-in_default-clause-square : goal.returns-in_default-clause-square
returns-in_default-clause-square g c = c.requires.square
