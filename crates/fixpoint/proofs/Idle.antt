-- What an object leaves free that is too long in some dimension.
use Rattle.std.proofs.Common.{◌≡◌, ◌≢◌, ℕ, ◌<◌, List, length, sym, ap, subst, inl, inr, arith, true, false, ℤ, ◌+ℤ◌, ◌<ℤ◌, Some, Option}
use Rattle.std.specs.Prelude.{slice_get, IfSome}
use Rattle.std.proofs.lemmas.Int.{ints}
use Rattle.std.proofs.lemmas.Bool.{cases_Bool}
use Rattle.geo_base.specs.Boxes.{coordinate}
use Rattle.geo_conditions.specs.declared.cond.Cond.{Cond}
use Rattle.geo_conditions.specs.declared.object.ObjId.{ObjId}
use Rattle.geo_conditions.specs.Conditions.{possible, AllFit}
use Rattle.geo_conditions.specs.Reach.{State, Reach, low, high, just, with_at}
use Rattle.geo_conditions.proofs.Points.{reach_other}
use Rattle.indexical.specs.Faces.{IsBeside}
use Rattle.indexical.proofs.Values.{low_at, high_at}
use Rattle.object_pruning.specs.declared.near.Near.{Near}
use Rattle.object_pruning.specs.declared.rows.Group.{Group}
use Rattle.object_pruning.specs.InRows.{IsSomeGroup}
use Rattle.object_pruning.specs.Near.{IsIdle, IsNearRow}
use Rattle.object_pruning.proofs.LivePicks.{fit}
use Rattle.fixpoint.specs.Near.{LeavesPairsFree}

module _ (cs : List Cond) (S : State) (u : ℕ) (fits : AllFit cs S) (here : u < length S) (n : Near) (idle : IsIdle S u n) where
  -- the other object is nowhere so near
  nowhere_near : (v : ℕ) (x : Cond) → ((T : State) → possible x T ≡ false → (d : ℕ) → d < n.dims → (high T v d <ℤ (low T u d +ℤ coordinate n.ahead.coordinates d)) × (high T u d <ℤ (low T v d +ℤ coordinate n.behind.coordinates d))) → v ≢ u → v < length S
      → (s : ℕ) (p : List ℤ) → possible x (with_at S v s (just p)) ≡ true
  nowhere_near v x near ne there s p = elim (cases_Bool (possible x (with_at S v s (just p)))) [
    | inl e ↦ e
    | inr e ↦
        let T = with_at S v s (just p) in
        let d = idle.0 in
        let m = near T e d idle.1 in
        let same = reach_other S v s u (just p) (λ q. ne (sym q)) in
        let lo_v = low_at S v s there (just p) d in
        let hi_v = high_at S v s there (just p) d in
        let lo_u : low T u d ≡ low S u d = ap (λ (r : Reach). coordinate r.region.lo d) same in
        let hi_u : high T u d ≡ high S u d = ap (λ (r : Reach). coordinate r.region.hi d) same in
        absurd (omega (arith, ints, m.0, m.1, lo_v, hi_v, lo_u, hi_u, idle.2))
  ]

  pub idle_free : (gs : List Group) → ((k : ℕ) (g : Group) → slice_get gs k ≡ Some g → IsSomeGroup cs u g) → IsNearRow cs u gs n → LeavesPairsFree cs S u gs
  idle_free gs some near k g v at e o ne i x b is named =
      let q = some k g at in
      let beside : IsBeside x u v.0 g.other_place = subst (λ (w : Option ObjId). IfSome w (λ y. IsBeside x u y.0 g.other_place)) e (q.3.faces i x b is).other in
      elim (beside.named o named) [
        | inl z ↦ absurd (ne z)
        | inr z ↦ subst (λ (w : ℕ). (s : ℕ) (p : List ℤ) → possible x (with_at S w s (just p)) ≡ true) (sym z)
            (nowhere_near v.0 x (near i v x (k, g, at, e, b) is) beside.apart (beside.exists S (fit cs S u fits here i x is)))
      ]
