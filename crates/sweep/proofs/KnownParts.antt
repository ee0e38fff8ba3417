-- A box that stands for a pick answers as its condition does.
use Rattle.std.specs.Prelude.{IfSome, IfNone, slice_get, slice_index}
use Rattle.std.proofs.Common.{◌≡◌, ℕ, ◌-◌, ◌<◌, true, List, length, ℤ, Option, Some, None, inl, inr, sym, subst, arith}
use Rattle.std.proofs.lemmas.Bool.{cases_Bool}
use Rattle.std.proofs.lemmas.Option.{slice_get_cases}
use Rattle.geo_base.specs.declared.kbox.KBox.{KBox}
use Rattle.geo_base.specs.Boxes.{Has}
use Rattle.geo_conditions.specs.declared.cond.Cond.{Cond}
use Rattle.geo_conditions.specs.Reach.{State, just, with_at}
use Rattle.geo_conditions.specs.Conditions.{possible}
use Rattle.geo_conditions.specs.Regions.{region_of}
use Rattle.sweep.specs.Parts.{AreParts}
use Rattle.sweep.specs.Picks.{ArePicks, PicksAt, IsPickedBox}
use Rattle.sweep.proofs.PickedConditions.{pick_in, picked_box_at}

-- each pick names a condition
some_pick : (cs : List Cond) (picks : List ℕ) (k : ℕ) → ArePicks (length cs) picks → k < length picks → (x : Cond) × PicksAt cs picks k x
some_pick cs picks k are h =
    let p = pick_in (length cs) picks k are h in
    elim (slice_get_cases cs (slice_index picks k - 1)).1 [
      | inl w ↦ (w.0, (h, w.2))
      | inr w ↦ absurd (omega (arith, w.0, p.1))
    ]

module _ (K : ℕ) (cs : List Cond) (picks : List ℕ) (S : State) (o s : ℕ) (region : KBox K) (parts : List (Option (KBox K))) (are : AreParts K cs picks S o s (region_of region) parts)
    (k : ℕ) (part : KBox K) (at : slice_get parts k ≡ Some (Some part)) (numbers : ArePicks (length cs) picks) (h : k < length picks) (r : Option (KBox K)) (c : List ℤ)
    (some : IfSome r (λ b. (b ≡ part) × Has K b.lo.coordinates b.hi.coordinates c)) (none : IfNone r (Has K part.lo.coordinates part.hi.coordinates c → ⊥)) where
  pub part_forbidden : IfSome r (λ b. IsPickedBox K cs picks S o s c (region_of region) k (region_of b))
  part_forbidden = of r some
    where
      of : (r : Option (KBox K)) → IfSome r (λ b. (b ≡ part) × Has K b.lo.coordinates b.hi.coordinates c) → IfSome r (λ b. IsPickedBox K cs picks S o s c (region_of region) k (region_of b))
      of None e = tt
      of (Some b) e =
          let p = some_pick cs picks k numbers h in
          let w = are k part p.0 at p.1 in
          let inside : Has K part.lo.coordinates part.hi.coordinates c = subst (λ (z : KBox K). Has K z.lo.coordinates z.hi.coordinates c) e.0 e.1 in
          subst (λ (z : KBox K). IsPickedBox K cs picks S o s c (region_of region) k (region_of z)) (sym e.0)
          (picked_box_at K cs picks S o s c (region_of region) k (region_of part) p.0 numbers p.1 (record { has = inside; low = w.low; high = w.high; refuted = w.refuted; whole = λ d. w.whole }))

  pub part_none : Has K region.lo.coordinates region.hi.coordinates c → IfNone r ((x : Cond) → PicksAt cs picks k x → possible x (with_at S o s (just c)) ≡ true)
  part_none inside = of r none
    where
      of : (r : Option (KBox K)) → IfNone r (Has K part.lo.coordinates part.hi.coordinates c → ⊥) → IfNone r ((x : Cond) → PicksAt cs picks k x → possible x (with_at S o s (just c)) ≡ true)
      of (Some b) e = tt
      of None e = λ x p. elim (cases_Bool (possible x (with_at S o s (just c)))) [ inl y ↦ y | inr f ↦ absurd (e ((are k part x at p).whole c inside f)) ]
