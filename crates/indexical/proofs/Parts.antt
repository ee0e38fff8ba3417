-- A box of the region that a condition forbids, if there is one: what it forbids of the region, and its forbidden box at a point.
use Rattle.std.specs.Prelude.{MatchOption, IfSome, IfNone}
use Rattle.std.proofs.Common.{◌≡◌, ℕ, true, List, ℤ, Option, None, Some, sym, subst, inl, inr}
use Rattle.std.proofs.lemmas.Bool.{cases_Bool}
use Rattle.geo_base.specs.declared.kbox.KBox.{KBox}
use Rattle.geo_base.specs.Boxes.{Has}
use Rattle.geo_conditions.specs.declared.cond.Cond.{Cond}
use Rattle.geo_conditions.specs.Reach.{State, Region, just, with_at}
use Rattle.geo_conditions.specs.Conditions.{possible, IsRefuted}
use Rattle.geo_conditions.specs.Regions.{region_of}
use Rattle.indexical.specs.declared.forbidden.ForbiddenPart.{ForbiddenPart}
use Rattle.indexical.specs.declared.forbidden.ForbiddenPart.TheVariants.{Nothing, Exactly}
use Rattle.indexical.specs.Disjunctions.{IsDisjunction}
use Rattle.indexical.specs.Forbidden.{Forbids, IsForbiddenBox, IsForbiddenPart}

-- the box is what the condition forbids of the region; where there is none it forbids nothing
abbrev pub ForbidsPart : {K : ℕ} → Cond → State → ℕ → ℕ → Region → Option (KBox K) → Type 0
ForbidsPart {K} cond S o s region None = (q : List ℤ) → Has K region.lo region.hi q → possible cond (with_at S o s (just q)) ≡ true
ForbidsPart {K} cond S o s region (Some b) = IsForbiddenPart K cond S o s region (region_of b)

module _ {K : ℕ} (cond : Cond) (S : State) (o s : ℕ) (region : Region) where
  -- as an answer about the whole region
  pub forbids_exactly : (x : Option (KBox K)) (r : ForbiddenPart K) → ForbidsPart cond S o s region x → MatchOption x (r ≡ Nothing) (λ b. r ≡ Exactly b) → Forbids K cond S o s region r
  forbids_exactly None r h e = subst (Forbids K cond S o s region) (sym e) h
  forbids_exactly (Some b) r h e = subst (Forbids K cond S o s region) (sym e) h

  -- as an answer at a point of it
  pub forbidden_at : (c : List ℤ) (x r : Option (KBox K)) → Has K region.lo region.hi c → ForbidsPart cond S o s region x
      → IfSome r (λ b. (x ≡ Some b) × Has K b.lo.coordinates b.hi.coordinates c) → IfNone r (IfSome x (λ b. Has K b.lo.coordinates b.hi.coordinates c → ⊥))
      → MatchOption r (possible cond (with_at S o s (just c)) ≡ true) (λ b. IsForbiddenBox K cond S o s c region (region_of b))
  forbidden_at c x (Some b) inside h some none =
      let w : IsForbiddenPart K cond S o s region (region_of b) = subst (ForbidsPart cond S o s region) some.0 h in
      record { has = some.1; low = w.low; high = w.high; refuted = w.refuted; whole = λ d q has f. w.whole q has f }
  forbidden_at c None None inside h some none = h c inside
  forbidden_at c (Some b) None inside h some none = elim (cases_Bool (possible cond (with_at S o s (just c)))) [ inl e ↦ e | inr e ↦ absurd (none (h.whole c inside e)) ]

-- a forbidden box at a point, or none: what it says, clause by clause
module _ {K : ℕ} (cond : Cond) (S : State) (o s : ℕ) (c : List ℤ) (region : Region) where
  abbrev IsAnswer : Option (KBox K) → Type 0
  IsAnswer r = MatchOption r (possible cond (with_at S o s (just c)) ≡ true) (λ b. IsForbiddenBox K cond S o s c region (region_of b))

  pub answer_has : (r : Option (KBox K)) → IsAnswer r → IfSome r (λ b. Has K b.lo.coordinates b.hi.coordinates c)
  answer_has None h = tt
  answer_has (Some b) h = h.has

  pub answer_within : (r : Option (KBox K)) → IsAnswer r → IfSome r (λ b. Has K region.lo region.hi b.lo.coordinates × Has K region.lo region.hi b.hi.coordinates)
  answer_within None h = tt
  answer_within (Some b) h = (h.low, h.high)

  pub answer_refuted : (r : Option (KBox K)) → IsAnswer r → IfSome r (λ b. IsRefuted cond (with_at S o s (region_of b)))
  answer_refuted None h = tt
  answer_refuted (Some b) h = h.refuted

  pub answer_whole : (r : Option (KBox K)) → IsAnswer r → IfSome r (λ b. IsDisjunction o cond → (q : List ℤ) → Has K region.lo region.hi q → IsRefuted cond (with_at S o s (just q)) → Has K b.lo.coordinates b.hi.coordinates q)
  answer_whole None h = tt
  answer_whole (Some b) h = h.whole

  pub answer_none : (r : Option (KBox K)) → IsAnswer r → IfNone r (possible cond (with_at S o s (just c)) ≡ true)
  answer_none None h = h
  answer_none (Some b) h = tt
