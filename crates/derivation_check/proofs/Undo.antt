-- What an open node replaced, put back.
use Rattle.std.proofs.Common.{◌≡◌, ℕ, ◌≤◌, Bool, List, length, set, refl, sym, ap, ◌∙◌, subst, inl, inr, ℤ, pos}
use Rattle.std.proofs.lemmas.Bool.{cases_lt}
use Rattle.std.proofs.lemmas.List.{get_or-set_same, set_past, set-set, set-get_or}
use Rattle.std.proofs.Math.ListN.{length-set}
use Rattle.geo_conditions.specs.declared.object.ObjId.{ObjId}
use Rattle.geo_base.specs.Boxes.{coordinate}
use Rattle.geo_conditions.specs.Reach.{State, Reach, reach, nowhere, low, high}
use Rattle.derivation.specs.declared.side.Side.TheVariants.{Upto, From}
use Rattle.derivation.specs.declared.half.Half.{Half}
use Rattle.derivation.specs.declared.half.Half.TheVariants.{OfPlace, OfSide}
use Rattle.derivation.specs.Valid.{first_part, second_part, change}
use Rattle.derivation_check.specs.Machine.{undo, saved}

-- an object that is changed and changed back
put_back : (S : State) (o : ℕ) (f g : Reach → Reach) → g (f (reach S o)) ≡ reach S o → change g (change f S o) o ≡ S
put_back S o f g h = elim (cases_lt o (length S)) [
  | inl b ↦ ap (λ (r : Reach). set (set S o (f (reach S o))) o (g r)) (get_or-set_same S o (f (reach S o)) nowhere b)
      ∙ set-set S o (f (reach S o)) (g (f (reach S o))) ∙ ap (set S o) h ∙ set-get_or S o nowhere
  | inr b ↦ set_past (set S o (f (reach S o))) o (g (reach (set S o (f (reach S o))) o)) (subst (λ (n : ℕ). n ≤ o) (sym (length-set S o (f (reach S o)))) b) ∙ set_past S o (f (reach S o)) b
]

-- an end that is changed and changed back
ends_back : (xs : List ℤ) (d : ℕ) (v : ℤ) → set (set xs d v) d (coordinate xs d) ≡ xs
ends_back xs d v = set-set xs d v (coordinate xs d) ∙ set-get_or xs d (pos 0)

abbrev reach_of : List Bool → List ℤ → List ℤ → Reach
reach_of ps lo hi = record { places = ps; region = record { lo = lo; hi = hi } }

abbrev ends : ℕ → ℤ → ℤ → Reach → Reach
ends d lo hi r = record { places = r.places; region = record { lo = set r.region.lo d lo; hi = set r.region.hi d hi } }

both_back : (r : Reach) (d : ℕ) (lo hi : List ℤ) → set lo d (coordinate r.region.lo d) ≡ r.region.lo → set hi d (coordinate r.region.hi d) ≡ r.region.hi
    → ends d (coordinate r.region.lo d) (coordinate r.region.hi d) (reach_of r.places lo hi) ≡ r
both_back r d lo hi e f = ap (λ (l : List ℤ). reach_of r.places l (set hi d (coordinate r.region.hi d))) e ∙ ap (λ (h : List ℤ). reach_of r.places r.region.lo h) f

pub undo_first : (half : Half) (S : State) (o : ObjId) → undo (saved half S o) (change (first_part half) S o.0) ≡ S
undo_first (OfPlace s) S o = put_back S o.0 (first_part (OfPlace s)) (λ r. record { places = (reach S o.0).places; region = r.region }) refl
undo_first (OfSide (Upto d v)) S o = put_back S o.0 (first_part (OfSide (Upto d v))) (ends d (low S o.0 d) (high S o.0 d)) (both_back (reach S o.0) d (reach S o.0).region.lo _ (set-get_or (reach S o.0).region.lo d (pos 0)) (ends_back (reach S o.0).region.hi d _))
undo_first (OfSide (From d v)) S o = put_back S o.0 (first_part (OfSide (From d v))) (ends d (low S o.0 d) (high S o.0 d)) (both_back (reach S o.0) d _ (reach S o.0).region.hi (ends_back (reach S o.0).region.lo d _) (set-get_or (reach S o.0).region.hi d (pos 0)))

pub undo_second : (half : Half) (S : State) (o : ObjId) → undo (saved half S o) (change (second_part half) S o.0) ≡ S
undo_second (OfPlace s) S o = put_back S o.0 (second_part (OfPlace s)) (λ r. record { places = (reach S o.0).places; region = r.region }) refl
undo_second (OfSide (Upto d v)) S o = put_back S o.0 (second_part (OfSide (Upto d v))) (ends d (low S o.0 d) (high S o.0 d)) (both_back (reach S o.0) d _ (reach S o.0).region.hi (ends_back (reach S o.0).region.lo d _) (set-get_or (reach S o.0).region.hi d (pos 0)))
undo_second (OfSide (From d v)) S o = put_back S o.0 (second_part (OfSide (From d v))) (ends d (low S o.0 d) (high S o.0 d)) (both_back (reach S o.0) d (reach S o.0).region.lo _ (set-get_or (reach S o.0).region.lo d (pos 0)) (ends_back (reach S o.0).region.hi d _))
