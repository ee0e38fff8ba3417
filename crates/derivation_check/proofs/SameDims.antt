-- States of the same dimensions: as many objects, each with as many dimensions. A condition that fits in one fits in the other.
use Rattle.std.proofs.Common.{◌≡◌, ℕ, List, length, get_or, set, refl, sym, ap, ◌∙◌, subst, inl, inr, arith}
use Rattle.std.proofs.lemmas.Bool.{cases_lt, cases_eq}
use Rattle.std.proofs.lemmas.List.{get_or-set_same, get_or-set_other, set_past}
use Rattle.std.proofs.Math.ListN.{length-set}
use Rattle.geo_conditions.specs.declared.cond.Cond.{Cond, Lin, Shape, NotShape, AtLeast', Row_of-Cond, end_of-Cond, more_of-Cond}
use Rattle.geo_conditions.specs.Reach.{State, Reach, reach, nowhere, dims}
use Rattle.geo_conditions.specs.Conditions.{FitsIn, AllFitIn, AllFit}
use Rattle.derivation.specs.declared.side.Side.TheVariants.{Upto, From}
use Rattle.derivation.specs.declared.half.Half.{Half}
use Rattle.derivation.specs.declared.half.Half.TheVariants.{OfPlace, OfSide}
use Rattle.derivation.specs.Valid.{first_part, second_part, change}

pub record SameDims (S T : State) : Type 0 where
  pub objects : length T ≡ length S
  pub each : (o : ℕ) → dims T o ≡ dims S o

pub same_self : (S : State) → SameDims S S
same_self S = record { objects = refl; each = λ o. refl }

pub same_trans : (S T U : State) → SameDims S T → SameDims T U → SameDims S U
same_trans S T U h k = record { objects = k.objects ∙ h.objects; each = λ o. k.each o ∙ h.each o }

pub same_set : (S : State) (o : ℕ) (r : Reach) → length r.region.lo ≡ dims S o → SameDims S (set S o r)
same_set S o r h = record {
  objects = length-set S o r;
  each = λ u. elim (cases_eq u o) [
    | inl e ↦ elim (cases_lt o (length S)) [
      | inl b ↦ subst (λ (v : ℕ). dims (set S o r) v ≡ dims S v) (sym e) (ap (λ (q : Reach). length q.region.lo) (get_or-set_same S o r nowhere b) ∙ h)
      | inr b ↦ ap (λ (T : State). dims T u) (set_past S o r b)
    ]
    | inr ne ↦ ap (λ (q : Reach). length q.region.lo) (get_or-set_other S o u r nowhere ne)
  ];
}

pub same_first : (half : Half) (S : State) (o : ℕ) → SameDims S (change (first_part half) S o)
same_first (OfPlace s) S o = same_set S o (first_part (OfPlace s) (reach S o)) refl
same_first (OfSide (Upto d v)) S o = same_set S o (first_part (OfSide (Upto d v)) (reach S o)) refl
same_first (OfSide (From d v)) S o = same_set S o (first_part (OfSide (From d v)) (reach S o)) (length-set (reach S o).region.lo d _)

pub same_second : (half : Half) (S : State) (o : ℕ) → SameDims S (change (second_part half) S o)
same_second (OfPlace s) S o = same_set S o (second_part (OfPlace s) (reach S o)) refl
same_second (OfSide (Upto d v)) S o = same_set S o (second_part (OfSide (Upto d v)) (reach S o)) (length-set (reach S o).region.lo d _)
same_second (OfSide (From d v)) S o = same_set S o (second_part (OfSide (From d v)) (reach S o)) refl

mutual
  pub fits_same : (c : Cond) (S T : State) → SameDims S T → FitsIn c S → FitsIn c T
  fits_same (Lin f) S T i h = λ k d b. (omega (arith, i.objects, (h k d b).0), omega (arith, i.each (get_or f.terms k d).object.0, (h k d b).1))
  fits_same (Shape o s) S T i h = omega (arith, i.objects)
  fits_same (NotShape o s) S T i h = omega (arith, i.objects)
  fits_same (AtLeast' n shape cs) S T i h = row_same cs S T i h

  row_same : {m : _} → (cs : Row_of-Cond m) (S T : State) → SameDims S T → AllFitIn cs S → AllFitIn cs T
  row_same end_of-Cond S T i h = tt
  row_same (more_of-Cond c cs) S T i h = (fits_same c S T i h.0, row_same cs S T i h.1)

pub all_fit : (cs : List Cond) (S T : State) → SameDims S T → AllFit cs S → AllFit cs T
all_fit cs S T i h = λ k d b. fits_same (get_or cs k d) S T i (h k d b)
