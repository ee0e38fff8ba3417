-- Steps of the program that makes short forms.
use Rattle.std.proofs.Common.{◌≡◌, ℕ, ◌≤◌, ◌^◌, true, List, [], ◌∷◌, drop, ℤ, pos, negsuc, ◌-ℤ◌, ◌*ℤ◌, sym, ap, ◌∙◌, subst, arith, FitsSigned, to_z, of_z, to_z-of_z}
use Rattle.std.specs.Prelude.{Option, unsigned_abs}
use Rattle.std.specs.Int.{w64, w128}
use Rattle.std.proofs.lemmas.Int.{ints, fits_signed_mul}
use Rattle.geo_conditions.specs.declared.object.ObjId.{ObjId}
use Rattle.geo_conditions.specs.Form.{Sum}
use Rattle.problem_data.specs.Problem.{ProblemData}
use Rattle.rule_expand.specs.PlainTruth.{PlainEnv}
use Rattle.rule_expand.specs.PlainView.{plain_sums_view}
use Rattle.rule_expand.specs.declared.plain.PlainSum.{PlainSum}
use Rattle.linear_conditions.specs.declared.short.Short.{Short}
use Rattle.linear_conditions.specs.declared.short.Short.TheVariants.{Number, Shifted}
use Rattle.linear_conditions.specs.Faults.{GivesShort}
use Rattle.linear_conditions.specs.Fixings.{Fixing}
use Rattle.linear_conditions.specs.Sums.{add_sums, constant_sum, fits_sum, scale, term}
use Rattle.linear_conditions.specs.Views.{short_view}
use Rattle.linear_conditions.specs.Forms.{sums_added, sums_fit}
use Rattle.linear_conditions.proofs.NumberSteps.{less-is}

-- what is left of a sum behind its first i steps, all of which were short
pub record SumHeld (p : ProblemData) (env : PlainEnv) (fix : List Fixing) (first : Sum) (steps : List PlainSum) (i : ℕ) (total : Sum) : Type 0 where
  pub rest : sums_added p total (plain_sums_view (drop i steps)) env fix ≡ sums_added p first (plain_sums_view steps) env fix
  pub fit : sums_fit p (plain_sums_view (drop i steps)) env fix ≡ sums_fit p (plain_sums_view steps) env fix
  pub within : fits_sum total ≡ true

abs-up : (z : ℤ) → FitsSigned w64 z → unsigned_abs z ≤ 2 ^ 63
abs-up (pos k) h = omega (arith, ints)
abs-up (negsuc k) h = omega (arith, ints)

pub wide-product : (x y u v : ℤ) → FitsSigned w64 x → FitsSigned w64 y → u ≡ x → v ≡ y → to_z w128 (of_z w128 (to_z w128 (of_z w128 u) *ℤ to_z w128 (of_z w128 v))) ≡ x *ℤ y
wide-product x y u v f g e h =
    let a : FitsSigned w128 x = omega (arith, ints) in
    let b : FitsSigned w128 y = omega (arith, ints) in
    let p : FitsSigned w128 (x *ℤ y) = fits_signed_mul w128 x y (2 ^ 63) (2 ^ 63) (abs-up x f) (abs-up y g) (omega arith) in
    ap (λ z. to_z w128 (of_z w128 (to_z w128 (of_z w128 z) *ℤ to_z w128 (of_z w128 v)))) e
    ∙ ap (λ z. to_z w128 (of_z w128 (to_z w128 (of_z w128 x) *ℤ to_z w128 (of_z w128 z)))) h
    ∙ ap (λ z. to_z w128 (of_z w128 (z *ℤ to_z w128 (of_z w128 y)))) (to_z-of_z a)
    ∙ ap (λ z. to_z w128 (of_z w128 (x *ℤ z))) (to_z-of_z b) ∙ to_z-of_z p

module _ (r : Option Short) (f : Short) where
  pub lowered-number : (x y z : ℤ) → f ≡ Number x → GivesShort r (constant_sum z) (fits_sum (constant_sum z)) → z ≡ x -ℤ y →
      let g = add_sums (short_view f) (scale (negsuc 0) (constant_sum y)) in GivesShort r g (fits_sum g)
  lowered-number x y z h g e =
      subst (λ (v : Short). let s = add_sums (short_view v) (scale (negsuc 0) (constant_sum y)) in GivesShort r s (fits_sum s)) (sym h)
      (subst (λ (v : ℤ). GivesShort r (constant_sum v) (fits_sum (constant_sum v))) (less-is x y z e) g)

  abbrev pub GivesShifted : ObjId → ℕ → ℤ → Type 0
  GivesShifted o d z = let s : Sum = record { terms = term o.0 d (pos 1) ∷ []; constant = z } in GivesShort r s (fits_sum s)

  pub lowered-shifted : (o : ObjId) (d : ℕ) (x y z : ℤ) → f ≡ Shifted o d x → GivesShifted o d z → z ≡ x -ℤ y →
      let g = add_sums (short_view f) (scale (negsuc 0) (constant_sum y)) in GivesShort r g (fits_sum g)
  lowered-shifted o d x y z h g e =
      subst (λ (v : Short). let s = add_sums (short_view v) (scale (negsuc 0) (constant_sum y)) in GivesShort r s (fits_sum s)) (sym h)
      (subst (GivesShifted o d) (less-is x y z e) g)

  pub scaled-number : (x y z : ℤ) → f ≡ Number y → GivesShort r (constant_sum z) (fits_sum (constant_sum z)) → z ≡ x *ℤ y →
      let g = scale x (short_view f) in GivesShort r g (fits_sum g)
  scaled-number x y z h g e =
      subst (λ (v : Short). let s = scale x (short_view v) in GivesShort r s (fits_sum s)) (sym h)
      (subst (λ (v : ℤ). GivesShort r (constant_sum v) (fits_sum (constant_sum v))) e g)
