-- How far numbers and values of sums are from 0.
use Rattle.std.proofs.Common.{◌≡◌, ℕ, ◌+◌, ◌-◌, ◌*◌, ◌^◌, ◌<◌, ◌≤◌, ◌&&◌, Bool, true, false, List, [], ◌∷◌, length, ℤ, pos, negsuc, ◌+ℤ◌, ◌*ℤ◌, neg_ℤ, ◌≤ℤ◌, sym, refl, arith, subst}
use Rattle.std.specs.Prelude.{unsigned_abs}
use Rattle.std.specs.List.{list_all}
use Rattle.std.proofs.Math.Logic.{⊎_elim}
use Rattle.std.proofs.Math.Nat.{mul-le-mul}
use Rattle.std.proofs.lemmas.Bool.{cases_lt}
use Rattle.std.proofs.lemmas.Int.{ints, unsigned_abs-mul}
use Rattle.std.proofs.lemmas.List.{get_or_past}
use lib.Signed.{le_z}
use Rattle.geo_base.specs.Boxes.{coordinate}
use Rattle.geo_base.specs.Tuple.{Tuple, Spot, spot, nothing_put}
use Rattle.geo_conditions.specs.declared.form.Term.{Term}
use Rattle.geo_conditions.specs.Form.{Sum}
use Rattle.geo_conditions.specs.Conditions.{value}
use Rattle.problem_data.specs.Problem.{RangeData, no_object, ProblemData}
use Rattle.problem_data.specs.Pieces.{no_range, range_at, pieces_at}
use Rattle.problem_data.specs.Tuple.{object_of}
use Rattle.problem_data.specs.Cells.{IsTuple}
use Rattle.problem_data.specs.WellFormed.{IsRange, IsWellFormed}
use Rattle.linear_conditions.specs.Sums.{is_bounded, fits_sum}
use Rattle.linear_conditions.proofs.SumLaws.{number_on, term_value, terms_value}

-- the number is at most n away from 0
pub record IsNear (n : ℕ) (z : ℤ) : Type 0 where
  pub low : neg_ℤ (pos n) ≤ℤ z
  pub high : z ≤ℤ pos n

pub near-abs : (n : ℕ) (z : ℤ) → unsigned_abs z ≤ n → IsNear n z
near-abs n (pos a) h = record { low = omega (arith, ints); high = omega (arith, ints) }
near-abs n (negsuc a) h = record { low = omega (arith, ints); high = omega (arith, ints) }

pub abs-near : (n : ℕ) (z : ℤ) → IsNear n z → unsigned_abs z ≤ n
abs-near n (pos a) h = omega (arith, ints)
abs-near n (negsuc a) h = omega (arith, ints)

pub near-add : (m n : ℕ) (a b : ℤ) → IsNear m a → IsNear n b → IsNear (m + n) (a +ℤ b)
near-add m n a b h k = record { low = omega (arith, ints); high = omega (arith, ints) }

pub near-neg : (n : ℕ) (a : ℤ) → IsNear n a → IsNear n (neg_ℤ a)
near-neg n a h = record { low = omega (arith, ints); high = omega (arith, ints) }

pub near-more : (m n : ℕ) (a : ℤ) → m ≤ n → IsNear m a → IsNear n a
near-more m n a l h = record { low = omega (arith, ints); high = omega (arith, ints) }

pub near-mul : (m n : ℕ) (a b : ℤ) → IsNear m a → IsNear n b → IsNear (m * n) (a *ℤ b)
near-mul m n a b h k = near-abs (m * n) (a *ℤ b) (subst (λ x. x ≤ m * n) (sym (unsigned_abs-mul a b)) (mul-le-mul (abs-near m a h) (abs-near n b k)))

-- ---- terms of bounded factors, on a tuple of a problem

both : (a b : Bool) → (a && b) ≡ true → (a ≡ true) × (b ≡ true)
both true b h = (refl, h)
both false b h = cc

bounded-near : (z : ℤ) → is_bounded z ≡ true → IsNear (10 ^ 15) z
bounded-near z h =
    let b = both (le_z (negsuc (10 ^ 15 - 1)) z) (le_z z (pos (10 ^ 15))) h in
    record { low = omega (arith, ints); high = omega (arith, ints) }

small-range : (r : RangeData) (z : ℤ) → IsRange r → (r.low ≤ℤ z) × (z ≤ℤ r.high) → IsNear (10 ^ 6) z
small-range r z i h = let a = h.0 in let b = h.1 in record { low = omega (arith, ints); high = omega (arith, ints) }

near-zero : (n : ℕ) → IsNear n (pos 0)
near-zero n = record { low = omega (arith, ints); high = omega (arith, ints) }

module _ (p : ProblemData) (t : Tuple) (w : IsWellFormed p) (tuple : IsTuple p t) where
  coordinate-there : (o d : ℕ) → o < length p.objects → d < length (spot t o).origin → IsNear (10 ^ 6) (number_on t o d)
  coordinate-there o d h k =
      let s = tuple.each o h in
      let i = w.objects o no_object h in
      let e = s.form.dimensions in
      let f = i.dimensions in
      let l : d < length (object_of p o).pieces = omega arith in
      let m : d < p.dims = omega arith in
      let has = s.pieces d m in
      small-range (range_at (pieces_at (object_of p o) d) has.0) (number_on t o d) ((i.pieces d [] l).ranges has.0 no_range has.1) has.2

  -- each coordinate of a tuple is small
  pub coordinate-near : (o d : ℕ) → IsNear (10 ^ 6) (number_on t o d)
  coordinate-near o d = ⊎_elim
      (λ h. ⊎_elim
      (λ k. coordinate-there o d h k)
      (λ k. subst (IsNear (10 ^ 6)) (sym (get_or_past (spot t o).origin d (pos 0) k)) (near-zero (10 ^ 6)))
      (cases_lt d (length (spot t o).origin)))
      (λ h.
      let e : length t ≤ o = (let b = tuple.objects in omega arith) in
      subst (λ (s : Spot). IsNear (10 ^ 6) (coordinate s.origin d)) (sym (get_or_past t o nothing_put e)) (near-zero (10 ^ 6)))
      (cases_lt o (length p.objects))

  term-near : (a : Term) → is_bounded a.factor ≡ true → IsNear (10 ^ 21) (term_value t a)
  term-near a h = near-mul (10 ^ 15) (10 ^ 6) a.factor (number_on t a.object.0 a.dimension) (bounded-near a.factor h) (coordinate-near a.object.0 a.dimension)

  terms-near : (ts : List Term) → list_all (λ (a : Term). is_bounded a.factor) ts ≡ true → IsNear (length ts * 10 ^ 21) (terms_value t ts)
  terms-near [] h = near-zero (0 * 10 ^ 21)
  terms-near (a ∷ ts) h =
      let b = both (is_bounded a.factor) (list_all (λ (u : Term). is_bounded u.factor) ts) h in
      near-more (10 ^ 21 + length ts * 10 ^ 21) (length (a ∷ ts) * 10 ^ 21) (terms_value t (a ∷ ts)) (omega arith)
      (near-add (10 ^ 21) (length ts * 10 ^ 21) (term_value t a) (terms_value t ts) (term-near a b.0) (terms-near ts b.1))

  -- the value of a sum that fits
  pub value-near : (f : Sum) → fits_sum f ≡ true → IsNear (10 ^ 21 + length f.terms * 10 ^ 21) (value f t)
  value-near f h =
      let b = both (list_all (λ (a : Term). is_bounded a.factor) f.terms) (is_bounded f.constant) h in
      near-add (10 ^ 21) (length f.terms * 10 ^ 21) f.constant (terms_value t f.terms)
      (near-more (10 ^ 15) (10 ^ 21) f.constant (omega arith) (bounded-near f.constant b.1)) (terms-near f.terms b.0)
