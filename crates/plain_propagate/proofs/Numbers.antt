-- The numbers of one dimension of a small box, one after another.
use Rattle.std.proofs.Common.{◌≡◌, ℕ, ◌<◌, ◌≤◌, ◌≢◌, true, false, arith, sym, subst, ℤ, pos, ◌+ℤ◌, ◌≤ℤ◌}
use lib.Signed.{lt_z}
use Rattle.std.proofs.lemmas.Int.{ints}
use Rattle.std.specs.Int.{w64}
use mir.Val.{to_z, of_z}
use Rattle.geo_state.specs.Trail.{IsSmallEnd}
use Rattle.geo_state.proofs.Numbers.{small_kept}
use Rattle.derivation.specs.declared.side.Side.TheVariants.{Upto}
use Rattle.derivation.specs.Covers.{IsCut}

-- a dimension that is not the last one stands in a list of that length
pub stands_in : (k d n : ℕ) → n ≡ k → d ≤ k → d ≢ k → d < n
stands_in k d n l h ne = omega arith

-- numbers that are the ends of an interval
pub starts_at : (low v : ℤ) → v ≡ low → low ≤ℤ v
starts_at low v e = omega (arith, ints, e)

pub starts_below : (low high v last : ℤ) → v ≡ low → last ≡ high → low ≤ℤ high → v ≤ℤ last
starts_below low high v last e f h = omega (arith, ints, e, f, h)

-- a number between small ends is small, and can be cut at
pub small_between : (low high v : ℤ) → IsSmallEnd low → IsSmallEnd high → low ≤ℤ v → v ≤ℤ high → IsSmallEnd v
small_between low high v s t f g = (omega (arith, ints, s.0, f), omega (arith, ints, t.1, g))

pub cut_between : (k d : ℕ) (v : ℤ) → d < k → IsSmallEnd v → IsCut k (Upto d v)
cut_between k d v h s = (h, omega (arith, ints, s.0), omega (arith, ints, s.1))

-- the number behind one below the last
pub record IsNext (low last v w : ℤ) : Type 0 where
  pub from : low ≤ℤ w
  pub to : w ≤ℤ last
  pub one_more : w ≡ v +ℤ pos 1

pub next_number : (low high v last : ℤ) → IsSmallEnd low → IsSmallEnd high → last ≡ high → low ≤ℤ v → lt_z v last ≡ true → IsNext low last v (to_z w64 (of_z w64 (v +ℤ pos 1)))
next_number low high v last s t e f g =
    let n : IsSmallEnd (v +ℤ pos 1) = (omega (arith, ints, s.0, f), omega (arith, ints, t.1, e, g)) in
    let same : to_z w64 (of_z w64 (v +ℤ pos 1)) ≡ v +ℤ pos 1 = small_kept (v +ℤ pos 1) n in
    record {
      from = subst (λ (w : ℤ). low ≤ℤ w) (sym same) (omega (arith, ints, f));
      to = subst (λ (w : ℤ). w ≤ℤ last) (sym same) (omega (arith, ints, g));
      one_more = same;
    }

-- a number that is not below the last is the last
pub is_last : (v last : ℤ) → v ≤ℤ last → lt_z v last ≡ false → v ≡ last
is_last v last h k = omega (arith, ints, h, k)
