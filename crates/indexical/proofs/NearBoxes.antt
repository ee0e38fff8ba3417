-- How near the objects of two boxes are where the condition that they do not overlap is refuted.
use Rattle.std.proofs.Common.{ℕ, ◌<◌, ◌^◌, List, length, sym, subst, ℤ, ◌+ℤ◌, ◌<ℤ◌}
use Rattle.geo_conditions.specs.declared.cond.Cond.{Cond}
use Rattle.geo_conditions.specs.Reach.{low, high}
use Rattle.indexical.specs.declared.placed.PlacedBox.{PlacedBox}
use Rattle.indexical.specs.Apart.{apart_parts, AreGaps, SaysApart}
use Rattle.indexical.specs.Nearness.{IsRefutedNear}
use Rattle.indexical.proofs.PutBoxes.{says_refuted}

module _ {K : ℕ} (a b : PlacedBox K) (short : length (apart_parts a b) < 2 ^ 63) (c : Cond) (says : SaysApart a b short c) (ahead behind : List ℤ) (before : AreGaps a b ahead) (after : AreGaps b a behind) where
  -- seen from the first one
  pub near_first : IsRefutedNear K c a.object.0 b.object.0 ahead behind
  near_first S r d h =
      let m = says_refuted a b short c says S r in (
        subst (λ (x : ℤ). high S b.object.0 d <ℤ (low S a.object.0 d +ℤ x)) (sym (before d h)) (m.first_ends d h),
        subst (λ (x : ℤ). high S a.object.0 d <ℤ (low S b.object.0 d +ℤ x)) (sym (after d h)) (m.second_ends d h),
      )

  -- and from the second one
  pub near_second : IsRefutedNear K c b.object.0 a.object.0 behind ahead
  near_second S r d h = let m = near_first S r d h in (m.1, m.0)
