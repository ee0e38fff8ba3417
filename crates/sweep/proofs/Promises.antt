-- What a sweep has found, in the words of its contract.
use Rattle.std.proofs.Common.{◌≡◌, ℕ, ◌<◌, Bool, true, false, List, length, sym, subst, arith, ℤ, ◌<ℤ◌}
use Rattle.std.proofs.lemmas.Int.{ints}
use Rattle.std.proofs.lemmas.Bool.Decides.{nat_tests}
use Rattle.geo_base.specs.Boxes.{coordinate, Has, IsCrossed}
use Rattle.geo_base.specs.Ways.{Before, dimension, toward, key}
use Rattle.geo_conditions.specs.declared.cond.Cond.{Cond}
use Rattle.geo_conditions.specs.Reach.{State, Region, dims, just, with_at}
use Rattle.geo_conditions.specs.Conditions.{AllFit}
use Rattle.geo_conditions.specs.Supported.{NoneRefuted, IsFirstPoint, HasNoPoint}
use Rattle.geo_conditions.proofs.ByIndex.{in_by_index, by_index_in}
use Rattle.derivation.specs.declared.event.Event.{Event}
use Rattle.derivation.specs.declared.side.Side.TheVariants.{Upto, From}
use Rattle.derivation.proofs.Parts.{far_out, far_sizes}
use Rattle.derivation.proofs.Leaves.{covered_points, covered_cuts, covered_names}
use Rattle.sweep.specs.Chains.{IsRecordOf}
use Rattle.sweep.specs.Sweep.{part_before, IsCovered, refutes_pick}
use Rattle.sweep.proofs.PickedConditions.{refutes_pick_sound, refutes_pick_named}

module _ (K : ℕ) (cs : List Cond) (S : State) (o s : ℕ) (b : Region) where
  -- no point of the box is free
  pub no_point : ((q : List ℤ) → Has K b.lo b.hi q → NoneRefuted cs (with_at S o s (just q)) → ⊥) → HasNoPoint cs S o s b
  no_point f p can = f p (by_index_in K b p can.point) can.unrefuted

  pub no_point_crossed : IsCrossed K b.lo b.hi → HasNoPoint cs S o s b
  no_point_crossed e = no_point (λ q h none. omega (arith, ints, e.2, (h e.0 e.1).0, (h e.0 e.1).1))

  -- p is free, and none before it
  pub first_point : (lead : ℕ) (up : Bool) (p : List ℤ) → length b.lo ≡ K → length b.hi ≡ K → length p ≡ K → Has K b.lo b.hi p → NoneRefuted cs (with_at S o s (just p))
      → ((q : List ℤ) → Has K b.lo b.hi q → Before K lead up q p → NoneRefuted cs (with_at S o s (just q)) → ⊥) → IsFirstPoint K lead up cs S o s b p
  first_point lead up p l h m has free f = record {
    point = record { point = in_by_index K b p l h m has; unrefuted = free };
    first = λ q can before. f q (by_index_in K b q can.point) before can.unrefuted;
  }

-- a record of a set of points is a cover of each box whose points are in the set
pub covered : (K : ℕ) (cs : List Cond) (picks : List ℕ) (S : State) (o s : ℕ) (b : Region) (old new : List Event) (P : List ℤ → Type 0) → AllFit cs S → o < length S → dims S o ≡ K → length b.lo ≡ K → length b.hi ≡ K
    → ((q : List ℤ) → Has K b.lo b.hi q → P q) → IsRecordOf K (refutes_pick cs picks S o s) old new P → IsCovered K cs picks S o s b old new
covered K cs picks S o s b old new P fits there dim l h inside r = record {
  tree = r.0;
  events = r.1;
  covers = covered_points cs S o s K (refutes_pick cs picks S o s) (refutes_pick_sound cs picks S o s) r.0 b P fits there dim l h inside r.2;
  cuts = covered_cuts K (refutes_pick cs picks S o s) r.0 P r.2;
  names = covered_names K (refutes_pick cs picks S o s) picks (refutes_pick_named cs picks S o s) r.0 b P l h inside r.2;
}

-- the lead is the first dimension
first_dimension : (K lead : ℕ) → lead < K → dimension K lead 0 ≡ lead
first_dimension K lead l = grind (arith, nat_tests)

-- the points of the part before p come before p in the lead dimension
pub before_out : (K lead : ℕ) (up : Bool) (p q : List ℤ) (b : Region) → lead < K → length b.lo ≡ K → length b.hi ≡ K → Has K (part_before lead up p b).lo (part_before lead up p b).hi q
    → Has K b.lo b.hi q × (key K lead up q 0 <ℤ key K lead up p 0)
before_out K lead true p q b w l h has =
    let out = far_out (From lead (coordinate p lead)) K q b w l h has in
    (out.0, subst (λ (d : ℕ). coordinate q d <ℤ coordinate p d) (sym (first_dimension K lead w)) (omega (arith, ints, out.1)))
before_out K lead false p q b w l h has =
    let out = far_out (Upto lead (coordinate p lead)) K q b w l h has in
    (out.0, subst (λ (d : ℕ). toward false (coordinate q d) <ℤ toward false (coordinate p d)) (sym (first_dimension K lead w)) (omega (arith, ints, out.1)))

pub before_sizes : (K lead : ℕ) (up : Bool) (p : List ℤ) (b : Region) → length b.lo ≡ K → length b.hi ≡ K → (length (part_before lead up p b).lo ≡ K) × (length (part_before lead up p b).hi ≡ K)
before_sizes K lead true p b l h = far_sizes (From lead (coordinate p lead)) K b l h
before_sizes K lead false p b l h = far_sizes (Upto lead (coordinate p lead)) K b l h
