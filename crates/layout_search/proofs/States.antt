-- The first state of a problem is a state.
use Rattle.std.proofs.Common.{◌≡◌, ◌≤◌, ◌-◌, ℕ, true, false, length, replicate, ◌∙◌, arith}
use Rattle.std.proofs.lemmas.List.{length-map, length-append, length-replicate}
use Rattle.std.proofs.lemmas.List.Elements.{All-map}
use Rattle.geo_conditions.specs.declared.object.TheConstants.{MAX_SHAPES}
use Rattle.geo_conditions.specs.Reach.{Reach, IsState, first_places}
use Rattle.problem_data.specs.Problem.{RangeData, ProblemData}
use Rattle.problem_data.specs.Pieces.{hull}
use Rattle.problem_data.specs.WellFormed.{IsWellFormed}
use Rattle.rule_ground.specs.Start.{whole_reach, first_state}

sixteen : (n : ℕ) → n ≤ 16 → length (first_places n) ≡ MAX_SHAPES
sixteen n h =
    let a : length (replicate n true) ≡ n = length-replicate n true in
    let b : length (replicate (MAX_SHAPES - n) false) ≡ MAX_SHAPES - n = length-replicate (MAX_SHAPES - n) false in
    omega (arith, h, a, b, length-append (replicate n true) (replicate (MAX_SHAPES - n) false))

pub state-is : (p : ProblemData) → IsWellFormed p → IsState p.dims (first_state p)
state-is p w = record {
  few = omega (arith, w.few, length-map p.objects whole_reach);
  dims = All-map (λ (r : Reach). (length r.region.lo ≡ p.dims) × (length r.region.hi ≡ p.dims)) whole_reach p.objects (λ i o l.
      let h = (w.objects i o l).dimensions in
      (length-map _ (λ (r : RangeData). r.low) ∙ length-map _ hull ∙ h, length-map _ (λ (r : RangeData). r.high) ∙ length-map _ hull ∙ h));
  places = All-map (λ (r : Reach). length r.places ≡ MAX_SHAPES) whole_reach p.objects (λ i o l. sixteen _ (w.objects i o l).few);
}
