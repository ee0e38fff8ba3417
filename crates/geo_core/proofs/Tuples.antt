-- A problem without rules has a layout: each object at its first place, at the low end of each
-- dimension.
use Rattle.std.proofs.Common.{◌≡◌, ◌<◌, ◌≤◌, ◌+◌, ◌==◌, ℕ, zero, suc, Bool, true, false, ℤ, pos, ◌≤ℤ◌, List, [], ◌∷◌, length, map, get_or, refl, sym, ap, ◌∙◌, subst, arith}
use Rattle.std.specs.Prelude.{◌&&◌, All, if◌then◌else◌}
use Rattle.std.proofs.lemmas.Int.{ints}
use Rattle.std.proofs.lemmas.List.{length-map, get_or-map}
use Rattle.std.proofs.lemmas.Bool.Decides.{nat_tests}
use Rattle.geo_base.specs.Boxes.{coordinate}
use Rattle.geo_base.specs.Tuple.{Tuple, Spot}
use Rattle.problem_data.specs.Problem.{RangeData, ObjectData, no_object, ProblemData}
use Rattle.problem_data.specs.Pieces.{range_at, pieces_at, IsInPieces}
use Rattle.problem_data.specs.Places.{place_count, absent_place, is_absent_at}
use Rattle.problem_data.specs.Tuple.{object_of, spot}
use Rattle.problem_data.specs.Cells.{IsSpotOf, IsTuple}
use Rattle.problem_data.specs.Layouts.{IsLayout}
use Rattle.problem_data.specs.SomeRules.{with_rules}
use Rattle.problem_data.specs.WellFormed.{IsObject, IsWellFormed}

abbrev pub low_end : List RangeData → ℤ
low_end pieces = (range_at pieces 0).low

abbrev pub first_spot : ObjectData → Spot
first_spot o = record { place = 1; origin = map low_end o.pieces }

abbrev pub first_tuple : ProblemData → Tuple
first_tuple p = map first_spot p.objects

not_absent : (o : ObjectData) → 0 < length o.shapes → is_absent_at o 1 ≡ true → ⊥
not_absent o some e = (let other : 1 == (length o.shapes + 1) ≡ false = grind (arith, nat_tests) in by o.may_be_absent (sym (ap (λ (b : Bool). o.may_be_absent && b) other) ∙ e))
  where
    by : (b : Bool) → (b && false) ≡ true → ⊥
    by true h = cc
    by false h = cc

module _ (p : ProblemData) (well : IsWellFormed p) (o : ℕ) (l : o < length p.objects) where
  is : IsObject p (object_of p o)
  is = well.objects o no_object l

  here : spot (first_tuple p) o ≡ first_spot (object_of p o)
  here = get_or-map first_spot p.objects o no_object _ l

  in_piece : (d : ℕ) → d < p.dims → IsInPieces (pieces_at (object_of p o) d) (coordinate (map low_end (object_of p o).pieces) d)
  in_piece d m =
      let k : d < length (object_of p o).pieces = (let e = is.dimensions in omega (arith, m, e)) in
      let pieces = is.pieces d [] k in
      let at : coordinate (map low_end (object_of p o).pieces) d ≡ low_end (pieces_at (object_of p o) d) = get_or-map low_end (object_of p o).pieces d [] _ k in
      let r = pieces.ranges 0 _ pieces.some in
      subst (IsInPieces (pieces_at (object_of p o) d)) (sym at) (0, pieces.some, (omega (arith, ints), r.filled))

  spot_is : IsSpotOf p (object_of p o) (first_spot (object_of p o))
  spot_is = record {
    form = record {
      first = omega arith;
      last = (let h = is.some in omega (arith, h));
      dimensions = length-map (object_of p o).pieces low_end ∙ is.dimensions;
    };
    pieces = in_piece;
    first = λ e. absurd (not_absent (object_of p o) is.some e);
  }

  pub spot_there : IsSpotOf p (object_of p o) (spot (first_tuple p) o)
  spot_there = subst (IsSpotOf p (object_of p o)) (sym here) spot_is

pub some_tuple : (p : ProblemData) → IsWellFormed p → (t : Tuple) × IsTuple p t
some_tuple p well = (first_tuple p, record { objects = length-map p.objects first_spot; each = λ o l. spot_there p well o l })
