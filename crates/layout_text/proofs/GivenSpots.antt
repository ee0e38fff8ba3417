-- The numbers, the pieces of ranges and the spots at a place of their lists.
use Rattle.std.proofs.Common.{◌≡◌, ◌<◌, ℕ, ℤ, pos, true, List, [], length, map, get_or, sym, ap, ◌∙◌, subst, arith}
use Rattle.std.specs.Prelude.{slice_index_or}
use Rattle.std.proofs.lemmas.List.{get_or-map, get_or_default, length-map}
use Rattle.geo_base.specs.Boxes.{coordinate}
use Rattle.geo_base.specs.Tuple.{nothing_put, spot}
use Rattle.problem_data.specs.declared.tree.Int.{Int}
use Rattle.problem_data.specs.Cells.{HasForm, IsSpotOf}
use Rattle.problem_data.specs.Meaning.{number_of}
use Rattle.problem_data.specs.Problem.{ObjectData, RangeData, ProblemData}
use Rattle.problem_data.specs.Pieces.{IsInPieces}
use Rattle.problem_data.specs.Places.{is_absent_at}
use Rattle.problem_data.specs.Tuple.{Spot, object_of}
use Rattle.problem_data.specs.WellFormed.{IsObject}
use Rattle.layout_text.specs.declared.tree.GroupText.{GroupText}
use Rattle.layout_text.specs.Faults.{AreInPieces, first_values, spot_in}
use Rattle.layout_text.specs.Token.{tuple_in}
use Rattle.layout_text.specs.View.{group_view}
use Rattle.layout_text.proofs.FirstValues.{are_first_of, first_same}

module _ (rs : List (List RangeData)) (xs : List Int) (i : ℕ) (r : List RangeData) (x : Int) (same : length rs ≡ length xs) (lt : i < length xs) (is : r ≡ get_or rs i r) where
  range_is : slice_index_or rs i [] ≡ r
  range_is = sym (is ∙ get_or_default rs i r [] (omega (arith, same, lt)))

  number_is : coordinate (map number_of xs) i ≡ (get_or xs i x).value
  number_is = get_or-map number_of xs i x (pos 0) lt

  pub in_pieces : IsInPieces r (get_or xs i x).value → IsInPieces (slice_index_or rs i []) (coordinate (map number_of xs) i)
  in_pieces h = subst (λ (s : List RangeData). IsInPieces s (coordinate (map number_of xs) i)) (sym range_is) (subst (λ (v : ℤ). IsInPieces r v) (sym number_is) h)

  pub out_of_pieces : IsInPieces (slice_index_or rs i []) (coordinate (map number_of xs) i) → IsInPieces r (get_or xs i x).value
  out_of_pieces h = subst (λ (v : ℤ). IsInPieces r v) number_is (subst (λ (s : List RangeData). IsInPieces s (coordinate (map number_of xs) i)) range_is h)

-- a spot of that form whose numbers lie in the pieces, and are the first values where it is absent,
-- is one of the object
pub made_spot : (p : ProblemData) (o : ObjectData) (s : Spot) → IsObject p o → HasForm p o s → AreInPieces o.pieces s.origin
    → (is_absent_at o s.place ≡ true → s.origin ≡ first_values p o) → IsSpotOf p o s
made_spot p o s is form h first = record {
  form = form;
  pieces = λ d lt. h d (let e : length o.pieces ≡ p.dims = is.dimensions in omega (arith, e, lt));
  first = λ e. are_first_of p o s.origin (first e);
}

pub spot_inside : (p : ProblemData) (o : ObjectData) (s : Spot) → IsObject p o → IsSpotOf p o s → AreInPieces o.pieces s.origin
spot_inside p o s is h d lt = h.pieces d (let e : length o.pieces ≡ p.dims = is.dimensions in omega (arith, e, lt))

pub spot_first : (p : ProblemData) (o : ObjectData) (s : Spot) → IsSpotOf p o s → is_absent_at o s.place ≡ true → s.origin ≡ first_values p o
spot_first p o s h e = first_same p o s.origin h.form.dimensions (h.first e)

-- the spot that a group gives
pub group_spot : (gs : List GroupText) (i : ℕ) (g : GroupText) → i < length gs → g ≡ get_or gs i g → spot (tuple_in (map group_view gs)) i ≡ spot_in (group_view g)
group_spot gs i g lt is =
    let n : length (map group_view gs) ≡ length gs = length-map gs group_view in
    get_or-map spot_in (map group_view gs) i (group_view g) nothing_put (omega arith) ∙ ap spot_in (get_or-map group_view gs i g (group_view g) lt) ∙ ap (λ (x : GroupText). spot_in (group_view x)) (sym is)

-- a group and its object
module _ (p : ProblemData) (gs : List GroupText) (i : ℕ) (g : GroupText) (o : ObjectData) (lt : i < length gs) (is : g ≡ get_or gs i g) (object : o ≡ object_of p i) where
  pub as_spot : IsSpotOf p o (spot_in (group_view g)) → IsSpotOf p (object_of p i) (spot (tuple_in (map group_view gs)) i)
  as_spot h = subst (λ (x : ObjectData). IsSpotOf p x (spot (tuple_in (map group_view gs)) i)) object (subst (λ (s : Spot). IsSpotOf p o s) (sym (group_spot gs i g lt is)) h)

  pub from_spot : IsSpotOf p (object_of p i) (spot (tuple_in (map group_view gs)) i) → IsSpotOf p o (spot_in (group_view g))
  from_spot h = subst (λ (s : Spot). IsSpotOf p o s) (group_spot gs i g lt is) (subst (λ (x : ObjectData). IsSpotOf p x (spot (tuple_in (map group_view gs)) i)) (sym object) h)
