-- Lines without a fault are one for each object, and what they give is a tuple.
use Rattle.std.proofs.Common.{◌≡◌, ℕ, zero, suc, ◌+◌, ◌<◌, ◌≤◌, ℤ, pos, List, [], ◌∷◌, ◌++◌, length, map, take, get_or, Option, Some, None, true, inl, inr, ⊎_elim, refl, sym, ap, ◌∙◌, subst, arith}
use Rattle.std.specs.Prelude.{slice_get}
use Rattle.std.proofs.lemmas.Bool.{cases_lt, cases_Bool}
use Rattle.std.proofs.lemmas.Option.{slice_get-get_or}
use Rattle.std.proofs.lemmas.List.{length-map, length-take-le, get_or-map}
use Rattle.geo_tokens.specs.declared.fault.FaultWord.TheVariants as words
use Rattle.geo_base.specs.Tuple.{nothing_put}
use Rattle.geo_base.specs.Boxes.{coordinate}
use Rattle.rule_syntax.specs.declared.tree.PlacedName.{PlacedName}
use Rattle.problem_data.specs.declared.tree.Int.{Int}
use Rattle.problem_data.specs.Problem.{RangeData, ObjectData, no_object, ProblemData}
use Rattle.problem_data.specs.Pieces.{IsInPieces, pieces_at}
use Rattle.problem_data.specs.Tuple.{Spot, Tuple, spot, object_of}
use Rattle.problem_data.specs.Meaning.{number_of, position_of}
use Rattle.problem_data.specs.Least.{fault}
use Rattle.problem_data.specs.Faults.{int_place}
use Rattle.problem_data.specs.Cells.{HasForm, IsSpotOf, IsTuple}
use Rattle.problem_data.specs.WellFormed.{IsObject, IsWellFormed}
use Rattle.problem_data.proofs.NoFault.{NoFault, none_among, counted}
use Rattle.problem_text.proofs.Positions.{Made, made_or_not}
use Rattle.layout_text.specs.Tree.{PutTree, placed, absent, LineTree, LayoutTree}
use Rattle.layout_text.specs.Faults.{shape_names, name_of_shape, spot_of, spots_of, put_spot, tuple_of, OutsideFault, PutFault, LineFault, behind_lines, IsFault}
use Rattle.layout_text.specs.FirstFault.{Accepts}
use Rattle.layout_text.proofs.FirstValues.{absent_counted, as_many_first, first_are, first_values_in, not_absent}
use Rattle.layout_text.proofs.InPieces.{in_some}

-- no line, and no object
abbrev pub no_line : LineTree
no_line = record { name = record { place = 0; name = [] }; put = absent 0 }

-- ---- the list of spots

pub spots_length : (p : ProblemData) (os : List ObjectData) (ls : List LineTree) → length ls ≡ length os → length (spots_of p os ls) ≡ length os
spots_length p [] [] e = refl
spots_length p [] (l ∷ ls) e = refl
spots_length p (o ∷ os) [] e = absurd (omega arith)
spots_length p (o ∷ os) (l ∷ ls) e = let same : length ls ≡ length os = omega arith in ap suc (spots_length p os ls same)

pub spot_at : (p : ProblemData) (os : List ObjectData) (ls : List LineTree) (i : ℕ) → i < length os → i < length ls → get_or (spots_of p os ls) i nothing_put ≡ spot_of p (get_or os i no_object) (get_or ls i no_line)
spot_at p [] ls i h g = absurd (omega arith)
spot_at p (o ∷ os) [] i h g = absurd (omega arith)
spot_at p (o ∷ os) (l ∷ ls) zero h g = refl
spot_at p (o ∷ os) (l ∷ ls) (suc i) h g = let less : i < length os = omega arith in let few : i < length ls = omega arith in spot_at p os ls i less few

-- no line
pub spots_none : (p : ProblemData) (os : List ObjectData) → spots_of p os [] ≡ []
spots_none p [] = refl
spots_none p (o ∷ os) = refl

-- one more line
pub spots_more : (p : ProblemData) (os : List ObjectData) (ls : List LineTree) (i : ℕ) (d : ObjectData) (e : LineTree) → i < length os → i < length ls
    → spots_of p os (take (i + 1) ls) ≡ spots_of p os (take i ls) ++ spot_of p (get_or os i d) (get_or ls i e) ∷ []
spots_more p [] ls i d e h g = absurd (omega arith)
spots_more p (o ∷ os) [] i d e h g = absurd (omega arith)
spots_more p (o ∷ os) (l ∷ ls) zero d e h g = ap (λ (t : Tuple). spot_of p o l ∷ t) (spots_none p os)
spots_more p (o ∷ os) (l ∷ ls) (suc i) d e h g = let less : i < length os = omega arith in let few : i < length ls = omega arith in let n : suc i + 1 ≡ suc (i + 1) = omega arith in ap (λ (k : ℕ). spots_of p (o ∷ os) (take k (l ∷ ls))) n ∙ ap (λ (t : Tuple). spot_of p o l ∷ t) (spots_more p os ls i d e less few)

-- ---- where a line without a fault puts its object

module _ (p : ProblemData) (o : ObjectData) (is : IsObject p o) where
  module _ (shape : PlacedName) (origin : List Int) (faultless : NoFault (PutFault p o (placed shape origin))) where
    made : Made (shape_names p o) shape
    made = elim (made_or_not (shape_names p o) shape) [ inl m ↦ m | inr none ↦ absurd (faultless (fault shape.place words.Unknown) (inl (none, refl))) ]

    in_list : position_of (shape_names p o) shape < length o.shapes
    in_list = subst (λ (n : ℕ). position_of (shape_names p o) shape < n) (length-map o.shapes (name_of_shape p)) made.inside

    listed : position_of (shape_names p o) shape + 1 ≤ length o.shapes
    listed = let less : position_of (shape_names p o) shape < length o.shapes = in_list in omega arith

    all_counted : length origin ≡ p.dims
    all_counted = counted int_place p.dims origin (λ f h. faultless f (inr (inl h)))

    placed_form : HasForm p o (put_spot p o (placed shape origin))
    placed_form = record {
      first = omega arith;
      last = (let less : position_of (shape_names p o) shape + 1 ≤ length o.shapes = listed in omega arith);
      dimensions = length-map origin number_of ∙ all_counted;
    }

    no_int : Int
    no_int = record { place = 0; value = pos 0 }

    inside : (d : ℕ) → d < p.dims → IsInPieces (pieces_at o d) (coordinate (map number_of origin) d)
    inside d below =
        let less : d < length o.pieces = (let g : length o.pieces ≡ p.dims = is.dimensions in omega arith) in
        let few : d < length origin = (let e : length origin ≡ p.dims = all_counted in omega arith) in
        let r : List RangeData = pieces_at o d in
        let x : Int = get_or origin d no_int in
        let so_far : length (take d origin) ≡ d = length-take-le d origin (omega arith) in
        let at : NoFault (OutsideFault (slice_get o.pieces d) x) = subst (λ (n : ℕ). NoFault (OutsideFault (slice_get o.pieces n) x)) so_far (none_among (λ before. OutsideFault (slice_get o.pieces (length before))) origin (λ f h. faultless f (inr (inr h))) d no_int few) in
        let fits : NoFault (OutsideFault (Some r) x) = subst (λ (s : Option (List RangeData)). NoFault (OutsideFault s x)) (slice_get-get_or o.pieces d _ less) at in
        let value : coordinate (map number_of origin) d ≡ x.value = get_or-map number_of origin d no_int (pos 0) few in
        subst (λ (v : ℤ). IsInPieces r v) (sym value) (in_some r x.value (λ n. fits (fault x.place words.Range) (n, refl)))

    placed_is : IsSpotOf p o (put_spot p o (placed shape origin))
    placed_is = record { form = placed_form; pieces = inside; first = λ e. absurd (not_absent o (position_of (shape_names p o) shape + 1) listed e) }

  optional : (place : ℕ) → NoFault (PutFault p o (absent place)) → o.may_be_absent ≡ true
  optional place faultless = elim (cases_Bool o.may_be_absent) [
    | inl t ↦ t
    | inr e ↦ absurd (faultless (fault place words.Unknown) (e, refl))
  ]

  absent_is_spot : (place : ℕ) → o.may_be_absent ≡ true → IsSpotOf p o (put_spot p o (absent place))
  absent_is_spot place may = record {
    form = record { first = omega arith; last = absent_counted o may; dimensions = as_many_first p o };
    pieces = first_values_in p o is;
    first = λ e. first_are p o;
  }

  pub put_is : (u : PutTree) → NoFault (PutFault p o u) → IsSpotOf p o (put_spot p o u)
  put_is (placed shape origin) h = placed_is shape origin h
  put_is (absent place) h = absent_is_spot place (optional place h)

-- ---- lines without a fault

module _ (p : ProblemData) (end : ℕ) (t : LayoutTree) (right : NoFault (IsFault p end t)) where
  line_right : (i : ℕ) → i < length t.lines → NoFault (LineFault p (slice_get p.objects i) (get_or t.lines i no_line))
  line_right i lt =
      let so_far : length (take i t.lines) ≡ i = length-take-le i t.lines (omega arith) in
      subst (λ (n : ℕ). NoFault (LineFault p (slice_get p.objects n) (get_or t.lines i no_line))) so_far
      (none_among (λ before. LineFault p (slice_get p.objects (length before))) t.lines (λ f h. right f (inl h)) i no_line lt)

  get_past : {A : Type 0} (xs : List A) (i : ℕ) → length xs ≤ i → slice_get xs i ≡ None
  get_past [] i h = refl
  get_past (x ∷ xs) zero h = absurd (omega arith)
  get_past (x ∷ xs) (suc i) h = let less : length xs ≤ i = omega arith in get_past xs i less

  none_too_many : length p.objects < length t.lines → ⊥
  none_too_many lt =
      subst (λ (o : Option ObjectData). NoFault (LineFault p o (get_or t.lines (length p.objects) no_line))) (get_past p.objects (length p.objects) (omega arith)) (line_right (length p.objects) lt)
      (fault (get_or t.lines (length p.objects) no_line).name.place words.Order) refl

  none_missing : length t.lines < length p.objects → ⊥
  none_missing lt = right (fault (behind_lines end t.token) words.Order) (inr (inl (lt, refl)))

  -- one line for each object
  pub as_many : length t.lines ≡ length p.objects
  as_many =
      ⊎_elim (λ l. absurd (none_missing l)) (λ l. ⊎_elim (λ k. absurd (none_too_many k)) (λ k. omega arith) (cases_lt (length p.objects) (length t.lines)))
      (cases_lt (length t.lines) (length p.objects))

  module _ (well : IsWellFormed p) (i : ℕ) (lt : i < length p.objects) where
    o : ObjectData
    o = get_or p.objects i no_object

    l : LineTree
    l = get_or t.lines i no_line

    faultless : NoFault (LineFault p (Some o) l)
    unfolding o l
    faultless = subst (λ (x : Option ObjectData). NoFault (LineFault p x (get_or t.lines i no_line))) (slice_get-get_or p.objects i no_object lt) (line_right i (let e : length t.lines ≡ length p.objects = as_many in omega arith))

    is_object : IsObject p o
    unfolding o
    is_object = well.objects i no_object lt

    here : IsSpotOf p o (spot_of p o l)
    here = put_is p o is_object l.put (λ f h. faultless f (inr h))

    pub is_spot : IsSpotOf p (object_of p i) (spot (tuple_of p t.lines) i)
    unfolding o l
    is_spot = subst (λ (s : Spot). IsSpotOf p (get_or p.objects i no_object) s) (sym (spot_at p p.objects t.lines i lt (let e : length t.lines ≡ length p.objects = as_many in omega arith))) here

  -- the lines give a tuple
  pub is_tuple : IsWellFormed p → IsTuple p (tuple_of p t.lines)
  is_tuple well = record { objects = spots_length p p.objects t.lines as_many; each = λ i lt. is_spot well i lt }

-- what a text is accepted with is a tuple
pub accepted_tuple : (p : ProblemData) (text : List ℕ) (t : Tuple) → IsWellFormed p → Accepts p text t → IsTuple p t
accepted_tuple p text t well a = subst (λ (u : Tuple). IsTuple p u) (sym a.means) (is_tuple p (length text) a.tree a.right well)
