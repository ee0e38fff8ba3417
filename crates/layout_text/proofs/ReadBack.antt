-- A layout block is read back as its tuple, and a tuple has one block and one token.
use Rattle.std.proofs.Common.{◌≡◌, ◌≢◌, ℕ, zero, suc, ◌+◌, ◌-◌, ◌<◌, ◌≤◌, ◌≤ℤ◌, ℤ, pos, negsuc, List, [], ◌∷◌, length, map, take, get_or, Option, Some, None, Result, Ok, Err, Bool, true, false, ◌==◌, if◌then◌else◌, inl, inr, ⊎_elim, refl, sym, ap, ◌∙◌, subst, arith}
use Rattle.std.specs.Prelude.{slice_get}
use Rattle.std.specs.List.{range_with_len, position_or_len}
use Rattle.std.specs.Option.{option_map_or}
use Rattle.std.specs.Str.{bytes_eq}
use Rattle.std.proofs.lemmas.Bool.{cases_lt, cases_Bool}
use Rattle.std.proofs.lemmas.Bool.Decides.{nat_tests}
use Rattle.std.proofs.lemmas.Option.{slice_get-get_or, get_or_from_slice_get}
use Rattle.std.proofs.lemmas.List.{length-map, length-take-le, get_or-map, ext_get_or}
use Rattle.std.proofs.lemmas.List.Sums.{position_or_len_is}
use Rattle.std.proofs.lemmas.Slice.Eq.{bytes_eq-Decides}
use Rattle.std.proofs.lemmas.Int.{ints}
use Rattle.geo_base.specs.Tuple.{nothing_put}
use Rattle.geo_base.specs.Boxes.{coordinate}
use Rattle.geo_conditions.specs.declared.layout.Layout.{Layout}
use Rattle.geo_tokens.specs.declared.fault.TextFault.{TextFault}
use Rattle.geo_tokens.specs.declared.fault.TextFault.TheVariants as faults
use Rattle.geo_tokens.specs.declared.token.Token.{Token}
use Rattle.geo_tokens.specs.Cut.{IsTokens}
use Rattle.geo_tokens.specs.Names.{IsNameText, IsNameTable}
use Rattle.geo_tokens.specs.Reading.{Got}
use Rattle.geo_tokens.proofs.Good.{reads_all}
use Rattle.geo_tokens.proofs.Cuts.{one_list}
use Rattle.rule_print.proofs.Lexemes.{nothing_ends}
use Rattle.rule_syntax.specs.declared.tree.PlacedName.{PlacedName}
use Rattle.rule_print.proofs.Respelled.{AllOf, Each}
use Rattle.problem_data.specs.declared.fault.Fault.{Fault}
use Rattle.problem_data.specs.declared.tree.Int.{Int}
use Rattle.problem_data.specs.Problem.{RangeData, ObjectData, no_object, ProblemData}
use Rattle.problem_data.specs.Pieces.{no_range, range_at, IsInPieces, pieces_at}
use Rattle.problem_text.specs.NameTable as tables
use Rattle.problem_text.specs.NameTable.{name_table}
use Rattle.problem_data.specs.Places.{is_absent_at, place_count}
use Rattle.problem_data.specs.Tuple.{Tuple, spot, object_of}
use Rattle.problem_data.specs.Meaning.{number_of, position_of}
use Rattle.problem_data.specs.Whole.{IsWhole}
use Rattle.problem_data.specs.Accepted.{IsSaid}
use Rattle.problem_data.specs.Cells.{IsSpotOf, IsTuple}
use Rattle.problem_data.specs.WellFormed.{IsRange, IsObject, IsWellFormed}
use Rattle.problem_text.proofs.Said.{said_shape_texts, said_shapes_differ, said_table}
use Rattle.problem_syntax.proofs.WholeText.{is_whole}
use Rattle.problem_text.proofs.PrintingParts.{IsTextNumber, IsSome}
use Rattle.layout_text.specs.Block.{shape_name, token_of, block_of}
use Rattle.layout_text.specs.Tree.{PutTree, placed, absent, LineTree, GroupTree, TokenTree, LayoutTree}
use Rattle.layout_text.specs.Grammar.{TupleWords, LayoutWords}
use Rattle.layout_text.specs.Reading.{tuple_at, layout_at}
use Rattle.layout_text.specs.Faults.{name_of_shape, shape_names, put_spot, spot_of, tuple_of, spot_in, OutsideFault, PutFault, LineFault, TokenLineFault, IsFault}
use Rattle.layout_text.specs.FirstFault.{most_bytes, Accepts, IsOnlyLayout, IsAnswered}
use Rattle.layout_text.specs.Token.{SaysGroups, tuple_in}
use Rattle.layout_text.proofs.Right.{tuple_good, layout_good}
use Rattle.layout_text.proofs.Levels.{layout_reading}
use Rattle.layout_text.proofs.FirstValues.{absent_is, absent_may, first_same, present_place}
use Rattle.layout_text.proofs.Tuples.{no_line, spots_length, spot_at}
use Rattle.layout_text.proofs.TextParts.{all_bytes, tokens_from, parts_are_tokens, parts_stand_whole}
use Rattle.layout_text.proofs.PrintedParts.{token_parts, token_bytes, token_fits, block_parts, block_bytes, block_fits, CanWriteSpot, CanWriteLine}
use Rattle.layout_text.proofs.SpelledAgain.{SaysPut, SaysSpot, CanReadLine, GivesTuple, SaysTuple, tuple_again, block_again}

-- ---- lists by their items

all_of : {A : Type 0} (P : A → Type 0) (xs : List A) (d : A) → ((i : ℕ) → i < length xs → P (get_or xs i d)) → AllOf P xs
all_of P [] d h = tt
all_of P (x ∷ xs) d h = (h 0 (omega arith), all_of P xs d (λ i lt. h (suc i) (omega arith)))

all_numbers : (P : ℕ → Type 0) (k n : ℕ) → ((i : ℕ) → i < k + n → P i) → AllOf P (range_with_len k n)
all_numbers P k zero h = tt
all_numbers P k (suc n) h = (h k (omega arith), all_numbers P (k + 1) n (λ i lt. h i (omega arith)))

-- one line for each number
each_length : (R : ℕ → LineTree → Type 0) (k n : ℕ) (ls : List LineTree) → Each R (range_with_len k n) ls → length ls ≡ n
each_length R k zero [] h = refl
each_length R k zero (l ∷ ls) h = absurd h
each_length R k (suc n) [] h = absurd h
each_length R k (suc n) (l ∷ ls) h = ap suc (each_length R (k + 1) n ls h.1)

each_at : (R : ℕ → LineTree → Type 0) (k n : ℕ) (ls : List LineTree) (i : ℕ) → Each R (range_with_len k n) ls → i < n → R (k + i) (get_or ls i no_line)
each_at R k zero ls i h lt = absurd (omega arith)
each_at R k (suc n) [] i h lt = absurd h
each_at R k (suc n) (l ∷ ls) zero h lt = let e : k ≡ k + 0 = omega arith in subst (λ (m : ℕ). R m l) e h.0
each_at R k (suc n) (l ∷ ls) (suc i) h lt =
    let e : k + 1 + i ≡ k + suc i = omega arith in
    let less : i < n = omega arith in
    subst (λ (m : ℕ). R m (get_or ls i no_line)) e (each_at R (k + 1) n ls i h.1 less)

-- ---- small numbers

small_in : (r : RangeData) (v : ℤ) → IsRange r → r.low ≤ℤ v → v ≤ℤ r.high → IsTextNumber v
small_in r (pos n) h a b = let top : r.high ≤ℤ pos 1000000 = h.high in omega (arith, ints)
small_in r (negsuc n) h a b = let bottom : negsuc 999999 ≤ℤ r.low = h.low in omega (arith, ints)

-- ---- the shape that a tuple gives

not_zero : (m : ℕ) → 1 ≤ m → (m == 0) ≡ false
not_zero m h = grind (arith, nat_tests)

picked : (m : ℕ) (xs : List ℕ) → 1 ≤ m → (if m == 0 then None else slice_get xs (m - 1)) ≡ slice_get xs (m - 1)
picked m xs h = ap (λ t. if t then None else slice_get xs (m - 1)) (not_zero m h)

not_same : (x y : List ℕ) → (x ≡ y → ⊥) → bytes_eq x y ≡ false
not_same x y h = elim (cases_Bool (bytes_eq x y)) [ inl e ↦ absurd (h ((bytes_eq-Decides x y).0 e)) | inr e ↦ e ]

module _ (p : ProblemData) (well : IsWellFormed p) (said : IsSaid p) where
  -- different shapes have different names
  names_differ : (a b : ℕ) → a < length p.shapes → b < length p.shapes → a ≢ b → name_of_shape p a ≡ name_of_shape p b → ⊥
  names_differ a b la lb ne e =
      ⊎_elim (λ lt. ordered a b lt lb e) (λ le. ⊎_elim (λ lt. ordered b a lt la (sym e)) (λ ge. ne (omega arith)) (cases_lt b a)) (cases_lt a b)
    where
      named : (k : ℕ) → k < length p.shapes → get_or (map tables.shape_name p.shapes) k [] ≡ name_of_shape p k
      named k lt = get_or-map tables.shape_name p.shapes k _ [] lt

      ordered : (j k : ℕ) → j < k → k < length p.shapes → name_of_shape p j ≡ name_of_shape p k → ⊥
      ordered j k lt l g =
          let n = length-map p.shapes tables.shape_name in
          said_shapes_differ p said j k [] lt (omega arith) (named j (omega arith) ∙ g ∙ sym (named k l))

  shape_text : (k : ℕ) → k < length p.shapes → IsNameText (name_of_shape p k)
  shape_text k lt =
      let n = length-map p.shapes tables.shape_name in
      subst IsNameText (get_or-map tables.shape_name p.shapes k _ [] lt) (said_shape_texts p said k [] (omega arith))

  module _ (t : Tuple) (is : IsTuple p t) where
    sized : length t ≡ length p.objects
    sized = is.objects

    module _ (i : ℕ) (lt : i < length p.objects) where
      fits : IsSpotOf p (object_of p i) (spot t i)
      fits = is.each i lt

      is_object : IsObject p (object_of p i)
      is_object = well.objects i no_object lt

      counted : length (spot t i).origin ≡ p.dims
      counted = fits.form.dimensions

      -- ---- in the shape that the tuple gives it

      module _ (present : is_absent_at (object_of p i) (spot t i).place ≡ false) where
        -- the position of the shape in the object's list, and its number
        at : ℕ
        at = (spot t i).place - 1

        number : ℕ
        unfolding at
        number = get_or (object_of p i).shapes at 0

        in_list : at < length (object_of p i).shapes
        unfolding at
        in_list =
            let first : 1 ≤ (spot t i).place = fits.form.first in
            let last : (spot t i).place ≤ length (object_of p i).shapes = present_place (object_of p i) (spot t i).place fits.form.last present in
            omega arith

        there : number < length p.shapes
        unfolding number
        there = is_object.shapes at 0 in_list

        shape_is : shape_name p t i ≡ name_of_shape p number
        unfolding number at
        shape_is =
            ap (λ (o : Option ℕ). option_map_or (name_of_shape p) o [])
            (picked (spot t i).place (object_of p i).shapes fits.form.first ∙ slice_get-get_or (object_of p i).shapes ((spot t i).place - 1) 0 in_list)

        listed : (k : ℕ) → k < length (object_of p i).shapes → get_or (shape_names p (object_of p i)) k [] ≡ name_of_shape p (get_or (object_of p i).shapes k 0)
        listed k less = get_or-map (name_of_shape p) (object_of p i).shapes k 0 [] less

        -- the shape's name stands there alone
        found : position_or_len (bytes_eq (shape_name p t i)) (shape_names p (object_of p i)) ≡ at
        unfolding number
        found =
            let n = length-map (object_of p i).shapes (name_of_shape p) in
            let inside : at < length (object_of p i).shapes = in_list in
            position_or_len_is (bytes_eq (shape_name p t i)) (shape_names p (object_of p i)) at [] (omega arith)
            (λ k less. (let few : k < length (object_of p i).shapes = omega arith in
            not_same (shape_name p t i) (get_or (shape_names p (object_of p i)) k [])
            (λ e. names_differ (get_or (object_of p i).shapes k 0) number (is_object.shapes k 0 few) there (is_object.once k at 0 less inside) (sym (listed k few) ∙ sym e ∙ shape_is))))
            (λ less. (bytes_eq-Decides (shape_name p t i) (get_or (shape_names p (object_of p i)) at [])).1 (shape_is ∙ sym (listed at inside)))

        found_as : (shape : PlacedName) → shape.name ≡ shape_name p t i → position_of (shape_names p (object_of p i)) shape + 1 ≡ (spot t i).place
        unfolding at
        found_as shape h =
            let e : position_of (shape_names p (object_of p i)) shape ≡ (spot t i).place - 1 = ap (λ (n : List ℕ). position_or_len (bytes_eq n) (shape_names p (object_of p i))) h ∙ found in
            let first : 1 ≤ (spot t i).place = fits.form.first in
            omega arith

        -- its shape and its coordinates have no fault
        placed_right : (shape : PlacedName) (origin : List Int) → shape.name ≡ shape_name p t i → map number_of origin ≡ (spot t i).origin → (f : Fault) → PutFault p (object_of p i) (placed shape origin) f → ⊥
        unfolding number
        placed_right shape origin named same f (inl a) =
            a.0 (at, (let n = length-map (object_of p i).shapes (name_of_shape p) in let inside : at < length (object_of p i).shapes = in_list in omega arith), there_is)
          where
            there_is : get_or (shape_names p (object_of p i)) at shape.name ≡ shape.name
            there_is = get_or-map (name_of_shape p) (object_of p i).shapes at 0 shape.name in_list ∙ sym (named ∙ shape_is)
        placed_right shape origin named same f (inr (inl a)) = a.0 (sym (length-map origin number_of) ∙ ap length same ∙ counted)
        placed_right shape origin named same f (inr (inr a)) =
            outside (slice_get (object_of p i).pieces (length (take a.index origin))) refl a.wrong
          where
            size : length origin ≡ p.dims
            size = sym (length-map origin number_of) ∙ ap length same ∙ counted

            here : a.index < length origin
            here = elim (cases_lt a.index (length origin)) [ inl less ↦ less | inr le ↦ absurd (past origin a.index a.item le a.there) ]
              where
                past : (xs : List Int) (k : ℕ) (x : Int) → length xs ≤ k → slice_get xs k ≡ Some x → ⊥
                past [] k x le e = cc
                past (y ∷ xs) zero x le e = omega arith
                past (y ∷ xs) (suc k) x le e = let few : length xs ≤ k = omega arith in past xs k x few e

            value : a.item.value ≡ coordinate (spot t i).origin a.index
            value =
                ap number_of (sym (get_or_from_slice_get origin a.index a.item a.item a.there)) ∙ sym (get_or-map number_of origin a.index a.item (pos 0) here)
                ∙ ap (λ (vs : List ℤ). get_or vs a.index (pos 0)) same

            outside : (o : Option (List RangeData)) → o ≡ slice_get (object_of p i).pieces (length (take a.index origin)) → OutsideFault o a.item f → ⊥
            outside None e w = w
            outside (Some r) e w =
                let below : a.index < p.dims = (let n : length origin ≡ p.dims = size in let less : a.index < length origin = here in omega arith) in
                let few : a.index < length (object_of p i).pieces = (let m : length (object_of p i).pieces ≡ p.dims = is_object.dimensions in omega arith) in
                let so_far : length (take a.index origin) ≡ a.index = length-take-le a.index origin (let less : a.index < length origin = here in omega arith) in
                let q : Some r ≡ Some (pieces_at (object_of p i) a.index) = e ∙ ap (λ (k : ℕ). slice_get (object_of p i).pieces k) so_far ∙ slice_get-get_or (object_of p i).pieces a.index _ few in
                let same_pieces : r ≡ pieces_at (object_of p i) a.index = cc in
                w.0 (subst (λ (s : List RangeData). IsInPieces s a.item.value) (sym same_pieces) (subst (λ (v : ℤ). IsInPieces (pieces_at (object_of p i) a.index) v) (sym value) (fits.pieces a.index below)))

      -- ---- where its line puts it

      put_is : (b : Bool) (u : PutTree) → is_absent_at (object_of p i) (spot t i).place ≡ b → SaysPut p t i b u → put_spot p (object_of p i) u ≡ spot t i
      put_is true (absent place) e h = λ j. record {
        place = sym (absent_is (object_of p i) (spot t i).place e) j;
        origin = sym (first_same p (object_of p i) (spot t i).origin counted (fits.first e)) j;
      }
      put_is true (placed shape origin) e h = absurd h
      put_is false (absent place) e h = absurd h
      put_is false (placed shape origin) e h = λ j. record { place = found_as e shape h.0 j; origin = h.1 j }

      spot_is : (l : LineTree) → SaysSpot p t i l → spot_of p (object_of p i) l ≡ spot t i
      spot_is l h = put_is (is_absent_at (object_of p i) (spot t i).place) l.put refl h.put

      put_right : (b : Bool) (u : PutTree) → is_absent_at (object_of p i) (spot t i).place ≡ b → SaysPut p t i b u → (f : Fault) → PutFault p (object_of p i) u f → ⊥
      put_right true (absent place) e h f a = let may : (object_of p i).may_be_absent ≡ true = absent_may (object_of p i) (spot t i).place e in let not : (object_of p i).may_be_absent ≡ false = a.0 in cc
      put_right true (placed shape origin) e h f a = h
      put_right false (absent place) e h f a = h
      put_right false (placed shape origin) e h f a = placed_right e shape origin h.0 h.1 f a

      -- ---- what can be written

      small : (d : ℕ) → d < length (spot t i).origin → IsTextNumber (get_or (spot t i).origin d (pos 0))
      small d less =
          let n : length (spot t i).origin ≡ p.dims = counted in
          let m : length (object_of p i).pieces ≡ p.dims = is_object.dimensions in
          let few : d < length (object_of p i).pieces = omega arith in
          let at = fits.pieces d (omega arith) in
          small_in (range_at (pieces_at (object_of p i) d) at.0) (get_or (spot t i).origin d (pos 0)) ((is_object.pieces d [] few).ranges at.0 no_range at.1) at.2.0 at.2.1

      writes_spot : CanWriteSpot (spot t i)
      writes_spot = record {
        place = (let last : (spot t i).place ≤ place_count (object_of p i) = fits.form.last in let few : place_count (object_of p i) ≤ 16 = is_object.few in omega arith);
        origin = all_of IsTextNumber (spot t i).origin (pos 0) small;
      }

      some : IsSome (spot t i).origin
      some e = let n : length (spot t i).origin ≡ p.dims = counted in let z : length (spot t i).origin ≡ 0 = ap length e in let k : 0 < p.dims = well.some in absurd (omega arith)

      object_text : IsNameText (object_of p i).name
      object_text =
          let table : IsNameTable (name_table p) = said_table p said in
          let objects : ℕ = length p.objects in
          let named : ObjectData → List ℕ × List ℕ = tables.named_object (length p.shapes) in
          let names : List (List ℕ) = map (λ o. o.0) (map named p.objects) in
          let n : length names ≡ length p.objects = length-map (map named p.objects) (λ o. o.0) ∙ length-map p.objects named in
          let m = length-map p.objects named in
          subst IsNameText (get_or-map (λ (o : List ℕ × List ℕ). o.0) (map named p.objects) i ([], []) [] (omega arith) ∙ ap (λ (o : List ℕ × List ℕ). o.0) (get_or-map named p.objects i no_object ([], []) lt)) (table.object_texts i [] (omega arith))

      reads_line : CanReadLine p t i
      reads_line = (
        record { name = object_text; shape = λ e. subst IsNameText (sym (shape_is e)) (shape_text (number e) (there e)); spot = writes_spot },
        some,
      )

      -- ---- its line has no fault

      line_right : (l : LineTree) → SaysSpot p t i l → (f : Fault) → LineFault p (Some (object_of p i)) l f → ⊥
      line_right l h f (inl a) = a.0 h.name
      line_right l h f (inr a) = put_right (is_absent_at (object_of p i) (spot t i).place) l.put refl h.put f a

    writes_spots : AllOf CanWriteSpot t
    writes_spots = all_of CanWriteSpot t nothing_put (λ i lt. writes_spot i (let e : length t ≡ length p.objects = sized in omega arith))

    reads_lines : AllOf (CanReadLine p t) (range_with_len 0 (length t))
    reads_lines = all_numbers (CanReadLine p t) 0 (length t) (λ i lt. reads_line i (let e : length t ≡ length p.objects = sized in omega arith))

    writes_lines : AllOf (CanWriteLine p t) (range_with_len 0 (length t))
    writes_lines = all_numbers (CanWriteLine p t) 0 (length t) (λ i lt. (reads_line i (let e : length t ≡ length p.objects = sized in omega arith)).0)

    -- ---- the token

    token_cut : IsTokens (token_of t) (tokens_from 0 (token_parts t))
    token_cut = subst (λ (u : List ℕ). IsTokens u (tokens_from 0 (token_parts t))) (token_bytes t) (parts_are_tokens (token_parts t) (token_fits t [] writes_spots nothing_ends))

    token_spelled : (gs : List GroupTree) × TupleWords (Some gs) (tokens_from 0 (token_parts t)) × (map spot_in gs ≡ t)
    token_spelled = (tuple_again t writes_spots).reads (all_bytes (token_parts t)) (tokens_from 0 (token_parts t)) (parts_stand_whole (token_parts t))

    -- the token says groups, and they give the tuple
    pub token_says : (gs : List GroupTree) × SaysGroups (token_of t) gs × (tuple_in gs ≡ t)
    token_says = (token_spelled.0, record { list = tokens_from 0 (token_parts t); tokens = token_cut; spells = token_spelled.1 }, token_spelled.2)

    -- ---- the block

    record Spelled : Type 0 where
      tree : LayoutTree
      word : LayoutWords (block_of p t) 0 (Some tree) (tokens_from 0 (block_parts p t))
      says : SaysTuple p t tree

    block_cut : IsTokens (block_of p t) (tokens_from 0 (block_parts p t))
    block_cut = subst (λ (u : List ℕ). IsTokens u (tokens_from 0 (block_parts p t))) (block_bytes p t) (parts_are_tokens (block_parts p t) (block_fits p t writes_lines writes_spots))

    block_spelled : Spelled
    block_spelled =
        let r = (block_again p t writes_spots reads_lines).reads (all_bytes (block_parts p t)) (tokens_from 0 (block_parts p t)) (parts_stand_whole (block_parts p t)) in
        record { tree = r.0; word = subst (λ (u : List ℕ). LayoutWords u 0 (Some r.0) (tokens_from 0 (block_parts p t))) (block_bytes p t) r.1; says = r.2 }

    module _ (tree : LayoutTree) (says : SaysTuple p t tree) where
      as_many : length tree.lines ≡ length t
      as_many = each_length (SaysSpot p t) 0 (length t) tree.lines says.lines

      says_spot : (i : ℕ) → i < length t → SaysSpot p t i (get_or tree.lines i no_line)
      says_spot i lt = let e : 0 + i ≡ i = omega arith in subst (λ (k : ℕ). SaysSpot p t k (get_or tree.lines i no_line)) e (each_at (SaysSpot p t) 0 (length t) tree.lines i says.lines lt)

      same_tuple : tuple_of p tree.lines ≡ t
      same_tuple =
          let e : length tree.lines ≡ length t = as_many in
          let s : length t ≡ length p.objects = sized in
          let n : length (tuple_of p tree.lines) ≡ length p.objects = spots_length p p.objects tree.lines (e ∙ s) in
          ext_get_or nothing_put (tuple_of p tree.lines) t (n ∙ sym s)
          (λ i lt. (let less : i < length p.objects = omega arith in let few : i < length t = omega arith in
          spot_at p p.objects tree.lines i less (omega arith) ∙ spot_is i less (get_or tree.lines i no_line) (says_spot i few)))

      lines_right : (f : Fault) (k : ℕ) (l : LineTree) → slice_get tree.lines k ≡ Some l → LineFault p (slice_get p.objects (length (take k tree.lines))) l f → ⊥
      lines_right f k l e w =
          let m : length tree.lines ≡ length t = as_many in
          let s : length t ≡ length p.objects = sized in
          let less : k < length tree.lines = inside tree.lines k e in
          let so_far : length (take k tree.lines) ≡ k = length-take-le k tree.lines (omega arith) in
          let few : k < length p.objects = omega arith in
          let is_it : l ≡ get_or tree.lines k no_line = sym (get_or_from_slice_get tree.lines k l no_line e) in
          line_right k few l (subst (λ (x : LineTree). SaysSpot p t k x) (sym is_it) (says_spot k (omega arith))) f
          (subst (λ (o : Option ObjectData). LineFault p o l f) (ap (λ (j : ℕ). slice_get p.objects j) so_far ∙ slice_get-get_or p.objects k no_object few) w)
        where
          inside : (xs : List LineTree) (j : ℕ) → slice_get xs j ≡ Some l → j < length xs
          inside [] j q = absurd cc
          inside (x ∷ xs) zero q = omega arith
          inside (x ∷ xs) (suc j) q = let lt : j < length xs = inside xs j q in omega arith

      token_right : (o : Option TokenTree) (f : Fault) → GivesTuple t o → TokenLineFault p tree.lines o f → ⊥
      token_right None f g w = w
      token_right (Some x) f g w = let same : x ≡ g.line = (let q : Some x ≡ Some g.line = g.there in cc) in w.0 (ap (λ (y : TokenTree). map spot_in y.groups) same ∙ g.same ∙ sym same_tuple)

      right : (end : ℕ) (f : Fault) → IsFault p end tree f → ⊥
      right end f (inl a) = lines_right f a.index a.item a.there a.wrong
      right end f (inr (inl a)) = let m : length tree.lines ≡ length t = as_many in let s : length t ≡ length p.objects = sized in let less : length tree.lines < length p.objects = a.0 in omega arith
      right end f (inr (inr a)) = token_right tree.token f says.token a

    whole : (b : LayoutTree) → LayoutWords (block_of p t) 0 (Some b) (tokens_from 0 (block_parts p t)) → IsWhole (LayoutWords (block_of p t)) 0 (tokens_from 0 (block_parts p t)) b
    whole b h =
        let text : List ℕ = block_of p t in
        is_whole (LayoutWords text) 0 _ _ (layout_good text 0).facts (layout_at text 0) (layout_good text 0).reads (layout_reading text 0) (length text) (tokens_from 0 (block_parts p t)) b [] (reads_all (layout_good text 0) b (tokens_from 0 (block_parts p t)) h) refl

    -- the block says the tuple
    pub reads_back : length (block_of p t) ≤ most_bytes → Accepts p (block_of p t) t
    reads_back short =
        let b : Spelled = block_spelled in
        record {
          tree = b.tree;
          says = record { short = short; list = tokens_from 0 (block_parts p t); tokens = block_cut; spells = whole b.tree b.word };
          right = right b.tree b.says (length (block_of p t));
          means = sym (same_tuple b.tree b.says);
        }

  module _ (t u : Tuple) (is : IsTuple p t) (also : IsTuple p u) where
    -- two tuples with one token are the same
    pub one_token : token_of t ≡ token_of u → t ≡ u
    one_token e =
        let a = token_spelled t is in
        let b = token_spelled u also in
        let lists : tokens_from 0 (token_parts t) ≡ tokens_from 0 (token_parts u) =
        one_list (token_of u) _ _ (subst (λ (v : List ℕ). IsTokens v (tokens_from 0 (token_parts t))) e (token_cut t is)) (token_cut u also) in
        let x : tuple_at (tokens_from 0 (token_parts t)) ≡ Got (Some a.0) [] = reads_all tuple_good a.0 (tokens_from 0 (token_parts t)) a.1 in
        let y : tuple_at (tokens_from 0 (token_parts u)) ≡ Got (Some b.0) [] = reads_all tuple_good b.0 (tokens_from 0 (token_parts u)) b.1 in
        let z : Got (Some a.0) [] ≡ Got (Some b.0) [] = sym x ∙ ap tuple_at lists ∙ y in
        let same : a.0 ≡ b.0 = cc in
        sym a.2 ∙ ap (map spot_in) same ∙ b.2

    -- and so are two with one block
    pub one_block : block_of p t ≡ block_of p u → t ≡ u
    one_block e =
        let a : Spelled t is = block_spelled t is in
        let b : Spelled u also = block_spelled u also in
        let text : List ℕ = block_of p u in
        let lists : tokens_from 0 (block_parts p t) ≡ tokens_from 0 (block_parts p u) =
        one_list text _ _ (subst (λ (v : List ℕ). IsTokens v (tokens_from 0 (block_parts p t))) e (block_cut t is)) (block_cut u also) in
        let first : LayoutWords text 0 (Some a.tree) (tokens_from 0 (block_parts p u)) =
        subst (λ (w : List Token). LayoutWords text 0 (Some a.tree) w) lists (subst (λ (v : List ℕ). LayoutWords v 0 (Some a.tree) (tokens_from 0 (block_parts p t))) e a.word) in
        let x : layout_at text 0 (tokens_from 0 (block_parts p u)) ≡ Got (Some a.tree) [] = reads_all (layout_good text 0) a.tree (tokens_from 0 (block_parts p u)) first in
        let y : layout_at text 0 (tokens_from 0 (block_parts p u)) ≡ Got (Some b.tree) [] = reads_all (layout_good text 0) b.tree (tokens_from 0 (block_parts p u)) b.word in
        let z : Got (Some a.tree) [] ≡ Got (Some b.tree) [] = sym x ∙ y in
        let same : a.tree ≡ b.tree = cc in
        sym (same_tuple t is a.tree a.says) ∙ ap (λ (l : LayoutTree). tuple_of p l.lines) same ∙ same_tuple u also b.tree b.says

-- ---- what a call answers

answered_as : (p : ProblemData) (text : List ℕ) (from : ℕ) (r : Result Layout TextFault) (t : Tuple) → IsOnlyLayout r p text from → Accepts p text t → IsAnswered r t
answered_as p text from (Ok u) t only a = sym (only.0 t a)
answered_as p text from (Err (faults.At place word)) t only a = only.0 t a
answered_as p text from (Err faults.Memory) t only a = tt

-- a block is answered with its tuple
pub printed : (p : ProblemData) → IsWellFormed p → IsSaid p → (text : List ℕ) (from : ℕ) (r : Result Layout TextFault) → IsOnlyLayout r p text from
    → (t : Tuple) → IsTuple p t → text ≡ block_of p t → length text ≤ most_bytes → IsAnswered r t
printed p well said text from r only t is e short =
    answered_as p text from r t only (subst (λ (v : List ℕ). Accepts p v t) (sym e) (reads_back p well said t is (subst (λ (v : List ℕ). length v ≤ most_bytes) e short)))
