-- How many conditions `within` and `apart` have, where each object has two places with one box.
use Rattle.std.proofs.Common.{◌≡◌, ℕ, ◌+◌, ◌-◌, ◌*◌, ◌<◌, ◌≤◌, false, cond, List, [], ◌∷◌, length, map, refl, ap, ◌∙◌, arith}
use Rattle.std.specs.List.{flat_map, range_with_len}
use Rattle.std.proofs.lemmas.List.{length-append, length-map}
use Rattle.std.proofs.lemmas.List.FromFn.{length-range_with_len}
use Rattle.problem_data.specs.Problem.{BoxData, RangeData, ProblemData}
use Rattle.problem_data.specs.Tuple.{object_of}
use Rattle.problem_data.specs.Places.{place_count}
use Rattle.problem_data.specs.Pieces.{pieces_at}
use Rattle.linear_conditions.specs.CondTree.{CondTree}
use Rattle.rule_values.specs.Shapes.{boxes_at}
use Rattle.rule_ground.specs.Shapes.{places}
use Rattle.rule_ground.specs.Own.{hole_behind, holes_at, origin_condition, origins_of, own_of, own_conditions}
use Rattle.rule_ground.specs.Within.{within_in, within_of_box, within_at_place, within_of, within_conditions}
use Rattle.rule_ground.specs.Apart.{apart_condition, apart_from_box, apart_at_places, apart_at_place, apart_of, apart_behind, apart_conditions}
use Rattle.rule_print.proofs.Respelled.{AllOf}
use Rattle.generated_conditions.proofs.Lengths.{flat_length, range_length, for_pairs, pairs_length}

-- n objects in three dimensions, each with two places at each of which it has one box, with one
-- piece in each range, and never absent
pub record HasTwoBoxes (p : ProblemData) (n : ℕ) : Type 0 where
  pub objects : length p.objects ≡ n
  pub dims : p.dims ≡ 3
  pub places : (o : ℕ) → o < n → place_count (object_of p o) ≡ 2
  pub boxes : (o s : ℕ) → o < n → 1 ≤ s → s ≤ 2 → length (boxes_at p o s) ≡ 1
  pub pieces : (o d : ℕ) → o < n → d < 3 → length (pieces_at (object_of p o) d) ≡ 1
  pub present : (o : ℕ) → o < n → (object_of p o).may_be_absent ≡ false

-- whatever the items of a list are
any_length : {X A : Type 0} (f : X → List A) (each : ℕ) (xs : List X) → ((x : X) → length (f x) ≡ each) → length (flat_map f xs) ≡ length xs * each
any_length f each xs h = flat_length f each xs (each_item xs)
  where
    each_item : (ys : List _) → AllOf (λ x. length (f x) ≡ each) ys
    each_item [] = tt
    each_item (y ∷ ys) = (h y, each_item ys)

module _ (p : ProblemData) (n : ℕ) (h : HasTwoBoxes p n) where
  -- ---- the places of an object

  -- lists for the places of an object
  at_places : (f : ℕ → List CondTree) (each o : ℕ) → o < n → ((s : ℕ) → 1 ≤ s → s ≤ 2 → length (f s) ≡ each) → length (flat_map f (places p o)) ≡ 2 * each
  at_places f each o less g =
      ap (λ m. length (flat_map f (range_with_len 1 m))) (h.places o less)
      ∙ range_length f each 1 2 (λ s low high. (let u : s ≤ 2 = omega arith in g s low u))

  -- for the boxes at a place
  at_boxes : (f : BoxData → List CondTree) (each o s : ℕ) → o < n → 1 ≤ s → s ≤ 2 → ((b : BoxData) → length (f b) ≡ each) → length (flat_map f (boxes_at p o s)) ≡ each
  at_boxes f each o s less low high g =
      any_length f each (boxes_at p o s) g ∙ ap (λ m. m * each) (h.boxes o s less low high) ∙ one
    where
      one : 1 * each ≡ each
      one = omega arith

  -- ---- by themselves

  no_holes : (o d : ℕ) → o < n → d < 3 → length (holes_at p o d) ≡ 0
  no_holes o d less inside =
      length-map (range_with_len 0 (length (pieces_at (object_of p o) d) - 1)) (hole_behind o d (pieces_at (object_of p o) d))
      ∙ length-range_with_len 0 (length (pieces_at (object_of p o) d) - 1)
      ∙ ap (λ m. m - 1) (h.pieces o d less inside)

  no_origins : (o : ℕ) → o < n → length (origins_of p o) ≡ 0
  no_origins o less = ap (λ b. length (cond b (map (origin_condition p o) (range_with_len 0 p.dims)) [])) (h.present o less)

  none_of : (o : ℕ) → o < n → length (own_of p o) ≡ 0
  none_of o less =
      let dims : p.dims ≡ 3 = h.dims in
      let a : length (flat_map (holes_at p o) (range_with_len 0 p.dims)) ≡ p.dims * 0 = range_length (holes_at p o) 0 0 p.dims (λ d low high. (let inside : d < 3 = omega arith in no_holes o d less inside)) in
      let b : length (origins_of p o) ≡ 0 = no_origins o less in
      rw length-append (omega arith)

  pub own_length : length (own_conditions p) ≡ 0
  own_length =
      let size : length p.objects ≡ n = h.objects in
      let a : length (own_conditions p) ≡ length p.objects * 0 = range_length (own_of p) 0 0 (length p.objects) (λ o low high. (let less : o < n = omega arith in none_of o less)) in
      omega arith

  -- ---- `within`

  module _ (ranges : List RangeData) where
    box_within : (o s : ℕ) (b : BoxData) → length (within_of_box p ranges o s b) ≡ 6
    box_within o s b =
        range_length (within_in p ranges o s b) 2 0 p.dims (λ d low high. refl) ∙ ap (λ m. m * 2) h.dims

    object_within : (o : ℕ) → o < n → length (within_of p ranges o) ≡ 12
    object_within o less = at_places (within_at_place p ranges o) 6 o less (λ s low high. at_boxes (within_of_box p ranges o s) 6 o s less low high (box_within o s))

    pub within_length : length (within_conditions p ranges) ≡ n * 12
    within_length =
        let size : length p.objects ≡ n = h.objects in
        range_length (within_of p ranges) 12 0 (length p.objects) (λ o low high. (let less : o < n = omega arith in object_within o less))
        ∙ ap (λ m. m * 12) h.objects

  -- ---- `apart`

  box_apart : (i s j u : ℕ) (a : BoxData) → j < n → 1 ≤ u → u ≤ 2 → length (apart_from_box p i s j u a) ≡ 1
  box_apart i s j u a less low high = length-map (boxes_at p j u) (apart_condition p i s j u a) ∙ h.boxes j u less low high

  place_apart : (i j s : ℕ) → i < n → j < n → 1 ≤ s → s ≤ 2 → length (apart_at_place p i j s) ≡ 2
  place_apart i j s p1 p2 low high =
      at_places (apart_at_places p i s j) 1 j p2 (λ u lo hi. at_boxes (apart_from_box p i s j u) 1 i s p1 low high (λ a. box_apart i s j u a p2 lo hi))

  pair_apart : (i j : ℕ) → i < n → j < n → length (apart_of p i j) ≡ 4
  pair_apart i j p1 p2 = at_places (apart_at_place p i j) 2 i p1 (λ s low high. place_apart i j s p1 p2 low high)

  object_apart : (i : ℕ) → i < n → length (apart_behind p i) ≡ (n - (i + 1)) * 4
  object_apart i less =
      let size : length p.objects ≡ n = h.objects in
      range_length (apart_of p i) 4 (i + 1) (length p.objects - (i + 1)) (λ j low high. (let inside : j < n = omega arith in pair_apart i j less inside))
      ∙ ap (λ m. (m - (i + 1)) * 4) h.objects

  pub apart_length : length (apart_conditions p) ≡ for_pairs 4 n
  apart_length =
      ap (λ m. length (flat_map (apart_behind p) (range_with_len 0 m))) h.objects
      ∙ pairs_length (apart_behind p) 4 0 n (λ i low high. (
      let less : i < n = omega arith in
      let same : n - (i + 1) ≡ 0 + n - (i + 1) = omega arith in
      object_apart i less ∙ ap (λ m. m * 4) same))
