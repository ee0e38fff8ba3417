-- The problem that is made, with its rules at any places: what its objects are like.
use Rattle.std.proofs.Common.{◌≡◌, ℕ, zero, suc, ◌+◌, ◌-◌, ◌*◌, ◌<◌, ◌≤◌, ◌==◌, List, [], ◌∷◌, length, None, refl, sym, ap, ◌∙◌, arith}
use Rattle.std.specs.Prelude.{codes, if◌then◌else◌, slice_get}
use Rattle.std.specs.Option.{option_map_or}
use Rattle.std.proofs.lemmas.List.{length-map}
use Rattle.std.proofs.lemmas.List.FromFn.{get_or-map-range_with_len, length-map-range_with_len}
use Rattle.problem_data.specs.Problem.{BoxData, ShapeData, ObjectData, no_object, apart, within, RuleData, ProblemData}
use Rattle.problem_data.specs.Tuple.{object_of, boxes_of_shape}
use Rattle.problem_data.specs.Places.{place_count}
use Rattle.problem_data.specs.Pieces.{pieces_at}
use Rattle.rule_names.specs.Answers.{AreNamesRight}
use Rattle.rule_values.specs.Shapes.{boxes_at}
use Rattle.rule_ground.specs.Within.{within_conditions}
use Rattle.rule_ground.specs.Apart.{apart_conditions}
use Rattle.rule_ground.specs.Ground.{conditions}
use Rattle.problem_generator.specs.Made.{numbers_to}
use Rattle.generated_problems.specs.Problem.{rack, object, made_problem}
use Rattle.generated_problems.proofs.Parts.{each_shape, shape_names_are}
use Rattle.generated_problems.proofs.Names.{length-shape_list}
use Rattle.generated_conditions.specs.Conditions.{HasRackConditions}
use Rattle.generated_conditions.proofs.Lengths.{index_all}
use Rattle.generated_conditions.proofs.TwoBoxes.{HasTwoBoxes, own_length, within_length, apart_length}
use Rattle.generated_conditions.proofs.Grounded.{no_fault, conditions_length}

-- the rules at two places
abbrev pub rules_at : ℕ → ℕ → List RuleData
rules_at a b =
    record { place = a; name = codes "rack"; demand = within rack }
    ∷ record { place = b; name = codes "free"; demand = apart } ∷ []

abbrev pub placed : ℕ → ℕ → ℕ → ProblemData
placed seed a b = record (made_problem seed) { rules = rules_at a b }

module _ (seed a b : ℕ) where
  abbrev p : ProblemData
  p = placed seed a b

  object_count : length p.objects ≡ 40
  unfolding numbers_to
  object_count = length-map-range_with_len object 1 40

  object_is : (o : ℕ) → o < 40 → object_of p o ≡ object (o + 1)
  unfolding numbers_to
  object_is o less = get_or-map-range_with_len object 1 40 o (o + 1) no_object less (omega arith)

  shape_count : length p.shapes ≡ 80
  shape_count = sym (length-map p.shapes (λ (s : ShapeData). s.name)) ∙ ap length (shape_names_are seed) ∙ length-shape_list 80

  -- the shape at a position has one box
  one_box : (m : ℕ) → m < 80 → length (boxes_of_shape p m) ≡ 1
  one_box m less =
      index_all (λ (s : ShapeData). length s.boxes ≡ 1) p.shapes m (record { name = []; boxes = [] })
      (each_shape (λ (s : ShapeData). length s.boxes ≡ 1) seed (λ i low high w d h x y z. (refl, refl))) (let size = shape_count in omega (arith, size, less))

  -- the boxes of an object at a place
  abbrev boxes_with : ObjectData → ℕ → List BoxData
  boxes_with x s =
      option_map_or (boxes_of_shape p) (if s == 0 then None else slice_get x.shapes (s - 1)) []

  boxes_are : (o s : ℕ) → o < 40 → 1 ≤ s → s ≤ 2 → length (boxes_at p o s) ≡ 1
  boxes_are o zero less low high = absurd (omega arith)
  boxes_are o (suc zero) less low high = let there : 2 * (o + 1) - 2 < 80 = omega arith in ap (λ (x : ObjectData). length (boxes_with x 1)) (object_is o less) ∙ one_box (2 * (o + 1) - 2) there
  boxes_are o (suc (suc zero)) less low high = let there : 2 * (o + 1) - 1 < 80 = omega arith in ap (λ (x : ObjectData). length (boxes_with x 2)) (object_is o less) ∙ one_box (2 * (o + 1) - 1) there
  boxes_are o (suc (suc (suc s))) less low high = absurd (omega arith)

  one_piece : (i d : ℕ) → d < 3 → length (pieces_at (object i) d) ≡ 1
  one_piece i zero inside = refl
  one_piece i (suc zero) inside = refl
  one_piece i (suc (suc zero)) inside = refl
  one_piece i (suc (suc (suc d))) inside = absurd (omega arith)

  two_boxes : HasTwoBoxes p 40
  two_boxes = record {
    objects = object_count;
    dims = refl;
    places = λ o less. ap place_count (object_is o less);
    boxes = boxes_are;
    pieces = λ o d less inside. ap (λ (x : ObjectData). length (pieces_at x d)) (object_is o less) ∙ one_piece (o + 1) d inside;
    present = λ o less. ap (λ (x : ObjectData). x.may_be_absent) (object_is o less);
  }

  -- no rule has names that could be wrong
  names_right : AreNamesRight p
  names_right m h = let none : h.0 < 0 = h.1 in absurd (omega arith)

  within_count : length (within_conditions p rack) ≡ 480
  within_count = within_length p 40 two_boxes rack

  apart_count : length (apart_conditions p) ≡ 3120
  apart_count = apart_length p 40 two_boxes

  few : length (within_conditions p rack) + length (apart_conditions p) ≤ 1000000
  few = let ws = within_count in let bs = apart_count in omega (arith, ws, bs)

  count : length (conditions p) ≡ 3600
  count =
      let own = own_length p 40 two_boxes in
      let ws = within_count in
      let bs = apart_count in
      let all = conditions_length p a b rack refl few in
      omega (arith, own, ws, bs, all)

  pub placed_conditions : HasRackConditions p
  placed_conditions = record {
    faultless = record { names = names_right; expands = refl; grounds = no_fault p a b rack refl few };
    objects = object_count;
    conditions = count;
  }
