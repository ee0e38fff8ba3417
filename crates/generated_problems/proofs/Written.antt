-- The made problem can be written, and its positions are those of its names.
use Rattle.std.proofs.Common.{◌≡◌, ℕ, ◌-◌, ◌*◌, ◌<◌, ◌≤◌, List, [], ◌∷◌, ◌++◌, length, map, false, ◌⊎◌, inl, inr, refl, sym, ap, ◌∙◌, subst, arith, lit≤, lit<}
use Rattle.std.specs.Prelude.{codes, decimal}
use Rattle.std.specs.List.{All, Contains, range_with_len}
use Rattle.std.proofs.lemmas.List.FromFn.{length-range_with_len, get_or-range_with_len}
use Rattle.geo_tokens.specs.Names.{IsNameText}
use Rattle.rule_syntax.specs.declared.tree.PlacedName.{PlacedName}
use Rattle.problem_data.specs.Problem.{ObjectData}
use Rattle.problem_data.specs.Meaning.{position_of}
use Rattle.rule_print.proofs.Respelled.{AllOf}
use Rattle.problem_text.specs.Canonical.{name_at}
use Rattle.problem_text.proofs.PrintingParts.{name_of, CanWriteRanges, CanWriteEachPieces}
use Rattle.problem_text.proofs.PrintingStatements.{CanWriteShape, CanWriteObject}
use Rattle.problem_text.proofs.PrintingProblem.{CanWriteProblem}
use Rattle.problem_text.proofs.Positions.{Made, made_or_not}
use Rattle.problem_text.proofs.Consistent.{positions_there}
use Rattle.problem_text.proofs.CanonicalParts.{IsPosition, ArePositions, HavePositions, IsConsistent}
use Rattle.generated_problems.specs.Problem.{shape_name, shape, rack, object, made_problem}
use Rattle.generated_problems.proofs.Names.{name_of_number, name_of_first, name_of_second, shape_list, shape_at, length-shape_list, length-object_list, object_list, object_names_differ, shapes_differ, shape_is_name, object_is_name, rack_is_name, free_is_name}
use Rattle.generated_problems.proofs.Parts.{IsLength, each_shape, each_object, shape_names_are, object_names_are}

-- ---- names

first_is_name : (i : ℕ) → 1 ≤ i → i ≤ 40 → IsNameText (shape_name i (codes "a"))
first_is_name i low high = let less : 2 * i - 2 < 80 = omega arith in subst IsNameText (name_of_first i low) (shape_is_name (2 * i - 2) less)

second_is_name : (i : ℕ) → 1 ≤ i → i ≤ 40 → IsNameText (shape_name i (codes "b"))
second_is_name i low high = let less : 2 * i - 1 < 80 = omega arith in subst IsNameText (name_of_second i low) (shape_is_name (2 * i - 1) less)

object_name_is : (i : ℕ) → 1 ≤ i → i ≤ 40 → IsNameText (codes "o" ++ decimal i)
object_name_is i low high = let less : i - 1 < 40 = omega arith in subst IsNameText (name_of_number i low) (object_is_name (i - 1) less)

-- ---- what can be written

shape_written : (i : ℕ) (letter : List ℕ) (l1 l2 l3 : ℕ) → IsNameText (shape_name i letter) → IsLength l1 → IsLength l2 → IsLength l3 → CanWriteShape (shape i letter l1 l2 l3)
shape_written i letter l1 l2 l3 named a b c = record {
  name = named;
  boxes = record {
    some = λ e. cc;
    each = (
      record {
        offsets = record { some = λ e. cc; small = (lit≤ tt, (lit≤ tt, (lit≤ tt, tt))) };
        sizes = record { some = λ e. cc; small = (small l1 a, (small l2 b, (small l3 c, tt))) };
      },
      tt,
    );
  };
}
  where
    small : (l : ℕ) → IsLength l → l ≤ 1000000000
    small l h = let few : l ≤ 3 = h.few in omega arith

rack_written : CanWriteRanges rack
rack_written = record {
  some = λ e. cc;
  each = (record { low = lit≤ tt; high = lit≤ tt }, (record { low = lit≤ tt; high = lit≤ tt }, (record { low = lit≤ tt; high = lit≤ tt }, tt)));
}

-- the ranges of an object are those of the rack, each as one piece
pieces_written : CanWriteEachPieces false (map (λ range. range ∷ []) rack)
pieces_written = record {
  some = λ e. cc;
  each = (record { low = lit≤ tt; high = lit≤ tt }, (record { low = lit≤ tt; high = lit≤ tt }, (record { low = lit≤ tt; high = lit≤ tt }, tt)));
}

object_written : (i : ℕ) → 1 ≤ i → i ≤ 40 → CanWriteObject false (shape_list 80) (object i)
object_written i low high =
    let p : 2 * i - 2 < 80 = omega arith in
    let q : 2 * i - 1 < 80 = omega arith in
    record {
      name = object_name_is i low high;
      shapes = record {
        some = λ e. cc;
        each = (subst IsNameText (sym (shape_at 80 (2 * i - 2) [] p)) (shape_is_name (2 * i - 2) p), (subst IsNameText (sym (shape_at 80 (2 * i - 1) [] q)) (shape_is_name (2 * i - 1) q), tt));
      };
      present = λ _. refl;
      pieces = pieces_written;
      attributes = tt;
    }

pub made_written : (seed : ℕ) → CanWriteProblem (made_problem seed)
made_written seed = record {
  version = lit≤ tt;
  dims = lit≤ tt;
  shapes = each_shape CanWriteShape seed (λ i low high w d h a b c. (
    shape_written i (codes "a") w d h (first_is_name i low high) a b c,
    shape_written i (codes "b") d w h (second_is_name i low high) b a c,
  ));
  objects = subst (λ (names : List (List ℕ)). AllOf (CanWriteObject false names) (made_problem seed).objects) (sym (shape_names_are seed)) (each_object (CanWriteObject false (shape_list 80)) seed object_written);
  macros = tt;
  rules = (record { name = rack_is_name; demand = rack_written }, (record { name = free_is_name; demand = tt }, tt));
}

-- ---- positions

-- the name at a position stands there alone
position_there : (m : ℕ) → m < 80 → IsPosition (shape_list 80) m
position_there m less = by (made_or_not (shape_list 80) n)
  where
    n : PlacedName
    n = name_of (name_at (shape_list 80) m)

    size : length (shape_list 80) ≡ 80
    size = length-shape_list 80

    by : Made (shape_list 80) n ⊎ (Contains (shape_list 80) n.name → ⊥) → position_of (shape_list 80) n ≡ m
    by (inl made) =
        let at : position_of (shape_list 80) n < 80 = subst (λ (k : ℕ). position_of (shape_list 80) n < k) size made.inside in
        let a : position_of (shape_list 80) n < 1000 = omega arith in
        let b : m < 1000 = omega arith in
        shapes_differ (position_of (shape_list 80) n) m a b (sym (shape_at 80 (position_of (shape_list 80) n) [] at) ∙ made.is ∙ shape_at 80 m [] less)
    by (inr none) = (let inside : m < length (shape_list 80) = subst (λ (k : ℕ). m < k) (sym size) less in absurd (none (m, inside, shape_at 80 m n.name less ∙ sym (shape_at 80 m [] less))))

have_positions : (os : List ObjectData) → AllOf (λ (o : ObjectData). ArePositions (shape_list 80) o.shapes) os → HavePositions (shape_list 80) os
have_positions [] h = tt
have_positions (o ∷ os) h = (h.0, have_positions os h.1)

pub made_consistent : (seed : ℕ) → IsConsistent (made_problem seed)
made_consistent seed = record {
  shapes = subst (λ (names : List (List ℕ)). HavePositions names (made_problem seed).objects) (sym (shape_names_are seed))
      (have_positions (made_problem seed).objects (each_object (λ (o : ObjectData). ArePositions (shape_list 80) o.shapes) seed (λ i low high.
      (position_there (2 * i - 2) (omega arith), (position_there (2 * i - 1) (omega arith), tt)))));
  order = subst (λ (names : List (List ℕ)). ArePositions names (made_problem seed).order) (sym (object_names_are seed)) (positions_there (object_list 40) (object_names_differ 40 (lit< tt)) (made_problem seed).order order_inside);
  file_order = λ e. ap (range_with_len 0) (ap length (object_names_are seed) ∙ length-object_list 40);
  low_sides = λ e. refl;
}
  where
    order_inside : All (λ i. i < length (object_list 40)) (made_problem seed).order
    order_inside k d less =
        let short : k < 40 = (let size = length-range_with_len 0 40 in omega (arith, less, size)) in
        subst (λ i. i < length (object_list 40)) (sym (get_or-range_with_len 0 40 k d short)) (let size = length-object_list 40 in omega (arith, short, size))
