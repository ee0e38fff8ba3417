-- The statements of the problem that is made have no fault.
use Rattle.std.proofs.Common.{◌≡◌, ℕ, zero, suc, ◌-◌, ◌*◌, ◌<◌, ◌≤◌, ◌<ℤ◌, List, [], ◌∷◌, length, take, map, None, Some, inl, inr, refl, sym, ap, ◌∙◌, subst, arith, lit≤, lit<}
use Rattle.std.specs.Prelude.{pos, slice_get, slice_index, slice_index_or, codes}
use Rattle.std.specs.List.{Contains}
use Rattle.std.proofs.lemmas.Option.{slice_get_within}
use Rattle.std.proofs.lemmas.List.{length-take-le}
use Rattle.std.proofs.lemmas.Int.{ints}
use Rattle.geo_tokens.specs.Names.{AllDifferent}
use Rattle.rule_syntax.specs.declared.tree.PlacedName.{PlacedName}
use Rattle.problem_data.specs.declared.fault.Fault.{Fault}
use Rattle.problem_data.specs.declared.tree.RangeText.{RangeText}
use Rattle.problem_data.specs.Tree.{BoxTree}
use Rattle.problem_data.specs.Faults.{Among, text_of, PastLimit, NamesFault, OffsetFault, SizeFault, OffsetsFault, SizesFault, RangeFault, RangesFault, IsLast, PieceFault, PiecesFault, OriginFault, BoxFault, ShapeFault, FieldFault, AttributesFault, ObjectFault, RuleFault, RulesFault, rule_name}
use Rattle.problem_data.proofs.NoFault.{NoFault}
use Rattle.rule_print.proofs.Respelled.{AllOf}
use Rattle.problem_text.proofs.PrintingParts.{int_of, range_of, pieces_of, box_of}
use Rattle.problem_text.proofs.StatedOrder.{once_right}
use Rattle.problem_text.proofs.CanonicalParts.{shape_tree_of, object_tree_of, rule_tree_of}
use Rattle.generated_problems.specs.Problem.{shape, rack, object, rules}
use Rattle.generated_problems.proofs.Parts.{IsLength}
use Rattle.generated_problems.proofs.Names.{shape_list, shape_at, length-shape_list, shapes_differ}

-- ---- lists

all_at : {A : Type 0} (P : A → Type 0) (xs : List A) (i : ℕ) (x : A) → AllOf P xs → slice_get xs i ≡ Some x → P x
all_at P [] i x h e = absurd cc
all_at P (y ∷ ys) zero x h e = let is : y ≡ x = cc in subst P is h.0
all_at P (y ∷ ys) (suc i) x h e = all_at P ys i x h.1 e

-- where each item has no fault the list has none
pub each_right : {A : Type 0} (R : A → Fault → Type 0) (xs : List A) → AllOf (λ x. NoFault (R x)) xs → NoFault (Among (λ before. R) xs)
each_right R xs h f w = all_at (λ x. NoFault (R x)) xs w.index w.item h w.there f w.wrong

-- ---- names

few_right : (most : ℕ) (ns : List PlacedName) → length ns ≤ most → NoFault (PastLimit most ns)
few_right most ns few f w =
    let there : w.index < length ns = slice_get_within ns w.index w.item w.there in
    let size : length (take w.index ns) ≡ w.index = length-take-le w.index ns (omega arith) in
    let past : most ≤ length (take w.index ns) = w.wrong.0 in
    absurd (omega arith)

pub names_right : (most : ℕ) (ns : List PlacedName) → length ns ≤ most → AllDifferent (map text_of ns) → NoFault (NamesFault most ns)
names_right most ns few differ f (inl w) = few_right most ns few f w
names_right most ns few differ f (inr w) = once_right ns differ f w

-- ---- shapes

offset_right : NoFault (OffsetFault (int_of (pos 0)))
offset_right f w = w.0 (omega (arith, ints), omega (arith, ints))

size_right : (l : ℕ) → 1 ≤ l → l ≤ 3 → NoFault (SizeFault (int_of (pos l)))
size_right l low high f w = w.0 (omega (arith, ints), omega (arith, ints))

offsets_right : NoFault (OffsetsFault 3 (map int_of (pos 0 ∷ pos 0 ∷ pos 0 ∷ [])))
offsets_right f (inl w) = w.0 refl
offsets_right f (inr w) = each_right OffsetFault (map int_of (pos 0 ∷ pos 0 ∷ pos 0 ∷ [])) (offset_right, (offset_right, (offset_right, tt))) f w

sizes_right : (l1 l2 l3 : ℕ) → IsLength l1 → IsLength l2 → IsLength l3 → NoFault (SizesFault 3 (map int_of (pos l1 ∷ pos l2 ∷ pos l3 ∷ [])))
sizes_right l1 l2 l3 a b c f (inl w) = w.0 refl
sizes_right l1 l2 l3 a b c f (inr w) = each_right SizeFault (map int_of (pos l1 ∷ pos l2 ∷ pos l3 ∷ [])) (size_right l1 a.some a.few, (size_right l2 b.some b.few, (size_right l3 c.some c.few, tt))) f w

-- the only item of a list has nothing before it
alone : {A : Type 0} (y : A) (i : ℕ) (x : A) → slice_get (y ∷ []) i ≡ Some x → (take i (y ∷ []) ≡ []) × (y ≡ x)
alone y zero x e = (refl, cc)
alone y (suc i) x e = let less : i < 0 = slice_get_within [] i x e in absurd (omega arith)

pub shape_right : (i : ℕ) (letter : List ℕ) (l1 l2 l3 : ℕ) → IsLength l1 → IsLength l2 → IsLength l3 → NoFault (ShapeFault 3 (shape_tree_of (shape i letter l1 l2 l3)))
shape_right i letter l1 l2 l3 a b c f w = box_right w.wrong
  where
    box : BoxTree
    box = box_of (record { offsets = pos 0 ∷ pos 0 ∷ pos 0 ∷ []; sizes = pos l1 ∷ pos l2 ∷ pos l3 ∷ [] })

    only : (take w.index (box ∷ []) ≡ []) × (box ≡ w.item)
    only = alone box w.index w.item w.there

    box_right : BoxFault 3 (take w.index (box ∷ [])) w.item f → ⊥
    box_right (inl v) = (let none : length (take w.index (box ∷ [])) ≡ 0 = ap length only.0 in let some : 16 ≤ length (take w.index (box ∷ [])) = v.0 in absurd (omega arith))
    box_right (inr (inl v)) = offsets_right f (subst (λ (t : BoxTree). OffsetsFault 3 t.offsets f) (sym only.1) v)
    box_right (inr (inr v)) = sizes_right l1 l2 l3 a b c f (subst (λ (t : BoxTree). SizesFault 3 t.sizes f) (sym only.1) v)

-- ---- objects

range_right : (h : ℕ) → h ≤ 1000 → NoFault (RangeFault (range_of (record { low = pos 0; high = pos h })))
range_right h small f (inl w) = w.0 (omega (arith, ints), omega (arith, ints))
range_right h small f (inr (inl w)) = w.0 (omega (arith, ints), omega (arith, ints))
range_right h small f (inr (inr w)) = (let down : pos h <ℤ pos 0 = w.0 in absurd (omega (arith, ints)))

rack_right : NoFault (RangesFault 3 (map range_of rack))
rack_right f (inl w) = w.0 refl
rack_right f (inr w) = each_right RangeFault (map range_of rack) (range_right 19 (lit≤ tt), (range_right 19 (lit≤ tt), (range_right 9 (lit≤ tt), tt))) f w

-- a range of one piece has no fault where the piece has none
piece_right : (r : RangeText) → NoFault (RangeFault r) → NoFault (PiecesFault (r ∷ []))
piece_right r h f w = go w.wrong
  where
    only : (take w.index (r ∷ []) ≡ []) × (r ≡ w.item)
    only = alone r w.index w.item w.there

    nothing_before : (s : RangeText) → IsLast [] s → ⊥
    nothing_before s e = cc

    go : PieceFault (take w.index (r ∷ [])) w.item f → ⊥
    go (inl v) = (let none : length (take w.index (r ∷ [])) ≡ 0 = ap length only.0 in let some : 8 ≤ length (take w.index (r ∷ [])) = v.0 in absurd (omega arith))
    go (inr (inl v)) = h f (subst (λ (t : RangeText). RangeFault t f) (sym only.1) v)
    go (inr (inr v)) = nothing_before v.0.0 (subst (λ (rs : List RangeText). IsLast rs v.0.0) only.0 v.0.1)

-- the ranges of an object, of which each is one piece
origin_right : NoFault (OriginFault 3 (map pieces_of (map (λ range. range ∷ []) rack)))
origin_right f (inl w) = w.0 refl
origin_right f (inr w) =
    each_right PiecesFault (map pieces_of (map (λ range. range ∷ []) rack))
    (piece_right _ (range_right 19 (lit≤ tt)), (piece_right _ (range_right 19 (lit≤ tt)), (piece_right _ (range_right 9 (lit≤ tt)), tt))) f w

none_differ : AllDifferent {X = List ℕ} []
none_differ j k d less there e = let p : k < 0 = there in absurd (omega arith)

pub no_names_right : (most : ℕ) → NoFault (NamesFault most [])
no_names_right most = names_right most [] (omega arith) none_differ

pub nothing_among : {A : Type 0} (R : List A → A → Fault → Type 0) → NoFault (Among R [])
nothing_among R f w = let less : w.index < 0 = slice_get_within [] w.index w.item w.there in absurd (omega arith)

no_attributes_right : NoFault (AttributesFault [])
no_attributes_right f (inl w) = no_names_right 32 f w
no_attributes_right f (inr w) = nothing_among (λ before. FieldFault) f w

two_differ : (a b : List ℕ) → (a ≡ b → ⊥) → AllDifferent (a ∷ b ∷ [])
two_differ a b n zero zero d less there e = absurd (omega arith)
two_differ a b n zero (suc zero) d less there e = n e
two_differ a b n zero (suc (suc k)) d less there e = let p : suc (suc k) < 2 = there in absurd (omega arith)
two_differ a b n (suc j) k d less there e = let p : k < 2 = there in absurd (omega arith)

-- the shapes of object i are among the first n
module _ (n : ℕ) (small : n < 1000) (i : ℕ) (low : 1 ≤ i) (high : 2 * i ≤ n) where
  name_of_one : (m : ℕ) → m < n → Contains (shape_list n) (slice_index_or (shape_list n) m [])
  name_of_one m less =
      let size : length (shape_list n) ≡ n = length-shape_list n in
      (m, (omega arith), shape_at n m (slice_index_or (shape_list n) m []) less ∙ sym (shape_at n m [] less))

  differ : slice_index_or (shape_list n) (2 * i - 2) [] ≡ slice_index_or (shape_list n) (2 * i - 1) [] → ⊥
  differ e =
      let p : 2 * i - 2 < n = omega arith in
      let q : 2 * i - 1 < n = omega arith in
      let a : 2 * i - 2 < 1000 = omega arith in
      let b : 2 * i - 1 < 1000 = omega arith in
      let same : 2 * i - 2 ≡ 2 * i - 1 = shapes_differ (2 * i - 2) (2 * i - 1) a b (sym (shape_at n (2 * i - 2) [] p) ∙ e ∙ shape_at n (2 * i - 1) [] q) in
      absurd (omega arith)

  pub object_right : NoFault (ObjectFault 3 (shape_list n) (object_tree_of (shape_list n) (object i)))
  object_right f (inl w) = names_right 16 (object_tree_of (shape_list n) (object i)).shapes (lit≤ tt) (two_differ (slice_index_or (shape_list n) (2 * i - 2) []) (slice_index_or (shape_list n) (2 * i - 1) []) differ) f w
  object_right f (inr (inl w)) =
      let p : 2 * i - 2 < n = omega arith in
      let q : 2 * i - 1 < n = omega arith in
      each_right (λ m g. (Contains (shape_list n) m.name → ⊥) × (g ≡ _)) (object_tree_of (shape_list n) (object i)).shapes ((λ g v. v.0 (name_of_one (2 * i - 2) p)), ((λ g v. v.0 (name_of_one (2 * i - 1) q)), tt)) f w
  object_right f (inr (inr (inl w))) = origin_right f w
  object_right f (inr (inr (inr (inl w)))) = no_attributes_right f w
  object_right f (inr (inr (inr (inr w)))) = let none : None ≡ Some w.0 = w.1 in absurd cc

-- ---- rules

unequal : (a b : ℕ) → b < a → a ≡ b → ⊥
unequal a b less e = absurd (omega arith)

first_letter : codes "rack" ≡ codes "free" → ⊥
first_letter e = unequal 114 102 (lit< tt) (ap (λ (u : List ℕ). slice_index u 0) e)

pub rules_right : NoFault (RulesFault 3 (map rule_tree_of rules))
rules_right f (inl w) = names_right 100 (map rule_name (map rule_tree_of rules)) (lit≤ tt) (two_differ (codes "rack") (codes "free") first_letter) f w
rules_right f (inr w) = each_right (RuleFault 3) (map rule_tree_of rules) (rack_right, ((λ g v. v), tt)) f w
