-- Statements that are the same but for places have the same faults, each at the place of its own
-- item.
use Rattle.std.proofs.Common.{◌≡◌, ℕ, ◌≤◌, ◌-◌, ℤ, pos, ◌+ℤ◌, ◌≤ℤ◌, ◌<ℤ◌, List, length, take, map, Option, None, Some, inl, inr, refl, sym, ap, ◌∙◌, subst}
use Rattle.std.specs.Prelude.{◌⊎◌, slice_get}
use Rattle.std.specs.List.{Contains}
use Rattle.std.proofs.lemmas.List.{length-map, take-map}
use Rattle.geo_tokens.specs.declared.fault.FaultWord.{FaultWord}
use Rattle.geo_tokens.specs.declared.fault.FaultWord.TheVariants as words
use Rattle.rule_syntax.specs.declared.tree.PlacedName.{PlacedName}
use Rattle.rule_print.specs.Spelled.{bare_name, bare_formula}
use Rattle.problem_data.specs.declared.fault.Fault.{Fault}
use Rattle.problem_data.specs.declared.tree.Int.{Int}
use Rattle.problem_data.specs.declared.tree.RangeText.{RangeText}
use Rattle.problem_data.specs.declared.tree.AttributeText.{AttributeText}
use Rattle.problem_data.specs.Tree.{BoxTree, ShapeTree, ObjectTree, MacroTree, DemandTree, apart, within, plain, RuleTree}
use Rattle.problem_data.specs.Least.{fault}
use Rattle.problem_data.specs.Limits.{IsSmall, IsSize, IsFieldName, most_shapes, most_objects, most_object_shapes, most_pieces, most_attributes, most_macros, most_params, most_rules}
use Rattle.problem_data.specs.Divisors.{body_zeros, formula_zeros}
use Rattle.problem_data.specs.Faults.{Among, text_of, PastLimit, Repeated, NamesFault, NotMade, first_place, Miscounted, int_place, range_place, OffsetFault, SizeFault, OffsetsFault, SizesFault, UpsideDown, RangeFault, RangesFault, PastPiece, IsLast, TooNear, PieceFault, PiecesFault, pieces_place, OriginFault, PastBox, BoxFault, ShapeFault, ShapesFault, FieldFault, AttributesFault, AbsentFault, ObjectFault, ObjectsFault, DivisorFault, MacroFault, MacrosFault, DemandFault, RuleFault, RulesFault, shape_name, object_name, attribute_name, macro_name, param_name, rule_name}
use Rattle.problem_data.proofs.InLists.{get_back}
use Rattle.problem_text.proofs.Consistent.{map_at}
use Rattle.problem_text.proofs.PrintingParts.{bare_absent, bare_int, bare_range, bare_pieces, bare_box, bare_attribute, bare_param, bare_demand}
use Rattle.problem_text.proofs.BareParts.{bare_shape, bare_object, bare_macro_tree, bare_rule_tree, map_after, map_both}
use Rattle.problem_text.proofs.SameZeros.{bodies_count, formulas_alike, one_there}

-- where there is a fault of the first kind there is one of the second
abbrev pub Carries : (Fault → Type 0) → (Fault → Type 0) → Type 0
Carries P Q = (f : Fault) → P f → (g : Fault) × Q g

or_carried : (P Q R S : Fault → Type 0) → Carries P Q → Carries R S → (f : Fault) → P f ⊎ R f → (g : Fault) × (Q g ⊎ S g)
or_carried P Q R S h k f (inl p) = let r = h f p in (r.0, inl r.1)
or_carried P Q R S h k f (inr p) = let r = k f p in (r.0, inr r.1)

-- ---- lists that are the same but for places

module _ {A B : Type 0} (bare : A → B) where
  pub length_alike : (xs ys : List A) → map bare xs ≡ map bare ys → length xs ≡ length ys
  length_alike xs ys e = sym (length-map xs bare) ∙ ap (λ (us : List B). length us) e ∙ length-map ys bare

  take_alike : (xs ys : List A) (i : ℕ) → map bare xs ≡ map bare ys → map bare (take i xs) ≡ map bare (take i ys)
  take_alike xs ys i e = sym (take-map bare i xs) ∙ ap (λ (us : List B). take i us) e ∙ take-map bare i ys

  item_alike : (xs ys : List A) (i : ℕ) (x : A) → map bare xs ≡ map bare ys → slice_get xs i ≡ Some x → (y : A) × (slice_get ys i ≡ Some y) × (bare y ≡ bare x)
  item_alike xs ys i x e h = get_back bare (λ before y f. ⊥) ys i (bare x) (ap (λ (us : List B). slice_get us i) (sym e) ∙ map_at bare xs i x h)

  -- what each item carries the list carries
  pub among_carried : (R S : List A → A → Fault → Type 0) → ((before others : List A) (x y : A) → map bare before ≡ map bare others → bare x ≡ bare y → Carries (R before x) (S others y)) → (xs ys : List A) → map bare xs ≡ map bare ys → Carries (Among R xs) (Among S ys)
  among_carried R S each xs ys e f h =
      let y = item_alike xs ys h.index h.item e h.there in
      let r = each (take h.index xs) (take h.index ys) h.item y.0 (take_alike xs ys h.index e) (sym y.2) f h.wrong in
      (r.0, record { index = h.index; item = y.0; there = y.1; wrong = r.1 })

  pub miscounted_carried : (place_of : A → ℕ) (k : ℕ) (xs ys : List A) → map bare xs ≡ map bare ys → Carries (Miscounted place_of k xs) (Miscounted place_of k ys)
  miscounted_carried place_of k xs ys e f h = (fault (first_place place_of ys) words.Limit, ((λ n. h.0 (length_alike xs ys e ∙ n)), refl))

-- ---- names

pub texts_alike : (xs ys : List PlacedName) → map bare_name xs ≡ map bare_name ys → map text_of xs ≡ map text_of ys
texts_alike xs ys e = sym (map_after text_of bare_name text_of (λ n. refl) xs) ∙ ap (λ (us : List PlacedName). map text_of us) e ∙ map_after text_of bare_name text_of (λ n. refl) ys

-- the names of things
pub names_alike : {A : Type 0} (bare : A → A) (name : A → PlacedName) → ((x : A) → name (bare x) ≡ bare_name (name x)) → (xs ys : List A) → map bare xs ≡ map bare ys → map bare_name (map name xs) ≡ map bare_name (map name ys)
names_alike {A} bare name same xs ys e = sym (map_both name bare bare_name name same xs) ∙ ap (λ (us : List A). map name us) e ∙ map_both name bare bare_name name same ys

text_alike : (x y : PlacedName) → bare_name x ≡ bare_name y → x.name ≡ y.name
text_alike x y e = ap (λ (n : PlacedName). n.name) e

past_carried : (most : ℕ) (xs ys : List PlacedName) → map bare_name xs ≡ map bare_name ys → Carries (PastLimit most xs) (PastLimit most ys)
past_carried most = among_carried bare_name (λ before n f. (most ≤ length before) × (f ≡ fault n.place words.Limit)) (λ before n f. (most ≤ length before) × (f ≡ fault n.place words.Limit))
    (λ before others x y t e f h. (fault y.place words.Limit, (subst (λ (k : ℕ). most ≤ k) (length_alike bare_name before others t) h.0, refl)))

pub repeated_carried : (xs ys : List PlacedName) → map bare_name xs ≡ map bare_name ys → Carries (Repeated xs) (Repeated ys)
repeated_carried = among_carried bare_name (λ before n f. Contains (map text_of before) n.name × (f ≡ fault n.place words.Twice)) (λ before n f. Contains (map text_of before) n.name × (f ≡ fault n.place words.Twice))
    (λ before others x y t e f h. (
      fault y.place words.Twice,
      (subst (λ (us : List (List ℕ)). Contains us y.name) (texts_alike before others t) (subst (λ (u : List ℕ). Contains (map text_of before) u) (text_alike x y e) h.0), refl),
    ))

pub names_carried : (most : ℕ) (xs ys : List PlacedName) → map bare_name xs ≡ map bare_name ys → Carries (NamesFault most xs) (NamesFault most ys)
names_carried most xs ys e = or_carried (PastLimit most xs) (PastLimit most ys) (Repeated xs) (Repeated ys) (past_carried most xs ys e) (repeated_carried xs ys e)

pub not_made_carried : (made : List (List ℕ)) (xs ys : List PlacedName) → map bare_name xs ≡ map bare_name ys → Carries (NotMade made xs) (NotMade made ys)
not_made_carried made = among_carried bare_name (λ before n f. (Contains made n.name → ⊥) × (f ≡ fault n.place words.Unknown)) (λ before n f. (Contains made n.name → ⊥) × (f ≡ fault n.place words.Unknown))
    (λ before others x y t e f h. (fault y.place words.Unknown, ((λ c. h.0 (subst (λ (u : List ℕ). Contains made u) (sym (text_alike x y e)) c)), refl)))

-- ---- numbers and ranges

value_alike : (x y : Int) → bare_int x ≡ bare_int y → x.value ≡ y.value
value_alike x y e = ap (λ (i : Int). i.value) e

number_carried : (P : ℤ → Type 0) (w : FaultWord) (x y : Int) → bare_int x ≡ bare_int y → (f : Fault) → (P x.value → ⊥) × (f ≡ fault x.place w) → (g : Fault) × ((P y.value → ⊥) × (g ≡ fault y.place w))
number_carried P w x y e f h = (fault y.place w, ((λ p. h.0 (subst P (sym (value_alike x y e)) p)), refl))

offsets_carried : (k : ℕ) (xs ys : List Int) → map bare_int xs ≡ map bare_int ys → Carries (OffsetsFault k xs) (OffsetsFault k ys)
offsets_carried k xs ys e = or_carried (Miscounted int_place k xs) (Miscounted int_place k ys) (Among (λ before. OffsetFault) xs) (Among (λ before. OffsetFault) ys) (miscounted_carried bare_int int_place k xs ys e)
    (among_carried bare_int (λ before. OffsetFault) (λ before. OffsetFault) (λ before others x y t e. number_carried IsSmall words.Limit x y e) xs ys e)

sizes_carried : (k : ℕ) (xs ys : List Int) → map bare_int xs ≡ map bare_int ys → Carries (SizesFault k xs) (SizesFault k ys)
sizes_carried k xs ys e = or_carried (Miscounted int_place k xs) (Miscounted int_place k ys) (Among (λ before. SizeFault) xs) (Among (λ before. SizeFault) ys) (miscounted_carried bare_int int_place k xs ys e)
    (among_carried bare_int (λ before. SizeFault) (λ before. SizeFault) (λ before others x y t e. number_carried IsSize words.Size x y e) xs ys e)

module _ (x y : RangeText) (e : bare_range x ≡ bare_range y) where
  low : bare_int x.low ≡ bare_int y.low
  low = ap (λ (r : RangeText). r.low) e

  high : bare_int x.high ≡ bare_int y.high
  high = ap (λ (r : RangeText). r.high) e

  upside_down_carried : Carries (UpsideDown x) (UpsideDown y)
  upside_down_carried f h = (fault y.low.place words.Range, (subst (λ (v : ℤ). v <ℤ y.low.value) (value_alike x.high y.high high) (subst (λ (v : ℤ). x.high.value <ℤ v) (value_alike x.low y.low low) h.0), refl))

  range_carried : Carries (RangeFault x) (RangeFault y)
  range_carried = or_carried (OffsetFault x.low) (OffsetFault y.low) (λ f. OffsetFault x.high f ⊎ UpsideDown x f) (λ f. OffsetFault y.high f ⊎ UpsideDown y f) (number_carried IsSmall words.Limit x.low y.low low)
      (or_carried (OffsetFault x.high) (OffsetFault y.high) (UpsideDown x) (UpsideDown y) (number_carried IsSmall words.Limit x.high y.high high) upside_down_carried)

ranges_carried : (k : ℕ) (xs ys : List RangeText) → map bare_range xs ≡ map bare_range ys → Carries (RangesFault k xs) (RangesFault k ys)
ranges_carried k xs ys e = or_carried (Miscounted range_place k xs) (Miscounted range_place k ys) (Among (λ before. RangeFault) xs) (Among (λ before. RangeFault) ys) (miscounted_carried bare_range range_place k xs ys e)
    (among_carried bare_range (λ before. RangeFault) (λ before. RangeFault) (λ before others x y t e. range_carried x y e) xs ys e)

-- ---- pieces

last_alike : (before others : List RangeText) → map bare_range before ≡ map bare_range others → (s : RangeText) → IsLast before s → (r : RangeText) × IsLast others r × (bare_range r ≡ bare_range s)
last_alike before others t s h =
    let y = item_alike bare_range before others (length before - 1) s t h in
    (y.0, ap (λ (n : ℕ). slice_get others (n - 1)) (sym (length_alike bare_range before others t)) ∙ y.1, y.2)

module _ (before others : List RangeText) (x y : RangeText) (t : map bare_range before ≡ map bare_range others) (e : bare_range x ≡ bare_range y) where
  past_piece_carried : Carries (PastPiece before x) (PastPiece others y)
  past_piece_carried f h = (fault y.low.place words.Limit, (subst (λ (k : ℕ). most_pieces ≤ k) (length_alike bare_range before others t) h.0, refl))

  too_near_carried : Carries (TooNear before x) (TooNear others y)
  too_near_carried f h =
      let near = h.0 in
      let s = last_alike before others t near.0 near.1 in
      let low : x.low.value ≡ y.low.value = value_alike x.low y.low (low x y e) in
      let high : near.0.high.value ≡ s.0.high.value = sym (value_alike s.0.high near.0.high (high s.0 near.0 s.2)) in (
        fault y.low.place words.Range,
        ((s.0, s.1, subst (λ (v : ℤ). v ≤ℤ (s.0.high.value +ℤ pos 1)) low (subst (λ (v : ℤ). x.low.value ≤ℤ (v +ℤ pos 1)) high near.2)), refl),
      )

  piece_carried : Carries (PieceFault before x) (PieceFault others y)
  piece_carried = or_carried (PastPiece before x) (PastPiece others y) (λ f. RangeFault x f ⊎ TooNear before x f) (λ f. RangeFault y f ⊎ TooNear others y f) past_piece_carried
      (or_carried (RangeFault x) (RangeFault y) (TooNear before x) (TooNear others y) (range_carried x y e) too_near_carried)

pieces_carried : (xs ys : List RangeText) → map bare_range xs ≡ map bare_range ys → Carries (PiecesFault xs) (PiecesFault ys)
pieces_carried = among_carried bare_range PieceFault PieceFault piece_carried

origin_carried : (k : ℕ) (xs ys : List (List RangeText)) → map bare_pieces xs ≡ map bare_pieces ys → Carries (OriginFault k xs) (OriginFault k ys)
origin_carried k xs ys e = or_carried (Miscounted pieces_place k xs) (Miscounted pieces_place k ys) (Among (λ before. PiecesFault) xs) (Among (λ before. PiecesFault) ys) (miscounted_carried bare_pieces pieces_place k xs ys e)
    (among_carried bare_pieces (λ before. PiecesFault) (λ before. PiecesFault) (λ before others x y t e. pieces_carried x y e) xs ys e)

-- ---- shapes

past_box_carried : (before others : List BoxTree) (x y : BoxTree) → map bare_box before ≡ map bare_box others → Carries (PastBox before x) (PastBox others y)
past_box_carried before others x y t f h = (fault y.place words.Limit, (subst (λ (k : ℕ). 16 ≤ k) (length_alike bare_box before others t) h.0, refl))

box_carried : (k : ℕ) (before others : List BoxTree) (x y : BoxTree) → map bare_box before ≡ map bare_box others → bare_box x ≡ bare_box y → Carries (BoxFault k before x) (BoxFault k others y)
box_carried k before others x y t e =
    or_carried (PastBox before x) (PastBox others y) (λ f. OffsetsFault k x.offsets f ⊎ SizesFault k x.sizes f) (λ f. OffsetsFault k y.offsets f ⊎ SizesFault k y.sizes f) (past_box_carried before others x y t)
    (or_carried (OffsetsFault k x.offsets) (OffsetsFault k y.offsets) (SizesFault k x.sizes) (SizesFault k y.sizes) (offsets_carried k x.offsets y.offsets (ap (λ (b : BoxTree). b.offsets) e)) (sizes_carried k x.sizes y.sizes (ap (λ (b : BoxTree). b.sizes) e)))

shape_carried : (k : ℕ) (x y : ShapeTree) → bare_shape x ≡ bare_shape y → Carries (ShapeFault k x) (ShapeFault k y)
shape_carried k x y e = among_carried bare_box (BoxFault k) (BoxFault k) (box_carried k) x.boxes y.boxes (ap (λ (s : ShapeTree). s.boxes) e)

pub shapes_carried : (k : ℕ) (xs ys : List ShapeTree) → map bare_shape xs ≡ map bare_shape ys → Carries (ShapesFault k xs) (ShapesFault k ys)
shapes_carried k xs ys e = or_carried (NamesFault most_shapes (map shape_name xs)) (NamesFault most_shapes (map shape_name ys)) (Among (λ before. ShapeFault k) xs) (Among (λ before. ShapeFault k) ys)
    (names_carried most_shapes (map shape_name xs) (map shape_name ys) (names_alike bare_shape shape_name (λ s. refl) xs ys e))
    (among_carried bare_shape (λ before. ShapeFault k) (λ before. ShapeFault k) (λ before others x y t e. shape_carried k x y e) xs ys e)

-- ---- objects

field_carried : (x y : AttributeText) → bare_attribute x ≡ bare_attribute y → Carries (FieldFault x) (FieldFault y)
field_carried x y e f h = (fault y.name.place words.Twice, (subst IsFieldName (text_alike x.name y.name (ap (λ (a : AttributeText). a.name) e)) h.0, refl))

attributes_carried : (xs ys : List AttributeText) → map bare_attribute xs ≡ map bare_attribute ys → Carries (AttributesFault xs) (AttributesFault ys)
attributes_carried xs ys e = or_carried (NamesFault most_attributes (map attribute_name xs)) (NamesFault most_attributes (map attribute_name ys)) (Among (λ before. FieldFault) xs) (Among (λ before. FieldFault) ys)
    (names_carried most_attributes (map attribute_name xs) (map attribute_name ys) (names_alike bare_attribute attribute_name (λ a. refl) xs ys e))
    (among_carried bare_attribute (λ before. FieldFault) (λ before. FieldFault) (λ before others x y t e. field_carried x y e) xs ys e)

-- the word `absent` stands in both
word_there : (a b : Option ℕ) (place : ℕ) → bare_absent a ≡ bare_absent b → a ≡ Some place → (other : ℕ) × (b ≡ Some other)
word_there a None place e h = absurd (let wrong : Some 0 ≡ None = ap bare_absent (sym h) ∙ e in cc)
word_there a (Some other) place e h = (other, refl)

absent_carried : (x y : ObjectTree) → bare_object x ≡ bare_object y → Carries (AbsentFault x) (AbsentFault y)
absent_carried x y e f h =
    let there = word_there x.absent y.absent h.0 (ap (λ (o : ObjectTree). o.absent) e) h.1 in
    let size : length x.shapes ≡ length y.shapes = length_alike bare_name x.shapes y.shapes (ap (λ (o : ObjectTree). o.shapes) e) in
    (fault there.0 words.Limit, (there.0, there.1, subst (λ (n : ℕ). most_object_shapes ≤ n) size h.2, refl))

module _ (k : ℕ) (made : List (List ℕ)) where
  abbrev last : ObjectTree → Fault → Type 0
  last o f = AttributesFault o.attributes f ⊎ AbsentFault o f

  object_carried : (x y : ObjectTree) → bare_object x ≡ bare_object y → Carries (ObjectFault k made x) (ObjectFault k made y)
  object_carried x y e =
      let shapes : map bare_name x.shapes ≡ map bare_name y.shapes = ap (λ (o : ObjectTree). o.shapes) e in
      or_carried (NamesFault most_object_shapes x.shapes) (NamesFault most_object_shapes y.shapes) (λ f. NotMade made x.shapes f ⊎ OriginFault k x.pieces f ⊎ last x f) (λ f. NotMade made y.shapes f ⊎ OriginFault k y.pieces f ⊎ last y f)
      (names_carried most_object_shapes x.shapes y.shapes shapes)
      (or_carried (NotMade made x.shapes) (NotMade made y.shapes) (λ f. OriginFault k x.pieces f ⊎ last x f) (λ f. OriginFault k y.pieces f ⊎ last y f)
      (not_made_carried made x.shapes y.shapes shapes)
      (or_carried (OriginFault k x.pieces) (OriginFault k y.pieces) (last x) (last y)
      (origin_carried k x.pieces y.pieces (ap (λ (o : ObjectTree). o.pieces) e))
      (or_carried (AttributesFault x.attributes) (AttributesFault y.attributes) (AbsentFault x) (AbsentFault y) (attributes_carried x.attributes y.attributes (ap (λ (o : ObjectTree). o.attributes) e)) (absent_carried x y e))))

  pub objects_carried : (xs ys : List ObjectTree) → map bare_object xs ≡ map bare_object ys → Carries (ObjectsFault k made xs) (ObjectsFault k made ys)
  objects_carried xs ys e = or_carried (NamesFault most_objects (map object_name xs)) (NamesFault most_objects (map object_name ys)) (Among (λ before. ObjectFault k made) xs) (Among (λ before. ObjectFault k made) ys)
      (names_carried most_objects (map object_name xs) (map object_name ys) (names_alike bare_object object_name (λ o. refl) xs ys e))
      (among_carried bare_object (λ before. ObjectFault k made) (λ before. ObjectFault k made) (λ before others x y t e. object_carried x y e) xs ys e)

-- ---- macros and rules

divisor_carried : (ms ns : List ℕ) → length ms ≡ length ns → Carries (DivisorFault ms) (DivisorFault ns)
divisor_carried ms ns e f h = let n = one_there ms ns h.0 e h.1 in (fault n.0 words.Limit, (n.0, n.1, refl))

macro_carried : (x y : MacroTree) → bare_macro_tree x ≡ bare_macro_tree y → Carries (MacroFault x) (MacroFault y)
macro_carried x y e = or_carried (NamesFault most_params (map param_name x.params)) (NamesFault most_params (map param_name y.params)) (DivisorFault (body_zeros x.body)) (DivisorFault (body_zeros y.body))
    (names_carried most_params (map param_name x.params) (map param_name y.params) (names_alike bare_param param_name (λ p. refl) x.params y.params (ap (λ (m : MacroTree). m.params) e)))
    (divisor_carried (body_zeros x.body) (body_zeros y.body) (bodies_count x.body y.body (ap (λ (m : MacroTree). m.body) e)))

pub macros_carried : (xs ys : List MacroTree) → map bare_macro_tree xs ≡ map bare_macro_tree ys → Carries (MacrosFault xs) (MacrosFault ys)
macros_carried xs ys e = or_carried (NamesFault most_macros (map macro_name xs)) (NamesFault most_macros (map macro_name ys)) (Among (λ before. MacroFault) xs) (Among (λ before. MacroFault) ys)
    (names_carried most_macros (map macro_name xs) (map macro_name ys) (names_alike bare_macro_tree macro_name (λ m. refl) xs ys e))
    (among_carried bare_macro_tree (λ before. MacroFault) (λ before. MacroFault) (λ before others x y t e. macro_carried x y e) xs ys e)

demand_carried : (k : ℕ) (x y : DemandTree) → bare_demand x ≡ bare_demand y → Carries (DemandFault k x) (DemandFault k y)
demand_carried k apart y e f h = absurd h
demand_carried k (within rs) apart e f h = absurd cc
demand_carried k (within rs) (within ss) e f h = ranges_carried k rs ss (let same : map bare_range rs ≡ map bare_range ss = cc in same) f h
demand_carried k (within rs) (plain t) e f h = absurd cc
demand_carried k (plain t) apart e f h = absurd cc
demand_carried k (plain t) (within rs) e f h = absurd cc
demand_carried k (plain t) (plain u) e f h = divisor_carried (formula_zeros t) (formula_zeros u) (formulas_alike t u (let same : bare_formula t ≡ bare_formula u = cc in same)) f h

pub rules_carried : (k : ℕ) (xs ys : List RuleTree) → map bare_rule_tree xs ≡ map bare_rule_tree ys → Carries (RulesFault k xs) (RulesFault k ys)
rules_carried k xs ys e = or_carried (NamesFault most_rules (map rule_name xs)) (NamesFault most_rules (map rule_name ys)) (Among (λ before. RuleFault k) xs) (Among (λ before. RuleFault k) ys)
    (names_carried most_rules (map rule_name xs) (map rule_name ys) (names_alike bare_rule_tree rule_name (λ r. refl) xs ys e))
    (among_carried bare_rule_tree (λ before. RuleFault k) (λ before. RuleFault k) (λ before others x y t e. demand_carried k x.demand y.demand (ap (λ (r : RuleTree). r.demand) e)) xs ys e)
