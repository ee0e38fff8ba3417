-- The texts of a problem that a text says have no fault, and so they say the same problem, places
-- aside.
use Rattle.std.proofs.Common.{◌≡◌, ℕ, zero, suc, ◌-◌, ◌<◌, ◌≤◌, get_or, ℤ, pos, negsuc, ◌≤ℤ◌, List, [], ◌∷◌, length, take, map, Option, None, Some, Bool, true, false, inl, inr, refl, sym, ap, ◌∙◌, subst, arith}
use Rattle.std.specs.Prelude.{◌⊎◌, slice_get, is_some}
use Rattle.std.specs.List.{All, Contains}
use Rattle.std.proofs.lemmas.Int.{ints}
use Rattle.std.proofs.lemmas.List.{length-map}
use Rattle.geo_tokens.specs.declared.token.Token.{Token}
use Rattle.geo_tokens.specs.declared.fault.FaultWord.TheVariants as words
use Rattle.geo_tokens.specs.Names.{AllDifferent}
use Rattle.geo_tokens.proofs.Good.{reads_all}
use Rattle.rule_syntax.specs.declared.tree.PlacedName.{PlacedName}
use Rattle.rule_print.specs.Spelled.{bare_name}
use Rattle.rule_print.proofs.Respelled.{AllOf}
use Rattle.problem_data.specs.declared.fault.Fault.{Fault}
use Rattle.problem_data.specs.Tree.{BoxTree, ShapeTree, ObjectTree, OrderTree, SidesTree, MacroTree, DemandTree, apart, within, plain, RuleTree, ProblemTree}
use Rattle.problem_data.specs.Grammar.{ProblemWords}
use Rattle.problem_syntax.specs.Reading.{problem_at}
use Rattle.problem_data.specs.Whole.{IsWhole}
use Rattle.problem_data.specs.Limits.{IsVersion, most_dims_in}
use Rattle.problem_data.specs.Least.{fault}
use Rattle.problem_data.specs.Parts.{Parts, parts_of}
use Rattle.problem_data.specs.Faults.{Among, text_of, OrderFault, SidesFault, IsDims, IsFault, version, dims, shapes, objects, orders, sides, macros, rules, ShapesFault, ObjectsFault, RulesFault, shape_name, object_name, shape_names, object_names, count_of}
use Rattle.problem_data.specs.Meaning as meaning
use Rattle.problem_data.specs.Problem.{RuleData, ProblemData}
use Rattle.problem_data.specs.SomeRules.{no_rule, numbered, HasNumbers, AreRules, with_rules}
use Rattle.problem_text.specs.Canonical.{name_at, problem_text, text_stating, needs_order, needs_sides, MayState}
use Rattle.problem_data.specs.Accepted.{most_bytes, Accepts, IsSaid}
use Rattle.problem_text.specs.ReadBack.{bare_problem, IsSpelled, ReadsBack, SpellsProblem, IsReadAs, MacrosRise, IsInOrder}
use Rattle.problem_data.specs.WellFormed.{IsWellFormed}
use Rattle.problem_syntax.proofs.Right.{problem_good}
use Rattle.problem_syntax.proofs.Levels.{problem_reading}
use Rattle.problem_syntax.proofs.WholeText.{is_whole}
use Rattle.problem_data.proofs.Accepted.{accepted_well_formed}
use Rattle.problem_data.proofs.Sound.{texts_differ}
use Rattle.problem_data.proofs.SomeRules.{well_formed_kept}
use Rattle.problem_data.proofs.SomeStatements.{with_trees, spelled_with, right_with}
use Rattle.problem_text.proofs.PrintingParts.{bare_absent, absent_of, bare_int, bare_range, bare_pieces, bare_box, bare_attribute, bare_param, bare_demand, int_of, name_of, range_of, pieces_of, box_of, attribute_of, param_of, demand_of, bare_side, side_of}
use Rattle.problem_text.proofs.BareParts.{bare_shape, bare_object, bare_order, bare_sides, bare_macro_tree, bare_rule_tree, bare_parts, parts_bare, meaning_bare, map_after}
use Rattle.problem_text.proofs.CanonicalParts.{shape_tree_of, object_tree_of, order_tree_of, sides_tree_of, macro_tree_of, rule_tree_of, one_if, stated_parts, parts_stated, IsConsistent, stated_meaning}
use Rattle.problem_text.proofs.PrintingStatements.{CanWriteRule}
use Rattle.problem_text.proofs.PrintingProblem.{CanWriteProblem, SpelledAgain, problem_again, may_state_canonical}
use Rattle.problem_text.proofs.Positions.{Made}
use Rattle.problem_text.proofs.SaysAgain.{says_of, says_written, object_shapes_made, shape_names_of, object_names_of}
use Rattle.problem_text.proofs.Consistent.{parts_consistent}
use Rattle.problem_text.proofs.StatedOrder.{order_faultless}
use Rattle.problem_text.proofs.OneProblem.{accepted_once}
use Rattle.problem_text.proofs.Places.{AreRulesLast, accepted_rise, last_in_order, stated_last}
use Rattle.problem_data.proofs.Signs.{at_most}
use Rattle.problem_text.proofs.SameFaults.{texts_alike, names_alike, shapes_carried, objects_carried, macros_carried, rules_carried}

-- ---- the canonical statements of the problem that statements spell are those statements without places

box_again : (b : BoxTree) → box_of (meaning.box_of b) ≡ bare_box b
box_again b = λ i. record { place = 0; offsets = map_after int_of meaning.number_of bare_int (λ v. refl) b.offsets i; sizes = map_after int_of meaning.number_of bare_int (λ v. refl) b.sizes i }

shape_again : (s : ShapeTree) → shape_tree_of (meaning.shape_of s) ≡ bare_shape s
shape_again s = λ i. record { name = bare_name s.name; boxes = map_after box_of meaning.box_of bare_box box_again s.boxes i }

names_again : (names : List (List ℕ)) (ns : List PlacedName) → AllOf (Made names) ns → map (λ i. name_of (name_at names i)) (map (meaning.position_of names) ns) ≡ map bare_name ns
names_again names [] h = refl
names_again names (n ∷ ns) h = λ i. name_of (h.0.is i) ∷ names_again names ns h.1 i

absent_again : (a : Option ℕ) → absent_of (is_some a) ≡ bare_absent a
absent_again None = refl
absent_again (Some place) = refl

object_again : (names : List (List ℕ)) (o : ObjectTree) → AllOf (Made names) o.shapes → object_tree_of names (meaning.object_of names o) ≡ bare_object o
object_again names o h = λ i. record {
  name = bare_name o.name;
  shapes = names_again names o.shapes h i;
  absent = absent_again o.absent i;
  pieces = map_after pieces_of meaning.pieces_of bare_pieces (λ rs. map_after range_of meaning.range_of bare_range (λ r. refl) rs) o.pieces i;
  attributes = map_after attribute_of meaning.attribute_of bare_attribute (λ a. refl) o.attributes i;
}

objects_again : (names : List (List ℕ)) (os : List ObjectTree) → AllOf (λ (o : ObjectTree). AllOf (Made names) o.shapes) os → map (object_tree_of names) (map (meaning.object_of names) os) ≡ map bare_object os
objects_again names [] h = refl
objects_again names (o ∷ os) h = λ i. object_again names o h.0 i ∷ objects_again names os h.1 i

macro_again : (m : MacroTree) → macro_tree_of (meaning.macro_of m) ≡ bare_macro_tree m
macro_again m = λ i. record { name = bare_name m.name; params = map_after param_of meaning.param_of bare_param (λ q. refl) m.params i; body = (bare_macro_tree m).body }

demand_again : (d : DemandTree) → demand_of (meaning.demand_of d) ≡ bare_demand d
demand_again apart = refl
demand_again (within rs) = ap within (map_after range_of meaning.range_of bare_range (λ r. refl) rs)
demand_again (plain f) = refl

rule_again : (r : RuleTree) → rule_tree_of (meaning.rule_of r) ≡ bare_rule_tree r
rule_again r = λ i. record { name = bare_name r.name; demand = demand_again r.demand i }

-- ---- lists with one item or none

none_left : {A B : Type 0} (f : A → B) (xs : List A) → map f xs ≡ [] → xs ≡ []
none_left f [] e = refl
none_left f (x ∷ xs) e = absurd cc

no_fault_in_none : {A : Type 0} (R : List A → A → Fault → Type 0) (xs : List A) (f : Fault) → xs ≡ [] → Among R xs f → ⊥
no_fault_in_none {A} R [] f e h = (let no_item : slice_get [] h.index ≡ Some h.item = h.there in absurd cc)
no_fault_in_none R (x ∷ xs) f e h = absurd cc

-- the only item of a list has nothing before it
alone : {A B : Type 0} (g : A → B) (b : B) (xs : List A) (i : ℕ) (x : A) → map g xs ≡ b ∷ [] → slice_get xs i ≡ Some x → (take i xs ≡ []) × (g x ≡ b)
alone g b [] i x e h = absurd cc
alone g b (y ∷ ys) zero x e h = (refl, (let is : y ≡ x = cc in let top : g y ≡ b = cc in ap g (sym is) ∙ top))
alone g b (y ∷ ys) (suc i) x e h = (let rest : map g ys ≡ [] = cc in let none : ys ≡ [] = none_left g ys rest in let there : slice_get ys i ≡ Some x = h in absurd (no_item ys i x none there))
  where
    no_item : {A : Type 0} (zs : List A) (j : ℕ) (z : A) → zs ≡ [] → slice_get zs j ≡ Some z → ⊥
    no_item [] j z e h = absurd cc
    no_item (w ∷ zs) j z e h = absurd cc

-- a version that exists
known_version : (n : ℕ) → (n ≡ 1) ⊎ (n ≡ 2) → IsVersion (pos n)
known_version n (inl e) = inl (ap pos e)
known_version n (inr e) = inr (ap pos e)

-- a number of dimensions that the version has
abbrev HasDims : ℕ → ℤ → Type 0
HasDims v k = (pos 1 ≤ℤ k) × (k ≤ℤ pos (most_dims_in v))

-- a number that is at least 1
counted : (v : ℤ) → pos 1 ≤ℤ v → pos (count_of v) ≡ v
counted (pos n) h = refl
counted (negsuc n) h = absurd (omega (arith, ints))

-- ---- statements that are the canonical ones of a problem that faultless statements spell

module _ (o : Parts) (faultless : (f : Fault) → IsFault o f → ⊥) (well : IsWellFormed (meaning.problem_of o)) (with_order with_sides : Bool) (q : Parts) (same : bare_parts q ≡ stated_parts with_order with_sides (meaning.problem_of o)) where
  abbrev p : ProblemData
  p = meaning.problem_of o

  abbrev k : ℕ
  k = count_of o.dims.value

  shapes_like : map bare_shape q.shapes ≡ map bare_shape o.shapes
  shapes_like = ap (λ (u : Parts). u.shapes) same ∙ map_after shape_tree_of meaning.shape_of bare_shape shape_again o.shapes

  objects_like : map bare_object q.objects ≡ map bare_object o.objects
  objects_like =
      ap (λ (u : Parts). u.objects) same ∙ ap (λ (names : List (List ℕ)). map (object_tree_of names) p.objects) (shape_names_of o)
      ∙ objects_again (shape_names o.shapes) o.objects (object_shapes_made o faultless)

  macros_like : map bare_macro_tree q.macros ≡ map bare_macro_tree o.macros
  macros_like = ap (λ (u : Parts). u.macros) same ∙ map_after macro_tree_of meaning.macro_of bare_macro_tree macro_again o.macros

  rules_like : map bare_rule_tree q.rules ≡ map bare_rule_tree o.rules
  rules_like = ap (λ (u : Parts). u.rules) same ∙ map_after rule_tree_of meaning.rule_of bare_rule_tree rule_again o.rules

  -- the version and the number of dimensions
  version_like : q.version.value ≡ pos p.version
  version_like = ap (λ (u : Parts). u.version.value) same

  stated : IsDims o.version.value o.dims.value
  stated = (positive, few)
    where
      positive : pos 1 ≤ℤ o.dims.value
      positive = at_most (pos 1) o.dims.value (λ n. faultless (fault o.dims.place words.Limit) (dims ((λ d. n d.0), refl)))

      few : o.dims.value ≤ℤ pos (most_dims_in p.version)
      few = at_most o.dims.value (pos (most_dims_in p.version)) (λ n. faultless (fault o.dims.place words.Limit) (dims ((λ d. n d.1), refl)))

  dims_like : q.dims.value ≡ o.dims.value
  dims_like = ap (λ (u : Parts). u.dims.value) same ∙ counted o.dims.value stated.0

  k_like : count_of q.dims.value ≡ k
  k_like = ap count_of dims_like

  shape_names_like : shape_names q.shapes ≡ shape_names o.shapes
  shape_names_like = texts_alike (map shape_name q.shapes) (map shape_name o.shapes) (names_alike bare_shape shape_name (λ s. refl) q.shapes o.shapes shapes_like)

  object_names_like : object_names q.objects ≡ object_names o.objects
  object_names_like = texts_alike (map object_name q.objects) (map object_name o.objects) (names_alike bare_object object_name (λ s. refl) q.objects o.objects objects_like)

  -- ---- the order

  abbrev names : List (List ℕ)
  names = object_names o.objects

  names_differ : AllDifferent names
  names_differ = texts_differ (map object_name o.objects) (λ f w. faultless f (objects (inl (inr w))))

  names_count : length p.objects ≡ length names
  names_count = length-map o.objects (meaning.object_of (shape_names o.shapes)) ∙ sym (length-map o.objects object_name) ∙ sym (length-map (map object_name o.objects) text_of)

  -- the names of the order that is stated
  order_texts : (t : OrderTree) → bare_order t ≡ order_tree_of names p.order → map text_of t.names ≡ map (name_at names) p.order
  order_texts t is =
      sym (map_after text_of bare_name text_of (λ n. refl) t.names) ∙ ap (λ (u : OrderTree). map text_of u.names) is
      ∙ map_after text_of (λ i. name_of (name_at names i)) (name_at names) (λ i. refl) p.order

  stated_order : (b : Bool) → map bare_order q.orders ≡ one_if b (order_tree_of names p.order) → (f : Fault) → Among (OrderFault names) q.orders f → ⊥
  stated_order false like f h = no_fault_in_none (OrderFault names) q.orders f (none_left bare_order q.orders like) h
  stated_order true like f h =
      let only = alone bare_order (order_tree_of names p.order) q.orders h.index h.item like h.there in
      let inside : All (λ i. i < length names) p.order = subst (λ n. All (λ i. i < n) p.order) names_count well.order in
      let each : (i : ℕ) → i < length names → Contains p.order i = subst (λ n. (i : ℕ) → i < n → Contains p.order i) names_count well.each in
      order_faultless names names_differ p.order inside each well.once h.item (order_texts h.item only.1) f (subst (λ (before : List OrderTree). OrderFault names before h.item f) only.0 h.wrong)

  order_right : (f : Fault) → Among (OrderFault names) q.orders f → ⊥
  order_right = stated_order with_order (ap (λ (u : Parts). u.orders) same ∙ ap (λ (ns : List (List ℕ)). one_if with_order (order_tree_of ns p.order)) (object_names_of o))

  -- ---- the sides

  stated_sides : (b : Bool) → map bare_sides q.sides ≡ one_if b (sides_tree_of p.sides) → (f : Fault) → Among (SidesFault k) q.sides f → ⊥
  stated_sides false like f h = no_fault_in_none (SidesFault k) q.sides f (none_left bare_sides q.sides like) h
  stated_sides true like f h = wrong_side h.wrong
    where
      only : (take h.index q.sides ≡ []) × (bare_sides h.item ≡ sides_tree_of p.sides)
      only = alone bare_sides (sides_tree_of p.sides) q.sides h.index h.item like h.there

      long : length h.item.sides ≡ k
      long = sym (length-map h.item.sides bare_side) ∙ ap (λ (s : SidesTree). length s.sides) only.1 ∙ length-map p.sides side_of ∙ well.sides

      wrong_side : SidesFault k (take h.index q.sides) h.item f → ⊥
      wrong_side (inl w) = (let none : length (take h.index q.sides) ≡ 0 = ap (λ (us : List SidesTree). length us) only.0 in let some : 1 ≤ length (take h.index q.sides) = w.0 in absurd (omega arith))
      wrong_side (inr w) = w.0 long

  -- ---- all

  pub right_again : (f : Fault) → IsFault q f → ⊥
  right_again f (version w) = w.0 (subst IsVersion (sym version_like) (known_version p.version well.version))
  right_again f (dims w) = w.0 (subst (λ (v : ℕ). HasDims v q.dims.value) (sym (ap count_of version_like)) (subst (HasDims p.version) (sym dims_like) stated))
  right_again f (shapes w) =
      let r = shapes_carried k q.shapes o.shapes shapes_like f (subst (λ (n : ℕ). ShapesFault n q.shapes f) k_like w) in faultless r.0 (shapes r.1)
  right_again f (objects w) =
      let r = objects_carried k (shape_names o.shapes) q.objects o.objects objects_like f (subst (λ (ns : List (List ℕ)). ObjectsFault k ns q.objects f) shape_names_like (subst (λ (n : ℕ). ObjectsFault n (shape_names q.shapes) q.objects f) k_like w)) in
      faultless r.0 (objects r.1)
  right_again f (orders w) = order_right f (subst (λ (ns : List (List ℕ)). Among (OrderFault ns) q.orders f) object_names_like w)
  right_again f (sides w) = stated_sides with_sides (ap (λ (u : Parts). u.sides) same) f (subst (λ (n : ℕ). Among (SidesFault n) q.sides f) k_like w)
  right_again f (macros w) = let r = macros_carried q.macros o.macros macros_like f w in faultless r.0 (macros r.1)
  right_again f (rules w) =
      let r = rules_carried k q.rules o.rules rules_like f (subst (λ (n : ℕ). RulesFault n q.rules f) k_like w) in faultless r.0 (rules r.1)

-- ---- the texts

-- tokens that spell statements spell them and nothing else, whatever levels they open
whole_again : (text : List ℕ) (list : List Token) (tree : ProblemTree) → ProblemWords text 64 (Some tree) list → IsWhole (ProblemWords text) 64 list tree
whole_again text list tree w =
    is_whole (ProblemWords text) 64 _ _ (problem_good text 64).facts (problem_at text 64) (problem_good text 64).reads (problem_reading text 64) (length text) list tree [] (reads_all (problem_good text 64) tree list w) refl

some_written : (Q : RuleData → Type 0) (rs : List RuleData) → AllOf Q rs → (k : ℕ) → k < length rs → Q (get_or rs k no_rule)
some_written Q [] h k l = absurd (omega (arith, l))
some_written Q (r ∷ rs) h zero l = h.0
some_written Q (r ∷ rs) h (suc k) l = some_written Q rs h.1 k (omega (arith, l))

rules_written : (Q : RuleData → Type 0) (rs : List RuleData) → AllOf Q rs → (keep : List ℕ) → HasNumbers (length rs) keep → AllOf Q (map (numbered rs) keep)
rules_written Q rs h [] there = tt
rules_written Q rs h (n ∷ keep) there =
    (some_written Q rs h (n - 1) (let m = there 0 0 (omega arith) in omega (arith, m.0, m.1)), rules_written Q rs h keep (λ k d l. there (suc k) d (omega (arith, l))))

-- what can be written can be written with some of its rules alone
written_with : (p : ProblemData) (keep : List ℕ) → AreRules p keep → CanWriteProblem p → CanWriteProblem (with_rules p keep)
written_with p keep kept h = record {
  version = h.version;
  dims = h.dims;
  shapes = h.shapes;
  objects = h.objects;
  macros = h.macros;
  rules = rules_written CanWriteRule p.rules h.rules keep kept.there;
}

-- statements without a fault that spell the problem, which can be written
record Spells (p : ProblemData) : Type 0 where
  parts : Parts
  right : (f : Fault) → IsFault parts f → ⊥
  is : p ≡ meaning.problem_of parts
  well : IsWellFormed (meaning.problem_of parts)
  written : CanWriteProblem p

spells : (p : ProblemData) → IsSaid p → Spells p
spells p s =
    let a = s.said.accepts in
    let q : Parts = parts_of a.tree in
    let kept : AreRules (meaning.problem_of q) s.keep = subst (λ (u : ProblemData). AreRules u s.keep) a.means s.kept in
    let well : IsWellFormed (meaning.problem_of q) = subst IsWellFormed a.means (accepted_well_formed s.said.text s.whole a) in
    record {
      parts = with_trees q s.keep;
      right = right_with q a.right s.keep kept;
      is = s.is ∙ ap (λ (u : ProblemData). with_rules u s.keep) a.means ∙ sym (spelled_with q s.keep);
      well = subst IsWellFormed (sym (spelled_with q s.keep)) (well_formed_kept (meaning.problem_of q) s.keep kept well);
      written = subst CanWriteProblem (sym s.is) (written_with s.whole s.keep s.kept (says_written s.said.text s.whole (says_of s.said.text s.whole a)));
    }

-- what a text of a problem spells has no fault, and means the problem
record SpelledRight (with_order with_sides : Bool) (p : ProblemData) : Type 0 where
  spelled : SpelledAgain with_order with_sides p
  whole : IsWhole (ProblemWords (text_stating with_order with_sides p)) 64 spelled.list spelled.tree
  right : (f : Fault) → IsFault (parts_of spelled.tree) f → ⊥
  same : bare_problem (meaning.problem_of (parts_of spelled.tree)) ≡ bare_problem p

module _ (with_order with_sides : Bool) (p : ProblemData) (s : IsSaid p) (may : MayState with_order with_sides p) where
  abbrev text : List ℕ
  text = text_stating with_order with_sides p

  spelled_right : SpelledRight with_order with_sides p
  spelled_right =
      let o = spells p s in
      let x = problem_again with_order with_sides p o.written (subst IsWellFormed (sym o.is) o.well) may in
      let parts : bare_parts (parts_of x.tree) ≡ stated_parts with_order with_sides p = sym (parts_bare x.tree) ∙ ap parts_of x.same ∙ parts_stated with_order with_sides p in
      record {
        spelled = x;
        whole = whole_again text x.list x.tree x.word;
        right = right_again o.parts o.right o.well with_order with_sides (parts_of x.tree) (parts ∙ ap (stated_parts with_order with_sides) o.is);
        same = sym (meaning_bare (parts_of x.tree)) ∙ ap meaning.problem_of parts ∙ stated_meaning with_order with_sides p (subst IsConsistent (sym o.is) (parts_consistent o.parts o.right o.well)) may;
      }

  accepts : (r : SpelledRight with_order with_sides p) → length text ≤ most_bytes → Accepts text (meaning.problem_of (parts_of r.spelled.tree))
  accepts r short = record { tree = r.spelled.tree; says = record { short = short; list = r.spelled.list; tokens = r.spelled.tokens; spells = r.whole }; right = r.right; means = refl }

  -- a text of a problem that a text says spells it, without a fault
  pub stated_spelled : SpellsProblem text p
  stated_spelled = record { tokens = spelled_right.spelled.list; tree = spelled_right.spelled.tree; cut = spelled_right.spelled.tokens; spells = spelled_right.whole; right = spelled_right.right; same = spelled_right.same }

  -- where it is short enough it says the problem
  pub stated_again : length text ≤ most_bytes → IsReadAs text p
  stated_again short = record { again = meaning.problem_of (parts_of spelled_right.spelled.tree); accepts = accepts spelled_right short; same = spelled_right.same }

  -- and what it is read as has its macros and its rules in order
  pub stated_in_order : (again : ProblemData) → Accepts text again → IsInOrder again
  stated_in_order again a =
      let x = spelled_right.spelled in
      let last : AreRulesLast x.tree.statements = stated_last with_order with_sides p x.tree.statements (ap (λ (t : ProblemTree). t.statements) x.same) in
      subst IsInOrder (accepted_once text _ again (accepts spelled_right a.says.short) a) (last_in_order text x.list x.tree x.tokens x.word last)

-- the macros of a problem that a text says have their places in order
pub said_rise : (p : ProblemData) → IsSaid p → MacrosRise p
said_rise p s = subst MacrosRise (sym s.is) (accepted_rise s.said.text s.whole s.said.accepts)

-- the same of the canonical text
pub said_spelled : (p : ProblemData) → IsSaid p → IsSpelled p
said_spelled p s = stated_spelled (needs_order p) (needs_sides p) p s (may_state_canonical p)

pub said_again : (p : ProblemData) → IsSaid p → length (problem_text p) ≤ most_bytes → ReadsBack p
said_again p s short = stated_again (needs_order p) (needs_sides p) p s (may_state_canonical p) short
