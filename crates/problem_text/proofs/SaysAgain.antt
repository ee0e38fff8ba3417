-- A problem that a text says can be written.
use Rattle.std.proofs.Common.{◌≡◌, ℕ, ◌≤◌, List, [], ◌∷◌, map, length, Some, Bool, ◌==◌, inl, inr, refl, sym, ap, subst}
use Rattle.std.specs.Prelude.{is_some}
use Rattle.geo_tokens.specs.declared.token.Token.{Token}
use Rattle.geo_tokens.specs.Class.{number_in}
use Rattle.geo_tokens.specs.Cut.{IsTokens}
use Rattle.geo_tokens.specs.Names.{IsNameText}
use Rattle.geo_tokens.specs.Words.{numbers}
use Rattle.rule_syntax.specs.declared.tree.PlacedName.{PlacedName}
use Rattle.rule_print.proofs.Respelled.{AllOf, AllTrue, pure_is, token_of_list, many_of, small_number}
use Rattle.rule_print.proofs.Respelled.{parts_of as split}
use Rattle.rule_print.proofs.ReadBack.{tokens_true}
use Rattle.problem_data.specs.declared.fault.Fault.{Fault}
use Rattle.problem_data.specs.Tree.{ShapeTree, ObjectTree, OrderTree, MacroTree, RuleTree, StatementTree, a_shape, an_object, an_order, some_sides, a_macro, a_rule, ProblemTree}
use Rattle.problem_data.specs.Grammar.{problem_tree, is_second, StatementWords, ProblemWords}
use Rattle.problem_data.specs.Parts.{Parts, parts_of, as_shape, as_object, as_macro, as_rule}
use Rattle.problem_data.specs.Faults.{Among, ObjectFault, OrderFault, IsFault, objects, orders, shape_names, object_names, count_of}
use Rattle.problem_data.specs.Meaning as meaning
use Rattle.problem_data.specs.Problem.{ShapeData, ObjectData, ProblemData}
use Rattle.problem_text.specs.Canonical as canonical
use Rattle.problem_data.specs.Accepted.{Accepts}
use Rattle.problem_text.proofs.PrintingParts.{all_as}
use Rattle.problem_text.proofs.PrintingStatements.{CanWriteShape, CanWriteNames, CanWriteObject, CanWriteMacro, CanWriteRule}
use Rattle.problem_text.proofs.PrintingProblem.{CanWriteProblem}
use Rattle.problem_text.proofs.ReadStatements.{mapped, some_mapped, AreNames, ObjectRead, StatementRead, statement_read}
use Rattle.problem_text.proofs.Positions.{Made, all_made, each_faultless, all_filtered, all_with}

-- The text has at most 1,048,576 bytes, is cut into tokens that are spelled by the grammar with at
-- most 64 levels, its statements have no fault, and they spell this problem.
pub record Says (text : List ℕ) (p : ProblemData) : Type 0 where
  pub short : length text ≤ 1048576
  pub tokens : List Token
  pub tree : ProblemTree
  pub cut : IsTokens text tokens
  pub word : ProblemWords text 64 (Some tree) tokens
  pub faultless : (f : Fault) → IsFault (parts_of tree) f → ⊥
  pub is : meaning.problem_of (parts_of tree) ≡ p

pub says_of : (text : List ℕ) (p : ProblemData) → Accepts text p → Says text p
says_of text p a = record { short = a.says.short; tokens = a.says.list; tree = a.tree; cut = a.says.tokens; word = a.says.spells.within; faultless = a.right; is = sym a.means }

-- ---- what the grammar says

pub record TreeRead (t : ProblemTree) : Type 0 where
  pub version : count_of t.version.value ≤ 1000000000
  pub dims : count_of t.dims.value ≤ 1000000000
  pub statements : AllOf (StatementRead (count_of t.version.value == 2)) t.statements

tree_read : (text : List ℕ) (t : ProblemTree) (w : List Token) → ProblemWords text 64 (Some t) w → AllTrue text w → TreeRead t
unfolding ProblemWords
tree_read text t w h tr =
    let a = split text t w h tr in
    let v = split text t a.rest a.second a.rest_true in
    let b = split text t v.rest v.second v.rest_true in
    let d = split text t b.rest b.second b.rest_true in
    let ss = split text t d.rest d.second d.rest_true in
    let e = split text t ss.rest ss.second ss.rest_true in
    let many = ss.first in
    let small : number_in d.value.kind ≤ 1000000000 = small_number text d.value (token_of_list text numbers d.value d.front d.first d.front_true).is_true in
    let first : number_in v.value.kind ≤ 1000000000 = small_number text v.value (token_of_list text numbers v.value v.front v.first v.front_true).is_true in
    let each : AllOf (StatementRead (is_second v.value)) ss.value = many_of text (StatementWords text 64 (is_second v.value)) (StatementRead (is_second v.value)) (statement_read text (is_second v.value)) many.0 ss.value ss.front many.1 ss.front_true in
    subst TreeRead (pure_is (problem_tree v.value d.value ss.value) t e.rest e.second) (record { version = first; dims = small; statements = each })

pub says_read : (text : List ℕ) (p : ProblemData) (s : Says text p) → TreeRead s.tree
says_read text p s = tree_read text s.tree s.tokens s.word (tokens_true text s.tokens s.cut)

-- ---- kinds of statements

a_shape_read : (second : Bool) (s : StatementTree) (x : ShapeTree) → as_shape s ≡ Some x → StatementRead second s → CanWriteShape (meaning.shape_of x)
a_shape_read second (a_shape y) x e h = let is : y ≡ x = cc in subst (λ (u : ShapeTree). CanWriteShape (meaning.shape_of u)) is h
a_shape_read second (an_object y) x e h = absurd cc
a_shape_read second (an_order y) x e h = absurd cc
a_shape_read second (some_sides y) x e h = absurd cc
a_shape_read second (a_macro y) x e h = absurd cc
a_shape_read second (a_rule y) x e h = absurd cc

an_object_read : (second : Bool) (s : StatementTree) (x : ObjectTree) → as_object s ≡ Some x → StatementRead second s → ObjectRead second x
an_object_read second (a_shape y) x e h = absurd cc
an_object_read second (an_object y) x e h = let is : y ≡ x = cc in subst (λ (u : ObjectTree). ObjectRead second u) is h
an_object_read second (an_order y) x e h = absurd cc
an_object_read second (some_sides y) x e h = absurd cc
an_object_read second (a_macro y) x e h = absurd cc
an_object_read second (a_rule y) x e h = absurd cc

a_macro_read : (second : Bool) (s : StatementTree) (x : MacroTree) → as_macro s ≡ Some x → StatementRead second s → CanWriteMacro (meaning.macro_of x)
a_macro_read second (a_shape y) x e h = absurd cc
a_macro_read second (an_object y) x e h = absurd cc
a_macro_read second (an_order y) x e h = absurd cc
a_macro_read second (some_sides y) x e h = absurd cc
a_macro_read second (a_macro y) x e h = let is : y ≡ x = cc in subst (λ (u : MacroTree). CanWriteMacro (meaning.macro_of u)) is h
a_macro_read second (a_rule y) x e h = absurd cc

a_rule_read : (second : Bool) (s : StatementTree) (x : RuleTree) → as_rule s ≡ Some x → StatementRead second s → CanWriteRule (meaning.rule_of x)
a_rule_read second (a_shape y) x e h = absurd cc
a_rule_read second (an_object y) x e h = absurd cc
a_rule_read second (an_order y) x e h = absurd cc
a_rule_read second (some_sides y) x e h = absurd cc
a_rule_read second (a_macro y) x e h = absurd cc
a_rule_read second (a_rule y) x e h = let is : y ≡ x = cc in subst (λ (u : RuleTree). CanWriteRule (meaning.rule_of u)) is h

-- ---- names

names_of_shapes : (ss : List ShapeTree) → map (λ (s : ShapeData). s.name) (map meaning.shape_of ss) ≡ shape_names ss
names_of_shapes [] = refl
names_of_shapes (s ∷ ss) = ap (λ us. s.name.name ∷ us) (names_of_shapes ss)

names_of_objects : (names : List (List ℕ)) (os : List ObjectTree) → map (λ (o : ObjectData). o.name) (map (meaning.object_of names) os) ≡ object_names os
names_of_objects names [] = refl
names_of_objects names (o ∷ os) = ap (λ us. o.name.name ∷ us) (names_of_objects names os)

-- the problem's names are those of its statements
pub shape_names_of : (q : Parts) → canonical.shape_names (meaning.problem_of q) ≡ shape_names q.shapes
shape_names_of q = names_of_shapes q.shapes

pub object_names_of : (q : Parts) → canonical.object_names (meaning.problem_of q) ≡ object_names q.objects
object_names_of q = names_of_objects (shape_names q.shapes) q.objects

can_write_names : (names : List (List ℕ)) (ns : List PlacedName) → AreNames ns → AllOf (Made names) ns → CanWriteNames names (map (meaning.position_of names) ns)
can_write_names names ns h made = record {
  some = some_mapped (meaning.position_of names) ns h.some;
  each = mapped (λ i. IsNameText (canonical.name_at names i)) (meaning.position_of names) ns
      (all_with {P = λ n. IsNameText n.name} {Q = Made names} {R = λ n. IsNameText (canonical.name_at names (meaning.position_of names n))} (λ n g m. subst IsNameText (sym m.is) g) ns h.each made);
}

-- ---- without faults

module _ (q : Parts) (faultless : (f : Fault) → IsFault q f → ⊥) where
  abbrev k : ℕ
  k = count_of q.dims.value

  pub object_shapes_made : AllOf (λ o. AllOf (Made (shape_names q.shapes)) o.shapes) q.objects
  object_shapes_made =
      all_as {P = λ o. (f : Fault) → ObjectFault k (shape_names q.shapes) o f → ⊥} {Q = λ o. AllOf (Made (shape_names q.shapes)) o.shapes} (λ o h. all_made (shape_names q.shapes) o.shapes (λ f a. h f (inr (inl a)))) q.objects
      (each_faultless (ObjectFault k (shape_names q.shapes)) q.objects (λ f a. faultless f (objects (inr a))))

  pub order_made : (o : OrderTree) (others : List OrderTree) → q.orders ≡ o ∷ others → AllOf (Made (object_names q.objects)) o.names
  order_made o others e = all_made (object_names q.objects) o.names (λ f a. faultless f (orders (subst (λ (us : List OrderTree). Among (OrderFault (object_names q.objects)) us f) (sym e) (record { index = 0; item = o; there = refl; wrong = inr (inr (inl a)) }))))

module _ (t : ProblemTree) (read : TreeRead t) (faultless : (f : Fault) → IsFault (parts_of t) f → ⊥) where
  -- the text is of version 2
  abbrev second : Bool
  second = count_of t.version.value == 2

  objects_written : AllOf (CanWriteObject second (shape_names (parts_of t).shapes)) (map (meaning.object_of (shape_names (parts_of t).shapes)) (parts_of t).objects)
  objects_written =
      let names = shape_names (parts_of t).shapes in
      let reads = all_filtered as_object (StatementRead second) (ObjectRead second) (an_object_read second) t.statements read.statements in
      mapped (CanWriteObject second names) (meaning.object_of names) (parts_of t).objects
      (all_with {P = ObjectRead second} {Q = λ o. AllOf (Made names) o.shapes} {R = λ o. CanWriteObject second names (meaning.object_of names o)}
      (λ o h made. record { name = h.name; shapes = can_write_names names o.shapes h.shapes made; present = λ e. ap is_some (h.present e); pieces = h.pieces; attributes = h.attributes }) (parts_of t).objects reads (object_shapes_made (parts_of t) faultless))

  tree_written : CanWriteProblem (meaning.problem_of (parts_of t))
  tree_written = record {
    version = read.version;
    dims = read.dims;
    shapes = mapped CanWriteShape meaning.shape_of (parts_of t).shapes (all_filtered as_shape (StatementRead second) (λ s. CanWriteShape (meaning.shape_of s)) (a_shape_read second) t.statements read.statements);
    objects = subst (λ (names : List (List ℕ)). AllOf (CanWriteObject second names) (map (meaning.object_of (shape_names (parts_of t).shapes)) (parts_of t).objects)) (sym (shape_names_of (parts_of t))) objects_written;
    macros = mapped CanWriteMacro meaning.macro_of (parts_of t).macros (all_filtered as_macro (StatementRead second) (λ m. CanWriteMacro (meaning.macro_of m)) (a_macro_read second) t.statements read.statements);
    rules = mapped CanWriteRule meaning.rule_of (parts_of t).rules (all_filtered as_rule (StatementRead second) (λ r. CanWriteRule (meaning.rule_of r)) (a_rule_read second) t.statements read.statements);
  }

pub says_written : (text : List ℕ) (p : ProblemData) → Says text p → CanWriteProblem p
says_written text p s = subst CanWriteProblem s.is (tree_written s.tree (says_read text p s) s.faultless)
