-- The canonical spelling of each statement spells it in the grammar of problems.
use Rattle.std.proofs.Common.{◌≡◌, ℕ, List, [], ◌∷◌, ◌++◌, map, None, Bool, true, false, refl, sym, ap}
use Rattle.std.proofs.lemmas.List.{append-nil}
use Rattle.std.specs.Prelude.{flat_map}
use Rattle.geo_tokens.specs.declared.token.Keyword.TheVariants as keywords
use Rattle.geo_tokens.specs.declared.token.Sym.TheVariants as syms
use Rattle.geo_tokens.specs.Names.{IsNameText}
use Rattle.geo_tokens.specs.Words.{word, symbol, Pure, Tok, Bind, Ended}
use Rattle.rule_syntax.specs.Grammar.{Named}
use Rattle.rule_print.specs.Canonical.{Written}
use Rattle.rule_print.specs.Canonical.{word as a_word, symbol as a_symbol}
use Rattle.rule_print.specs.Spelled.{in_list, bare_name}
use Rattle.rule_print.proofs.Respelled.{Respelled, Again, tok_again, bind_again, last_again, left_again, right_again, same_again, AllOf, Each, joined, unended_again, ended_again, marked_good}
use Rattle.rule_print.proofs.ShownTokens.{AllWritten, written_append}
use Rattle.rule_print.proofs.ExpressionsAgain.{respelled_as}
use Rattle.rule_syntax.specs.declared.tree.PlacedName.{PlacedName}
use Rattle.problem_data.specs.declared.tree.Side.{Side}
use Rattle.problem_data.specs.Tree.{StatementTree, a_shape, an_object, an_order, some_sides, a_macro, a_rule}
use Rattle.problem_data.specs.Grammar.{shape_tree, object_tree, order_tree, sides_tree, macro_tree, rule_tree, Listed, ShapeList, AbsentWord, ShapesWords, ShapeWords, ObjectWords, OrderWords, SidesWords, MacroWords, RuleWords, StatementWords}
use Rattle.problem_data.specs.Problem.{ShapeData, ObjectData, MacroData, RuleData}
use Rattle.problem_text.specs.Canonical.{closed, listed, name_spelling, name_at, pieces_spelling, box_spelling, attributes_spelling, param_spelling, body_spelling, demand_spelling, side_spelling, absent_spelling, shapes_spelling, shape_spelling, object_spelling, macro_spelling, rule_spelling, order_spelling, sides_spelling}
use Rattle.problem_text.proofs.PrintingParts.{bare_absent, absent_of, joined_listed, bare_pieces, bare_box, bare_attribute, bare_param, bare_side, bare_body, bare_demand, name_of, pieces_of, box_of, attribute_of, param_of, side_of, demand_of, each_map, all_as, IsSome, listed_again, name_again, CanWriteBoxes, boxes_again, CanWriteEachPieces, each_pieces_again, CanWriteAttribute, attributes_again, CanWriteParam, params_again, sides_again, CanWriteBody, body_again, CanWriteDemand, demand_again}

-- a statement without places
abbrev pub bare_statement : StatementTree → StatementTree
bare_statement (a_shape s) = a_shape (record { name = bare_name s.name; boxes = map bare_box s.boxes })
bare_statement (an_object o) = an_object (record { name = bare_name o.name; shapes = map bare_name o.shapes; absent = bare_absent o.absent; pieces = map bare_pieces o.pieces; attributes = map bare_attribute o.attributes })
bare_statement (an_order o) = an_order (record { place = 0; names = map bare_name o.names })
bare_statement (some_sides s) = some_sides (record { place = 0; sides = map bare_side s.sides })
bare_statement (a_macro m) = a_macro (record { name = bare_name m.name; params = map bare_param m.params; body = bare_body m.body })
bare_statement (a_rule r) = a_rule (record { name = bare_name r.name; demand = bare_demand r.demand })

-- the statements of data
abbrev pub shape_of : ShapeData → StatementTree
shape_of s = a_shape (record { name = name_of s.name; boxes = map box_of s.boxes })

abbrev pub object_of : List (List ℕ) → ObjectData → StatementTree
object_of names o = an_object (record { name = name_of o.name; shapes = map (λ i. name_of (name_at names i)) o.shapes; absent = absent_of o.may_be_absent; pieces = map pieces_of o.pieces; attributes = map attribute_of o.attributes })

abbrev pub order_of : List (List ℕ) → List ℕ → StatementTree
order_of names order = an_order (record { place = 0; names = map (λ i. name_of (name_at names i)) order })

abbrev pub sides_of : List Side → StatementTree
sides_of sides = some_sides (record { place = 0; sides = map side_of sides })

abbrev pub macro_of : MacroData → StatementTree
macro_of m = a_macro (record { name = name_of m.name; params = map param_of m.params; body = bare_body m.body })

abbrev pub rule_of : RuleData → StatementTree
rule_of r = a_rule (record { name = name_of r.name; demand = demand_of r.demand })

-- in a text of version 2 or of version 1
abbrev pub StatementAgain : Bool → StatementTree → List Written → Type 0
StatementAgain second s ps = Respelled (λ text. StatementWords text 64 second) (λ x. bare_statement x ≡ s) ps

module _ (second : Bool) {P : StatementTree → Type 0} {ps : List Written} where
  in_shape : Again ShapeWords P ps → Again (λ text. StatementWords text 64 second) P ps
  unfolding StatementWords
  in_shape l = left_again l

  in_object : Again (λ text. ObjectWords text second) P ps → Again (λ text. StatementWords text 64 second) P ps
  unfolding StatementWords
  in_object l = right_again (left_again l)

  in_order : Again OrderWords P ps → Again (λ text. StatementWords text 64 second) P ps
  unfolding StatementWords
  in_order l = right_again (right_again (left_again l))

  in_sides : Again (λ text. SidesWords) P ps → Again (λ text. StatementWords text 64 second) P ps
  unfolding StatementWords
  in_sides l = right_again (right_again (right_again (left_again l)))

  in_macro : Again (λ text. MacroWords text 64) P ps → Again (λ text. StatementWords text 64 second) P ps
  unfolding StatementWords
  in_macro l = right_again (right_again (right_again (right_again (left_again l))))

  in_rule : Again (λ text. RuleWords text 64) P ps → Again (λ text. StatementWords text 64 second) P ps
  unfolding StatementWords
  in_rule l = right_again (right_again (right_again (right_again (right_again l))))

-- a statement's end
ending : {A : Type 0} {P : A → Type 0} (a : A) → P a → Again (λ text. Bind (Tok (symbol syms.Semicolon)) (λ e. Pure a)) P (a_symbol syms.Semicolon ∷ [])
ending a p = last_again (λ e. a) (tok_again (symbol syms.Semicolon) (a_symbol syms.Semicolon) refl) (λ e k. p)

closed_written : (ps : List Written) → AllWritten ps → AllWritten (closed ps)
closed_written ps g = written_append ps (a_symbol syms.Semicolon ∷ []) g (tt, tt)

pub record CanWriteShape (s : ShapeData) : Type 0 where
  pub name : IsNameText s.name
  pub boxes : CanWriteBoxes s.boxes

pub shape_again : (second : Bool) (s : ShapeData) → CanWriteShape s → StatementAgain second (shape_of s) (shape_spelling s)
unfolding ShapeWords
shape_again second s h =
    let bs = boxes_again s.boxes h.boxes in
    record {
      good = (tt, (h.name, closed_written (flat_map box_spelling s.boxes) bs.good));
      again = in_shape second (bind_again (tok_again (word keywords.Shape) (a_word keywords.Shape) refl) (λ t k. bind_again (name_again s.name h.name).again (λ x ex. bind_again bs.again (λ y ey.
          ending (shape_tree x y) (λ i. a_shape (record { name = ex i; boxes = ey i }))))));
    }

-- names at positions
pub record CanWriteNames (names : List (List ℕ)) (positions : List ℕ) : Type 0 where
  pub some : IsSome positions
  pub each : AllOf (λ i. IsNameText (name_at names i)) positions

names_again : (names : List (List ℕ)) (positions : List ℕ) → CanWriteNames names positions
    → Respelled (λ text. Listed (Named text)) (λ xs. map bare_name xs ≡ map (λ i. name_of (name_at names i)) positions) (listed (λ i. name_spelling (name_at names i)) positions)
names_again names positions h =
    let each = all_as {P = λ i. IsNameText (name_at names i)} {Q = λ i. Respelled Named (λ x. bare_name x ≡ name_of (name_at names i)) (name_spelling (name_at names i))} (λ i g. name_again (name_at names i) g) positions h.each in
    let r = listed_again Named (λ i x. bare_name x ≡ name_of (name_at names i)) (λ i. name_spelling (name_at names i)) positions h.some each in
    record { good = r.good; again = record { reads = λ text v st. (let x = r.again.reads text v st in (x.0, x.1, each_map bare_name (λ i. name_of (name_at names i)) positions x.0 x.2)) } }

-- ---- the shapes of an object

-- these shapes and this word, places aside
abbrev SameShapes : List (List ℕ) → List ℕ → Bool → ShapeList → Type 0
SameShapes names positions b x = (map bare_name x.0 ≡ map (λ i. name_of (name_at names i)) positions) × (bare_absent x.1 ≡ absent_of b)

abbrev shapes_written : List (List ℕ) → List ℕ → Bool → List Written
shapes_written names positions b = listed (λ i. name_spelling (name_at names i)) positions ++ absent_spelling b

first_shapes_again : (names : List (List ℕ)) (positions : List ℕ) → CanWriteNames names positions → Respelled (λ text. ShapesWords text false) (SameShapes names positions false) (shapes_written names positions false)
unfolding ShapesWords
first_shapes_again names positions h =
    let ns = names_again names positions h in
    respelled_as (shapes_written names positions false) (record { good = ns.good; again = last_again (λ ss. (ss, None)) ns.again (λ ss e. (e, refl)) }) (sym (append-nil (listed (λ i. name_spelling (name_at names i)) positions)))

module _ (names : List (List ℕ)) where
  abbrev spelled : ℕ → List Written
  spelled i = name_spelling (name_at names i)

  abbrev IsNamed : ℕ → PlacedName → Type 0
  IsNamed i x = bare_name x ≡ name_of (name_at names i)

  abbrev AllNamed : List ℕ → Type 0
  AllNamed positions = AllOf (λ i. Respelled Named (IsNamed i) (spelled i)) positions

  abbrev marked_all : List ℕ → List Written
  marked_all positions = joined (λ i. a_symbol syms.Comma ∷ spelled i) positions

  word_again : Again (λ text. AbsentWord) (λ place. Unit {0}) (a_word keywords.Absent ∷ [])
  word_again = last_again (λ t. t.start) (tok_again (word keywords.Absent) (a_word keywords.Absent) refl) (λ t k. tt)

  -- the shapes behind the first one, and the word
  others_again : (others : List ℕ) (b : Bool) → AllNamed others
      → Again (λ text. Ended (symbol syms.Comma) (Named text) AbsentWord) (λ r. Each IsNamed others r.0 × (bare_absent r.1 ≡ absent_of b)) (marked_all others ++ absent_spelling b)
  others_again others false h =
      same_again (marked_all others ++ []) (unended_again (symbol syms.Comma) Named (λ text. AbsentWord) IsNamed spelled (a_symbol syms.Comma) refl tt others h (λ o. bare_absent o ≡ absent_of false) refl) (sym (append-nil (marked_all others)))
  others_again others true h =
      ended_again (symbol syms.Comma) Named (λ text. AbsentWord) IsNamed spelled (a_symbol syms.Comma) refl tt others h (λ o. bare_absent o ≡ absent_of true) word_again (λ place e. refl)

  absent_written : (b : Bool) → AllWritten (absent_spelling b)
  absent_written true = (tt, (tt, tt))
  absent_written false = tt

  second_shapes_again : (i : ℕ) (others : List ℕ) (b : Bool) → IsNameText (name_at names i) → AllNamed others
      → Respelled (λ text. ShapesWords text true) (SameShapes names (i ∷ others) b) (shapes_written names (i ∷ others) b)
  unfolding ShapesWords
  second_shapes_again i others b first h =
      respelled_as (shapes_written names (i ∷ others) b) (record {
        good = (first, written_append (marked_all others) (absent_spelling b) (marked_good (symbol syms.Comma) Named (λ text. AbsentWord) IsNamed spelled (a_symbol syms.Comma) refl tt others h) (absent_written b));
        again = bind_again (name_again (name_at names i) first).again (λ a ea. last_again (λ r. (a ∷ r.0, r.1)) (others_again others b h)
            (λ r er. ((λ j. ea j ∷ each_map bare_name (λ k. name_of (name_at names k)) others r.0 er.0 j), er.1)));
      }) (ap (λ (u : List Written). spelled i ++ (u ++ absent_spelling b)) (joined_listed spelled others))

-- in version 1 no object may be absent
shapes_again : (second : Bool) (names : List (List ℕ)) (positions : List ℕ) (b : Bool) → (second ≡ false → b ≡ false) → CanWriteNames names positions
    → Respelled (λ text. ShapesWords text second) (SameShapes names positions b) (shapes_written names positions b)
shapes_again false names positions true first h = absurd (let wrong : true ≡ false = first refl in cc)
shapes_again false names positions false first h = first_shapes_again names positions h
shapes_again true names [] b first h = absurd (h.some refl)
shapes_again true names (i ∷ others) b first h =
    second_shapes_again names i others b h.each.0
    (all_as {P = λ k. IsNameText (name_at names k)} {Q = λ k. Respelled Named (λ x. bare_name x ≡ name_of (name_at names k)) (name_spelling (name_at names k))} (λ k g. name_again (name_at names k) g) others h.each.1)

pub record CanWriteObject (second : Bool) (names : List (List ℕ)) (o : ObjectData) : Type 0 where
  pub name : IsNameText o.name
  pub shapes : CanWriteNames names o.shapes
  pub present : second ≡ false → o.may_be_absent ≡ false
  pub pieces : CanWriteEachPieces second o.pieces
  pub attributes : AllOf CanWriteAttribute o.attributes

pub object_again : (second : Bool) (names : List (List ℕ)) (o : ObjectData) → CanWriteObject second names o → StatementAgain second (object_of names o) (object_spelling names o)
unfolding ObjectWords
object_again second names o h =
    let ss = shapes_again second names o.shapes o.may_be_absent h.present h.shapes in
    let rs = each_pieces_again second o.pieces h.pieces in
    let vs = attributes_again o.attributes h.attributes in
    record {
      good = (
        tt,
        (
          h.name,
          (
            tt,
            written_append (shapes_spelling names o) (a_word keywords.At ∷ (flat_map pieces_spelling o.pieces ++ closed (attributes_spelling o.attributes))) ss.good
                (tt, written_append (flat_map pieces_spelling o.pieces) (closed (attributes_spelling o.attributes)) rs.good (closed_written (attributes_spelling o.attributes) vs.good)),
          ),
        ),
      );
      again = in_object second (bind_again (tok_again (word keywords.Object) (a_word keywords.Object) refl) (λ t k. bind_again (name_again o.name h.name).again (λ x ex.
          bind_again (tok_again (word keywords.As) (a_word keywords.As) refl) (λ u j. bind_again ss.again (λ y ey.
          bind_again (tok_again (word keywords.At) (a_word keywords.At) refl) (λ w m. bind_again rs.again (λ z ez. bind_again vs.again (λ q eq.
          ending (object_tree x y z q) (λ i. an_object (record { name = ex i; shapes = ey.0 i; absent = ey.1 i; pieces = ez i; attributes = eq i }))))))))));
    }

pub order_again : (second : Bool) (names : List (List ℕ)) (order : List ℕ) → CanWriteNames names order → StatementAgain second (order_of names order) (order_spelling names order)
unfolding OrderWords
order_again second names order h =
    let ns = names_again names order h in
    record {
      good = (tt, closed_written (listed (λ i. name_spelling (name_at names i)) order) ns.good);
      again = in_order second (bind_again (tok_again (word keywords.Order) (a_word keywords.Order) refl) (λ t k. bind_again ns.again (λ x ex. ending (order_tree t x) (λ i. an_order (record { place = 0; names = ex i })))));
    }

pub sides_again_line : (second : Bool) (sides : List Side) → IsSome sides → StatementAgain second (sides_of sides) (sides_spelling sides)
unfolding SidesWords
sides_again_line second sides some =
    let ss = sides_again sides some in
    record {
      good = (tt, closed_written (flat_map side_spelling sides) ss.good);
      again = in_sides second (bind_again (tok_again (word keywords.Sides) (a_word keywords.Sides) refl) (λ t k. bind_again ss.again (λ x ex. ending (sides_tree t x) (λ i. some_sides (record { place = 0; sides = ex i })))));
    }

pub record CanWriteMacro (m : MacroData) : Type 0 where
  pub name : IsNameText m.name
  pub params : AllOf CanWriteParam m.params
  pub body : CanWriteBody m.body

pub macro_again : (second : Bool) (m : MacroData) → CanWriteMacro m → StatementAgain second (macro_of m) (macro_spelling m)
unfolding MacroWords
macro_again second m h =
    let ps = params_again m.params h.params in
    let b = body_again m.body h.body in
    record {
      good = (tt, (h.name, written_append (in_list (listed param_spelling m.params)) (closed (body_spelling m.body)) ps.good (closed_written (body_spelling m.body) b.good)));
      again = in_macro second (bind_again (tok_again (word keywords.Macro) (a_word keywords.Macro) refl) (λ t k. bind_again (name_again m.name h.name).again (λ x ex. bind_again ps.again (λ y ey. bind_again b.again (λ z ez.
          ending (macro_tree x y z) (λ i. a_macro (record { name = ex i; params = ey i; body = ez i })))))));
    }

pub record CanWriteRule (r : RuleData) : Type 0 where
  pub name : IsNameText r.name
  pub demand : CanWriteDemand r.demand

pub rule_again : (second : Bool) (r : RuleData) → CanWriteRule r → StatementAgain second (rule_of r) (rule_spelling r)
unfolding RuleWords
rule_again second r h =
    let d = demand_again r.demand h.demand in
    record {
      good = (tt, (h.name, (tt, closed_written (demand_spelling r.demand) d.good)));
      again = in_rule second (bind_again (tok_again (word keywords.Rule) (a_word keywords.Rule) refl) (λ t k. bind_again (name_again r.name h.name).again (λ x ex. bind_again (tok_again (symbol syms.Colon) (a_symbol syms.Colon) refl) (λ c j. bind_again d.again (λ y ey.
          ending (rule_tree x y) (λ i. a_rule (record { name = ex i; demand = ey i })))))));
    }
