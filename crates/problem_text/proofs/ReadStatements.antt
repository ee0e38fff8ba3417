-- What the statements of a text say can be written again.
use Rattle.std.proofs.Common.{◌≡◌, ℕ, zero, suc, ◌≤◌, List, [], ◌∷◌, map, None, Some, Bool, true, false, refl, subst, arith}
use Rattle.std.specs.Prelude.{pos, neg_ℤ}
use Rattle.geo_tokens.specs.declared.token.Token.{Token}
use Rattle.geo_tokens.specs.declared.token.Sym.TheVariants as syms
use Rattle.geo_tokens.specs.Class.{number_in}
use Rattle.geo_tokens.specs.Names.{IsNameText}
use Rattle.geo_tokens.specs.Words.{numbers, symbol, Lang, Pure, Tok, Bind, left, right, Opt, there, not_there}
use Rattle.rule_syntax.specs.declared.tree.PlacedName.{PlacedName}
use Rattle.rule_syntax.specs.Grammar.{Named}
use Rattle.rule_print.proofs.Respelled.{AllOf, AllTrue, pure_is, token_of_list, many_of, items_of, small_number, name_is_text}
use Rattle.rule_print.proofs.Respelled.{parts_of as split}
use Rattle.rule_print.proofs.ReadBack.{expr_again, formula_again}
use Rattle.problem_data.specs.declared.tree.Int.{Int}
use Rattle.problem_data.specs.declared.tree.RangeText.{RangeText}
use Rattle.problem_data.specs.declared.tree.AttributeText.{AttributeText}
use Rattle.problem_data.specs.declared.tree.ParamText.{ParamText}
use Rattle.problem_data.specs.Tree.{BoxTree, ObjectTree, BodyTree, means, equals, DemandTree, apart, within, plain, StatementTree, a_shape, an_object, an_order, some_sides, a_macro, a_rule}
use Rattle.problem_data.specs.Grammar.{plain_int, negative_int, range_text, box_tree, attribute_text, param_text, shape_tree, object_tree, order_tree, sides_tree, macro_tree, rule_tree, OneOrMore, Listed, ShapeList, AbsentWord, ShapesWords, PlainInt, NegativeInt, IntWords, RangeWords, PiecesWords, BoxWords, AttributeWords, Attributes, ParamWords, Params, BodyWords, DemandWords, ShapeWords, ObjectWords, OrderWords, SidesWords, MacroWords, RuleWords, StatementWords}
use Rattle.problem_data.specs.Meaning as meaning
use Rattle.problem_text.proofs.PrintingParts.{IsSome, IsTextNumber, CanWriteInts, CanWriteBox, CanWriteBoxes, CanWriteRange, CanWriteRanges, CanWritePieces, CanWriteEachPieces, CanWriteAttribute, CanWriteParam, CanWriteBody, CanWriteDemand}
use Rattle.problem_text.proofs.PrintingStatements.{CanWriteShape, CanWriteMacro, CanWriteRule}

-- ---- lists

pub mapped : {A B : Type 0} (P : B → Type 0) (f : A → B) (xs : List A) → AllOf (λ x. P (f x)) xs → AllOf P (map f xs)
mapped P f [] h = tt
mapped P f (x ∷ xs) h = (h.0, mapped P f xs h.1)

pub some_mapped : {A B : Type 0} (f : A → B) (xs : List A) → IsSome xs → IsSome (map f xs)
some_mapped f [] h e = h refl
some_mapped f (x ∷ xs) h e = absurd cc

pub record Several {A : Type 0} (Q : A → Type 0) (xs : List A) : Type 0 where
  pub some : IsSome xs
  pub each : AllOf Q xs

several : {A : Type 0} (Q : A → Type 0) (x : A) (xs ys : List A) → x ∷ xs ≡ ys → Q x → AllOf Q xs → Several Q ys
several {A} Q x xs ys e h hs = subst (λ (us : List A). Several Q us) e (record { some = (λ n. absurd cc); each = (h, hs) })

module _ (text : List ℕ) {A : Type 0} (L : Lang A) (Q : A → Type 0) (f : (a : A) (w : List Token) → L (Some a) w → AllTrue text w → Q a) where
  one_or_more_of : (xs : List A) (w : List Token) → OneOrMore L (Some xs) w → AllTrue text w → Several Q xs
  one_or_more_of xs w h tr =
      let j = split text xs w h tr in
      let i = split text xs j.rest j.second j.rest_true in
      let many = i.first in
      several Q j.value i.value xs (pure_is (j.value ∷ i.value) xs i.rest i.second) (f j.value j.front j.first j.front_true) (many_of text L Q f many.0 i.value i.front many.1 i.front_true)

  listed_of : (xs : List A) (w : List Token) → Listed L (Some xs) w → AllTrue text w → Several Q xs
  listed_of xs w h tr =
      let j = split text xs w h tr in
      let i = split text xs j.rest j.second j.rest_true in
      let many = i.first in
      several Q j.value i.value xs (pure_is (j.value ∷ i.value) xs i.rest i.second) (f j.value j.front j.first j.front_true)
      (many_of text (Bind (Tok (symbol syms.Comma)) (λ mark. L)) Q (λ a v g gt. (let k = split text a v g gt in f a k.rest k.second k.rest_true)) many.0 i.value i.front many.1 i.front_true)

negative_small : (n : ℕ) → n ≤ 1000000000 → IsTextNumber (neg_ℤ (pos n))
negative_small zero h = omega arith
negative_small (suc n) h = h

module _ (text : List ℕ) where
  -- ---- parts

  plain_read : (i : Int) (w : List Token) → PlainInt (Some i) w → AllTrue text w → IsTextNumber i.value
  plain_read i w h tr =
      let j = split text i w h tr in
      let small : number_in j.value.kind ≤ 1000000000 = small_number text j.value (token_of_list text numbers j.value j.front j.first j.front_true).is_true in
      subst (λ (u : Int). IsTextNumber u.value) (pure_is (plain_int j.value) i j.rest j.second) small

  negative_read : (i : Int) (w : List Token) → NegativeInt (Some i) w → AllTrue text w → IsTextNumber i.value
  negative_read i w h tr =
      let j = split text i w h tr in
      let k = split text i j.rest j.second j.rest_true in
      let small : number_in k.value.kind ≤ 1000000000 = small_number text k.value (token_of_list text numbers k.value k.front k.first k.front_true).is_true in
      subst (λ (u : Int). IsTextNumber u.value) (pure_is (negative_int j.value k.value) i k.rest k.second) (negative_small (number_in k.value.kind) small)

  pub int_read : (i : Int) (w : List Token) → IntWords (Some i) w → AllTrue text w → IsTextNumber i.value
  unfolding IntWords
  int_read i w (left h) tr = negative_read i w h tr
  int_read i w (right h) tr = plain_read i w h tr

  ints_read : (is : List Int) (w : List Token) → OneOrMore IntWords (Some is) w → AllTrue text w → CanWriteInts (map meaning.number_of is)
  ints_read is w h tr =
      let s = one_or_more_of text IntWords (λ i. IsTextNumber i.value) int_read is w h tr in
      record { some = some_mapped meaning.number_of is s.some; small = mapped IsTextNumber meaning.number_of is s.each }

  range_read : (r : RangeText) (w : List Token) → RangeWords (Some r) w → AllTrue text w → CanWriteRange (meaning.range_of r)
  unfolding RangeWords
  range_read r w h tr =
      let a = split text r w h tr in
      let d = split text r a.rest a.second a.rest_true in
      let b = split text r d.rest d.second d.rest_true in
      subst (λ (u : RangeText). CanWriteRange (meaning.range_of u)) (pure_is (range_text a.value b.value) r b.rest b.second)
      (record { low = int_read a.value a.front a.first a.front_true; high = int_read b.value b.front b.first b.front_true })

  ranges_read : (rs : List RangeText) (w : List Token) → OneOrMore RangeWords (Some rs) w → AllTrue text w → CanWriteRanges (map meaning.range_of rs)
  ranges_read rs w h tr =
      let s = one_or_more_of text RangeWords (λ r. CanWriteRange (meaning.range_of r)) range_read rs w h tr in
      record { some = some_mapped meaning.range_of rs s.some; each = mapped CanWriteRange meaning.range_of rs s.each }

  -- the pieces of a range, in a text of version 2 or of version 1
  one_piece_read : (rs : List RangeText) (w : List Token) → Bind RangeWords (λ r. Pure (r ∷ [])) (Some rs) w → AllTrue text w → CanWritePieces false (meaning.pieces_of rs)
  one_piece_read rs w h tr =
      let j = split text rs w h tr in
      subst (λ (us : List RangeText). CanWritePieces false (meaning.pieces_of us)) (pure_is (j.value ∷ []) rs j.rest j.second) (range_read j.value j.front j.first j.front_true)

  some_pieces_read : (rs : List RangeText) (w : List Token) → Listed RangeWords (Some rs) w → AllTrue text w → CanWritePieces true (meaning.pieces_of rs)
  some_pieces_read rs w h tr =
      let s = listed_of text RangeWords (λ r. CanWriteRange (meaning.range_of r)) range_read rs w h tr in
      record { some = some_mapped meaning.range_of rs s.some; each = mapped CanWriteRange meaning.range_of rs s.each }

  pieces_read : (second : Bool) (rs : List RangeText) (w : List Token) → PiecesWords second (Some rs) w → AllTrue text w → CanWritePieces second (meaning.pieces_of rs)
  unfolding PiecesWords
  pieces_read false rs w h tr = one_piece_read rs w h tr
  pieces_read true rs w h tr = some_pieces_read rs w h tr

  each_pieces_read : (second : Bool) (ps : List (List RangeText)) (w : List Token) → OneOrMore (PiecesWords second) (Some ps) w → AllTrue text w → CanWriteEachPieces second (map meaning.pieces_of ps)
  each_pieces_read second ps w h tr =
      let s = one_or_more_of text (PiecesWords second) (λ rs. CanWritePieces second (meaning.pieces_of rs)) (pieces_read second) ps w h tr in
      record { some = some_mapped meaning.pieces_of ps s.some; each = mapped (CanWritePieces second) meaning.pieces_of ps s.each }

  box_read : (b : BoxTree) (w : List Token) → BoxWords (Some b) w → AllTrue text w → CanWriteBox (meaning.box_of b)
  unfolding BoxWords
  box_read b w h tr =
      let t = split text b w h tr in
      let os = split text b t.rest t.second t.rest_true in
      let u = split text b os.rest os.second os.rest_true in
      let ss = split text b u.rest u.second u.rest_true in
      subst (λ (x : BoxTree). CanWriteBox (meaning.box_of x)) (pure_is (box_tree t.value os.value ss.value) b ss.rest ss.second)
      (record { offsets = ints_read os.value os.front os.first os.front_true; sizes = ints_read ss.value ss.front ss.first ss.front_true })

  boxes_read : (bs : List BoxTree) (w : List Token) → OneOrMore BoxWords (Some bs) w → AllTrue text w → CanWriteBoxes (map meaning.box_of bs)
  boxes_read bs w h tr =
      let s = one_or_more_of text BoxWords (λ b. CanWriteBox (meaning.box_of b)) box_read bs w h tr in
      record { some = some_mapped meaning.box_of bs s.some; each = mapped CanWriteBox meaning.box_of bs s.each }

  attribute_read : (a : AttributeText) (w : List Token) → AttributeWords text (Some a) w → AllTrue text w → CanWriteAttribute (meaning.attribute_of a)
  unfolding AttributeWords
  attribute_read a w h tr =
      let n = split text a w h tr in
      let e = split text a n.rest n.second n.rest_true in
      let v = split text a e.rest e.second e.rest_true in
      subst (λ (u : AttributeText). CanWriteAttribute (meaning.attribute_of u)) (pure_is (attribute_text n.value v.value) a v.rest v.second)
      (record { name = name_is_text text n.value n.front n.first n.front_true; value = int_read v.value v.front v.first v.front_true })

  attributes_read : (as_read : List AttributeText) (w : List Token) → Attributes text (Some as_read) w → AllTrue text w → AllOf CanWriteAttribute (map meaning.attribute_of as_read)
  unfolding Attributes
  attributes_read xs w (not_there q r) tr = let is : [] ≡ xs = (let back : Some xs ≡ Some [] = q in cc) in subst (λ (us : List AttributeText). AllOf CanWriteAttribute (map meaning.attribute_of us)) is tt
  attributes_read xs w (there h) tr =
      let t = split text xs w h tr in
      let s = listed_of text (AttributeWords text) (λ a. CanWriteAttribute (meaning.attribute_of a)) attribute_read xs t.rest t.second t.rest_true in
      mapped CanWriteAttribute meaning.attribute_of xs s.each

  param_read : (p : ParamText) (w : List Token) → ParamWords text (Some p) w → AllTrue text w → CanWriteParam (meaning.param_of p)
  unfolding ParamWords
  param_read p w h tr =
      let n = split text p w h tr in
      let c = split text p n.rest n.second n.rest_true in
      let t = split text p c.rest c.second c.rest_true in
      subst (λ (u : ParamText). CanWriteParam (meaning.param_of u)) (pure_is (param_text n.value t.value) p t.rest t.second) (name_is_text text n.value n.front n.first n.front_true)

  param_list_read : (ps : List ParamText) (w : List Token) → Opt (Listed (ParamWords text)) [] (Some ps) w → AllTrue text w → AllOf CanWriteParam (map meaning.param_of ps)
  param_list_read ps w (not_there q r) tr = let is : [] ≡ ps = (let back : Some ps ≡ Some [] = q in cc) in subst (λ (us : List ParamText). AllOf CanWriteParam (map meaning.param_of us)) is tt
  param_list_read ps w (there h) tr = mapped CanWriteParam meaning.param_of ps (listed_of text (ParamWords text) (λ p. CanWriteParam (meaning.param_of p)) param_read ps w h tr).each

  params_read : (ps : List ParamText) (w : List Token) → Params text (Some ps) w → AllTrue text w → AllOf CanWriteParam (map meaning.param_of ps)
  unfolding Params
  params_read ps w h tr =
      let t = split text ps w h tr in
      let l = split text ps t.rest t.second t.rest_true in
      let u = split text ps l.rest l.second l.rest_true in
      subst (λ (us : List ParamText). AllOf CanWriteParam (map meaning.param_of us)) (pure_is l.value ps u.rest u.second) (param_list_read l.value l.front l.first l.front_true)

  body_read : (b : BodyTree) (w : List Token) → BodyWords text 64 (Some b) w → AllTrue text w → CanWriteBody b
  unfolding BodyWords
  body_read b w (left h) tr =
      let t = split text b w h tr in
      let f = split text b t.rest t.second t.rest_true in
      subst (λ (u : BodyTree). CanWriteBody u) (pure_is (means f.value) b f.rest f.second) (formula_again text f.value f.front f.first f.front_true)
  body_read b w (right h) tr =
      let t = split text b w h tr in
      let e = split text b t.rest t.second t.rest_true in
      subst (λ (u : BodyTree). CanWriteBody u) (pure_is (equals e.value) b e.rest e.second) (expr_again text e.value e.front e.first e.front_true)

  demand_read : (d : DemandTree) (w : List Token) → DemandWords text 64 (Some d) w → AllTrue text w → CanWriteDemand (meaning.demand_of d)
  unfolding DemandWords
  demand_read d w (left h) tr =
      let t = split text d w h tr in
      subst (λ (u : DemandTree). CanWriteDemand (meaning.demand_of u)) (pure_is apart d t.rest t.second) tt
  demand_read d w (right (left h)) tr =
      let t = split text d w h tr in
      let rs = split text d t.rest t.second t.rest_true in
      subst (λ (u : DemandTree). CanWriteDemand (meaning.demand_of u)) (pure_is (within rs.value) d rs.rest rs.second) (ranges_read rs.value rs.front rs.first rs.front_true)
  demand_read d w (right (right h)) tr =
      let f = split text d w h tr in
      subst (λ (u : DemandTree). CanWriteDemand (meaning.demand_of u)) (pure_is (plain f.value) d f.rest f.second) (formula_again text f.value f.front f.first f.front_true)

-- ---- statements

-- the names of a list are the texts of names
abbrev pub AreNames : List PlacedName → Type 0
AreNames ns = Several (λ n. IsNameText n.name) ns

pub record ObjectRead (second : Bool) (o : ObjectTree) : Type 0 where
  pub name : IsNameText o.name.name
  pub shapes : AreNames o.shapes
  pub present : second ≡ false → o.absent ≡ None
  pub pieces : CanWriteEachPieces second (map meaning.pieces_of o.pieces)
  pub attributes : AllOf CanWriteAttribute (map meaning.attribute_of o.attributes)

-- of a statement in a text of version 2 or of version 1
abbrev pub StatementRead : Bool → StatementTree → Type 0
StatementRead second (a_shape s) = CanWriteShape (meaning.shape_of s)
StatementRead second (an_object o) = ObjectRead second o
StatementRead second (an_order o) = AreNames o.names
StatementRead second (some_sides s) = Unit {0}
StatementRead second (a_macro m) = CanWriteMacro (meaning.macro_of m)
StatementRead second (a_rule r) = CanWriteRule (meaning.rule_of r)

module _ (text : List ℕ) (second : Bool) where
  names_read : (ns : List PlacedName) (w : List Token) → Listed (Named text) (Some ns) w → AllTrue text w → AreNames ns
  names_read ns w h tr = listed_of text (Named text) (λ n. IsNameText n.name) (name_is_text text) ns w h tr

  -- the shapes of an object, in a text of version 2 or of version 1
  shapes_read : (two : Bool) (ss : ShapeList) (w : List Token) → ShapesWords text two (Some ss) w → AllTrue text w → AreNames ss.0 × (two ≡ false → ss.1 ≡ None)
  unfolding ShapesWords
  shapes_read false ss w h tr =
      let j = split text ss w h tr in
      subst (λ (u : ShapeList). AreNames u.0 × (false ≡ false → u.1 ≡ None)) (pure_is (j.value, None) ss j.rest j.second) (names_read j.value j.front j.first j.front_true, (λ e. refl))
  shapes_read true ss w h tr =
      let j = split text ss w h tr in
      let i = split text ss j.rest j.second j.rest_true in
      let behind = i.first in
      subst (λ (u : ShapeList). AreNames u.0 × (true ≡ false → u.1 ≡ None)) (pure_is (j.value ∷ i.value.0, i.value.1) ss i.rest i.second) (
        several (λ n. IsNameText n.name) j.value i.value.0 (j.value ∷ i.value.0) refl (name_is_text text j.value j.front j.first j.front_true)
            (items_of text (symbol syms.Comma) (Named text) AbsentWord (λ n. IsNameText n.name) (name_is_text text) behind.0 i.value i.front behind.1 i.front_true),
        (λ e. absurd cc),
      )

  shape_read : (s : StatementTree) (w : List Token) → ShapeWords text (Some s) w → AllTrue text w → StatementRead second s
  unfolding ShapeWords
  shape_read s w h tr =
      let t = split text s w h tr in
      let n = split text s t.rest t.second t.rest_true in
      let bs = split text s n.rest n.second n.rest_true in
      let e = split text s bs.rest bs.second bs.rest_true in
      subst (StatementRead second) (pure_is (shape_tree n.value bs.value) s e.rest e.second)
      (record { name = name_is_text text n.value n.front n.first n.front_true; boxes = boxes_read text bs.value bs.front bs.first bs.front_true })

  object_read : (s : StatementTree) (w : List Token) → ObjectWords text second (Some s) w → AllTrue text w → StatementRead second s
  unfolding ObjectWords
  object_read s w h tr =
      let t = split text s w h tr in
      let n = split text s t.rest t.second t.rest_true in
      let u = split text s n.rest n.second n.rest_true in
      let ss = split text s u.rest u.second u.rest_true in
      let v = split text s ss.rest ss.second ss.rest_true in
      let rs = split text s v.rest v.second v.rest_true in
      let vs = split text s rs.rest rs.second rs.rest_true in
      let e = split text s vs.rest vs.second vs.rest_true in
      subst (StatementRead second) (pure_is (object_tree n.value ss.value rs.value vs.value) s e.rest e.second)
      (record {
        name = name_is_text text n.value n.front n.first n.front_true;
        shapes = (shapes_read second ss.value ss.front ss.first ss.front_true).0;
        present = (shapes_read second ss.value ss.front ss.first ss.front_true).1;
        pieces = each_pieces_read text second rs.value rs.front rs.first rs.front_true;
        attributes = attributes_read text vs.value vs.front vs.first vs.front_true;
      })

  order_read : (s : StatementTree) (w : List Token) → OrderWords text (Some s) w → AllTrue text w → StatementRead second s
  unfolding OrderWords
  order_read s w h tr =
      let t = split text s w h tr in
      let ns = split text s t.rest t.second t.rest_true in
      let e = split text s ns.rest ns.second ns.rest_true in
      subst (StatementRead second) (pure_is (order_tree t.value ns.value) s e.rest e.second) (names_read ns.value ns.front ns.first ns.front_true)

  sides_read : (s : StatementTree) (w : List Token) → SidesWords (Some s) w → AllTrue text w → StatementRead second s
  unfolding SidesWords
  sides_read s w h tr =
      let t = split text s w h tr in
      let ss = split text s t.rest t.second t.rest_true in
      let e = split text s ss.rest ss.second ss.rest_true in
      subst (StatementRead second) (pure_is (sides_tree t.value ss.value) s e.rest e.second) tt

  macro_read : (s : StatementTree) (w : List Token) → MacroWords text 64 (Some s) w → AllTrue text w → StatementRead second s
  unfolding MacroWords
  macro_read s w h tr =
      let t = split text s w h tr in
      let n = split text s t.rest t.second t.rest_true in
      let ps = split text s n.rest n.second n.rest_true in
      let b = split text s ps.rest ps.second ps.rest_true in
      let e = split text s b.rest b.second b.rest_true in
      subst (StatementRead second) (pure_is (macro_tree n.value ps.value b.value) s e.rest e.second)
      (record {
        name = name_is_text text n.value n.front n.first n.front_true;
        params = params_read text ps.value ps.front ps.first ps.front_true;
        body = body_read text b.value b.front b.first b.front_true;
      })

  rule_read : (s : StatementTree) (w : List Token) → RuleWords text 64 (Some s) w → AllTrue text w → StatementRead second s
  unfolding RuleWords
  rule_read s w h tr =
      let t = split text s w h tr in
      let n = split text s t.rest t.second t.rest_true in
      let c = split text s n.rest n.second n.rest_true in
      let d = split text s c.rest c.second c.rest_true in
      let e = split text s d.rest d.second d.rest_true in
      subst (StatementRead second) (pure_is (rule_tree n.value d.value) s e.rest e.second)
      (record { name = name_is_text text n.value n.front n.first n.front_true; demand = demand_read text d.value d.front d.first d.front_true })

  pub statement_read : (s : StatementTree) (w : List Token) → StatementWords text 64 second (Some s) w → AllTrue text w → StatementRead second s
  unfolding StatementWords
  statement_read s w (left h) tr = shape_read s w h tr
  statement_read s w (right (left h)) tr = object_read s w h tr
  statement_read s w (right (right (left h))) tr = order_read s w h tr
  statement_read s w (right (right (right (left h)))) tr = sides_read s w h tr
  statement_read s w (right (right (right (right (left h))))) tr = macro_read s w h tr
  statement_read s w (right (right (right (right (right h))))) tr = rule_read s w h tr
