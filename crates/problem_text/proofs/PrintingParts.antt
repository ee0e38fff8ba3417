-- The canonical spelling of the parts of statements spells them in the grammar of problems.
use Rattle.std.proofs.Common.{◌≡◌, ℕ, suc, ◌≤◌, List, [], ◌∷◌, ◌++◌, map, Option, Some, None, Bool, true, false, refl, sym, ap, ◌∙◌}
use Rattle.std.proofs.lemmas.List.{append-nil}
use Rattle.std.specs.Prelude.{ℤ, pos, negsuc, neg_ℤ, flat_map}
use Rattle.geo_tokens.specs.declared.token.Kind.{Kind}
use Rattle.geo_tokens.specs.declared.token.Kind.TheVariants as kinds
use Rattle.geo_tokens.specs.declared.token.Keyword.TheVariants as keywords
use Rattle.geo_tokens.specs.declared.token.Sym.TheVariants as syms
use Rattle.geo_tokens.specs.Class.{class_of, number_in}
use Rattle.geo_tokens.specs.Names.{IsNameText}
use Rattle.geo_tokens.specs.Words.{has, numbers, word, symbol, Lang, Tok, Bind, Opt}
use Rattle.rule_syntax.specs.declared.tree.PlacedName.{PlacedName}
use Rattle.rule_print.specs.declared.rank.ExprRank.TheVariants as expr_ranks
use Rattle.rule_print.specs.declared.rank.FormulaRank.TheVariants as ranks
use Rattle.rule_syntax.specs.Tree.{ExprTree, FormulaTree}
use Rattle.rule_syntax.specs.Grammar.{Named, ExprWords, FormulaWords}
use Rattle.rule_print.specs.Canonical.{Written, sign}
use Rattle.rule_print.specs.Canonical.{number as digits, word as a_word, symbol as a_symbol}
use Rattle.rule_print.specs.Spelled.{in_list, expr_spelling, formula_spelling, bare_name, bare_expr, bare_formula}
use Rattle.rule_print.proofs.Respelled.{Respelled, tok_again, named_again, bind_again, last_again, left_again, right_again, there_again, missing_again, AllOf, Each, joined, many_again, many_good}
use Rattle.rule_print.proofs.ShownTokens.{written_append}
use Rattle.rule_print.proofs.ExpressionsAgain.{respelled_as, closing}
use Rattle.rule_print.proofs.ExpressionsAgain.{closed as in_list_written}
use Rattle.problem_data.specs.declared.tree.Int.{Int}
use Rattle.problem_data.specs.declared.tree.RangeText.{RangeText}
use Rattle.problem_data.specs.declared.tree.AttributeText.{AttributeText}
use Rattle.problem_data.specs.declared.tree.Side.{Side}
use Rattle.problem_data.specs.declared.tree.Side.TheVariants.{Low, High}
use Rattle.problem_data.specs.declared.tree.SideText.{SideText}
use Rattle.problem_data.specs.declared.tree.ParamKind.{ParamKind}
use Rattle.problem_data.specs.declared.tree.ParamKind.TheVariants as param_kinds
use Rattle.problem_data.specs.declared.tree.ParamText.{ParamText}
use Rattle.problem_data.specs.Marks.{side_words, param_words}
use Rattle.problem_data.specs.Tree.{BoxTree, BodyTree, means, equals, DemandTree, apart, within, plain}
use Rattle.problem_data.specs.Grammar.{plain_int, negative_int, range_text, box_tree, attribute_text, side_in, side_text, param_in, param_text, OneOrMore, Listed, IntWords, RangeWords, PiecesWords, BoxWords, AttributeWords, Attributes, SideWords, ParamWords, Params, BodyWords, DemandWords}
use Rattle.problem_data.specs.Problem.{BoxData, RangeData, AttributeData, ParamData, DemandData}
use Rattle.problem_data.specs.Problem.{apart as no_overlap, within as inside, plain as formula_demand}
use Rattle.problem_text.specs.Canonical.{listed, more_listed, name_spelling, int_spelling, ints_spelling, range_spelling, ranges_spelling, pieces_spelling, box_spelling, attribute_spelling, attributes_spelling, kind_word, param_spelling, body_spelling, demand_spelling, side_spelling}

-- ---- trees without places

abbrev pub bare_int : Int → Int
bare_int i = record { place = 0; value = i.value }

abbrev pub bare_range : RangeText → RangeText
bare_range r = record { low = bare_int r.low; high = bare_int r.high }

abbrev pub bare_pieces : List RangeText → List RangeText
bare_pieces rs = map bare_range rs

abbrev pub bare_box : BoxTree → BoxTree
bare_box b = record { place = 0; offsets = map bare_int b.offsets; sizes = map bare_int b.sizes }

abbrev pub bare_attribute : AttributeText → AttributeText
bare_attribute a = record { name = bare_name a.name; value = bare_int a.value }

abbrev pub bare_param : ParamText → ParamText
bare_param p = record { name = bare_name p.name; kind = p.kind }

abbrev pub bare_side : SideText → SideText
bare_side s = record { place = 0; side = s.side }

abbrev pub bare_body : BodyTree → BodyTree
bare_body (means f) = means (bare_formula f)
bare_body (equals e) = equals (bare_expr e)

abbrev pub bare_demand : DemandTree → DemandTree
bare_demand apart = apart
bare_demand (within rs) = within (map bare_range rs)
bare_demand (plain f) = plain (bare_formula f)

abbrev pub bare_absent : Option ℕ → Option ℕ
bare_absent None = None
bare_absent (Some place) = Some 0

-- ---- the trees of data

abbrev pub int_of : ℤ → Int
int_of v = record { place = 0; value = v }

abbrev pub name_of : List ℕ → PlacedName
name_of bytes = record { place = 0; name = bytes }

abbrev pub range_of : RangeData → RangeText
range_of r = record { low = int_of r.low; high = int_of r.high }

abbrev pub pieces_of : List RangeData → List RangeText
pieces_of rs = map range_of rs

abbrev pub box_of : BoxData → BoxTree
box_of b = record { place = 0; offsets = map int_of b.offsets; sizes = map int_of b.sizes }

abbrev pub attribute_of : AttributeData → AttributeText
attribute_of a = record { name = name_of a.name; value = int_of a.value }

abbrev pub param_of : ParamData → ParamText
param_of p = record { name = name_of p.name; kind = p.kind }

abbrev pub side_of : Side → SideText
side_of s = record { place = 0; side = s }

abbrev pub demand_of : DemandData → DemandTree
demand_of no_overlap = apart
demand_of (inside rs) = within (map range_of rs)
demand_of (formula_demand f) = plain (bare_formula f)

abbrev pub absent_of : Bool → Option ℕ
absent_of true = Some 0
absent_of false = None

-- ---- lists

pub each_map : {A B C : Type 0} (f : A → C) (g : B → C) (bs : List B) (xs : List A) → Each (λ b x. f x ≡ g b) bs xs → map f xs ≡ map g bs
each_map f g [] [] h = refl
each_map f g [] (x ∷ xs) h = absurd h
each_map f g (b ∷ bs) [] h = absurd h
each_map f g (b ∷ bs) (x ∷ xs) h = λ i. h.0 i ∷ each_map f g bs xs h.1 i

pub all_as : {A : Type 0} {P Q : A → Type 0} (f : (a : A) → P a → Q a) (xs : List A) → AllOf P xs → AllOf Q xs
all_as f [] h = tt
all_as f (x ∷ xs) h = (f x h.0, all_as f xs h.1)

joined_flat : {B : Type 0} (s : B → List Written) (bs : List B) → joined s bs ≡ flat_map s bs
joined_flat s [] = refl
joined_flat s (b ∷ bs) = ap (λ (u : List Written). s b ++ u) (joined_flat s bs)

pub joined_listed : {B : Type 0} (s : B → List Written) (bs : List B) → joined (λ b. a_symbol syms.Comma ∷ s b) bs ≡ more_listed s bs
joined_listed s [] = refl
joined_listed s (b ∷ bs) = ap (λ (u : List Written). a_symbol syms.Comma ∷ (s b ++ u)) (joined_listed s bs)

-- at least one
abbrev pub IsSome : {B : Type 0} → List B → Type 0
IsSome bs = bs ≡ [] → ⊥

module _ {A B : Type 0} (L : List ℕ → Lang A) (R : B → A → Type 0) (s : B → List Written) where
  pub one_or_more_again : (bs : List B) → IsSome bs → AllOf (λ c. Respelled L (R c) (s c)) bs → Respelled (λ text. OneOrMore (L text)) (Each R bs) (flat_map s bs)
  one_or_more_again [] some h = absurd (some refl)
  one_or_more_again (b ∷ bs) some h =
      respelled_as (flat_map s (b ∷ bs)) (record {
        good = written_append (s b) (joined s bs) h.0.good (many_good L R s bs h.1);
        again = bind_again h.0.again (λ a ea. last_again (λ xs. a ∷ xs) (many_again L R s bs h.1) (λ xs ex. (ea, ex)));
      }) (ap (λ (u : List Written). s b ++ u) (joined_flat s bs))

  behind_commas : (bs : List B) → AllOf (λ c. Respelled L (R c) (s c)) bs → AllOf (λ c. Respelled (λ text. Bind (Tok (symbol syms.Comma)) (λ t. L text)) (R c) (a_symbol syms.Comma ∷ s c)) bs
  behind_commas [] h = tt
  behind_commas (b ∷ bs) h = (record { good = (tt, h.0.good); again = bind_again (tok_again (symbol syms.Comma) (a_symbol syms.Comma) refl) (λ t k. h.0.again) }, behind_commas bs h.1)

  pub listed_again : (bs : List B) → IsSome bs → AllOf (λ c. Respelled L (R c) (s c)) bs → Respelled (λ text. Listed (L text)) (Each R bs) (listed s bs)
  listed_again [] some h = absurd (some refl)
  listed_again (b ∷ bs) some h =
      let others = behind_commas bs h.1 in
      respelled_as (listed s (b ∷ bs)) (record {
        good = written_append (s b) (joined (λ c. a_symbol syms.Comma ∷ s c) bs) h.0.good (many_good (λ text. Bind (Tok (symbol syms.Comma)) (λ t. L text)) R (λ c. a_symbol syms.Comma ∷ s c) bs others);
        again = bind_again h.0.again (λ a ea. last_again (λ xs. a ∷ xs) (many_again (λ text. Bind (Tok (symbol syms.Comma)) (λ t. L text)) R (λ c. a_symbol syms.Comma ∷ s c) bs others) (λ xs ex. (ea, ex)));
      }) (ap (λ (u : List Written). s b ++ u) (joined_listed s bs))

-- ---- numbers

-- an int whose number can be written
abbrev pub IsTextNumber : ℤ → Type 0
IsTextNumber (pos n) = n ≤ 1000000000
IsTextNumber (negsuc n) = suc n ≤ 1000000000

abbrev pub IntAgain : ℤ → Type 0
IntAgain v = Respelled (λ text. IntWords) (λ i. bare_int i ≡ int_of v) (int_spelling v)

pub int_again : (v : ℤ) → IsTextNumber v → IntAgain v
unfolding IntWords
int_again (pos n) h = record {
  good = (h, tt);
  again = right_again (last_again plain_int (tok_again numbers (digits n) refl) (λ t k. ap (λ (m : Kind). int_of (pos (number_in m))) k));
}
int_again (negsuc n) h = record {
  good = (tt, (h, tt));
  again = left_again (bind_again (tok_again (symbol syms.Minus) sign refl) (λ m k. last_again (λ t. negative_int m t) (tok_again numbers (digits (suc n)) refl) (λ t j. ap (λ (d : Kind). int_of (neg_ℤ (pos (number_in d)))) j)));
}

pub range_again : (r : RangeData) → IsTextNumber r.low → IsTextNumber r.high → Respelled (λ text. RangeWords) (λ x. bare_range x ≡ range_of r) (range_spelling r)
unfolding RangeWords
range_again r l h =
    let a = int_again r.low l in
    let b = int_again r.high h in
    record {
      good = written_append (int_spelling r.low) (a_symbol syms.DotDot ∷ int_spelling r.high) a.good (tt, b.good);
      again = bind_again a.again (λ x ex. bind_again (tok_again (symbol syms.DotDot) (a_symbol syms.DotDot) refl) (λ t k. last_again (λ y. range_text x y) b.again (λ y ey. (λ i. record { low = ex i; high = ey i }))));
    }

-- ---- names

pub name_again : (bytes : List ℕ) → IsNameText bytes → Respelled Named (λ x. bare_name x ≡ name_of bytes) (name_spelling bytes)
name_again bytes h = record {
  good = (h, tt);
  again = record { reads = λ text v st. (let x = (named_again bytes).reads text v st in (x.0, x.1, ap name_of x.2)) };
}

-- ---- boxes, attributes, parameters and sides

-- ints of which there is one at least, and which can be written
pub record CanWriteInts (vs : List ℤ) : Type 0 where
  pub some : IsSome vs
  pub small : AllOf IsTextNumber vs

ints_again : (vs : List ℤ) → CanWriteInts vs → Respelled (λ text. OneOrMore IntWords) (λ xs. map bare_int xs ≡ map int_of vs) (ints_spelling vs)
ints_again vs h =
    let r = one_or_more_again (λ text. IntWords) (λ v i. bare_int i ≡ int_of v) int_spelling vs h.some (all_as {P = IsTextNumber} {Q = IntAgain} int_again vs h.small) in
    record { good = r.good; again = record { reads = λ text v st. (let x = r.again.reads text v st in (x.0, x.1, each_map bare_int int_of vs x.0 x.2)) } }

pub record CanWriteBox (b : BoxData) : Type 0 where
  pub offsets : CanWriteInts b.offsets
  pub sizes : CanWriteInts b.sizes

box_again : (b : BoxData) → CanWriteBox b → Respelled (λ text. BoxWords) (λ x. bare_box x ≡ box_of b) (box_spelling b)
unfolding BoxWords
box_again b h =
    let os = ints_again b.offsets h.offsets in
    let ss = ints_again b.sizes h.sizes in
    record {
      good = (tt, written_append (ints_spelling b.offsets) (a_word keywords.Size ∷ ints_spelling b.sizes) os.good (tt, ss.good));
      again = bind_again (tok_again (word keywords.Box) (a_word keywords.Box) refl) (λ t k. bind_again os.again (λ x ex. bind_again (tok_again (word keywords.Size) (a_word keywords.Size) refl) (λ u j.
          last_again (λ y. box_tree t x y) ss.again (λ y ey. (λ i. record { place = 0; offsets = ex i; sizes = ey i })))));
    }

pub record CanWriteBoxes (bs : List BoxData) : Type 0 where
  pub some : IsSome bs
  pub each : AllOf CanWriteBox bs

pub boxes_again : (bs : List BoxData) → CanWriteBoxes bs → Respelled (λ text. OneOrMore BoxWords) (λ xs. map bare_box xs ≡ map box_of bs) (flat_map box_spelling bs)
boxes_again bs h =
    let r = one_or_more_again (λ text. BoxWords) (λ b x. bare_box x ≡ box_of b) box_spelling bs h.some (all_as {P = CanWriteBox} {Q = λ b. Respelled (λ text. BoxWords) (λ x. bare_box x ≡ box_of b) (box_spelling b)} box_again bs h.each) in
    record { good = r.good; again = record { reads = λ text v st. (let x = r.again.reads text v st in (x.0, x.1, each_map bare_box box_of bs x.0 x.2)) } }

pub record CanWriteRange (r : RangeData) : Type 0 where
  pub low : IsTextNumber r.low
  pub high : IsTextNumber r.high

pub record CanWriteRanges (rs : List RangeData) : Type 0 where
  pub some : IsSome rs
  pub each : AllOf CanWriteRange rs

pub ranges_again : (rs : List RangeData) → CanWriteRanges rs → Respelled (λ text. OneOrMore RangeWords) (λ xs. map bare_range xs ≡ map range_of rs) (ranges_spelling rs)
ranges_again rs h =
    let each = all_as {P = CanWriteRange} {Q = λ r. Respelled (λ text. RangeWords) (λ x. bare_range x ≡ range_of r) (range_spelling r)} (λ r c. range_again r c.low c.high) rs h.each in
    let r = one_or_more_again (λ text. RangeWords) (λ b x. bare_range x ≡ range_of b) range_spelling rs h.some each in
    record { good = r.good; again = record { reads = λ text v st. (let x = r.again.reads text v st in (x.0, x.1, each_map bare_range range_of rs x.0 x.2)) } }

-- pieces that can be written, in a text of version 2 or of version 1
abbrev pub CanWritePieces : Bool → List RangeData → Type 0
CanWritePieces true rs = CanWriteRanges rs
CanWritePieces false [] = ⊥
CanWritePieces false (r ∷ []) = CanWriteRange r
CanWritePieces false (r ∷ (s ∷ others)) = ⊥

abbrev PiecesAgain : Bool → List RangeData → Type 0
PiecesAgain second rs = Respelled (λ text. PiecesWords second) (λ xs. bare_pieces xs ≡ pieces_of rs) (pieces_spelling rs)

some_pieces_again : (rs : List RangeData) → CanWriteRanges rs → PiecesAgain true rs
unfolding PiecesWords
some_pieces_again rs h =
    let each = all_as {P = CanWriteRange} {Q = λ r. Respelled (λ text. RangeWords) (λ x. bare_range x ≡ range_of r) (range_spelling r)} (λ r c. range_again r c.low c.high) rs h.each in
    let r = listed_again (λ text. RangeWords) (λ b x. bare_range x ≡ range_of b) range_spelling rs h.some each in
    record { good = r.good; again = record { reads = λ text v st. (let x = r.again.reads text v st in (x.0, x.1, each_map bare_range range_of rs x.0 x.2)) } }

one_piece_again : (r : RangeData) → CanWriteRange r → PiecesAgain false (r ∷ [])
unfolding PiecesWords
one_piece_again r h =
    let a = range_again r h.low h.high in
    respelled_as (pieces_spelling (r ∷ [])) (record { good = a.good; again = last_again (λ x. x ∷ []) a.again (λ x ex. (λ i. ex i ∷ [])) }) (sym (append-nil (range_spelling r)))

pieces_again : (second : Bool) (rs : List RangeData) → CanWritePieces second rs → PiecesAgain second rs
pieces_again true rs h = some_pieces_again rs h
pieces_again false [] h = absurd h
pieces_again false (r ∷ []) h = one_piece_again r h
pieces_again false (r ∷ (s ∷ others)) h = absurd h

pub record CanWriteEachPieces (second : Bool) (ps : List (List RangeData)) : Type 0 where
  pub some : IsSome ps
  pub each : AllOf (CanWritePieces second) ps

pub each_pieces_again : (second : Bool) (ps : List (List RangeData)) → CanWriteEachPieces second ps → Respelled (λ text. OneOrMore (PiecesWords second)) (λ xs. map bare_pieces xs ≡ map pieces_of ps) (flat_map pieces_spelling ps)
each_pieces_again second ps h =
    let each = all_as {P = CanWritePieces second} {Q = PiecesAgain second} (pieces_again second) ps h.each in
    let r = one_or_more_again (λ text. PiecesWords second) (λ b x. bare_pieces x ≡ pieces_of b) pieces_spelling ps h.some each in
    record { good = r.good; again = record { reads = λ text v st. (let x = r.again.reads text v st in (x.0, x.1, each_map bare_pieces pieces_of ps x.0 x.2)) } }

pub record CanWriteAttribute (a : AttributeData) : Type 0 where
  pub name : IsNameText a.name
  pub value : IsTextNumber a.value

abbrev AttributeAgain : AttributeData → Type 0
AttributeAgain a = Respelled AttributeWords (λ x. bare_attribute x ≡ attribute_of a) (attribute_spelling a)

attribute_again : (a : AttributeData) → CanWriteAttribute a → AttributeAgain a
unfolding AttributeWords
attribute_again a h =
    let v = int_again a.value h.value in
    record {
      good = (h.name, (tt, v.good));
      again = bind_again (name_again a.name h.name).again (λ x ex. bind_again (tok_again (symbol syms.Equal) (a_symbol syms.Equal) refl) (λ t k. last_again (λ y. attribute_text x y) v.again (λ y ey. (λ i. record { name = ex i; value = ey i }))));
    }

nothing_less : {B : Type 0} (b : B) (bs : List B) → IsSome (b ∷ bs)
nothing_less b bs e = absurd cc

pub attributes_again : (vs : List AttributeData) → AllOf CanWriteAttribute vs → Respelled Attributes (λ xs. map bare_attribute xs ≡ map attribute_of vs) (attributes_spelling vs)
unfolding Attributes
attributes_again [] h = record { good = tt; again = missing_again _ [] refl }
attributes_again (a ∷ vs) h =
    let r = listed_again AttributeWords (λ b x. bare_attribute x ≡ attribute_of b) attribute_spelling (a ∷ vs) (nothing_less a vs) (all_as {P = CanWriteAttribute} {Q = AttributeAgain} attribute_again (a ∷ vs) h) in
    record {
      good = (tt, r.good);
      again = there_again [] (bind_again (tok_again (word keywords.With) (a_word keywords.With) refl) (λ t k.
          record { reads = λ text v st. (let x = r.again.reads text v st in (x.0, x.1, each_map bare_attribute attribute_of (a ∷ vs) x.0 x.2)) }));
    }

param_has : (k : ParamKind) → has param_words (class_of (kinds.Word (kind_word k))) ≡ true
param_has param_kinds.Int = refl
param_has param_kinds.Object = refl
param_has param_kinds.Box = refl

param_back : (k : ParamKind) → param_in (kinds.Word (kind_word k)) ≡ k
param_back param_kinds.Int = refl
param_back param_kinds.Object = refl
param_back param_kinds.Box = refl

abbrev ParamAgain : ParamData → Type 0
ParamAgain p = Respelled ParamWords (λ x. bare_param x ≡ param_of p) (param_spelling p)

abbrev pub CanWriteParam : ParamData → Type 0
CanWriteParam p = IsNameText p.name

param_again : (p : ParamData) → CanWriteParam p → ParamAgain p
unfolding ParamWords
param_again p h = record {
  good = (h, (tt, (tt, tt)));
  again = bind_again (name_again p.name h).again (λ x ex. bind_again (tok_again (symbol syms.Colon) (a_symbol syms.Colon) refl) (λ c k. last_again (λ t. param_text x t) (tok_again param_words (a_word (kind_word p.kind)) (param_has p.kind))
      (λ t j. (λ i. record { name = ex i; kind = (ap param_in j ∙ param_back p.kind) i }))));
}

param_list_again : (ps : List ParamData) → AllOf CanWriteParam ps → Respelled (λ text. Opt (Listed (ParamWords text)) []) (λ xs. map bare_param xs ≡ map param_of ps) (listed param_spelling ps)
param_list_again [] h = record { good = tt; again = missing_again _ [] refl }
param_list_again (p ∷ ps) h =
    let r = listed_again ParamWords (λ b x. bare_param x ≡ param_of b) param_spelling (p ∷ ps) (nothing_less p ps) (all_as {P = CanWriteParam} {Q = ParamAgain} param_again (p ∷ ps) h) in
    record { good = r.good; again = there_again [] (record { reads = λ text v st. (let x = r.again.reads text v st in (x.0, x.1, each_map bare_param param_of (p ∷ ps) x.0 x.2)) }) }

pub params_again : (ps : List ParamData) → AllOf CanWriteParam ps → Respelled Params (λ xs. map bare_param xs ≡ map param_of ps) (in_list (listed param_spelling ps))
unfolding Params
params_again ps h =
    let r = param_list_again ps h in
    record {
      good = in_list_written (listed param_spelling ps) r.good;
      again = bind_again (tok_again (symbol syms.ParenOpen) (a_symbol syms.ParenOpen) refl) (λ t k. bind_again r.again (λ xs ex. closing xs ex));
    }

side_again : (s : Side) → Respelled (λ text. SideWords) (λ x. bare_side x ≡ side_of s) (side_spelling s)
side_again Low = record { good = (tt, tt); again = last_again side_text (tok_again side_words (a_word keywords.Low) refl) (λ t k. ap (λ (d : Kind). side_of (side_in d)) k) }
side_again High = record { good = (tt, tt); again = last_again side_text (tok_again side_words (a_word keywords.High) refl) (λ t k. ap (λ (d : Kind). side_of (side_in d)) k) }

every_side : (ss : List Side) → AllOf (λ s. Respelled (λ text. SideWords) (λ x. bare_side x ≡ side_of s) (side_spelling s)) ss
every_side [] = tt
every_side (s ∷ ss) = (side_again s, every_side ss)

pub sides_again : (ss : List Side) → IsSome ss → Respelled (λ text. OneOrMore SideWords) (λ xs. map bare_side xs ≡ map side_of ss) (flat_map side_spelling ss)
sides_again ss some =
    let r = one_or_more_again (λ text. SideWords) (λ b x. bare_side x ≡ side_of b) side_spelling ss some (every_side ss) in
    record { good = r.good; again = record { reads = λ text v st. (let x = r.again.reads text v st in (x.0, x.1, each_map bare_side side_of ss x.0 x.2)) } }

-- ---- bodies of macros and rules

abbrev pub FormulaCanBeWritten : FormulaTree → Type 0
FormulaCanBeWritten f = Respelled (λ text. FormulaWords text 64) (λ g. bare_formula g ≡ bare_formula f) (formula_spelling ranks.Equivalence f)

abbrev pub ExprCanBeWritten : ExprTree → Type 0
ExprCanBeWritten e = Respelled (λ text. ExprWords text 64) (λ g. bare_expr g ≡ bare_expr e) (expr_spelling expr_ranks.Sum e)

abbrev pub CanWriteBody : BodyTree → Type 0
CanWriteBody (means f) = FormulaCanBeWritten f
CanWriteBody (equals e) = ExprCanBeWritten e

pub body_again : (b : BodyTree) → CanWriteBody b → Respelled (λ text. BodyWords text 64) (λ x. bare_body x ≡ bare_body b) (body_spelling b)
unfolding BodyWords
body_again (means f) h = record { good = (tt, h.good); again = left_again (bind_again (tok_again (word keywords.Means) (a_word keywords.Means) refl) (λ t k. last_again means h.again (λ g e. ap means e))) }
body_again (equals f) h = record { good = (tt, h.good); again = right_again (bind_again (tok_again (word keywords.Is) (a_word keywords.Is) refl) (λ t k. last_again equals h.again (λ g e. ap equals e))) }

abbrev pub CanWriteDemand : DemandData → Type 0
CanWriteDemand no_overlap = Unit {0}
CanWriteDemand (inside rs) = CanWriteRanges rs
CanWriteDemand (formula_demand f) = FormulaCanBeWritten f

pub demand_again : (d : DemandData) → CanWriteDemand d → Respelled (λ text. DemandWords text 64) (λ x. bare_demand x ≡ demand_of d) (demand_spelling d)
unfolding DemandWords
demand_again no_overlap h = record { good = (tt, tt); again = left_again (last_again (λ t. apart) (tok_again (word keywords.Apart) (a_word keywords.Apart) refl) (λ t k. refl)) }
demand_again (inside rs) h =
    let r = ranges_again rs h in
    record { good = (tt, r.good); again = right_again (left_again (bind_again (tok_again (word keywords.Within) (a_word keywords.Within) refl) (λ t k. last_again within r.again (λ xs ex. ap within ex)))) }
demand_again (formula_demand f) h = record { good = h.good; again = right_again (right_again (last_again plain h.again (λ g e. ap plain e))) }
