-- Each reader of statements reads its language.
use Rattle.std.proofs.Common.{◌≡◌, ℕ, List, [], ◌++◌, Bool, true, false, refl}
use Rattle.geo_tokens.specs.declared.token.Token.{Token}
use Rattle.geo_tokens.specs.declared.token.Kind.TheVariants as kinds
use Rattle.geo_tokens.specs.declared.token.Keyword.TheVariants as keywords
use Rattle.geo_tokens.specs.declared.token.Sym.TheVariants as symbols
use Rattle.geo_tokens.specs.Words.{Kinds, names, numbers, word, symbol, Lang, Bind, Tok}
use Rattle.geo_tokens.specs.Reading.{Read}
use Rattle.geo_tokens.proofs.Lists.{disjoint}
use Rattle.geo_tokens.proofs.Good.{Good, pure_good, one_good, bind_good, either_good, opt_good, many_good, wider_good}
use Rattle.geo_tokens.proofs.Ended.{ended_good}
use Rattle.geo_tokens.proofs.OneToken.{of_kind, has_self, number_good, word_good, symbol_good}
use Rattle.rule_syntax.proofs.Expressions.{named_good, expr_good}
use Rattle.rule_reading.proofs.Formulas.{formula_good}
use Rattle.rule_syntax.specs.Marks.{unary_firsts, expr_behinds, formula_behinds}
use Rattle.rule_syntax.specs.Grammar.{Named}
use Rattle.rule_syntax.specs.Reading.{named_at}
use Rattle.problem_data.specs.Marks.{int_firsts, side_words, param_words, statement_firsts}
use Rattle.problem_data.specs.Grammar.{OneOrMore, Listed, PlainInt, NegativeInt, IntWords, RangeWords, BoxWords, ShapeWords, AttributeWords, Attributes, AbsentWord, ShapesWords, PiecesWords, is_second, ObjectWords, OrderWords, SideWords, SidesWords, ParamWords, Params, BodyWords, MacroWords, DemandWords, RuleWords, StatementWords, ProblemWords}
use Rattle.problem_syntax.specs.Reading.{one_or_more_at, next_at, listed_at, plain_int_at, negative_int_at, int_at, ints_at, range_at, ranges_at, box_at, boxes_at, names_at, shape_at, attribute_at, attribute_list_at, attributes_at, absent_at, shapes_at, pieces_at, each_pieces_at, object_at, order_at, side_at, side_list_at, sides_at, param_at, param_list_at, params_at, body_at, macro_at, demand_at, rule_at, statement_at, problem_at}

-- ---- lists

pub one_or_more_good : {A : Type 0} {L : Lang A} {r : List Token → Read A} {f e : Kinds} → disjoint e f ≡ true → disjoint e (f ++ []) ≡ true → disjoint (f ++ e) [] ≡ true → Good L r false f e → Good (OneOrMore L) (one_or_more_at f r) false (f ++ []) ((f ++ e) ++ e)
one_or_more_good d g i l = bind_good g l (λ a. bind_good i (many_good d l) (λ others. pure_good _))

-- what stands behind a comma
pub next_good : {A : Type 0} {L : Lang A} {r : List Token → Read A} {f : Kinds} → Good L r false f [] → Good (Bind (Tok (symbol symbols.Comma)) (λ mark. L)) (next_at r) false (symbol symbols.Comma) []
next_good l = bind_good refl (symbol_good symbols.Comma) (λ mark. l)

listed_good : {A : Type 0} {L : Lang A} {r : List Token → Read A} {f : Kinds} → Good L r false f [] → Good (Listed L) (listed_at r) false (f ++ []) (symbol symbols.Comma)
listed_good l = bind_good refl l (λ a. bind_good refl (many_good refl (next_good l)) (λ others. pure_good _))

-- ---- numbers, ranges and boxes

plain_int_good : Good PlainInt plain_int_at false numbers []
plain_int_good = bind_good refl number_good (λ n. pure_good _)

negative_int_good : Good NegativeInt negative_int_at false (symbol symbols.Minus) []
negative_int_good = bind_good refl (symbol_good symbols.Minus) (λ m. bind_good refl number_good (λ n. pure_good _))

pub int_good : Good IntWords int_at false int_firsts []
unfolding IntWords int_at
int_good = either_good refl negative_int_good plain_int_good

pub ints_good : Good (OneOrMore IntWords) ints_at false int_firsts int_firsts
unfolding ints_at
ints_good = one_or_more_good refl refl refl int_good

pub range_good : Good RangeWords range_at false int_firsts []
unfolding RangeWords range_at
range_good = bind_good refl int_good (λ a. bind_good refl (symbol_good symbols.DotDot) (λ d. bind_good refl int_good (λ b. pure_good _)))

ranges_good : Good (OneOrMore RangeWords) ranges_at false int_firsts int_firsts
unfolding ranges_at
ranges_good = one_or_more_good refl refl refl range_good

-- what stands behind a comma, and the pieces of a range
pub next_range_good : Good (Bind (Tok (symbol symbols.Comma)) (λ mark. RangeWords)) (next_at range_at) false (symbol symbols.Comma) []
next_range_good = next_good range_good

pub pieces_good : (second : Bool) → Good (PiecesWords second) (pieces_at second) false int_firsts (symbol symbols.Comma)
unfolding PiecesWords pieces_at
pieces_good false = wider_good int_firsts (symbol symbols.Comma) refl refl refl (bind_good refl range_good (λ r. pure_good _))
pieces_good true = listed_good range_good

each_pieces_good : (second : Bool) → Good (OneOrMore (PiecesWords second)) (each_pieces_at second) false int_firsts (int_firsts ++ symbol symbols.Comma)
unfolding each_pieces_at
each_pieces_good second = wider_good int_firsts (int_firsts ++ symbol symbols.Comma) refl refl refl (one_or_more_good refl refl refl (pieces_good second))

pub box_good : Good BoxWords box_at false (word keywords.Box) int_firsts
unfolding BoxWords box_at
box_good = bind_good refl (word_good keywords.Box) (λ b. bind_good refl ints_good (λ os. bind_good refl (word_good keywords.Size) (λ c. bind_good refl ints_good (λ ss. pure_good _))))

boxes_good : Good (OneOrMore BoxWords) boxes_at false (word keywords.Box) (word keywords.Box ++ (int_firsts ++ int_firsts))
unfolding boxes_at
boxes_good = one_or_more_good refl refl refl box_good

-- ---- statements

pub absent_good : Good AbsentWord absent_at false (word keywords.Absent) []
absent_good = bind_good refl (word_good keywords.Absent) (λ t. pure_good _)

module _ (text : List ℕ) where
  pub next_name_good : Good (Bind (Tok (symbol symbols.Comma)) (λ mark. Named text)) (next_at (named_at text)) false (symbol symbols.Comma) []
  next_name_good = next_good (named_good text)

  names_good : Good (Listed (Named text)) (names_at text) false names (symbol symbols.Comma)
  unfolding names_at
  names_good = listed_good (named_good text)

  shape_good : Good (ShapeWords text) (shape_at text) false (word keywords.Shape) []
  unfolding ShapeWords shape_at
  shape_good = bind_good refl (word_good keywords.Shape) (λ t. bind_good refl (named_good text) (λ a. bind_good refl boxes_good (λ bs. bind_good refl (symbol_good symbols.Semicolon) (λ e. pure_good _))))

  attribute_good : Good (AttributeWords text) (attribute_at text) false names []
  unfolding AttributeWords attribute_at
  attribute_good = bind_good refl (named_good text) (λ a. bind_good refl (symbol_good symbols.Equal) (λ e. bind_good refl int_good (λ v. pure_good _)))

  pub next_attribute_good : Good (Bind (Tok (symbol symbols.Comma)) (λ mark. AttributeWords text)) (next_at (attribute_at text)) false (symbol symbols.Comma) []
  next_attribute_good = next_good attribute_good

  attribute_list_good : Good (Listed (AttributeWords text)) (attribute_list_at text) false names (symbol symbols.Comma)
  unfolding attribute_list_at
  attribute_list_good = listed_good attribute_good

  attributes_good : Good (Attributes text) (attributes_at text) true (word keywords.With) (word keywords.With ++ symbol symbols.Comma)
  unfolding Attributes attributes_at
  attributes_good = opt_good [] (bind_good refl (word_good keywords.With) (λ t. attribute_list_good))

  shapes_good : (second : Bool) → Good (ShapesWords text second) (shapes_at text second) false names (symbol symbols.Comma)
  unfolding ShapesWords shapes_at
  shapes_good false = wider_good names (symbol symbols.Comma) refl refl refl (bind_good refl names_good (λ ss. pure_good _))
  shapes_good true = wider_good names (symbol symbols.Comma) refl refl refl (bind_good refl (named_good text) (λ a. bind_good refl
      (ended_good (symbol symbols.Comma) (of_kind (kinds.Symbol symbols.Comma)) (has_self (kinds.Symbol symbols.Comma)) refl refl (named_good text) absent_good) (λ r. pure_good _)))

  object_good : (second : Bool) → Good (ObjectWords text second) (object_at text second) false (word keywords.Object) []
  unfolding ObjectWords object_at
  object_good second =
      bind_good refl (word_good keywords.Object) (λ t. bind_good refl (named_good text) (λ a.
      bind_good refl (word_good keywords.As) (λ u. bind_good refl (shapes_good second) (λ ss.
      bind_good refl (word_good keywords.At) (λ v. bind_good refl (each_pieces_good second) (λ ps.
      bind_good refl attributes_good (λ vs. bind_good refl (symbol_good symbols.Semicolon) (λ e. pure_good _))))))))

  order_good : Good (OrderWords text) (order_at text) false (word keywords.Order) []
  unfolding OrderWords order_at
  order_good = bind_good refl (word_good keywords.Order) (λ t. bind_good refl names_good (λ ns. bind_good refl (symbol_good symbols.Semicolon) (λ e. pure_good _)))

pub side_good : Good SideWords side_at false side_words []
side_good = bind_good refl (one_good side_words _ (of_kind (kinds.Word keywords.Low)) refl) (λ t. pure_good _)

side_list_good : Good (OneOrMore SideWords) side_list_at false side_words side_words
unfolding side_list_at
side_list_good = one_or_more_good refl refl refl side_good

sides_good : Good SidesWords sides_at false (word keywords.Sides) []
unfolding SidesWords sides_at
sides_good = bind_good refl (word_good keywords.Sides) (λ t. bind_good refl side_list_good (λ ss. bind_good refl (symbol_good symbols.Semicolon) (λ e. pure_good _)))

module _ (text : List ℕ) where
  param_good : Good (ParamWords text) (param_at text) false names []
  unfolding ParamWords param_at
  param_good = bind_good refl (named_good text) (λ a. bind_good refl (symbol_good symbols.Colon) (λ c. bind_good refl (one_good param_words _ (of_kind (kinds.Word keywords.Int)) refl) (λ t. pure_good _)))

  pub next_param_good : Good (Bind (Tok (symbol symbols.Comma)) (λ mark. ParamWords text)) (next_at (param_at text)) false (symbol symbols.Comma) []
  next_param_good = next_good param_good

  param_list_good : Good (Listed (ParamWords text)) (param_list_at text) false names (symbol symbols.Comma)
  unfolding param_list_at
  param_list_good = listed_good param_good

  params_good : Good (Params text) (params_at text) false (symbol symbols.ParenOpen) []
  unfolding Params params_at
  params_good = bind_good refl (symbol_good symbols.ParenOpen) (λ t. bind_good refl (opt_good [] param_list_good) (λ ps. bind_good refl (symbol_good symbols.ParenClose) (λ u. pure_good _)))

  body_good : (n : ℕ) → Good (BodyWords text n) (body_at text n) false (word keywords.Means ++ word keywords.Is) (formula_behinds ++ expr_behinds)
  unfolding BodyWords body_at
  body_good n = either_good refl
      (bind_good refl (word_good keywords.Means) (λ t. bind_good refl (formula_good text n) (λ f. pure_good _)))
      (bind_good refl (word_good keywords.Is) (λ t. bind_good refl (expr_good text n) (λ e. pure_good _)))

  macro_good : (n : ℕ) → Good (MacroWords text n) (macro_at text n) false (word keywords.Macro) []
  unfolding MacroWords macro_at
  macro_good n = bind_good refl (word_good keywords.Macro) (λ t. bind_good refl (named_good text) (λ a. bind_good refl params_good (λ ps. bind_good refl (body_good n) (λ b. bind_good refl (symbol_good symbols.Semicolon) (λ e. pure_good _)))))

  demand_good : (n : ℕ) → Good (DemandWords text n) (demand_at text n) false (word keywords.Apart ++ (word keywords.Within ++ unary_firsts)) (int_firsts ++ formula_behinds)
  unfolding DemandWords demand_at
  demand_good n = either_good refl (bind_good refl (word_good keywords.Apart) (λ t. pure_good _))
      (either_good refl (bind_good refl (word_good keywords.Within) (λ t. bind_good refl ranges_good (λ rs. pure_good _)))
      (bind_good refl (formula_good text n) (λ f. pure_good _)))

  rule_good : (n : ℕ) → Good (RuleWords text n) (rule_at text n) false (word keywords.Rule) []
  unfolding RuleWords rule_at
  rule_good n = bind_good refl (word_good keywords.Rule) (λ t. bind_good refl (named_good text) (λ a. bind_good refl (symbol_good symbols.Colon) (λ c. bind_good refl (demand_good n) (λ d. bind_good refl (symbol_good symbols.Semicolon) (λ e. pure_good _)))))

  -- ---- the whole text

  pub statement_good : (n : ℕ) (second : Bool) → Good (StatementWords text n second) (statement_at text n second) false statement_firsts []
  unfolding StatementWords statement_at
  statement_good n second =
      either_good refl (shape_good text) (either_good refl (object_good text second) (either_good refl (order_good text)
      (either_good refl sides_good (either_good refl (macro_good n) (rule_good n)))))

  pub problem_good : (n : ℕ) → Good (ProblemWords text n) (problem_at text n) false (word keywords.Geost) []
  unfolding ProblemWords problem_at
  problem_good n =
      bind_good refl (word_good keywords.Geost) (λ a. bind_good refl number_good (λ v.
      bind_good refl (word_good keywords.Dims) (λ b. bind_good refl number_good (λ d.
      bind_good refl (many_good refl (statement_good n (is_second v))) (λ ss. bind_good refl (word_good keywords.End) (λ e. pure_good _))))))
