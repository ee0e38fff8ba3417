-- The grammar of problems with one level more, and reading a problem up to a limit of levels.
use Rattle.std.proofs.Common.{ℕ, suc, List, [], ◌∷◌, Bool, true, false, refl}
use Rattle.geo_tokens.specs.declared.token.Token.{Token}
use Rattle.geo_tokens.specs.declared.token.Kind.{Kind}
use Rattle.geo_tokens.specs.declared.token.Kind.TheVariants as kinds
use Rattle.geo_tokens.specs.declared.token.Keyword.{Keyword}
use Rattle.geo_tokens.specs.declared.token.Keyword.TheVariants as keywords
use Rattle.geo_tokens.specs.declared.token.Sym.{Sym}
use Rattle.geo_tokens.specs.declared.token.Sym.TheVariants as symbols
use Rattle.geo_tokens.specs.Class.{class_of}
use Rattle.geo_tokens.specs.Words.{numbers, word, symbol, Lang, Tok}
use Rattle.geo_tokens.specs.Deep.{IsReading}
use Rattle.geo_tokens.proofs.Levels.{is_reading}
use Rattle.geo_tokens.proofs.OneToken.{of_kind, has_self}
use Rattle.rule_syntax.specs.Grammar.{Named, ExprWords, FormulaWords}
use Rattle.rule_reading.proofs.Steps.{Step, tok_step, pure_step, bind_step, either_step, opt_step, many_step, ended_step, steps_split}
use Rattle.rule_reading.proofs.Limits.{expr_step, formula_step}
use Rattle.problem_data.specs.Marks.{side_words, param_words}
use Rattle.problem_data.specs.Grammar.{OneOrMore, Listed, IntWords, RangeWords, BoxWords, ShapeWords, AttributeWords, Attributes, ShapesWords, PiecesWords, is_second, ObjectWords, OrderWords, SidesWords, ParamWords, Params, BodyWords, MacroWords, DemandWords, RuleWords, StatementWords, ProblemWords}
use Rattle.problem_syntax.specs.Reading.{problem_at}
use Rattle.problem_syntax.proofs.Right.{problem_good}

-- ---- one token

kind_step : (k : Kind) → Step (Tok (class_of k ∷ [])) (Tok (class_of k ∷ []))
kind_step k = tok_step (class_of k ∷ []) (of_kind k) (has_self k)

pub word_step : (k : Keyword) → Step (Tok (word k)) (Tok (word k))
word_step k = kind_step (kinds.Word k)

pub symbol_step : (s : Sym) → Step (Tok (symbol s)) (Tok (symbol s))
symbol_step s = kind_step (kinds.Symbol s)

pub number_step : Step (Tok numbers) (Tok numbers)
number_step = kind_step (kinds.Number 0)

pub named_step : (text : List ℕ) → Step (Named text) (Named text)
named_step text = bind_step _ _ _ _ (kind_step kinds.Name) (λ t. pure_step _)

-- ---- lists

module _ {A : Type 0} (L M : Lang A) (s : Step L M) where
  pub one_or_more_step : Step (OneOrMore L) (OneOrMore M)
  one_or_more_step = bind_step L M _ _ s (λ a. bind_step _ _ _ _ (many_step L M s) (λ others. pure_step _))

  pub listed_step : Step (Listed L) (Listed M)
  listed_step = bind_step L M _ _ s (λ a. bind_step _ _ _ _ (many_step _ _ (bind_step _ _ _ _ (symbol_step symbols.Comma) (λ mark. s))) (λ others. pure_step _))

-- ---- statements that open no level

pub int_step : Step IntWords IntWords
unfolding IntWords
int_step = either_step _ _ _ _
    (bind_step _ _ _ _ (symbol_step symbols.Minus) (λ m. bind_step _ _ _ _ number_step (λ n. pure_step _)))
    (bind_step _ _ _ _ number_step (λ n. pure_step _))

pub range_step : Step RangeWords RangeWords
unfolding RangeWords
range_step = bind_step _ _ _ _ int_step (λ a. bind_step _ _ _ _ (symbol_step symbols.DotDot) (λ d. bind_step _ _ _ _ int_step (λ b. pure_step _)))

pieces_step : (second : Bool) → Step (PiecesWords second) (PiecesWords second)
unfolding PiecesWords
pieces_step false = bind_step _ _ _ _ range_step (λ r. pure_step _)
pieces_step true = listed_step _ _ range_step

box_step : Step BoxWords BoxWords
unfolding BoxWords
box_step = bind_step _ _ _ _ (word_step keywords.Box) (λ b. bind_step _ _ _ _ (one_or_more_step _ _ int_step) (λ os. bind_step _ _ _ _ (word_step keywords.Size) (λ c. bind_step _ _ _ _ (one_or_more_step _ _ int_step) (λ ss. pure_step _))))

sides_step : Step SidesWords SidesWords
unfolding SidesWords
sides_step = bind_step _ _ _ _ (word_step keywords.Sides) (λ t. bind_step _ _ _ _
    (one_or_more_step _ _ (bind_step _ _ _ _ (tok_step side_words (of_kind (kinds.Word keywords.Low)) refl) (λ u. pure_step _)))
    (λ ss. bind_step _ _ _ _ (symbol_step symbols.Semicolon) (λ e. pure_step _)))

module _ (text : List ℕ) where
  shape_step : Step (ShapeWords text) (ShapeWords text)
  unfolding ShapeWords
  shape_step = bind_step _ _ _ _ (word_step keywords.Shape) (λ t. bind_step _ _ _ _ (named_step text) (λ a. bind_step _ _ _ _ (one_or_more_step _ _ box_step) (λ bs. bind_step _ _ _ _ (symbol_step symbols.Semicolon) (λ e. pure_step _))))

  attribute_step : Step (AttributeWords text) (AttributeWords text)
  unfolding AttributeWords
  attribute_step = bind_step _ _ _ _ (named_step text) (λ a. bind_step _ _ _ _ (symbol_step symbols.Equal) (λ e. bind_step _ _ _ _ int_step (λ v. pure_step _)))

  attributes_step : Step (Attributes text) (Attributes text)
  unfolding Attributes
  attributes_step = opt_step _ _ [] (bind_step _ _ _ _ (word_step keywords.With) (λ t. listed_step _ _ attribute_step))

  shapes_step : (second : Bool) → Step (ShapesWords text second) (ShapesWords text second)
  unfolding ShapesWords
  shapes_step false = bind_step _ _ _ _ (listed_step _ _ (named_step text)) (λ ss. pure_step _)
  shapes_step true = bind_step _ _ _ _ (named_step text) (λ a. bind_step _ _ _ _
      (ended_step (symbol symbols.Comma) _ _ _ _ (of_kind (kinds.Symbol symbols.Comma)) (has_self (kinds.Symbol symbols.Comma)) (named_step text) (bind_step _ _ _ _ (word_step keywords.Absent) (λ t. pure_step _))) (λ r. pure_step _))

  object_step : (second : Bool) → Step (ObjectWords text second) (ObjectWords text second)
  unfolding ObjectWords
  object_step second =
      bind_step _ _ _ _ (word_step keywords.Object) (λ t. bind_step _ _ _ _ (named_step text) (λ a.
      bind_step _ _ _ _ (word_step keywords.As) (λ u. bind_step _ _ _ _ (shapes_step second) (λ ss.
      bind_step _ _ _ _ (word_step keywords.At) (λ v. bind_step _ _ _ _ (one_or_more_step _ _ (pieces_step second)) (λ ps.
      bind_step _ _ _ _ attributes_step (λ vs. bind_step _ _ _ _ (symbol_step symbols.Semicolon) (λ e. pure_step _))))))))

  order_step : Step (OrderWords text) (OrderWords text)
  unfolding OrderWords
  order_step = bind_step _ _ _ _ (word_step keywords.Order) (λ t. bind_step _ _ _ _ (listed_step _ _ (named_step text)) (λ ns. bind_step _ _ _ _ (symbol_step symbols.Semicolon) (λ e. pure_step _)))

  param_step : Step (ParamWords text) (ParamWords text)
  unfolding ParamWords
  param_step = bind_step _ _ _ _ (named_step text) (λ a. bind_step _ _ _ _ (symbol_step symbols.Colon) (λ c. bind_step _ _ _ _ (tok_step param_words (of_kind (kinds.Word keywords.Int)) refl) (λ t. pure_step _)))

  params_step : Step (Params text) (Params text)
  unfolding Params
  params_step = bind_step _ _ _ _ (symbol_step symbols.ParenOpen) (λ t. bind_step _ _ _ _ (opt_step _ _ [] (listed_step _ _ param_step)) (λ ps. bind_step _ _ _ _ (symbol_step symbols.ParenClose) (λ u. pure_step _)))

  -- ---- what formulas and expressions stand in

  module _ (n : ℕ) where
    body_step : Step (BodyWords text n) (BodyWords text (suc n))
    unfolding BodyWords
    body_step = either_step _ _ _ _
        (bind_step _ _ _ _ (word_step keywords.Means) (λ t. bind_step (FormulaWords text n) (FormulaWords text (suc n)) _ _ (formula_step text n) (λ f. pure_step _)))
        (bind_step _ _ _ _ (word_step keywords.Is) (λ t. bind_step (ExprWords text n) (ExprWords text (suc n)) _ _ (expr_step text n) (λ e. pure_step _)))

    macro_step : Step (MacroWords text n) (MacroWords text (suc n))
    unfolding MacroWords
    macro_step = bind_step _ _ _ _ (word_step keywords.Macro) (λ t. bind_step _ _ _ _ (named_step text) (λ a. bind_step _ _ _ _ params_step (λ ps. bind_step _ _ _ _ body_step (λ b. bind_step _ _ _ _ (symbol_step symbols.Semicolon) (λ e. pure_step _)))))

    demand_step : Step (DemandWords text n) (DemandWords text (suc n))
    unfolding DemandWords
    demand_step = either_step _ _ _ _ (bind_step _ _ _ _ (word_step keywords.Apart) (λ t. pure_step _))
        (either_step _ _ _ _ (bind_step _ _ _ _ (word_step keywords.Within) (λ t. bind_step _ _ _ _ (one_or_more_step _ _ range_step) (λ rs. pure_step _)))
        (bind_step (FormulaWords text n) (FormulaWords text (suc n)) _ _ (formula_step text n) (λ f. pure_step _)))

    rule_step : Step (RuleWords text n) (RuleWords text (suc n))
    unfolding RuleWords
    rule_step = bind_step _ _ _ _ (word_step keywords.Rule) (λ t. bind_step _ _ _ _ (named_step text) (λ a. bind_step _ _ _ _ (symbol_step symbols.Colon) (λ c. bind_step _ _ _ _ demand_step (λ d. bind_step _ _ _ _ (symbol_step symbols.Semicolon) (λ e. pure_step _)))))

    statement_step : (second : Bool) → Step (StatementWords text n second) (StatementWords text (suc n) second)
    unfolding StatementWords
    statement_step second = either_step _ _ _ _ shape_step (either_step _ _ _ _ (object_step second) (either_step _ _ _ _ order_step (either_step _ _ _ _ sides_step (either_step _ _ _ _ macro_step rule_step))))

    problem_step : Step (ProblemWords text n) (ProblemWords text (suc n))
    unfolding ProblemWords
    problem_step =
        bind_step _ _ _ _ (word_step keywords.Geost) (λ a. bind_step _ _ _ _ number_step (λ v.
        bind_step _ _ _ _ (word_step keywords.Dims) (λ b. bind_step _ _ _ _ number_step (λ d.
        bind_step _ _ _ _ (many_step (StatementWords text n (is_second v)) (StatementWords text (suc n) (is_second v)) (statement_step (is_second v))) (λ ss. bind_step _ _ _ _ (word_step keywords.End) (λ e. pure_step _))))))

  -- what reading a problem gives
  pub problem_reading : (n : ℕ) (w : List Token) → IsReading (ProblemWords text) n w (problem_at text n w)
  problem_reading n w = is_reading (ProblemWords text) n _ _ (problem_good text n).facts (λ m. steps_split (ProblemWords text) problem_step m n) (problem_step n).above w (problem_at text n w) ((problem_good text n).reads w)
