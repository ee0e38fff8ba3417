-- Statements and problems of two texts.
use Rattle.std.proofs.Common.{ℕ, List, [], Bool, true, false, refl}
use Rattle.geo_tokens.specs.declared.token.Keyword.TheVariants as keywords
use Rattle.geo_tokens.specs.declared.token.Sym.TheVariants as symbols
use Rattle.geo_tokens.specs.Words.{symbol, Lang}
use Rattle.rule_syntax.specs.Grammar.{ExprWords, FormulaWords}
use Rattle.problem_data.specs.Marks.{side_words, param_words}
use Rattle.problem_data.specs.Grammar.{OneOrMore, Listed, IntWords, RangeWords, BoxWords, ShapeWords, AttributeWords, Attributes, ShapesWords, PiecesWords, ObjectWords, OrderWords, SidesWords, ParamWords, Params, BodyWords, MacroWords, DemandWords, RuleWords, StatementWords}
use Rattle.accepted_fronts.proofs.Alike.{Alike, pure_alike, bind_alike, either_alike, opt_alike, many_alike, ended_alike, named_alike}
use Rattle.accepted_fronts.proofs.RuleParts.{kinds_alike, word_alike, symbol_alike, numbers_alike, expr_alike, formula_alike}

module _ {text other : List ℕ} where
  -- ---- lists

  module _ {A : Type 0} (L M : Lang A) (s : Alike text other L M) where
    one_or_more_alike : Alike text other (OneOrMore L) (OneOrMore M)
    one_or_more_alike = bind_alike L M _ _ s (λ a. bind_alike _ _ _ _ (many_alike L M s) (λ others. pure_alike _))

    listed_alike : Alike text other (Listed L) (Listed M)
    listed_alike = bind_alike L M _ _ s (λ a. bind_alike _ _ _ _ (many_alike _ _ (bind_alike _ _ _ _ (symbol_alike symbols.Comma refl) (λ mark. s))) (λ others. pure_alike _))

  -- ---- statements

  int_alike : Alike text other IntWords IntWords
  unfolding IntWords
  int_alike = either_alike _ _ _ _
      (bind_alike _ _ _ _ (symbol_alike symbols.Minus refl) (λ m. bind_alike _ _ _ _ numbers_alike (λ n. pure_alike _)))
      (bind_alike _ _ _ _ numbers_alike (λ n. pure_alike _))

  range_alike : Alike text other RangeWords RangeWords
  unfolding RangeWords
  range_alike = bind_alike _ _ _ _ int_alike (λ a. bind_alike _ _ _ _ (symbol_alike symbols.DotDot refl) (λ d. bind_alike _ _ _ _ int_alike (λ b. pure_alike _)))

  pieces_alike : (second : Bool) → Alike text other (PiecesWords second) (PiecesWords second)
  unfolding PiecesWords
  pieces_alike false = bind_alike _ _ _ _ range_alike (λ r. pure_alike _)
  pieces_alike true = listed_alike _ _ range_alike

  box_alike : Alike text other BoxWords BoxWords
  unfolding BoxWords
  box_alike = bind_alike _ _ _ _ (word_alike keywords.Box refl) (λ b. bind_alike _ _ _ _ (one_or_more_alike _ _ int_alike) (λ os. bind_alike _ _ _ _ (word_alike keywords.Size refl) (λ c. bind_alike _ _ _ _ (one_or_more_alike _ _ int_alike) (λ ss. pure_alike _))))

  sides_alike : Alike text other SidesWords SidesWords
  unfolding SidesWords
  sides_alike = bind_alike _ _ _ _ (word_alike keywords.Sides refl) (λ t. bind_alike _ _ _ _
      (one_or_more_alike _ _ (bind_alike _ _ _ _ (kinds_alike side_words refl) (λ u. pure_alike _)))
      (λ ss. bind_alike _ _ _ _ (symbol_alike symbols.Semicolon refl) (λ e. pure_alike _)))

  shape_alike : Alike text other (ShapeWords text) (ShapeWords other)
  unfolding ShapeWords
  shape_alike = bind_alike _ _ _ _ (word_alike keywords.Shape refl) (λ t. bind_alike _ _ _ _ named_alike (λ a. bind_alike _ _ _ _ (one_or_more_alike _ _ box_alike) (λ bs. bind_alike _ _ _ _ (symbol_alike symbols.Semicolon refl) (λ e. pure_alike _))))

  attribute_alike : Alike text other (AttributeWords text) (AttributeWords other)
  unfolding AttributeWords
  attribute_alike = bind_alike _ _ _ _ named_alike (λ a. bind_alike _ _ _ _ (symbol_alike symbols.Equal refl) (λ e. bind_alike _ _ _ _ int_alike (λ v. pure_alike _)))

  attributes_alike : Alike text other (Attributes text) (Attributes other)
  unfolding Attributes
  attributes_alike = opt_alike _ _ [] (bind_alike _ _ _ _ (word_alike keywords.With refl) (λ t. listed_alike _ _ attribute_alike))

  shapes_alike : (second : Bool) → Alike text other (ShapesWords text second) (ShapesWords other second)
  unfolding ShapesWords
  shapes_alike false = bind_alike _ _ _ _ (listed_alike _ _ named_alike) (λ ss. pure_alike _)
  shapes_alike true = bind_alike _ _ _ _ named_alike (λ a. bind_alike _ _ _ _
      (ended_alike (symbol symbols.Comma) _ _ _ _ refl named_alike (bind_alike _ _ _ _ (word_alike keywords.Absent refl) (λ t. pure_alike _))) (λ r. pure_alike _))

  object_alike : (second : Bool) → Alike text other (ObjectWords text second) (ObjectWords other second)
  unfolding ObjectWords
  object_alike second =
      bind_alike _ _ _ _ (word_alike keywords.Object refl) (λ t. bind_alike _ _ _ _ named_alike (λ a.
      bind_alike _ _ _ _ (word_alike keywords.As refl) (λ u. bind_alike _ _ _ _ (shapes_alike second) (λ ss.
      bind_alike _ _ _ _ (word_alike keywords.At refl) (λ v. bind_alike _ _ _ _ (one_or_more_alike _ _ (pieces_alike second)) (λ ps.
      bind_alike _ _ _ _ attributes_alike (λ vs. bind_alike _ _ _ _ (symbol_alike symbols.Semicolon refl) (λ e. pure_alike _))))))))

  order_alike : Alike text other (OrderWords text) (OrderWords other)
  unfolding OrderWords
  order_alike = bind_alike _ _ _ _ (word_alike keywords.Order refl) (λ t. bind_alike _ _ _ _ (listed_alike _ _ named_alike) (λ ns. bind_alike _ _ _ _ (symbol_alike symbols.Semicolon refl) (λ e. pure_alike _)))

  param_alike : Alike text other (ParamWords text) (ParamWords other)
  unfolding ParamWords
  param_alike = bind_alike _ _ _ _ named_alike (λ a. bind_alike _ _ _ _ (symbol_alike symbols.Colon refl) (λ c. bind_alike _ _ _ _ (kinds_alike param_words refl) (λ t. pure_alike _)))

  params_alike : Alike text other (Params text) (Params other)
  unfolding Params
  params_alike = bind_alike _ _ _ _ (symbol_alike symbols.ParenOpen refl) (λ t. bind_alike _ _ _ _ (opt_alike _ _ [] (listed_alike _ _ param_alike)) (λ ps. bind_alike _ _ _ _ (symbol_alike symbols.ParenClose refl) (λ u. pure_alike _)))

  -- ---- what formulas and expressions stand in

  module _ (n : ℕ) where
    body_alike : Alike text other (BodyWords text n) (BodyWords other n)
    unfolding BodyWords
    body_alike = either_alike _ _ _ _
        (bind_alike _ _ _ _ (word_alike keywords.Means refl) (λ t. bind_alike (FormulaWords text n) (FormulaWords other n) _ _ (formula_alike n) (λ f. pure_alike _)))
        (bind_alike _ _ _ _ (word_alike keywords.Is refl) (λ t. bind_alike (ExprWords text n) (ExprWords other n) _ _ (expr_alike n) (λ e. pure_alike _)))

    macro_alike : Alike text other (MacroWords text n) (MacroWords other n)
    unfolding MacroWords
    macro_alike = bind_alike _ _ _ _ (word_alike keywords.Macro refl) (λ t. bind_alike _ _ _ _ named_alike (λ a. bind_alike _ _ _ _ params_alike (λ ps. bind_alike _ _ _ _ body_alike (λ b. bind_alike _ _ _ _ (symbol_alike symbols.Semicolon refl) (λ e. pure_alike _)))))

    demand_alike : Alike text other (DemandWords text n) (DemandWords other n)
    unfolding DemandWords
    demand_alike = either_alike _ _ _ _ (bind_alike _ _ _ _ (word_alike keywords.Apart refl) (λ t. pure_alike _))
        (either_alike _ _ _ _ (bind_alike _ _ _ _ (word_alike keywords.Within refl) (λ t. bind_alike _ _ _ _ (one_or_more_alike _ _ range_alike) (λ rs. pure_alike _)))
        (bind_alike (FormulaWords text n) (FormulaWords other n) _ _ (formula_alike n) (λ f. pure_alike _)))

    rule_alike : Alike text other (RuleWords text n) (RuleWords other n)
    unfolding RuleWords
    rule_alike = bind_alike _ _ _ _ (word_alike keywords.Rule refl) (λ t. bind_alike _ _ _ _ named_alike (λ a. bind_alike _ _ _ _ (symbol_alike symbols.Colon refl) (λ c. bind_alike _ _ _ _ demand_alike (λ d. bind_alike _ _ _ _ (symbol_alike symbols.Semicolon refl) (λ e. pure_alike _)))))

    pub statement_alike : (second : Bool) → Alike text other (StatementWords text n second) (StatementWords other n second)
    unfolding StatementWords
    statement_alike second = either_alike _ _ _ _ shape_alike (either_alike _ _ _ _ (object_alike second) (either_alike _ _ _ _ order_alike (either_alike _ _ _ _ sides_alike (either_alike _ _ _ _ macro_alike rule_alike))))
