-- The grammar of layout texts is the same at each number of levels.
use Rattle.std.proofs.Common.{ℕ, suc, List, None}
use Rattle.geo_tokens.specs.declared.token.Token.{Token}
use Rattle.geo_tokens.specs.declared.token.Keyword.TheVariants as keywords
use Rattle.geo_tokens.specs.declared.token.Sym.TheVariants as symbols
use Rattle.geo_tokens.specs.Deep.{IsReading}
use Rattle.geo_tokens.proofs.Levels.{is_reading}
use Rattle.rule_reading.proofs.Steps.{Step, pure_step, bind_step, either_step, opt_step, many_step, steps_split}
use Rattle.problem_syntax.proofs.Levels.{word_step, symbol_step, number_step, named_step, one_or_more_step, int_step}
use Rattle.layout_text.specs.Grammar.{PutWords, LineWords, GroupWords, TupleWords, TokenWords, TokenLine, LayoutWords}
use Rattle.layout_text.specs.Reading.{layout_at}
use Rattle.layout_text.proofs.Right.{layout_good}

put_step : (text : List ℕ) → Step (PutWords text) (PutWords text)
unfolding PutWords
put_step text = either_step _ _ _ _
    (bind_step _ _ _ _ (word_step keywords.As) (λ t. bind_step _ _ _ _ (named_step text) (λ s.
    bind_step _ _ _ _ (word_step keywords.At) (λ u. bind_step _ _ _ _ (one_or_more_step _ _ int_step) (λ xs. pure_step _)))))
    (bind_step _ _ _ _ (word_step keywords.Absent) (λ t. pure_step _))

line_step : (text : List ℕ) → Step (LineWords text) (LineWords text)
unfolding LineWords
line_step text = bind_step _ _ _ _ (named_step text) (λ a. bind_step _ _ _ _ (put_step text) (λ p. pure_step _))

group_step : Step GroupWords GroupWords
unfolding GroupWords
group_step = bind_step _ _ _ _ number_step (λ n. bind_step _ _ _ _ (many_step _ _ (bind_step _ _ _ _ (symbol_step symbols.Comma) (λ c. int_step))) (λ xs. pure_step _))

tuple_step : Step TupleWords TupleWords
unfolding TupleWords
tuple_step = either_step _ _ _ _
    (bind_step _ _ _ _ (symbol_step symbols.Minus) (λ m. pure_step _))
    (bind_step _ _ _ _ group_step (λ g. bind_step _ _ _ _ (many_step _ _ (bind_step _ _ _ _ (symbol_step symbols.Slash) (λ s. group_step))) (λ gs. pure_step _)))

token_step : Step TokenWords TokenWords
unfolding TokenWords
token_step = bind_step _ _ _ _ (word_step keywords.Token) (λ t. bind_step _ _ _ _ tuple_step (λ gs. pure_step _))

end_step : Step TokenLine TokenLine
unfolding TokenLine
end_step = opt_step _ _ None (bind_step _ _ _ _ token_step (λ t. pure_step _))

module _ (text : List ℕ) where
  layout_step : (n : ℕ) → Step (LayoutWords text n) (LayoutWords text (suc n))
  unfolding LayoutWords
  layout_step n = bind_step _ _ _ _ (word_step keywords.Layout) (λ l. bind_step _ _ _ _ (many_step _ _ (line_step text)) (λ ls. bind_step _ _ _ _ end_step (λ t. pure_step _)))

  -- what reading a layout text gives
  pub layout_reading : (n : ℕ) (w : List Token) → IsReading (LayoutWords text) n w (layout_at text n w)
  layout_reading n w = is_reading (LayoutWords text) n _ _ (layout_good text n).facts (λ m. steps_split (LayoutWords text) layout_step m n) (layout_step n).above w (layout_at text n w) ((layout_good text n).reads w)
