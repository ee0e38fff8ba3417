-- Sets of the kinds of tokens that the parts of statements begin with.
use Rattle.std.specs.Prelude.{◌++◌}
use Rattle.geo_tokens.specs.declared.token.Keyword.TheVariants as keywords
use Rattle.geo_tokens.specs.declared.token.Sym.TheVariants as symbols
use Rattle.geo_tokens.specs.Words.{Kinds, numbers, word, symbol}
use Rattle.rule_syntax.specs.Marks.{words}

-- what begins a whole number, and so a range
abbrev pub int_firsts : Kinds
int_firsts = symbol symbols.Minus ++ numbers

-- the words for a side
abbrev pub side_words : Kinds
side_words = words keywords.Low keywords.High

-- the words for what a parameter stands for
abbrev pub param_words : Kinds
param_words = word keywords.Int ++ words keywords.Object keywords.Box

-- what begins a statement
abbrev pub statement_firsts : Kinds
statement_firsts = words keywords.Shape keywords.Object ++ (words keywords.Order keywords.Sides ++ words keywords.Macro keywords.Rule)
