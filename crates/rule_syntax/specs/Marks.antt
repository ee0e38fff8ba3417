-- Sets of the kinds of tokens that formulas and expressions are made of.
use Rattle.std.specs.Prelude.{[], ◌∷◌, ◌++◌}
use Rattle.geo_tokens.specs.Class.{class_of}
use Rattle.geo_tokens.specs.Words.{Kinds, names, numbers, word, symbol}
use Rattle.geo_tokens.specs.declared.token.Keyword.{Keyword}
use Rattle.geo_tokens.specs.declared.token.Keyword.TheVariants as keywords
use Rattle.geo_tokens.specs.declared.token.Sym.{Sym}
use Rattle.geo_tokens.specs.declared.token.Sym.TheVariants as syms
use Rattle.geo_tokens.specs.declared.token.Kind.TheVariants.{Word, Symbol}

-- either of two words, or of two symbols
abbrev pub words : Keyword → Keyword → Kinds
words k m = class_of (Word k) ∷ class_of (Word m) ∷ []

abbrev pub symbols : Sym → Sym → Kinds
symbols s t = class_of (Symbol s) ∷ class_of (Symbol t) ∷ []

-- what compares two expressions
abbrev pub rels : Kinds
rels = symbols syms.Less syms.LessEqual ++ (symbols syms.Equal syms.NotEqual ++ symbols syms.GreaterEqual syms.Greater)

-- what goes on in a product
abbrev pub product_marks : Kinds
product_marks = symbol syms.Star ++ words keywords.Div keywords.Mod

-- what begins a factor, and what begins a unary
abbrev pub factor_firsts : Kinds
factor_firsts = numbers ++ (names ++ (word keywords.Shape ++ (symbol syms.Minus ++ (symbol syms.ParenOpen ++ (symbol syms.Dollar ++ words keywords.Min keywords.Max)))))

-- the first words of quantifiers
abbrev pub quantifiers : Kinds
quantifiers = words keywords.ForAll keywords.Exists ++ words keywords.AtLeast keywords.AtMost

abbrev pub unary_firsts : Kinds
unary_firsts = word keywords.True ++ (word keywords.False ++ (word keywords.Not ++ (symbol syms.BracketOpen ++ (symbol syms.At ++ (quantifiers ++ factor_firsts)))))

-- what may go on behind a whole term, and behind a whole expression
abbrev pub term_behinds : Kinds
term_behinds = product_marks ++ symbol syms.Dot

abbrev pub expr_behinds : Kinds
expr_behinds = symbols syms.Plus syms.Minus ++ term_behinds

-- what may go on behind a whole conjunction, disjunction, implication and formula
abbrev pub conjunction_behinds : Kinds
conjunction_behinds = word keywords.And ++ expr_behinds

abbrev pub disjunction_behinds : Kinds
disjunction_behinds = word keywords.Or ++ conjunction_behinds

abbrev pub implication_behinds : Kinds
implication_behinds = word keywords.Implies ++ disjunction_behinds

abbrev pub formula_behinds : Kinds
formula_behinds = word keywords.Iff ++ implication_behinds
