-- The grammar: which tokens of a text spell which tree. n is how many levels may still be opened.
--
--   formula = imp [ 'iff' imp ]
--   imp     = disj [ 'implies' disj ]
--   disj    = conj { 'or' conj }
--   conj    = unary { 'and' unary }
--   unary   = 'true' | 'false' | 'not' unary | '[' formula ']' | '@' NAME args | quant NAME 'in' coll ':' unary | expr rel expr
--   quant   = 'forall' | 'exists' | 'atleast' NUM | 'atmost' NUM
--   coll    = 'objects' [ '(' NAME { ',' NAME } ')' ] | 'boxes' 'of' NAME
--   rel     = '<' | '<=' | '=' | '!=' | '>=' | '>'
--   expr    = term { ( '+' | '-' ) term }
--   term    = factor { '*' factor | 'div' NUM | 'mod' NUM }
--   factor  = NUM | NAME [ '.' NAME ] | 'shape' NAME | '-' factor | '(' expr ')' | '$' NAME args
--           | ( 'min' | 'max' ) '(' expr ',' expr ')'
--   args    = '(' [ expr { ',' expr } ] ')'
--
-- A level is opened by each of '[', 'not', a '-' in front of a factor, a quantifier's first word, and the '(' of
-- brackets, of 'min' and 'max' and of args; the '(' behind 'objects' opens none.
use Rattle.std.specs.Prelude.{ℕ, zero, suc, List, [], ◌∷◌, Option, Some, None}
use Rattle.geo_tokens.specs.declared.token.Token.{Token}
use Rattle.geo_tokens.specs.declared.token.Kind.{Kind}
use Rattle.geo_tokens.specs.declared.token.Kind.TheVariants as kinds
use Rattle.geo_tokens.specs.declared.token.Keyword.TheVariants as keywords
use Rattle.geo_tokens.specs.declared.token.Sym.TheVariants as syms
use Rattle.geo_tokens.specs.Class.{number_in}
use Rattle.geo_tokens.specs.Bytes.{bytes_of}
use Rattle.geo_tokens.specs.Words.{Kinds, names, numbers, word, symbol, Lang, Pure, Tok, Cut, Bind, Either, Opt, Many, Chain, Placed}
use Rattle.rule_syntax.specs.Marks.{words, symbols, rels, quantifiers}
use Rattle.rule_syntax.specs.declared.tree.PlacedName.{PlacedName}
use Rattle.rule_syntax.specs.declared.tree.Rel.{Rel}
use Rattle.rule_syntax.specs.declared.tree.Rel.TheVariants.{Lt, Le, Eq, Ne, Ge, Gt}
use Rattle.rule_syntax.specs.declared.tree.QuantKind.{QuantKind}
use Rattle.rule_syntax.specs.declared.tree.QuantKind.TheVariants.{ForAll, Exists, AtLeast, AtMost}
use Rattle.rule_syntax.specs.Tree.{ExprTree, number, field, param, shape_number, negative, sum, product, least, greatest, value_call, SumTree, plus, minus, sums, ProductTree, times, over, modulo, products, ArgumentTree, argument, arguments, CollTree, all_objects, listed, boxes_of, FormulaTree, truth, falsehood, negation, all_of, any_of, implication, equivalence, comparison, quantified, formula_call, formulas}

-- ---- what a token says

abbrev pub name_in : List ℕ → Token → PlacedName
name_in text t = record { place = t.start; name = bytes_of text t }

abbrev pub rel_in : Kind → Rel
rel_in (kinds.Symbol syms.Less) = Lt
rel_in (kinds.Symbol syms.LessEqual) = Le
rel_in (kinds.Symbol syms.Equal) = Eq
rel_in (kinds.Symbol syms.NotEqual) = Ne
rel_in (kinds.Symbol syms.GreaterEqual) = Ge
rel_in _ = Gt

abbrev pub each_in : Kind → QuantKind
each_in (kinds.Word keywords.ForAll) = ForAll
each_in _ = Exists

abbrev pub count_in : Kind → ℕ → QuantKind
count_in (kinds.Word keywords.AtLeast) n = AtLeast n
count_in _ n = AtMost n

abbrev pub sum_step_in : Kind → ExprTree → SumTree
sum_step_in (kinds.Symbol syms.Plus) e = plus e
sum_step_in _ e = minus e

abbrev pub division_in : Kind → ℕ → ℕ → ProductTree
division_in (kinds.Word keywords.Div) p n = over p n
division_in _ p n = modulo p n

abbrev pub extreme_in : Kind → ℕ → ExprTree → ExprTree → ExprTree
extreme_in (kinds.Word keywords.Min) p a b = least p a b
extreme_in _ p a b = greatest p a b

-- ---- a chain of one operand is that operand

abbrev pub sum_of : ℕ → ExprTree × List SumTree → ExprTree
sum_of p (a, []) = a
sum_of p (a, s ∷ others) = sum p a (sums (s ∷ others))

abbrev pub product_of : ℕ → ExprTree × List ProductTree → ExprTree
product_of p (a, []) = a
product_of p (a, s ∷ others) = product p a (products (s ∷ others))

abbrev pub and_of : ℕ → FormulaTree × List FormulaTree → FormulaTree
and_of p (f, []) = f
and_of p (f, g ∷ others) = all_of p (formulas (f ∷ g ∷ others))

abbrev pub or_of : ℕ → FormulaTree × List FormulaTree → FormulaTree
or_of p (f, []) = f
or_of p (f, g ∷ others) = any_of p (formulas (f ∷ g ∷ others))

abbrev pub implication_of : ℕ → FormulaTree × Option FormulaTree → FormulaTree
implication_of p (f, None) = f
implication_of p (f, Some g) = implication p f g

abbrev pub equivalence_of : ℕ → FormulaTree × Option FormulaTree → FormulaTree
equivalence_of p (f, None) = f
equivalence_of p (f, Some g) = equivalence p f g

-- ---- expressions

abbrev pub Named : List ℕ → Lang PlacedName
Named text = Bind (Tok names) (λ t. Pure (name_in text t))

abbrev pub NumberWord : Lang ExprTree
NumberWord = Bind (Tok numbers) (λ t. Pure (number t.start (number_in t.kind)))

abbrev pub Variable : List ℕ → Lang ExprTree
Variable text = Bind (Named text) (λ a. Opt (Bind (Tok (symbol syms.Dot)) (λ d. Bind (Named text) (λ b. Pure (field a d.start b)))) (param a))

abbrev pub ShapeNumber : List ℕ → Lang ExprTree
ShapeNumber text = Bind (Tok (word keywords.Shape)) (λ t. Bind (Named text) (λ a. Pure (shape_number t.start a)))

abbrev pub Negative : Lang ExprTree → Lang ExprTree
Negative inner = Bind (Tok (symbol syms.Minus)) (λ t. Bind inner (λ e. Pure (negative t.start e)))

abbrev pub Parens : Lang ExprTree → Lang ExprTree
Parens inner = Bind (Tok (symbol syms.ParenOpen)) (λ t. Bind inner (λ e. Bind (Tok (symbol syms.ParenClose)) (λ u. Pure e)))

-- one expression, or more with commas between them, or none
abbrev pub ArgumentList : Lang ExprTree → Lang (List ArgumentTree)
ArgumentList inner = Opt (Bind (Chain (Placed inner argument) (symbol syms.Comma)) (λ c. Pure (c.0 ∷ c.1))) []

abbrev pub Args : Lang ExprTree → Lang (List ArgumentTree)
Args inner = Bind (Tok (symbol syms.ParenOpen)) (λ t. Bind (ArgumentList inner) (λ es. Bind (Tok (symbol syms.ParenClose)) (λ u. Pure es)))

abbrev pub Pair : Lang ExprTree → Lang (ExprTree × ExprTree)
Pair inner = Bind (Tok (symbol syms.ParenOpen)) (λ t. Bind inner (λ a. Bind (Tok (symbol syms.Comma)) (λ c. Bind inner (λ b. Bind (Tok (symbol syms.ParenClose)) (λ u. Pure (a, b))))))

abbrev pub ValueCall : List ℕ → Lang (List ArgumentTree) → Lang ExprTree
ValueCall text args = Bind (Tok (symbol syms.Dollar)) (λ t. Bind (Named text) (λ a. Bind args (λ es. Pure (value_call t.start a (arguments es)))))

abbrev pub Extreme : Lang (ExprTree × ExprTree) → Lang ExprTree
Extreme pair = Bind (Tok (words keywords.Min keywords.Max)) (λ t. Bind pair (λ p. Pure (extreme_in t.kind t.start p.0 p.1)))

abbrev pub ProductStep : Lang ExprTree → Lang ProductTree
ProductStep factor = Either
    (Bind (Tok (symbol syms.Star)) (λ t. Bind factor (λ e. Pure (times e))))
    (Bind (Tok (words keywords.Div keywords.Mod)) (λ t. Bind (Tok numbers) (λ m. Pure (division_in t.kind m.start (number_in m.kind)))))

abbrev pub Term : Lang ExprTree → Lang ExprTree
Term factor = Placed {A = ExprTree × List ProductTree} (Bind factor (λ a. Bind (Many (ProductStep factor)) (λ others. Pure (a, others)))) product_of

abbrev pub SumStep : Lang ExprTree → Lang SumTree
SumStep term = Bind (Tok (symbols syms.Plus syms.Minus)) (λ t. Bind term (λ e. Pure (sum_step_in t.kind e)))

abbrev pub ExprOver : Lang ExprTree → Lang ExprTree
ExprOver factor = Placed {A = ExprTree × List SumTree} (Bind (Term factor) (λ a. Bind (Many (SumStep (Term factor))) (λ others. Pure (a, others)))) sum_of

abbrev pub FactorOver : List ℕ → Lang ExprTree → Lang ExprTree → Lang (List ArgumentTree) → Lang (ExprTree × ExprTree) → Lang ExprTree
FactorOver text neg parens args pair = Either NumberWord (Either (Variable text) (Either (ShapeNumber text) (Either neg (Either parens (Either (ValueCall text args) (Extreme pair))))))

unfoldable pub Factor : List ℕ → ℕ → Lang ExprTree
Factor text zero = FactorOver text (Cut (symbol syms.Minus)) (Cut (symbol syms.ParenOpen)) (Cut (symbol syms.ParenOpen)) (Cut (symbol syms.ParenOpen))
Factor text (suc n) = FactorOver text (Negative (Factor text n)) (Parens (ExprOver (Factor text n))) (Args (ExprOver (Factor text n))) (Pair (ExprOver (Factor text n)))

unfoldable pub ExprWords : List ℕ → ℕ → Lang ExprTree
ExprWords text n = ExprOver (Factor text n)

-- the arguments of a call
unfoldable pub ArgsWords : List ℕ → ℕ → Lang (List ArgumentTree)
ArgsWords text zero = Cut (symbol syms.ParenOpen)
ArgsWords text (suc n) = Args (ExprWords text n)

-- ---- formulas

abbrev pub True : Lang FormulaTree
True = Bind (Tok (word keywords.True)) (λ t. Pure (truth t.start))

abbrev pub False : Lang FormulaTree
False = Bind (Tok (word keywords.False)) (λ t. Pure (falsehood t.start))

abbrev pub Not : Lang FormulaTree → Lang FormulaTree
Not inner = Bind (Tok (word keywords.Not)) (λ t. Bind inner (λ f. Pure (negation t.start f)))

abbrev pub Brackets : Lang FormulaTree → Lang FormulaTree
Brackets inner = Bind (Tok (symbol syms.BracketOpen)) (λ t. Bind inner (λ f. Bind (Tok (symbol syms.BracketClose)) (λ u. Pure f)))

abbrev pub FormulaCall : List ℕ → Lang (List ArgumentTree) → Lang FormulaTree
FormulaCall text args = Bind (Tok (symbol syms.At)) (λ t. Bind (Named text) (λ a. Bind args (λ es. Pure (formula_call t.start a (arguments es)))))

-- the place of a quantifier's first word, and which one it is
abbrev pub Quantifier : Lang (ℕ × QuantKind)
Quantifier = Either
    (Bind (Tok (words keywords.ForAll keywords.Exists)) (λ t. Pure (t.start, each_in t.kind)))
    (Bind (Tok (words keywords.AtLeast keywords.AtMost)) (λ t. Bind (Tok numbers) (λ m. Pure (t.start, count_in t.kind (number_in m.kind)))))

abbrev pub NameList : List ℕ → Lang CollTree
NameList text = Bind (Tok (symbol syms.ParenOpen)) (λ t. Bind (Chain (Named text) (symbol syms.Comma)) (λ c. Bind (Tok (symbol syms.ParenClose)) (λ u. Pure (listed (c.0 ∷ c.1)))))

abbrev pub Collection : List ℕ → Lang CollTree
Collection text = Either
    (Bind (Tok (word keywords.Objects)) (λ t. Opt (NameList text) all_objects))
    (Bind (Tok (word keywords.Boxes)) (λ t. Bind (Tok (word keywords.Of)) (λ u. Bind (Named text) (λ a. Pure (boxes_of a)))))

abbrev pub Quantified : List ℕ → Lang FormulaTree → Lang FormulaTree
Quantified text inner = Bind Quantifier (λ q. Bind (Named text) (λ a. Bind (Tok (word keywords.In)) (λ t. Bind (Collection text) (λ c. Bind (Tok (symbol syms.Colon)) (λ u. Bind inner (λ f. Pure (quantified q.0 q.1 a c f)))))))

abbrev pub Comparison : Lang ExprTree → Lang FormulaTree
Comparison expr = Placed {A = ExprTree × Rel × ExprTree} (Bind expr (λ a. Bind (Tok rels) (λ t. Bind expr (λ b. Pure (a, rel_in t.kind, b))))) (λ p x. comparison p x.0 x.1 x.2)

abbrev pub Conjunction : Lang FormulaTree → Lang FormulaTree
Conjunction unary = Placed (Chain unary (word keywords.And)) and_of

abbrev pub Disjunction : Lang FormulaTree → Lang FormulaTree
Disjunction unary = Placed (Chain (Conjunction unary) (word keywords.Or)) or_of

-- what stands behind a mark, if the mark is there
abbrev pub Behind : Kinds → Lang FormulaTree → Lang (Option FormulaTree)
Behind mark inner = Opt (Bind (Tok mark) (λ t. Bind inner (λ g. Pure (Some g)))) None

abbrev pub Implication : Lang FormulaTree → Lang FormulaTree
Implication unary = Placed {A = FormulaTree × Option FormulaTree} (Bind (Disjunction unary) (λ f. Bind (Behind (word keywords.Implies) (Disjunction unary)) (λ g. Pure (f, g)))) implication_of

abbrev pub FormulaOver : Lang FormulaTree → Lang FormulaTree
FormulaOver unary = Placed {A = FormulaTree × Option FormulaTree} (Bind (Implication unary) (λ f. Bind (Behind (word keywords.Iff) (Implication unary)) (λ g. Pure (f, g)))) equivalence_of

abbrev pub UnaryOver : List ℕ → Lang FormulaTree → Lang FormulaTree → Lang (List ArgumentTree) → Lang FormulaTree → Lang ExprTree → Lang FormulaTree
UnaryOver text not brackets args quant expr = Either True (Either False (Either not (Either brackets (Either (FormulaCall text args) (Either quant (Comparison expr))))))

unfoldable pub Unary : List ℕ → ℕ → Lang FormulaTree
Unary text zero = UnaryOver text (Cut (word keywords.Not)) (Cut (symbol syms.BracketOpen)) (ArgsWords text zero) (Cut quantifiers) (ExprWords text zero)
Unary text (suc n) = UnaryOver text (Not (Unary text n)) (Brackets (FormulaOver (Unary text n))) (ArgsWords text (suc n)) (Quantified text (Unary text n)) (ExprWords text (suc n))

unfoldable pub FormulaWords : List ℕ → ℕ → Lang FormulaTree
FormulaWords text n = FormulaOver (Unary text n)
