-- How spellings begin and end: the first lexeme of a rule's body stands behind a space, and a space
-- stands behind the last lexeme of a body, so that a body may be shown as one piece.
use Rattle.std.proofs.Common.{◌≡◌, List, [], ◌∷◌, ◌++◌, Bool, true, false, Option, Some, None, ◌&&◌, refl, sym, ap, ◌∙◌, append_assoc, append-nil}
use Rattle.std.specs.Prelude.{ℕ, ℤ, pos, negsuc, nat_lt, if◌then◌else◌}
use Rattle.geo_tokens.specs.declared.token.Token.{Token}
use Rattle.geo_tokens.specs.declared.token.Keyword.{Keyword}
use Rattle.geo_tokens.specs.declared.token.Keyword.TheVariants as keywords
use Rattle.geo_tokens.specs.declared.token.Sym.TheVariants as syms
use Rattle.geo_tokens.specs.Class.{class_of}
use Rattle.geo_tokens.specs.Words.{has}
use Rattle.rule_syntax.specs.Marks.{unary_firsts}
use Rattle.rule_syntax.specs.Grammar.{FormulaWords}
use Rattle.rule_syntax.specs.declared.tree.Rel.{Rel}
use Rattle.rule_syntax.specs.declared.tree.Rel.TheVariants.{Lt, Le, Eq, Ne, Ge, Gt}
use Rattle.rule_syntax.specs.Tree.{ExprTree, number, field, param, shape_number, negative, sum, product, least, greatest, value_call, SumTree, plus, minus, SumTrees, no_sums, a_sum, ProductTree, times, over, modulo, ProductTrees, no_products, a_product, FormulaTree, truth, falsehood, negation, all_of, any_of, implication, equivalence, comparison, quantified, formula_call, FormulaTrees, no_formulas, a_formula}
use Rattle.rule_reading.proofs.Formulas.{formula_good}
use Rattle.rule_print.specs.declared.rank.ExprRank.{ExprRank}
use Rattle.rule_print.specs.declared.rank.ExprRank.TheVariants as ranks
use Rattle.rule_print.specs.declared.rank.FormulaRank.{FormulaRank}
use Rattle.rule_print.specs.declared.rank.FormulaRank.TheVariants as kinds
use Rattle.rule_print.specs.Canonical.{Written, name, word, symbol, sign, kind_of, spelling, opens, closes, close, is_called, gap, shown_behind, shown}
use Rattle.rule_print.specs.Canonical.{number as digits}
use Rattle.rule_print.specs.Spelled.{bracketed, expr_level, formula_level, in_list, expr_spelling, sum_spelling, sum_step_spelling, product_spelling, product_step_spelling, arguments_spelling, rel_symbol, quantifier_spelling, coll_spelling, formula_spelling, operands_spelling, more_operands_spelling}
use Rattle.rule_print.proofs.ShownTokens.{Stands, tokens_behind, shown_stands}
use Rattle.problem_data.specs.Tree.{BodyTree, means, equals}
use Rattle.problem_data.specs.Problem.{RangeData, DemandData, apart, within, plain}
use Rattle.problem_text.specs.Canonical.{int_spelling, range_spelling, ranges_spelling, body_spelling, demand_spelling, closed}
use Rattle.problem_text.proofs.PrintingParts.{FormulaCanBeWritten, CanWriteDemand}

-- ---- ends

-- whether no space stands behind the last of them, where this tells it of what stands before
abbrev pub opens_last : Bool → List Written → Bool
opens_last b [] = b
opens_last b (q ∷ qs) = opens_last (opens q) qs

last_of_both : (b : Bool) (ps qs : List Written) → opens_last b (ps ++ qs) ≡ opens_last (opens_last b ps) qs
last_of_both b [] qs = refl
last_of_both b (p ∷ ps) qs = last_of_both (opens p) ps qs

-- a space stands behind them, where one stands behind what is before
abbrev pub Rests : List Written → Type 0
Rests qs = opens_last false qs ≡ false

both_rest : (ps qs : List Written) → Rests ps → Rests qs → Rests (ps ++ qs)
both_rest ps qs h g = last_of_both false ps qs ∙ ap (λ (b : Bool). opens_last b qs) h ∙ g

-- a mark behind which a space stands
end_rests : (b : Bool) (ps : List Written) (q : Written) → opens q ≡ false → opens_last b (ps ++ q ∷ []) ≡ false
end_rests b ps q e = last_of_both b ps (q ∷ []) ∙ e

list_rests : (ps : List Written) → Rests (in_list ps)
list_rests ps = end_rests true ps (symbol syms.ParenClose) refl

parens_rest : (b : Bool) (ps : List Written) → Rests ps → Rests (bracketed b syms.ParenOpen syms.ParenClose ps)
parens_rest true ps h = list_rests ps
parens_rest false ps h = h

brackets_rest : (b : Bool) (ps : List Written) → Rests ps → Rests (bracketed b syms.BracketOpen syms.BracketClose ps)
brackets_rest true ps h = end_rests false ps (symbol syms.BracketClose) refl
brackets_rest false ps h = h

mutual
  expr_rests : (r : ExprRank) (e : ExprTree) → Rests (expr_spelling r e)
  expr_rests r (number p n) = refl
  expr_rests r (field a p b) = refl
  expr_rests r (param a) = refl
  expr_rests r (shape_number p a) = refl
  expr_rests r (negative p e) = expr_rests ranks.Factor e
  expr_rests r (sum p e ss) = parens_rest (nat_lt (expr_level ranks.Sum) (expr_level r)) (expr_spelling ranks.Product e ++ sum_spelling ss) (both_rest (expr_spelling ranks.Product e) (sum_spelling ss) (expr_rests ranks.Product e) (sums_rest ss))
  expr_rests r (product p e ss) = parens_rest (nat_lt (expr_level ranks.Product) (expr_level r)) (expr_spelling ranks.Factor e ++ product_spelling ss) (both_rest (expr_spelling ranks.Factor e) (product_spelling ss) (expr_rests ranks.Factor e) (products_rest ss))
  expr_rests r (least p a b) = list_rests (expr_spelling ranks.Sum a ++ symbol syms.Comma ∷ expr_spelling ranks.Sum b)
  expr_rests r (greatest p a b) = list_rests (expr_spelling ranks.Sum a ++ symbol syms.Comma ∷ expr_spelling ranks.Sum b)
  expr_rests r (value_call p a es) = list_rests (arguments_spelling es)

  sums_rest : (ss : SumTrees) → Rests (sum_spelling ss)
  sums_rest no_sums = refl
  sums_rest (a_sum s ss) = both_rest (sum_step_spelling s) (sum_spelling ss) (sum_rests s) (sums_rest ss)

  sum_rests : (s : SumTree) → Rests (sum_step_spelling s)
  sum_rests (plus e) = expr_rests ranks.Product e
  sum_rests (minus e) = expr_rests ranks.Product e

  products_rest : (ss : ProductTrees) → Rests (product_spelling ss)
  products_rest no_products = refl
  products_rest (a_product s ss) = both_rest (product_step_spelling s) (product_spelling ss) (product_rests s) (products_rest ss)

  product_rests : (s : ProductTree) → Rests (product_step_spelling s)
  product_rests (times e) = expr_rests ranks.Factor e
  product_rests (over p n) = refl
  product_rests (modulo p n) = refl

-- behind anything comes something that rests
behind_rests : (ps : List Written) (q : Written) (qs : List Written) → opens_last (opens q) qs ≡ false → Rests (ps ++ q ∷ qs)
behind_rests ps q qs h = last_of_both false ps (q ∷ qs) ∙ h

rel_opens : (r : Rel) → opens (symbol (rel_symbol r)) ≡ false
rel_opens Lt = refl
rel_opens Le = refl
rel_opens Eq = refl
rel_opens Ne = refl
rel_opens Ge = refl
rel_opens Gt = refl

mutual
  formula_rests : (r : FormulaRank) (f : FormulaTree) → Rests (formula_spelling r f)
  formula_rests r (truth p) = refl
  formula_rests r (falsehood p) = refl
  formula_rests r (negation p f) = formula_rests kinds.Unary f
  formula_rests r (all_of p fs) = brackets_rest (nat_lt (formula_level kinds.Conjunction) (formula_level r)) (operands_spelling keywords.And kinds.Unary fs) (operands_rest keywords.And kinds.Unary fs)
  formula_rests r (any_of p fs) = brackets_rest (nat_lt (formula_level kinds.Disjunction) (formula_level r)) (operands_spelling keywords.Or kinds.Conjunction fs) (operands_rest keywords.Or kinds.Conjunction fs)
  formula_rests r (implication p f g) =
      brackets_rest (nat_lt (formula_level kinds.Implication) (formula_level r)) (formula_spelling kinds.Disjunction f ++ word keywords.Implies ∷ formula_spelling kinds.Disjunction g)
      (behind_rests (formula_spelling kinds.Disjunction f) (word keywords.Implies) (formula_spelling kinds.Disjunction g) (formula_rests kinds.Disjunction g))
  formula_rests r (equivalence p f g) =
      brackets_rest (nat_lt (formula_level kinds.Equivalence) (formula_level r)) (formula_spelling kinds.Implication f ++ word keywords.Iff ∷ formula_spelling kinds.Implication g)
      (behind_rests (formula_spelling kinds.Implication f) (word keywords.Iff) (formula_spelling kinds.Implication g) (formula_rests kinds.Implication g))
  formula_rests r (comparison p a rel b) =
      behind_rests (expr_spelling ranks.Sum a) (symbol (rel_symbol rel)) (expr_spelling ranks.Sum b) (ap (λ (c : Bool). opens_last c (expr_spelling ranks.Sum b)) (rel_opens rel) ∙ expr_rests ranks.Sum b)
  formula_rests r (quantified p k v c f) =
      behind_rests (quantifier_spelling k) (name v.name) (word keywords.In ∷ (coll_spelling c ++ symbol syms.Colon ∷ formula_spelling kinds.Unary f))
      (behind_rests (coll_spelling c) (symbol syms.Colon) (formula_spelling kinds.Unary f) (formula_rests kinds.Unary f))
  formula_rests r (formula_call p a es) = list_rests (arguments_spelling es)

  operands_rest : (mark : Keyword) (r : FormulaRank) (fs : FormulaTrees) → Rests (operands_spelling mark r fs)
  operands_rest mark r no_formulas = refl
  operands_rest mark r (a_formula f fs) = both_rest (formula_spelling r f) (more_operands_spelling mark r fs) (formula_rests r f) (more_operands_rest mark r fs)

  more_operands_rest : (mark : Keyword) (r : FormulaRank) (fs : FormulaTrees) → Rests (more_operands_spelling mark r fs)
  more_operands_rest mark r no_formulas = refl
  more_operands_rest mark r (a_formula f fs) = both_rest (formula_spelling r f) (more_operands_spelling mark r fs) (formula_rests r f) (more_operands_rest mark r fs)

-- ---- bodies

pub body_rests : (b : BodyTree) → Rests (body_spelling b)
body_rests (means f) = formula_rests kinds.Equivalence f
body_rests (equals e) = expr_rests ranks.Sum e

int_rests : (b : Bool) (z : ℤ) → opens_last b (int_spelling z) ≡ false
int_rests b (pos n) = refl
int_rests b (negsuc n) = refl

range_rests : (r : RangeData) → Rests (range_spelling r)
range_rests r = behind_rests (int_spelling r.low) (symbol syms.DotDot) (int_spelling r.high) (int_rests true r.high)

ranges_rest : (rs : List RangeData) → Rests (ranges_spelling rs)
ranges_rest [] = refl
ranges_rest (r ∷ rs) = both_rest (range_spelling r) (ranges_spelling rs) (range_rests r) (ranges_rest rs)

pub demand_rests : (d : DemandData) → Rests (demand_spelling d)
demand_rests apart = refl
demand_rests (within rs) = ranges_rest rs
demand_rests (plain f) = formula_rests kinds.Equivalence f

pub macro_rests : (ps : List Written) (b : BodyTree) → Rests (in_list ps ++ body_spelling b)
macro_rests ps b = both_rest (in_list ps) (body_spelling b) (list_rests ps) (body_rests b)

-- ---- the semicolon behind them

abbrev opens_before : Option Written → Bool
opens_before None = true
opens_before (Some p) = opens p

and_false : (b : Bool) → (b && false) ≡ false
and_false true = refl
and_false false = refl

semicolon_gap : (p : Written) → opens p ≡ false → close p (symbol syms.Semicolon) ≡ false
semicolon_gap (name bytes) e = refl
semicolon_gap (digits n) e = refl
semicolon_gap (word w) e = and_false (is_called (word w))
semicolon_gap (symbol syms.DotDot) e = absurd cc
semicolon_gap (symbol syms.Dot) e = refl
semicolon_gap (symbol syms.Comma) e = refl
semicolon_gap (symbol syms.Colon) e = refl
semicolon_gap (symbol syms.Semicolon) e = refl
semicolon_gap (symbol syms.ParenOpen) e = absurd cc
semicolon_gap (symbol syms.ParenClose) e = refl
semicolon_gap (symbol syms.BracketOpen) e = refl
semicolon_gap (symbol syms.BracketClose) e = refl
semicolon_gap (symbol syms.Plus) e = refl
semicolon_gap (symbol syms.Minus) e = refl
semicolon_gap (symbol syms.Star) e = refl
semicolon_gap (symbol syms.Slash) e = refl
semicolon_gap (symbol syms.LessEqual) e = refl
semicolon_gap (symbol syms.Less) e = refl
semicolon_gap (symbol syms.GreaterEqual) e = refl
semicolon_gap (symbol syms.Greater) e = refl
semicolon_gap (symbol syms.Equal) e = refl
semicolon_gap (symbol syms.NotEqual) e = refl
semicolon_gap (symbol syms.At) e = absurd cc
semicolon_gap (symbol syms.Dollar) e = absurd cc
semicolon_gap sign e = absurd cc

-- what is shown of statement and semicolon
pub shown_closed : (p : Written) (qs : List Written) → opens_last (opens p) qs ≡ false → shown_behind (Some p) (closed qs) ≡ shown_behind (Some p) qs ++ (32 ∷ 59 ∷ [])
shown_closed p [] e = ap (λ (b : Bool). (if b then [] else 32 ∷ []) ++ (59 ∷ [])) (semicolon_gap p e)
shown_closed p (q ∷ qs) e =
    ap (λ (u : List ℕ). gap (Some p) q ++ (spelling q ++ u)) (shown_closed q qs e)
    ∙ sym (append_assoc (gap (Some p) q) (spelling q ++ shown_behind (Some q) qs) (32 ∷ 59 ∷ []) ∙ ap (λ (u : List ℕ). gap (Some p) q ++ u) (append_assoc (spelling q) (shown_behind (Some q) qs) (32 ∷ 59 ∷ [])))

-- ---- beginnings

-- something stands there, with a space before it
abbrev pub StartsApart : List Written → Type 0
StartsApart [] = ⊥
StartsApart (q ∷ qs) = closes q ≡ false

first_apart : (q : Written) → has unary_firsts (class_of (kind_of q)) ≡ true → closes q ≡ false
first_apart (name bytes) e = refl
first_apart (digits n) e = refl
first_apart (word w) e = refl
first_apart (symbol syms.DotDot) e = absurd cc
first_apart (symbol syms.Dot) e = absurd cc
first_apart (symbol syms.Comma) e = absurd cc
first_apart (symbol syms.Colon) e = refl
first_apart (symbol syms.Semicolon) e = refl
first_apart (symbol syms.ParenOpen) e = refl
first_apart (symbol syms.ParenClose) e = absurd cc
first_apart (symbol syms.BracketOpen) e = refl
first_apart (symbol syms.BracketClose) e = refl
first_apart (symbol syms.Plus) e = refl
first_apart (symbol syms.Minus) e = refl
first_apart (symbol syms.Star) e = refl
first_apart (symbol syms.Slash) e = refl
first_apart (symbol syms.LessEqual) e = refl
first_apart (symbol syms.Less) e = refl
first_apart (symbol syms.GreaterEqual) e = refl
first_apart (symbol syms.Greater) e = refl
first_apart (symbol syms.Equal) e = refl
first_apart (symbol syms.NotEqual) e = refl
first_apart (symbol syms.At) e = refl
first_apart (symbol syms.Dollar) e = refl
first_apart sign e = refl

formula_starts : (f : FormulaTree) → FormulaCanBeWritten f → StartsApart (formula_spelling kinds.Equivalence f)
formula_starts f h =
    let ps : List Written = formula_spelling kinds.Equivalence f in
    let text : List ℕ = shown ps in
    let v : List Token = tokens_behind None 0 ps in
    let stands : Stands text ps v = shown_stands text [] None 0 ps [] refl (sym (append-nil text)) in
    let x = h.again.reads text v stands in
    by text x.0 ps v stands x.1
  where
    by : (text : List ℕ) (g : FormulaTree) (qs : List Written) (v : List Token) → Stands text qs v → FormulaWords text 64 (Some g) v → StartsApart qs
    by text g [] [] st l = absurd (let wrong : false ≡ true = (formula_good text 64).facts.empty (Some g) l in cc)
    by text g [] (t ∷ v) st l = absurd st
    by text g (q ∷ qs) [] st l = absurd st
    by text g (q ∷ qs) (t ∷ v) st l = first_apart q (ap (λ k. has unary_firsts (class_of k)) (sym st.0) ∙ (formula_good text 64).facts.first (Some g) t v l)

pub demand_starts : (d : DemandData) → CanWriteDemand d → StartsApart (demand_spelling d)
demand_starts apart h = refl
demand_starts (within rs) h = refl
demand_starts (plain f) h = formula_starts f h
