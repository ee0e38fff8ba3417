-- Each reader of an expression's parts reads its language.
use Rattle.std.proofs.Common.{◌≡◌, ℕ, zero, suc, ◌<◌, ◌-◌, List, [], ◌++◌, true, false, refl, ap, arith}
use Rattle.geo_tokens.specs.declared.token.Token.{Token}
use Rattle.geo_tokens.specs.declared.token.Kind.TheVariants as kinds
use Rattle.geo_tokens.specs.declared.token.Keyword.TheVariants as keywords
use Rattle.geo_tokens.specs.declared.token.Sym.TheVariants as syms
use Rattle.geo_tokens.specs.Words.{Kinds, names, numbers, word, symbol, Lang, Tok, Bind, Placed}
use Rattle.geo_tokens.specs.Reading.{Read, cut_at}
use Rattle.geo_tokens.proofs.Lists.{subset}
use Rattle.geo_tokens.proofs.Good.{Good, one_good, pure_good, bind_good, either_good, opt_good, many_good, placed_good, wider_good}
use Rattle.geo_tokens.proofs.OneToken.{of_kind, name_good, number_good, word_good, symbol_good, symbol_cut_good}
use Rattle.rule_syntax.specs.Marks.{words, symbols, product_marks, factor_firsts, term_behinds, expr_behinds}
use Rattle.rule_syntax.specs.Tree.{ExprTree, param, ArgumentTree, argument}
use Rattle.rule_syntax.specs.Grammar.{sum_of, product_of, Named, NumberWord, Variable, ShapeNumber, Negative, Parens, ArgumentList, Args, Pair, ValueCall, Extreme, ProductStep, Term, SumStep, ExprOver, FactorOver, Factor, ExprWords, ArgsWords}
use Rattle.rule_syntax.specs.Reading.{named_at, number_at, variable_at, shape_number_at, negative_at, parens_at, argument_at, next_argument_at, argument_list_at, args_over_at, pair_at, value_call_at, extreme_at, factor_over_at, product_step_at, term_over_at, sum_step_at, sum_over_at, factor_at, term_at, expr_at, args_at}

pub named_good : (text : List ℕ) → Good (Named text) (named_at text) false names []
named_good text = bind_good refl name_good (λ t. pure_good _)

number_word_good : Good NumberWord number_at false numbers []
number_word_good = bind_good refl number_good (λ t. pure_good _)

variable_good : (text : List ℕ) → Good (Variable text) (variable_at text) false names (symbol syms.Dot)
variable_good text = bind_good refl (named_good text) (λ a. opt_good (param a) (bind_good refl (symbol_good syms.Dot) (λ d. bind_good refl (named_good text) (λ b. pure_good _))))

shape_number_good : (text : List ℕ) → Good (ShapeNumber text) (shape_number_at text) false (word keywords.Shape) []
shape_number_good text = bind_good refl (word_good keywords.Shape) (λ t. bind_good refl (named_good text) (λ a. pure_good _))

value_call_good : (text : List ℕ) {L : Lang (List ArgumentTree)} {r : List Token → Read (List ArgumentTree)} → Good L r false (symbol syms.ParenOpen) [] → Good (ValueCall text L) (value_call_at text r) false (symbol syms.Dollar) []
value_call_good text l = bind_good refl (symbol_good syms.Dollar) (λ t. bind_good refl (named_good text) (λ a. bind_good refl l (λ es. pure_good _)))

extreme_good : {L : Lang (ExprTree × ExprTree)} {r : List Token → Read (ExprTree × ExprTree)} → Good L r false (symbol syms.ParenOpen) [] → Good (Extreme L) (extreme_at r) false (words keywords.Min keywords.Max) []
extreme_good l = bind_good refl (one_good (words keywords.Min keywords.Max) _ (of_kind (kinds.Word keywords.Min)) refl) (λ t. bind_good refl l (λ p. pure_good _))

-- ---- over factors

module _ (factor : Lang ExprTree) (at : List Token → Read ExprTree) (inner : Good factor at false factor_firsts (symbol syms.Dot)) where
  negative_good : Good (Negative factor) (negative_at at) false (symbol syms.Minus) (symbol syms.Dot)
  negative_good = bind_good refl (symbol_good syms.Minus) (λ t. bind_good refl inner (λ e. pure_good _))

  product_step_good : Good (ProductStep factor) (product_step_at at) false product_marks (symbol syms.Dot)
  product_step_good = either_good refl
      (bind_good refl (symbol_good syms.Star) (λ t. bind_good refl inner (λ e. pure_good _)))
      (bind_good refl (one_good (words keywords.Div keywords.Mod) _ (of_kind (kinds.Word keywords.Div)) refl) (λ t. bind_good refl number_good (λ m. pure_good _)))

  term_good : Good (Term factor) (term_over_at at) false factor_firsts term_behinds
  term_good = placed_good product_of (wider_good factor_firsts term_behinds refl refl refl (bind_good refl inner (λ a. bind_good refl (many_good refl product_step_good) (λ others. pure_good _))))

module _ (term : Lang ExprTree) (at : List Token → Read ExprTree) (inner : Good term at false factor_firsts term_behinds) where
  sum_step_good : Good (SumStep term) (sum_step_at at) false (symbols syms.Plus syms.Minus) term_behinds
  sum_step_good = bind_good refl (one_good (symbols syms.Plus syms.Minus) _ (of_kind (kinds.Symbol syms.Plus)) refl) (λ t. bind_good refl inner (λ e. pure_good _))

-- an expression over factors
expr_over_good : (factor : Lang ExprTree) (at : List Token → Read ExprTree) → Good factor at false factor_firsts (symbol syms.Dot) → Good (ExprOver factor) (sum_over_at (term_over_at at)) false factor_firsts expr_behinds
expr_over_good factor at inner =
    let term : Good (Term factor) (term_over_at at) false factor_firsts term_behinds = term_good factor at inner in
    placed_good sum_of (wider_good factor_firsts expr_behinds refl refl refl (bind_good refl term (λ a. bind_good refl (many_good refl (sum_step_good (Term factor) (term_over_at at) term)) (λ others. pure_good _))))

-- ---- over expressions

module _ (expr : Lang ExprTree) (at : List Token → Read ExprTree) (inner : Good expr at false factor_firsts expr_behinds) where
  parens_good : Good (Parens expr) (parens_at at) false (symbol syms.ParenOpen) []
  parens_good = bind_good refl (symbol_good syms.ParenOpen) (λ t. bind_good refl inner (λ e. bind_good refl (symbol_good syms.ParenClose) (λ u. pure_good _)))

  argument_good : Good (Placed expr argument) (argument_at at) false factor_firsts expr_behinds
  argument_good = placed_good argument inner

  pub next_argument_good : Good (Bind (Tok (symbol syms.Comma)) (λ mark. Placed expr argument)) (next_argument_at at) false (symbol syms.Comma) expr_behinds
  next_argument_good = bind_good refl (symbol_good syms.Comma) (λ mark. argument_good)

  argument_list_good : Good (ArgumentList expr) (argument_list_at at) true factor_firsts (factor_firsts ++ (symbol syms.Comma ++ expr_behinds))
  argument_list_good = wider_good factor_firsts (factor_firsts ++ (symbol syms.Comma ++ expr_behinds)) refl refl refl
      (opt_good [] (bind_good refl (bind_good refl argument_good (λ a. bind_good refl (many_good refl next_argument_good) (λ others. pure_good _))) (λ c. pure_good _)))

  pub args_over_good : Good (Args expr) (args_over_at at) false (symbol syms.ParenOpen) []
  args_over_good = bind_good refl (symbol_good syms.ParenOpen) (λ t. bind_good refl argument_list_good (λ es. bind_good refl (symbol_good syms.ParenClose) (λ u. pure_good _)))

  pair_good : Good (Pair expr) (pair_at at) false (symbol syms.ParenOpen) []
  pair_good = bind_good refl (symbol_good syms.ParenOpen) (λ t. bind_good refl inner (λ a. bind_good refl (symbol_good syms.Comma) (λ c. bind_good refl inner (λ b. bind_good refl (symbol_good syms.ParenClose) (λ u. pure_good _)))))

module _ (text : List ℕ) where
  factor_over_good : {L M : Lang ExprTree} {N : Lang (List ArgumentTree)} {P : Lang (ExprTree × ExprTree)} {r s : List Token → Read ExprTree} {u : List Token → Read (List ArgumentTree)} {v : List Token → Read (ExprTree × ExprTree)} (a : Kinds) → subset a (symbol syms.Dot) ≡ true
      → Good L r false (symbol syms.Minus) a → Good M s false (symbol syms.ParenOpen) [] → Good N u false (symbol syms.ParenOpen) [] → Good P v false (symbol syms.ParenOpen) []
      → Good (FactorOver text L M N P) (factor_over_at text r s u v) false factor_firsts (symbol syms.Dot)
  factor_over_good a i l m n p = wider_good factor_firsts (symbol syms.Dot) refl refl refl
      (either_good refl number_word_good (either_good refl (variable_good text) (either_good refl (shape_number_good text)
      (either_good refl (wider_good (symbol syms.Minus) (symbol syms.Dot) refl refl i l) (either_good refl m (either_good refl (value_call_good text n) (extreme_good p)))))))

  pub factor_good : (n : ℕ) → Good (Factor text n) (factor_at text n) false factor_firsts (symbol syms.Dot)
  unfolding Factor factor_at
  factor_good zero = factor_over_good [] refl (symbol_cut_good syms.Minus) (symbol_cut_good syms.ParenOpen) (symbol_cut_good syms.ParenOpen) (symbol_cut_good syms.ParenOpen)
  factor_good (suc n) =
      let inner : Good (ExprOver (Factor text n)) (sum_over_at (term_over_at (factor_at text n))) false factor_firsts expr_behinds = expr_over_good (Factor text n) (factor_at text n) (factor_good n) in
      factor_over_good (symbol syms.Dot) refl (negative_good (Factor text n) (factor_at text n) (factor_good n)) (parens_good _ _ inner) (args_over_good _ _ inner) (pair_good _ _ inner)

  pub product_step_is_good : (n : ℕ) → Good (ProductStep (Factor text n)) (product_step_at (factor_at text n)) false product_marks (symbol syms.Dot)
  product_step_is_good n = product_step_good (Factor text n) (factor_at text n) (factor_good n)

  pub term_is_good : (n : ℕ) → Good (Term (Factor text n)) (term_at text n) false factor_firsts term_behinds
  unfolding term_at
  term_is_good n = term_good (Factor text n) (factor_at text n) (factor_good n)

  pub sum_step_is_good : (n : ℕ) → Good (SumStep (Term (Factor text n))) (sum_step_at (term_at text n)) false (symbols syms.Plus syms.Minus) term_behinds
  sum_step_is_good n = sum_step_good (Term (Factor text n)) (term_at text n) (term_is_good n)

  pub expr_good : (n : ℕ) → Good (ExprWords text n) (expr_at text n) false factor_firsts expr_behinds
  unfolding ExprWords expr_at term_at
  expr_good n = expr_over_good (Factor text n) (factor_at text n) (factor_good n)

  pub next_argument_is_good : (n : ℕ) → Good (Bind (Tok (symbol syms.Comma)) (λ mark. Placed (ExprWords text n) argument)) (next_argument_at (expr_at text n)) false (symbol syms.Comma) expr_behinds
  next_argument_is_good n = next_argument_good (ExprWords text n) (expr_at text n) (expr_good n)

  pub args_good : (n : ℕ) → Good (ArgsWords text n) (args_at text n) false (symbol syms.ParenOpen) []
  unfolding ArgsWords args_at
  args_good zero = symbol_cut_good syms.ParenOpen
  args_good (suc n) = args_over_good (ExprWords text n) (expr_at text n) (expr_good n)

  -- ---- what opens a level, over what n levels may be opened in

  pub negative_is_good : (n : ℕ) → Good (Negative (Factor text n)) (negative_at (factor_at text n)) false (symbol syms.Minus) (symbol syms.Dot)
  negative_is_good n = negative_good (Factor text n) (factor_at text n) (factor_good n)

  inner_good : (n : ℕ) → Good (ExprOver (Factor text n)) (sum_over_at (term_over_at (factor_at text n))) false factor_firsts expr_behinds
  inner_good n = expr_over_good (Factor text n) (factor_at text n) (factor_good n)

  pub parens_is_good : (n : ℕ) → Good (Parens (ExprOver (Factor text n))) (parens_at (sum_over_at (term_over_at (factor_at text n)))) false (symbol syms.ParenOpen) []
  parens_is_good n = parens_good _ _ (inner_good n)

  pub args_is_good : (n : ℕ) → Good (Args (ExprOver (Factor text n))) (args_over_at (sum_over_at (term_over_at (factor_at text n)))) false (symbol syms.ParenOpen) []
  args_is_good n = args_over_good _ _ (inner_good n)

  pub pair_is_good : (n : ℕ) → Good (Pair (ExprOver (Factor text n))) (pair_at (sum_over_at (term_over_at (factor_at text n)))) false (symbol syms.ParenOpen) []
  pair_is_good n = pair_good _ _ (inner_good n)

  -- ---- where a level may be opened, and where none may

  pub factor_flat : (n : ℕ) (w : List Token) → n ≡ 0 → factor_at text n w ≡ factor_over_at text (cut_at (symbol syms.Minus)) (cut_at (symbol syms.ParenOpen)) (cut_at (symbol syms.ParenOpen)) (cut_at (symbol syms.ParenOpen)) w
  unfolding factor_at
  factor_flat n w e = ap (λ m. factor_at text m w) e

  pub factor_nested : (n : ℕ) (w : List Token) → 0 < n
      → factor_at text n w ≡ factor_over_at text (negative_at (factor_at text (n - 1))) (parens_at (expr_at text (n - 1))) (args_over_at (expr_at text (n - 1))) (pair_at (expr_at text (n - 1))) w
  unfolding factor_at expr_at term_at
  factor_nested n w h = let e : n ≡ suc (n - 1) = omega arith in ap (λ m. factor_at text m w) e
