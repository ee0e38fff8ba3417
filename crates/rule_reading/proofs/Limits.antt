-- The grammar with one level more.
use Rattle.std.proofs.Common.{ℕ, zero, suc, List, [], ◌∷◌, Some, None, inl, inr, refl}
use Rattle.geo_tokens.specs.declared.token.Token.{Token}
use Rattle.geo_tokens.specs.declared.token.Kind.{Kind}
use Rattle.geo_tokens.specs.declared.token.Kind.TheVariants as kinds
use Rattle.geo_tokens.specs.declared.token.Keyword.{Keyword}
use Rattle.geo_tokens.specs.declared.token.Keyword.TheVariants as keywords
use Rattle.geo_tokens.specs.declared.token.Sym.{Sym}
use Rattle.geo_tokens.specs.declared.token.Sym.TheVariants as syms
use Rattle.geo_tokens.specs.Class.{class_of}
use Rattle.geo_tokens.specs.Words.{Of, names, numbers, word, symbol, Lang, Pure, Tok, Cut, Bind, both, left, right, not_there}
use Rattle.geo_tokens.specs.Deep.{IsReading}
use Rattle.geo_tokens.proofs.Lists.{has_append}
use Rattle.geo_tokens.proofs.Levels.{is_reading}
use Rattle.geo_tokens.proofs.OneToken.{of_kind, has_self}
use Rattle.rule_syntax.specs.declared.tree.QuantKind.{QuantKind}
use Rattle.rule_syntax.specs.Marks.{words, symbols, rels, quantifiers}
use Rattle.rule_syntax.specs.Tree.{ExprTree, param, negative, ArgumentTree, argument, all_objects, FormulaTree, truth, negation, comparison, quantified}
use Rattle.rule_syntax.specs.Grammar.{name_in, each_in, count_in, sum_of, product_of, and_of, or_of, implication_of, equivalence_of, Named, NumberWord, Variable, ShapeNumber, Negative, Parens, ArgumentList, Args, Pair, ProductStep, Term, SumStep, ExprOver, FactorOver, Factor, ExprWords, ArgsWords, True, False, Not, Brackets, Quantifier, Collection, Quantified, Comparison, Conjunction, Disjunction, Behind, Implication, FormulaOver, UnaryOver, Unary, FormulaWords}
use Rattle.rule_syntax.specs.Reading.{expr_at, formula_at}
use Rattle.rule_syntax.proofs.Expressions.{expr_good, negative_is_good, parens_is_good, args_is_good, pair_is_good}
use Rattle.rule_reading.proofs.Formulas.{formula_good, not_is_good, brackets_is_good, quantified_is_good}
use Rattle.rule_reading.proofs.Steps.{Step, tok_step, pure_step, bind_step, either_step, opt_step, many_step, placed_step, chain_step, cut_step, steps_split}

word_step : (k : Keyword) → Step (Tok (word k)) (Tok (word k))
word_step k = tok_step (word k) (of_kind (kinds.Word k)) (has_self (kinds.Word k))

symbol_step : (s : Sym) → Step (Tok (symbol s)) (Tok (symbol s))
symbol_step s = tok_step (symbol s) (of_kind (kinds.Symbol s)) (has_self (kinds.Symbol s))

numbers_step : Step (Tok numbers) (Tok numbers)
numbers_step = tok_step numbers (of_kind (kinds.Number 0)) (has_self (kinds.Number 0))

named_step : (text : List ℕ) → Step (Named text) (Named text)
named_step text = bind_step _ _ _ _ (tok_step names (of_kind kinds.Name) (has_self kinds.Name)) (λ t. pure_step _)

-- ---- expressions

number_word_step : Step NumberWord NumberWord
number_word_step = bind_step _ _ _ _ numbers_step (λ t. pure_step _)

variable_step : (text : List ℕ) → Step (Variable text) (Variable text)
variable_step text = bind_step _ _ _ _ (named_step text) (λ a. opt_step _ _ (param a) (bind_step _ _ _ _ (symbol_step syms.Dot) (λ d. bind_step _ _ _ _ (named_step text) (λ b. pure_step _))))

shape_number_step : (text : List ℕ) → Step (ShapeNumber text) (ShapeNumber text)
shape_number_step text = bind_step _ _ _ _ (word_step keywords.Shape) (λ t. bind_step _ _ _ _ (named_step text) (λ a. pure_step _))

module _ (L M : Lang ExprTree) (s : Step L M) where
  negative_step : Step (Negative L) (Negative M)
  negative_step = bind_step _ _ _ _ (symbol_step syms.Minus) (λ t. bind_step L M _ _ s (λ e. pure_step _))

  parens_step : Step (Parens L) (Parens M)
  parens_step = bind_step _ _ _ _ (symbol_step syms.ParenOpen) (λ t. bind_step L M _ _ s (λ e. bind_step _ _ _ _ (symbol_step syms.ParenClose) (λ u. pure_step _)))

  argument_list_step : Step (ArgumentList L) (ArgumentList M)
  argument_list_step = opt_step _ _ [] (bind_step _ _ _ _ (chain_step _ _ (symbol syms.Comma) (of_kind (kinds.Symbol syms.Comma)) refl (placed_step L M argument s)) (λ c. pure_step _))

  pub args_over_step : Step (Args L) (Args M)
  args_over_step = bind_step _ _ _ _ (symbol_step syms.ParenOpen) (λ t. bind_step _ _ _ _ argument_list_step (λ es. bind_step _ _ _ _ (symbol_step syms.ParenClose) (λ u. pure_step _)))

  pair_step : Step (Pair L) (Pair M)
  pair_step = bind_step _ _ _ _ (symbol_step syms.ParenOpen) (λ t. bind_step L M _ _ s (λ a. bind_step _ _ _ _ (symbol_step syms.Comma) (λ c. bind_step L M _ _ s (λ b. bind_step _ _ _ _ (symbol_step syms.ParenClose) (λ u. pure_step _)))))

  product_step_step : Step (ProductStep L) (ProductStep M)
  product_step_step = either_step _ _ _ _
      (bind_step _ _ _ _ (symbol_step syms.Star) (λ t. bind_step L M _ _ s (λ e. pure_step _)))
      (bind_step _ _ _ _ (tok_step (words keywords.Div keywords.Mod) (of_kind (kinds.Word keywords.Div)) refl) (λ t. bind_step _ _ _ _ numbers_step (λ m. pure_step _)))

  pub term_step : Step (Term L) (Term M)
  term_step = placed_step _ _ product_of (bind_step L M _ _ s (λ a. bind_step _ _ _ _ (many_step _ _ product_step_step) (λ others. pure_step _)))

  sum_step_step : Step (SumStep L) (SumStep M)
  sum_step_step = bind_step _ _ _ _ (tok_step (symbols syms.Plus syms.Minus) (of_kind (kinds.Symbol syms.Plus)) refl) (λ t. bind_step L M _ _ s (λ e. pure_step _))

  comparison_step : Step (Comparison L) (Comparison M)
  comparison_step = placed_step _ _ (λ p x. comparison p x.0 x.1 x.2) (bind_step L M _ _ s (λ a. bind_step _ _ _ _ (tok_step rels (of_kind (kinds.Symbol syms.Less)) refl) (λ t. bind_step L M _ _ s (λ b. pure_step _))))

pub expr_over_step : (L M : Lang ExprTree) → Step L M → Step (ExprOver L) (ExprOver M)
expr_over_step L M s = placed_step _ _ sum_of (bind_step _ _ _ _ (term_step L M s) (λ a. bind_step _ _ _ _ (many_step _ _ (sum_step_step (Term L) (Term M) (term_step L M s))) (λ others. pure_step _)))

module _ (text : List ℕ) where
  factor_over_step : (L M L' M' : Lang ExprTree) (N N' : Lang (List ArgumentTree)) (P P' : Lang (ExprTree × ExprTree)) → Step L L' → Step M M' → Step N N' → Step P P' → Step (FactorOver text L M N P) (FactorOver text L' M' N' P')
  factor_over_step L M L' M' N N' P P' l m n p = either_step _ _ _ _ number_word_step (either_step _ _ _ _ (variable_step text) (either_step _ _ _ _ (shape_number_step text) (either_step _ _ _ _ l (either_step _ _ _ _ m
      (either_step _ _ _ _ (bind_step _ _ _ _ (symbol_step syms.Dollar) (λ t. bind_step _ _ _ _ (named_step text) (λ a. bind_step N N' _ _ n (λ es. pure_step _))))
      (bind_step _ _ _ _ (tok_step (words keywords.Min keywords.Max) (of_kind (kinds.Word keywords.Min)) refl) (λ t. bind_step P P' _ _ p (λ q. pure_step _))))))))

  abbrev name : Token
  name = of_kind kinds.Name

  abbrev mark : Sym → Token
  mark s = of_kind (kinds.Symbol s)

  -- one token
  one : (k : Kind) → Tok (class_of k ∷ []) (Some (of_kind k)) (of_kind k ∷ [])
  one k = (of_kind k, has_self k, refl, refl)

  -- a name is a factor and an expression
  named_name : Named text (Some (name_in text name)) (name ∷ [])
  named_name = both name (name ∷ []) [] (one kinds.Name) (refl, refl) refl

  variable_name : Variable text (Some (param (name_in text name))) (name ∷ [])
  variable_name = both (name_in text name) (name ∷ []) [] named_name (not_there refl refl) refl

  factor_name : (n : ℕ) → Factor text n (Some (param (name_in text name))) (name ∷ [])
  unfolding Factor
  factor_name zero = right (left variable_name)
  factor_name (suc n) = right (left variable_name)

  expr_name : (n : ℕ) → ExprOver (Factor text n) (Some (param (name_in text name))) (name ∷ [])
  expr_name n =
      let e : ExprTree = param (name_in text name) in
      let term : Term (Factor text n) (Some e) (name ∷ []) = (Some (e, []), both e (name ∷ []) [] (factor_name n) (both [] [] [] (0, (refl, refl)) (refl, refl) refl) refl, refl) in
      (Some (e, []), both e (name ∷ []) [] term (both [] [] [] (0, (refl, refl)) (refl, refl) refl) refl, refl)

  -- the same with what closes it behind it
  close : (s : Sym) {A : Type 0} (a : A) → Bind (Tok (symbol s)) (λ u. Pure a) (Some a) (mark s ∷ [])
  close s a = both (mark s) (mark s ∷ []) [] (one (kinds.Symbol s)) (refl, refl) refl

  -- ---- a level more for what opens one, from none

  negative_cut_step : (n : ℕ) → Step (Cut (symbol syms.Minus)) (Negative (Factor text n))
  negative_cut_step n =
      let e : ExprTree = param (name_in text name) in
      cut_step (symbol syms.Minus) (symbol syms.Dot) (Negative (Factor text n)) (negative_is_good text n).facts
      (λ t i. (negative t.start e, name ∷ [], both t (t ∷ []) (name ∷ []) (t, i, refl, refl) (both e (name ∷ []) [] (factor_name n) (refl, refl) refl) refl)) (mark syms.Minus) refl

  parens_cut_step : (n : ℕ) → Step (Cut (symbol syms.ParenOpen)) (Parens (ExprOver (Factor text n)))
  parens_cut_step n =
      let e : ExprTree = param (name_in text name) in
      cut_step (symbol syms.ParenOpen) [] (Parens (ExprOver (Factor text n))) (parens_is_good text n).facts
      (λ t i. (e, name ∷ mark syms.ParenClose ∷ [], both t (t ∷ []) (name ∷ mark syms.ParenClose ∷ []) (t, i, refl, refl) (both e (name ∷ []) (mark syms.ParenClose ∷ []) (expr_name n) (close syms.ParenClose e) refl) refl)) (mark syms.ParenOpen) refl

  args_cut_step : (n : ℕ) → Step (Cut (symbol syms.ParenOpen)) (Args (ExprOver (Factor text n)))
  args_cut_step n =
      cut_step (symbol syms.ParenOpen) [] (Args (ExprOver (Factor text n))) (args_is_good text n).facts
      (λ t i. ([], mark syms.ParenClose ∷ [], both t (t ∷ []) (mark syms.ParenClose ∷ []) (t, i, refl, refl) (both [] [] (mark syms.ParenClose ∷ []) (not_there refl refl) (close syms.ParenClose []) refl) refl)) (mark syms.ParenOpen) refl

  pair_cut_step : (n : ℕ) → Step (Cut (symbol syms.ParenOpen)) (Pair (ExprOver (Factor text n)))
  pair_cut_step n =
      let e : ExprTree = param (name_in text name) in
      let p : ExprTree × ExprTree = (e, e) in
      cut_step (symbol syms.ParenOpen) [] (Pair (ExprOver (Factor text n))) (pair_is_good text n).facts
      (λ t i. (
        p,
        name ∷ mark syms.Comma ∷ name ∷ mark syms.ParenClose ∷ [],
        both t (t ∷ []) (name ∷ mark syms.Comma ∷ name ∷ mark syms.ParenClose ∷ []) (t, i, refl, refl)
            (both e (name ∷ []) (mark syms.Comma ∷ name ∷ mark syms.ParenClose ∷ []) (expr_name n)
            (both (mark syms.Comma) (mark syms.Comma ∷ []) (name ∷ mark syms.ParenClose ∷ []) (one (kinds.Symbol syms.Comma))
            (both e (name ∷ []) (mark syms.ParenClose ∷ []) (expr_name n) (close syms.ParenClose p) refl) refl) refl) refl,
      )) (mark syms.ParenOpen) refl

  pub factor_step : (n : ℕ) → Step (Factor text n) (Factor text (suc n))
  unfolding Factor
  factor_step zero = factor_over_step _ _ _ _ _ _ _ _ (negative_cut_step zero) (parens_cut_step zero) (args_cut_step zero) (pair_cut_step zero)
  factor_step (suc n) =
      let over : Step (ExprOver (Factor text n)) (ExprOver (Factor text (suc n))) = expr_over_step (Factor text n) (Factor text (suc n)) (factor_step n) in
      factor_over_step _ _ _ _ _ _ _ _ (negative_step (Factor text n) (Factor text (suc n)) (factor_step n)) (parens_step _ _ over) (args_over_step _ _ over) (pair_step _ _ over)

  pub expr_step : (n : ℕ) → Step (ExprWords text n) (ExprWords text (suc n))
  unfolding ExprWords
  expr_step n = expr_over_step (Factor text n) (Factor text (suc n)) (factor_step n)

  pub args_step : (n : ℕ) → Step (ArgsWords text n) (ArgsWords text (suc n))
  unfolding ArgsWords ExprWords
  args_step zero = args_cut_step zero
  args_step (suc n) = args_over_step _ _ (expr_over_step (Factor text n) (Factor text (suc n)) (factor_step n))

  -- what reading an expression gives
  pub expr_reading : (n : ℕ) (w : List Token) → IsReading (ExprWords text) n w (expr_at text n w)
  expr_reading n w = is_reading (ExprWords text) n _ _ (expr_good text n).facts (λ m. steps_split (ExprWords text) expr_step m n) (expr_step n).above w (expr_at text n w) ((expr_good text n).reads w)

-- ---- formulas

true_step : Step True True
true_step = bind_step _ _ _ _ (word_step keywords.True) (λ t. pure_step _)

false_step : Step False False
false_step = bind_step _ _ _ _ (word_step keywords.False) (λ t. pure_step _)

quantifier_step : Step Quantifier Quantifier
quantifier_step = either_step _ _ _ _
    (bind_step _ _ _ _ (tok_step (words keywords.ForAll keywords.Exists) (of_kind (kinds.Word keywords.ForAll)) refl) (λ t. pure_step _))
    (bind_step _ _ _ _ (tok_step (words keywords.AtLeast keywords.AtMost) (of_kind (kinds.Word keywords.AtLeast)) refl) (λ t. bind_step _ _ _ _ numbers_step (λ m. pure_step _)))

collection_step : (text : List ℕ) → Step (Collection text) (Collection text)
collection_step text = either_step _ _ _ _
    (bind_step _ _ _ _ (word_step keywords.Objects) (λ t. opt_step _ _ all_objects
    (bind_step _ _ _ _ (symbol_step syms.ParenOpen) (λ u. bind_step _ _ _ _ (chain_step _ _ (symbol syms.Comma) (of_kind (kinds.Symbol syms.Comma)) refl (named_step text)) (λ c. bind_step _ _ _ _ (symbol_step syms.ParenClose) (λ v. pure_step _))))))
    (bind_step _ _ _ _ (word_step keywords.Boxes) (λ t. bind_step _ _ _ _ (word_step keywords.Of) (λ u. bind_step _ _ _ _ (named_step text) (λ a. pure_step _))))

module _ (L M : Lang FormulaTree) (s : Step L M) where
  not_step : Step (Not L) (Not M)
  not_step = bind_step _ _ _ _ (word_step keywords.Not) (λ t. bind_step L M _ _ s (λ f. pure_step _))

  brackets_step : Step (Brackets L) (Brackets M)
  brackets_step = bind_step _ _ _ _ (symbol_step syms.BracketOpen) (λ t. bind_step L M _ _ s (λ f. bind_step _ _ _ _ (symbol_step syms.BracketClose) (λ u. pure_step _)))

  quantified_step : (text : List ℕ) → Step (Quantified text L) (Quantified text M)
  quantified_step text = bind_step _ _ _ _ quantifier_step (λ q. bind_step _ _ _ _ (named_step text) (λ a. bind_step _ _ _ _ (word_step keywords.In) (λ t. bind_step _ _ _ _ (collection_step text) (λ c. bind_step _ _ _ _ (symbol_step syms.Colon) (λ u. bind_step L M _ _ s (λ f. pure_step _))))))

  pub conjunction_step : Step (Conjunction L) (Conjunction M)
  conjunction_step = placed_step _ _ and_of (chain_step L M (word keywords.And) (of_kind (kinds.Word keywords.And)) refl s)

  behind_step : (k : Keyword) → Step (Behind (word k) L) (Behind (word k) M)
  behind_step k = opt_step _ _ None (bind_step _ _ _ _ (word_step k) (λ t. bind_step L M _ _ s (λ g. pure_step _)))

pub disjunction_step : (L M : Lang FormulaTree) → Step L M → Step (Disjunction L) (Disjunction M)
disjunction_step L M s = placed_step _ _ or_of (chain_step _ _ (word keywords.Or) (of_kind (kinds.Word keywords.Or)) refl (conjunction_step L M s))

pub implication_step : (L M : Lang FormulaTree) → Step L M → Step (Implication L) (Implication M)
implication_step L M s = placed_step _ _ implication_of (bind_step _ _ _ _ (disjunction_step L M s) (λ f. bind_step _ _ _ _ (behind_step (Disjunction L) (Disjunction M) (disjunction_step L M s) keywords.Implies) (λ g. pure_step _)))

pub formula_over_step : (L M : Lang FormulaTree) → Step L M → Step (FormulaOver L) (FormulaOver M)
formula_over_step L M s = placed_step _ _ equivalence_of (bind_step _ _ _ _ (implication_step L M s) (λ f. bind_step _ _ _ _ (behind_step (Implication L) (Implication M) (implication_step L M s) keywords.Iff) (λ g. pure_step _)))

module _ (text : List ℕ) where
  unary_over_step : (L M N L' M' N' : Lang FormulaTree) (A A' : Lang (List ArgumentTree)) (E E' : Lang ExprTree) → Step L L' → Step M M' → Step A A' → Step N N' → Step E E' → Step (UnaryOver text L M A N E) (UnaryOver text L' M' A' N' E')
  unary_over_step L M N L' M' N' A A' E E' l m a n e = either_step _ _ _ _ true_step (either_step _ _ _ _ false_step (either_step _ _ _ _ l (either_step _ _ _ _ m
      (either_step _ _ _ _ (bind_step _ _ _ _ (symbol_step syms.At) (λ t. bind_step _ _ _ _ (named_step text) (λ b. bind_step A A' _ _ a (λ es. pure_step _)))) (either_step _ _ _ _ n (comparison_step E E' e))))))

  abbrev true_token : Token
  true_token = of_kind (kinds.Word keywords.True)

  abbrev in_token : Token
  in_token = of_kind (kinds.Word keywords.In)

  abbrev objects_token : Token
  objects_token = of_kind (kinds.Word keywords.Objects)

  abbrev zero_token : Token
  zero_token = of_kind (kinds.Number 0)

  -- `true` is a unary and a formula
  unary_true : (n : ℕ) → Unary text n (Some (truth 0)) (true_token ∷ [])
  unfolding Unary
  unary_true zero = left (both true_token (true_token ∷ []) [] (one text (kinds.Word keywords.True)) (refl, refl) refl)
  unary_true (suc n) = left (both true_token (true_token ∷ []) [] (one text (kinds.Word keywords.True)) (refl, refl) refl)

  formula_true : (n : ℕ) → FormulaOver (Unary text n) (Some (truth 0)) (true_token ∷ [])
  formula_true n =
      let w : List Token = true_token ∷ [] in
      let conj : Conjunction (Unary text n) (Some (truth 0)) w = (Some (truth 0, []), both (truth 0) w [] (unary_true n) (both [] [] [] (0, (refl, refl)) (refl, refl) refl) refl, refl) in
      let disj : Disjunction (Unary text n) (Some (truth 0)) w = (Some (truth 0, []), both (truth 0) w [] conj (both [] [] [] (0, (refl, refl)) (refl, refl) refl) refl, refl) in
      let imp : Implication (Unary text n) (Some (truth 0)) w = (Some (truth 0, None), both (truth 0) w [] disj (both None [] [] (not_there refl refl) (refl, refl) refl) refl, refl) in
      (Some (truth 0, None), both (truth 0) w [] imp (both None [] [] (not_there refl refl) (refl, refl) refl) refl, refl)

  not_cut_step : (n : ℕ) → Step (Cut (word keywords.Not)) (Not (Unary text n))
  not_cut_step n = cut_step (word keywords.Not) _ (Not (Unary text n)) (not_is_good text n).facts
      (λ t i. (negation t.start (truth 0), true_token ∷ [], both t (t ∷ []) (true_token ∷ []) (t, i, refl, refl) (both (truth 0) (true_token ∷ []) [] (unary_true n) (refl, refl) refl) refl)) (of_kind (kinds.Word keywords.Not)) refl

  brackets_cut_step : (n : ℕ) → Step (Cut (symbol syms.BracketOpen)) (Brackets (FormulaOver (Unary text n)))
  brackets_cut_step n = cut_step (symbol syms.BracketOpen) [] (Brackets (FormulaOver (Unary text n))) (brackets_is_good text n).facts
      (λ t i. (
        truth 0,
        true_token ∷ of_kind (kinds.Symbol syms.BracketClose) ∷ [],
        both t (t ∷ []) (true_token ∷ of_kind (kinds.Symbol syms.BracketClose) ∷ []) (t, i, refl, refl)
            (both (truth 0) (true_token ∷ []) (of_kind (kinds.Symbol syms.BracketClose) ∷ []) (formula_true n) (close text syms.BracketClose (truth 0)) refl) refl,
      )) (of_kind (kinds.Symbol syms.BracketOpen)) refl

  -- what stands behind a quantifier's first words
  abbrev body_tokens : List Token
  body_tokens = of_kind kinds.Name ∷ in_token ∷ objects_token ∷ of_kind (kinds.Symbol syms.Colon) ∷ true_token ∷ []

  body : (n p : ℕ) (k : QuantKind) → Bind (Named text) (λ a. Bind (Tok (word keywords.In)) (λ t. Bind (Collection text) (λ c. Bind (Tok (symbol syms.Colon)) (λ u. Bind (Unary text n) (λ f. Pure (quantified p k a c f))))))
      (Some (quantified p k (name_in text (of_kind kinds.Name)) all_objects (truth 0))) body_tokens
  body n p k =
      both (name_in text (of_kind kinds.Name)) (of_kind kinds.Name ∷ []) (in_token ∷ objects_token ∷ of_kind (kinds.Symbol syms.Colon) ∷ true_token ∷ []) (named_name text)
      (both in_token (in_token ∷ []) (objects_token ∷ of_kind (kinds.Symbol syms.Colon) ∷ true_token ∷ []) (one text (kinds.Word keywords.In))
      (both all_objects (objects_token ∷ []) (of_kind (kinds.Symbol syms.Colon) ∷ true_token ∷ []) (left (both objects_token (objects_token ∷ []) [] (one text (kinds.Word keywords.Objects)) (not_there refl refl) refl))
      (both (of_kind (kinds.Symbol syms.Colon)) (of_kind (kinds.Symbol syms.Colon) ∷ []) (true_token ∷ []) (one text (kinds.Symbol syms.Colon))
      (both (truth 0) (true_token ∷ []) [] (unary_true n) (refl, refl) refl) refl) refl) refl) refl

  quantified_rest : (n : ℕ) (t : Token) → Of quantifiers t → (a : FormulaTree) × (v : List Token) × Quantified text (Unary text n) (Some a) (t ∷ v)
  quantified_rest n t i = elim (has_append (words keywords.ForAll keywords.Exists) (words keywords.AtLeast keywords.AtMost) (class_of t.kind) i) [
    | inl j ↦ (
      quantified t.start (each_in t.kind) (name_in text (of_kind kinds.Name)) all_objects (truth 0),
      body_tokens,
      both (t.start, each_in t.kind) (t ∷ []) body_tokens (left (both t (t ∷ []) [] (t, j, refl, refl) (refl, refl) refl)) (body n t.start (each_in t.kind)) refl,
    )
    | inr j ↦ (
      quantified t.start (count_in t.kind 0) (name_in text (of_kind kinds.Name)) all_objects (truth 0),
      zero_token ∷ body_tokens,
      both (t.start, count_in t.kind 0) (t ∷ zero_token ∷ []) body_tokens (right (both t (t ∷ []) (zero_token ∷ []) (t, j, refl, refl) (both zero_token (zero_token ∷ []) [] (one text (kinds.Number 0)) (refl, refl) refl) refl)) (body n t.start (count_in t.kind 0)) refl,
    )
  ]

  quantified_cut_step : (n : ℕ) → Step (Cut quantifiers) (Quantified text (Unary text n))
  quantified_cut_step n = cut_step quantifiers _ (Quantified text (Unary text n)) (quantified_is_good text n).facts (quantified_rest n) (of_kind (kinds.Word keywords.ForAll)) refl

  pub unary_step : (n : ℕ) → Step (Unary text n) (Unary text (suc n))
  unfolding Unary
  unary_step zero = unary_over_step _ _ _ _ _ _ _ _ _ _ (not_cut_step zero) (brackets_cut_step zero) (args_step text zero) (quantified_cut_step zero) (expr_step text zero)
  unary_step (suc n) = unary_over_step _ _ _ _ _ _ _ _ _ _ (not_step (Unary text n) (Unary text (suc n)) (unary_step n)) (brackets_step _ _ (formula_over_step (Unary text n) (Unary text (suc n)) (unary_step n))) (args_step text (suc n)) (quantified_step (Unary text n) (Unary text (suc n)) (unary_step n) text) (expr_step text (suc n))

  pub formula_step : (n : ℕ) → Step (FormulaWords text n) (FormulaWords text (suc n))
  unfolding FormulaWords
  formula_step n = formula_over_step (Unary text n) (Unary text (suc n)) (unary_step n)

  -- what reading a formula gives
  pub formula_reading : (n : ℕ) (w : List Token) → IsReading (FormulaWords text) n w (formula_at text n w)
  formula_reading n w = is_reading (FormulaWords text) n _ _ (formula_good text n).facts (λ m. steps_split (FormulaWords text) formula_step m n) (formula_step n).above w (formula_at text n w) ((formula_good text n).reads w)
