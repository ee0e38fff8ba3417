-- Each formula that some tokens of a text spell is spelled canonically with no more levels.
use Rattle.std.proofs.Common.{◌≡◌, ℕ, zero, suc, ◌≤◌, List, [], ◌∷◌, Option, Some, None, refl, ap, ◌∙◌, subst}
use Rattle.geo_tokens.specs.declared.token.Token.{Token}
use Rattle.geo_tokens.specs.declared.token.Kind.{Kind}
use Rattle.geo_tokens.specs.declared.token.Kind.TheVariants as kinds
use Rattle.geo_tokens.specs.declared.token.Keyword.TheVariants as keywords
use Rattle.geo_tokens.specs.declared.token.Sym.TheVariants as syms
use Rattle.geo_tokens.specs.Class.{number_in}
use Rattle.geo_tokens.specs.Words.{Kinds, numbers, word, symbol, Lang, Pure, Tok, Cut, Bind, left, right, Opt, there, not_there, start_of, Chain}
use Rattle.rule_syntax.specs.declared.tree.PlacedName.{PlacedName}
use Rattle.rule_syntax.specs.declared.tree.Rel.{Rel}
use Rattle.rule_syntax.specs.declared.tree.QuantKind.{QuantKind}
use Rattle.rule_print.specs.declared.rank.FormulaRank.TheVariants as ranks
use Rattle.rule_syntax.specs.Marks.{rels, quantifiers}
use Rattle.rule_syntax.specs.Tree.{ExprTree, arguments, CollTree, all_objects, listed, boxes_of, FormulaTree, truth, falsehood, negation, comparison, quantified, formula_call}
use Rattle.rule_syntax.specs.Grammar.{rel_in, each_in, count_in, and_of, or_of, implication_of, equivalence_of, Named, Args, ExprOver, Factor, ExprWords, ArgsWords, True, False, Not, Brackets, FormulaCall, Quantifier, NameList, Collection, Quantified, Comparison, Conjunction, Disjunction, Behind, Implication, FormulaOver, Unary}
use Rattle.rule_print.specs.Spelled.{formula_spelling}
use Rattle.rule_print.proofs.Respelled.{Respelled, named_again, AllOf, AllTrue, parts_of, pure_is, inside_of, token_of_list, never_cut, chain_of, small_number, name_is_text}
use Rattle.rule_print.proofs.ExpressionsRead.{factor_of, expr_of, args_of}
use Rattle.rule_print.proofs.FormulasAgain.{UnaryIn, ConjunctionIn, SameFormula, FormulaAgain, IsCount, CollAgain, NameAgain, truth_again, falsehood_again, negation_again, call_again, comparison_again, all_again, listed_again, boxes_again, quantified_again, alone, nested, and_case, or_case, implication_one, implication_two, formula_one, formula_two}

each_count : (k : Kind) → IsCount (each_in k)
each_count (kinds.Word keywords.ForAll) = tt
each_count _ = tt

at_count : (k : Kind) (n : ℕ) → n ≤ 1000000000 → IsCount (count_in k n)
at_count (kinds.Word keywords.AtLeast) n h = h
at_count _ n h = h

all_of : {A : Type 0} {P Q : A → Type 0} (f : (a : A) → P a → Q a) (xs : List A) → AllOf P xs → AllOf Q xs
all_of f [] h = tt
all_of f (x ∷ xs) h = (f x h.0, all_of f xs h.1)

module _ (text : List ℕ) where
  -- ---- what opens no level

  true_case : (n : ℕ) (f : FormulaTree) (w : List Token) → True (Some f) w → AllTrue text w → FormulaAgain n n n n n f
  true_case n f w h tr =
      let j = parts_of text f w h tr in
      let is : truth j.value.start ≡ f = pure_is (truth j.value.start) f j.rest j.second in
      subst (λ (u : FormulaTree). FormulaAgain n n n n n u) is (alone n (truth j.value.start) _ (truth_again n j.value.start) refl refl refl refl refl)

  false_case : (n : ℕ) (f : FormulaTree) (w : List Token) → False (Some f) w → AllTrue text w → FormulaAgain n n n n n f
  false_case n f w h tr =
      let j = parts_of text f w h tr in
      let is : falsehood j.value.start ≡ f = pure_is (falsehood j.value.start) f j.rest j.second in
      subst (λ (u : FormulaTree). FormulaAgain n n n n n u) is (alone n (falsehood j.value.start) _ (falsehood_again n j.value.start) refl refl refl refl refl)

  comparison_case : (n : ℕ) (f : FormulaTree) (w : List Token) → Comparison (ExprOver (Factor text n)) (Some f) w → AllTrue text w → FormulaAgain n n n n n f
  comparison_case n f w h tr =
      let p = inside_of {A = ExprTree × Rel × ExprTree} (Bind (ExprOver (Factor text n)) (λ a. Bind (Tok rels) (λ t. Bind (ExprOver (Factor text n)) (λ b. Pure (a, rel_in t.kind, b))))) (λ p x. comparison p x.0 x.1 x.2) f w h in
      let j = parts_of text p.value w p.word tr in
      let i = parts_of text p.value j.rest j.second j.rest_true in
      let k = parts_of text p.value i.rest i.second i.rest_true in
      let is : (j.value, rel_in i.value.kind, k.value) ≡ p.value = pure_is (j.value, rel_in i.value.kind, k.value) p.value k.rest k.second in
      let a = expr_of text n (factor_of text n) j.value j.front j.first j.front_true in
      let b = expr_of text n (factor_of text n) k.value k.front k.first k.front_true in
      let tree : comparison (start_of w) j.value (rel_in i.value.kind) k.value ≡ f = ap (λ (x : ExprTree × Rel × ExprTree). comparison (start_of w) x.0 x.1 x.2) is ∙ p.is in
      subst (λ (u : FormulaTree). FormulaAgain n n n n n u) tree
      (alone n (comparison (start_of w) j.value (rel_in i.value.kind) k.value) _ (comparison_again n (start_of w) j.value (rel_in i.value.kind) k.value a.expr b.expr) refl refl refl refl refl)

  -- ---- quantifiers

  quantifier_case : (q : ℕ × QuantKind) (w : List Token) → Quantifier (Some q) w → AllTrue text w → IsCount q.1
  quantifier_case q w (left h) tr =
      let j = parts_of text q w h tr in
      let is : (j.value.start, each_in j.value.kind) ≡ q = pure_is (j.value.start, each_in j.value.kind) q j.rest j.second in
      subst (λ (u : ℕ × QuantKind). IsCount u.1) is (each_count j.value.kind)
  quantifier_case q w (right h) tr =
      let j = parts_of text q w h tr in
      let i = parts_of text q j.rest j.second j.rest_true in
      let small : number_in i.value.kind ≤ 1000000000 = small_number text i.value (token_of_list text numbers i.value i.front i.first i.front_true).is_true in
      let is : (j.value.start, count_in j.value.kind (number_in i.value.kind)) ≡ q = pure_is (j.value.start, count_in j.value.kind (number_in i.value.kind)) q i.rest i.second in
      subst (λ (u : ℕ × QuantKind). IsCount u.1) is (at_count j.value.kind (number_in i.value.kind) small)

  name_case : (a : PlacedName) (w : List Token) → Named text (Some a) w → AllTrue text w → NameAgain a
  name_case a w h tr = record { good = (name_is_text text a w h tr, tt); again = named_again a.name }

  name_list_case : (c : CollTree) (w : List Token) → NameList text (Some c) w → AllTrue text w → CollAgain c
  name_list_case c w h tr =
      let j = parts_of text c w h tr in
      let i = parts_of text c j.rest j.second j.rest_true in
      let k = parts_of text c i.rest i.second i.rest_true in
      let ns = chain_of text (Named text) (symbol syms.Comma) NameAgain name_case i.value i.front i.first i.front_true in
      let is : listed (i.value.0 ∷ i.value.1) ≡ c = pure_is (listed (i.value.0 ∷ i.value.1)) c k.rest k.second in
      subst (λ (u : CollTree). CollAgain u) is (listed_again i.value.0 i.value.1 ns)

  objects_case : (c : CollTree) (w : List Token) → Opt (NameList text) all_objects (Some c) w → AllTrue text w → CollAgain c
  objects_case c w (not_there q r) tr = let is : all_objects ≡ c = (let back : Some c ≡ Some all_objects = q in cc) in subst (λ (u : CollTree). CollAgain u) is all_again
  objects_case c w (there h) tr = name_list_case c w h tr

  collection_case : (c : CollTree) (w : List Token) → Collection text (Some c) w → AllTrue text w → CollAgain c
  collection_case c w (left h) tr = let j = parts_of text c w h tr in objects_case c j.rest j.second j.rest_true
  collection_case c w (right h) tr =
      let j = parts_of text c w h tr in
      let i = parts_of text c j.rest j.second j.rest_true in
      let k = parts_of text c i.rest i.second i.rest_true in
      let is : boxes_of k.value ≡ c = pure_is (boxes_of k.value) c k.rest k.second in
      subst (λ (u : CollTree). CollAgain u) is (boxes_again k.value (name_is_text text k.value k.front k.first k.front_true))

  -- ---- over the unaries of n levels

  module _ (n : ℕ) (again : (f : FormulaTree) (w : List Token) → Unary text n (Some f) w → AllTrue text w → FormulaAgain n n n n n f) where
    conjunction_of : (f : FormulaTree) (w : List Token) → Conjunction (Unary text n) (Some f) w → AllTrue text w → FormulaAgain (suc n) n n n n f
    conjunction_of f w h tr =
        let p = inside_of (Chain (Unary text n) (word keywords.And)) and_of f w h in
        let c = chain_of text (Unary text n) (word keywords.And) (FormulaAgain n n n n n) again p.value w p.word tr in
        let others = all_of {P = FormulaAgain n n n n n} {Q = λ x. Respelled (UnaryIn n) (SameFormula x) (formula_spelling ranks.Unary x)} (λ x g. g.unary) p.value.1 c.1 in
        subst (λ (u : FormulaTree). FormulaAgain (suc n) n n n n u) p.is (and_case n (start_of w) p.value.0 p.value.1 c.0 (c.0.unary, others))

    disjunction_of : (f : FormulaTree) (w : List Token) → Disjunction (Unary text n) (Some f) w → AllTrue text w → FormulaAgain (suc n) (suc n) n n n f
    disjunction_of f w h tr =
        let p = inside_of (Chain (Conjunction (Unary text n)) (word keywords.Or)) or_of f w h in
        let c = chain_of text (Conjunction (Unary text n)) (word keywords.Or) (FormulaAgain (suc n) n n n n) conjunction_of p.value w p.word tr in
        let others = all_of {P = FormulaAgain (suc n) n n n n} {Q = λ x. Respelled (ConjunctionIn n) (SameFormula x) (formula_spelling ranks.Conjunction x)} (λ x g. g.conjunction) p.value.1 c.1 in
        subst (λ (u : FormulaTree). FormulaAgain (suc n) (suc n) n n n u) p.is (or_case n (start_of w) p.value.0 p.value.1 c.0 (c.0.conjunction, others))

    -- what stands behind `implies` or `iff`, if that is there
    abbrev IfSome : (FormulaTree → Type 0) → Option FormulaTree → Type 0
    IfSome Q None = Unit {0}
    IfSome Q (Some g) = Q g

    behind_of : (ks : Kinds) (L : Lang FormulaTree) (Q : FormulaTree → Type 0) → ((g : FormulaTree) (w : List Token) → L (Some g) w → AllTrue text w → Q g) → (o : Option FormulaTree) (w : List Token) → Behind ks L (Some o) w → AllTrue text w → IfSome Q o
    behind_of ks L Q f o w (not_there q r) tr = let is : None ≡ o = (let back : Some o ≡ Some None = q in cc) in subst (λ (u : Option FormulaTree). IfSome Q u) is tt
    behind_of ks L Q f o w (there h) tr =
        let j = parts_of text o w h tr in
        let i = parts_of text o j.rest j.second j.rest_true in
        let is : Some i.value ≡ o = pure_is (Some i.value) o i.rest i.second in
        subst (λ (u : Option FormulaTree). IfSome Q u) is (f i.value i.front i.first i.front_true)

    implication_case : (p : ℕ) (f : FormulaTree) (o : Option FormulaTree) → FormulaAgain (suc n) (suc n) n n n f → IfSome (FormulaAgain (suc n) (suc n) n n n) o → FormulaAgain (suc n) (suc n) (suc n) n n (implication_of p (f, o))
    implication_case p f None h g = implication_one n f h
    implication_case p f (Some x) h g = implication_two n p f x h g

    implication_read : (f : FormulaTree) (w : List Token) → Implication (Unary text n) (Some f) w → AllTrue text w → FormulaAgain (suc n) (suc n) (suc n) n n f
    implication_read f w h tr =
        let p = inside_of {A = FormulaTree × Option FormulaTree} (Bind (Disjunction (Unary text n)) (λ f. Bind (Behind (word keywords.Implies) (Disjunction (Unary text n))) (λ g. Pure (f, g)))) implication_of f w h in
        let j = parts_of text p.value w p.word tr in
        let i = parts_of text p.value j.rest j.second j.rest_true in
        let o = behind_of (word keywords.Implies) (Disjunction (Unary text n)) (FormulaAgain (suc n) (suc n) n n n) disjunction_of i.value i.front i.first i.front_true in
        let is : (j.value, i.value) ≡ p.value = pure_is (j.value, i.value) p.value i.rest i.second in
        subst (λ (u : FormulaTree). FormulaAgain (suc n) (suc n) (suc n) n n u) (ap (implication_of (start_of w)) is ∙ p.is) (implication_case (start_of w) j.value i.value (disjunction_of j.value j.front j.first j.front_true) o)

    equivalence_case : (p : ℕ) (f : FormulaTree) (o : Option FormulaTree) → FormulaAgain (suc n) (suc n) (suc n) n n f → IfSome (FormulaAgain (suc n) (suc n) (suc n) n n) o → FormulaAgain (suc n) (suc n) (suc n) (suc n) n (equivalence_of p (f, o))
    equivalence_case p f None h g = formula_one n f h
    equivalence_case p f (Some x) h g = formula_two n p f x h g

    pub formula_of : (f : FormulaTree) (w : List Token) → FormulaOver (Unary text n) (Some f) w → AllTrue text w → FormulaAgain (suc n) (suc n) (suc n) (suc n) n f
    formula_of f w h tr =
        let p = inside_of {A = FormulaTree × Option FormulaTree} (Bind (Implication (Unary text n)) (λ f. Bind (Behind (word keywords.Iff) (Implication (Unary text n))) (λ g. Pure (f, g)))) equivalence_of f w h in
        let j = parts_of text p.value w p.word tr in
        let i = parts_of text p.value j.rest j.second j.rest_true in
        let o = behind_of (word keywords.Iff) (Implication (Unary text n)) (FormulaAgain (suc n) (suc n) (suc n) n n) implication_read i.value i.front i.first i.front_true in
        let is : (j.value, i.value) ≡ p.value = pure_is (j.value, i.value) p.value i.rest i.second in
        subst (λ (u : FormulaTree). FormulaAgain (suc n) (suc n) (suc n) (suc n) n u) (ap (equivalence_of (start_of w)) is ∙ p.is) (equivalence_case (start_of w) j.value i.value (implication_read j.value j.front j.first j.front_true) o)

    negation_case : (f : FormulaTree) (w : List Token) → Not (Unary text n) (Some f) w → AllTrue text w → FormulaAgain (suc n) (suc n) (suc n) (suc n) (suc n) f
    negation_case f w h tr =
        let j = parts_of text f w h tr in
        let i = parts_of text f j.rest j.second j.rest_true in
        let is : negation j.value.start i.value ≡ f = pure_is (negation j.value.start i.value) f i.rest i.second in
        subst (λ (u : FormulaTree). FormulaAgain (suc n) (suc n) (suc n) (suc n) (suc n) u) is
        (alone (suc n) (negation j.value.start i.value) _ (negation_again n j.value.start i.value (again i.value i.front i.first i.front_true).unary) refl refl refl refl refl)

    brackets_case : (f : FormulaTree) (w : List Token) → Brackets (FormulaOver (Unary text n)) (Some f) w → AllTrue text w → FormulaAgain (suc n) (suc n) (suc n) (suc n) (suc n) f
    brackets_case f w h tr =
        let j = parts_of text f w h tr in
        let i = parts_of text f j.rest j.second j.rest_true in
        let k = parts_of text f i.rest i.second i.rest_true in
        let is : i.value ≡ f = pure_is i.value f k.rest k.second in
        subst (λ (u : FormulaTree). FormulaAgain (suc n) (suc n) (suc n) (suc n) (suc n) u) is (nested n i.value (formula_of i.value i.front i.first i.front_true))

    call_case : (f : FormulaTree) (w : List Token) → FormulaCall text (Args (ExprOver (Factor text n))) (Some f) w → AllTrue text w → FormulaAgain (suc n) (suc n) (suc n) (suc n) (suc n) f
    call_case f w h tr =
        let j = parts_of text f w h tr in
        let i = parts_of text f j.rest j.second j.rest_true in
        let k = parts_of text f i.rest i.second i.rest_true in
        let is : formula_call j.value.start i.value (arguments k.value) ≡ f = pure_is (formula_call j.value.start i.value (arguments k.value)) f k.rest k.second in
        subst (λ (u : FormulaTree). FormulaAgain (suc n) (suc n) (suc n) (suc n) (suc n) u) is
        (alone (suc n) (formula_call j.value.start i.value (arguments k.value)) _
        (call_again n j.value.start i.value k.value (name_is_text text i.value i.front i.first i.front_true) (args_of text n (factor_of text n) k.value k.front k.first k.front_true)) refl refl refl refl refl)

    quantified_case : (f : FormulaTree) (w : List Token) → Quantified text (Unary text n) (Some f) w → AllTrue text w → FormulaAgain (suc n) (suc n) (suc n) (suc n) (suc n) f
    quantified_case f w h tr =
        let q = parts_of text f w h tr in
        let v = parts_of text f q.rest q.second q.rest_true in
        let t = parts_of text f v.rest v.second v.rest_true in
        let c = parts_of text f t.rest t.second t.rest_true in
        let u = parts_of text f c.rest c.second c.rest_true in
        let b = parts_of text f u.rest u.second u.rest_true in
        let is : quantified q.value.0 q.value.1 v.value c.value b.value ≡ f = pure_is (quantified q.value.0 q.value.1 v.value c.value b.value) f b.rest b.second in
        subst (λ (g : FormulaTree). FormulaAgain (suc n) (suc n) (suc n) (suc n) (suc n) g) is
        (alone (suc n) (quantified q.value.0 q.value.1 v.value c.value b.value) _
        (quantified_again n q.value.0 q.value.1 v.value c.value b.value (quantifier_case q.value q.front q.first q.front_true) (name_is_text text v.value v.front v.first v.front_true) (collection_case c.value c.front c.first c.front_true) (again b.value b.front b.first b.front_true).unary) refl refl refl refl refl)

  -- ---- all unaries

  no_call : (f : FormulaTree) (w : List Token) → FormulaCall text (Cut (symbol syms.ParenOpen)) (Some f) w → AllTrue text w → ⊥
  no_call f w h tr =
      let j = parts_of text f w h tr in
      let i = parts_of text f j.rest j.second j.rest_true in
      let k = parts_of text f i.rest i.second i.rest_true in
      never_cut (symbol syms.ParenOpen) k.value k.front k.first

  pub unary_of : (n : ℕ) (f : FormulaTree) (w : List Token) → Unary text n (Some f) w → AllTrue text w → FormulaAgain n n n n n f
  unfolding Unary ExprWords ArgsWords
  unary_of zero f w (left h) tr = true_case zero f w h tr
  unary_of zero f w (right (left h)) tr = false_case zero f w h tr
  unary_of zero f w (right (right (left h))) tr = absurd (never_cut (word keywords.Not) f w h)
  unary_of zero f w (right (right (right (left h)))) tr = absurd (never_cut (symbol syms.BracketOpen) f w h)
  unary_of zero f w (right (right (right (right (left h))))) tr = absurd (no_call f w h tr)
  unary_of zero f w (right (right (right (right (right (left h)))))) tr = absurd (never_cut quantifiers f w h)
  unary_of zero f w (right (right (right (right (right (right h)))))) tr = comparison_case zero f w h tr
  unary_of (suc n) f w (left h) tr = true_case (suc n) f w h tr
  unary_of (suc n) f w (right (left h)) tr = false_case (suc n) f w h tr
  unary_of (suc n) f w (right (right (left h))) tr = negation_case n (unary_of n) f w h tr
  unary_of (suc n) f w (right (right (right (left h)))) tr = brackets_case n (unary_of n) f w h tr
  unary_of (suc n) f w (right (right (right (right (left h))))) tr = call_case n (unary_of n) f w h tr
  unary_of (suc n) f w (right (right (right (right (right (left h)))))) tr = quantified_case n (unary_of n) f w h tr
  unary_of (suc n) f w (right (right (right (right (right (right h)))))) tr = comparison_case (suc n) f w h tr
