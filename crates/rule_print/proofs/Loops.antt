-- One member more: what was spelled, and what is left to spell, is the whole.
use Rattle.std.proofs.Common.{◌≡◌, ◌<◌, ◌≤◌, ◌+◌, ◌++◌, ◌∷◌, [], ℕ, List, Result, Bool, true, false, map, drop, length, get_or, append_assoc, sym, ap, ◌∙◌, refl, arith}
use Rattle.std.specs.Prelude.{if◌then◌else◌, not}
use Rattle.std.specs.Result.{IfOk}
use Rattle.std.proofs.lemmas.Result.{IfOk-equal}
use Rattle.std.proofs.lemmas.Grind.{common_steps}
use Rattle.std.proofs.lemmas.List.{append-nil, drop_more}
use Rattle.std.proofs.Math.ListN.{drop_of_length-le}
use Rattle.geo_tokens.specs.declared.token.Keyword.{Keyword}
use Rattle.geo_tokens.specs.declared.token.Sym.TheVariants as syms
use Rattle.rule_syntax.specs.declared.tree.Argument.{Argument}
use Rattle.rule_syntax.specs.declared.tree.Expr.{the_lemmas}
use Rattle.rule_syntax.specs.declared.tree.Formula.{Formula}
use Rattle.rule_syntax.specs.declared.tree.PlacedName.{PlacedName}
use Rattle.rule_syntax.specs.declared.tree.ProdStep.{ProdStep}
use Rattle.rule_syntax.specs.declared.tree.SumStep.{SumStep}
use Rattle.rule_syntax.specs.Tree.{sums, products, arguments, formulas}
use Rattle.rule_syntax.specs.View.{expr_view, sum_view, product_view, argument_view, formula_view}
use Rattle.rule_print.specs.Canonical.{Written, name, symbol, word}
use Rattle.rule_print.specs.declared.rank.ExprRank.TheVariants as ranks
use Rattle.rule_print.specs.declared.rank.FormulaRank.{FormulaRank}
use Rattle.rule_print.specs.Spelled.{expr_spelling, formula_spelling, mark_before, more_operands_spelling, operands_spelling, sum_spelling, sum_step_spelling, product_spelling, product_step_spelling, argument_spelling, arguments_spelling, more_arguments_spelling, names_spelling, more_names_spelling, in_list}
use Rattle.rule_print.proofs.Printing.{left_arguments, left_names, left_operands}

-- behind what was spelled, the next member, and the rest
joined : {X : Type 0} (spell : List X → List Written) (one : X → List Written) → ((x : X) (xs : List X) → spell (x ∷ xs) ≡ one x ++ spell xs) →
    (xs : List X) (i : ℕ) (x : X) (now later whole : List Written) → i < length xs → x ≡ get_or xs i x → later ≡ now ++ one x → now ++ spell (drop i xs) ≡ whole → later ++ spell (drop (i + 1) xs) ≡ whole
joined spell one cons xs i x now later whole h e is k =
    ap (λ l. l ++ spell (drop (i + 1) xs)) is
    ∙ append_assoc now (one x) (spell (drop (i + 1) xs))
    ∙ sym (ap (λ l. now ++ l) (ap spell (drop_more xs i x h) ∙ ap (λ y. spell (y ∷ drop (i + 1) xs)) (sym e) ∙ cons x (drop (i + 1) xs)))
    ∙ k

pub sums-step : (steps : List SumStep) (i : ℕ) (s : SumStep) (now later whole : List Written) → i < length steps → s ≡ get_or steps i s → later ≡ now ++ sum_step_spelling (sum_view s) →
    now ++ sum_spelling (sums (map sum_view (drop i steps))) ≡ whole → later ++ sum_spelling (sums (map sum_view (drop (i + 1) steps))) ≡ whole
sums-step = joined (λ xs. sum_spelling (sums (map sum_view xs))) (λ s. sum_step_spelling (sum_view s)) (λ x xs. refl)

pub products-step : (steps : List ProdStep) (i : ℕ) (s : ProdStep) (now later whole : List Written) → i < length steps → s ≡ get_or steps i s → later ≡ now ++ product_step_spelling (product_view s) →
    now ++ product_spelling (products (map product_view (drop i steps))) ≡ whole → later ++ product_spelling (products (map product_view (drop (i + 1) steps))) ≡ whole
products-step = joined (λ xs. product_spelling (products (map product_view xs))) (λ s. product_step_spelling (product_view s)) (λ x xs. refl)

next : {X : Type 0} (xs : List X) (i : ℕ) (x : X) → i < length xs → x ≡ get_or xs i x → drop i xs ≡ x ∷ drop (i + 1) xs
next xs i x h e = drop_more xs i x h ∙ ap (λ y. y ∷ drop (i + 1) xs) (sym e)

argument-is : (x : Argument) → argument_spelling (argument_view x) ≡ expr_spelling ranks.Sum (expr_view x.value)
argument-is x = grind (arith, common_steps, the_lemmas)

pub arguments-step : (b : Bool) (xs : List Argument) (i : ℕ) (x : Argument) (now marked later whole : List Written) → i < length xs → x ≡ get_or xs i x →
    marked ≡ now ++ (if not b then symbol syms.Comma ∷ [] else []) → later ≡ marked ++ expr_spelling ranks.Sum (expr_view x.value) →
    now ++ left_arguments b (arguments (map argument_view (drop i xs))) ≡ whole → later ++ left_arguments false (arguments (map argument_view (drop (i + 1) xs))) ≡ whole
arguments-step true xs i x now marked later whole h e m is k =
    let rest = more_arguments_spelling (arguments (map argument_view (drop (i + 1) xs))) in
    let own = argument_spelling (argument_view x) in
    ap (λ l. l ++ rest) (is ∙ ap (λ l. marked ++ l) (sym (argument-is x)) ∙ ap (λ l. l ++ own) (m ∙ append-nil now))
    ∙ append_assoc now own rest
    ∙ sym (ap (λ ys. now ++ arguments_spelling (arguments (map argument_view ys))) (next xs i x h e))
    ∙ k
arguments-step false xs i x now marked later whole h e m is k =
    let rest = more_arguments_spelling (arguments (map argument_view (drop (i + 1) xs))) in
    let own = argument_spelling (argument_view x) in
    ap (λ l. l ++ rest) (is ∙ ap (λ l. marked ++ l) (sym (argument-is x)) ∙ ap (λ l. l ++ own) m ∙ append_assoc now (symbol syms.Comma ∷ []) own)
    ∙ append_assoc now (symbol syms.Comma ∷ own) rest
    ∙ sym (ap (λ ys. now ++ more_arguments_spelling (arguments (map argument_view ys))) (next xs i x h e))
    ∙ k

none-left-arguments : (b : Bool) → left_arguments b (arguments []) ≡ []
none-left-arguments true = refl
none-left-arguments false = refl

-- all arguments, and the bracket that closes behind them
pub arguments-end : {E : Type 0} (r : Result Unit E) (b : Bool) (xs : List Argument) (i : ℕ) (start now all later : List Written) → length xs ≤ i →
    now ++ left_arguments b (arguments (map argument_view (drop i xs))) ≡ (start ++ symbol syms.ParenOpen ∷ []) ++ all → IfOk r (λ _. later ≡ now ++ symbol syms.ParenClose ∷ []) → IfOk r (λ _. later ≡ start ++ in_list all)
arguments-end r b xs i start now all later h k e =
    let whole : now ≡ start ++ symbol syms.ParenOpen ∷ all =
    sym (append-nil now) ∙ sym (ap (λ l. now ++ l) (ap (λ ys. left_arguments b (arguments (map argument_view ys))) (drop_of_length-le xs h) ∙ none-left-arguments b)) ∙ k ∙ append_assoc start (symbol syms.ParenOpen ∷ []) all in
    IfOk-equal r later _ _ e (ap (λ l. l ++ symbol syms.ParenClose ∷ []) whole ∙ append_assoc start (symbol syms.ParenOpen ∷ all) (symbol syms.ParenClose ∷ []))

pub operands-step : (mark : Keyword) (r : FormulaRank) (b : Bool) (fs : List Formula) (i : ℕ) (f : Formula) (now marked later whole : List Written) → i < length fs → f ≡ get_or fs i f →
    marked ≡ now ++ mark_before b mark → later ≡ marked ++ formula_spelling r (formula_view f) →
    now ++ left_operands mark r b (formulas (map formula_view (drop i fs))) ≡ whole → later ++ left_operands mark r false (formulas (map formula_view (drop (i + 1) fs))) ≡ whole
operands-step mark r true fs i f now marked later whole h e m is k =
    let rest = more_operands_spelling mark r (formulas (map formula_view (drop (i + 1) fs))) in
    let own = formula_spelling r (formula_view f) in
    ap (λ l. l ++ rest) (is ∙ ap (λ l. l ++ own) (m ∙ append-nil now))
    ∙ append_assoc now own rest
    ∙ sym (ap (λ xs. now ++ operands_spelling mark r (formulas (map formula_view xs))) (next fs i f h e))
    ∙ k
operands-step mark r false fs i f now marked later whole h e m is k =
    let rest = more_operands_spelling mark r (formulas (map formula_view (drop (i + 1) fs))) in
    let own = formula_spelling r (formula_view f) in
    ap (λ l. l ++ rest) (is ∙ ap (λ l. l ++ own) m ∙ append_assoc now (word mark ∷ []) own)
    ∙ append_assoc now (word mark ∷ own) rest
    ∙ sym (ap (λ xs. now ++ more_operands_spelling mark r (formulas (map formula_view xs))) (next fs i f h e))
    ∙ k

none-left-operands : (mark : Keyword) (r : FormulaRank) (b : Bool) → left_operands mark r b (formulas []) ≡ []
none-left-operands mark r true = refl
none-left-operands mark r false = refl

pub operands-end : (mark : Keyword) (r : FormulaRank) (b : Bool) (fs : List Formula) (i : ℕ) (now whole : List Written) → length fs ≤ i → now ++ left_operands mark r b (formulas (map formula_view (drop i fs))) ≡ whole → now ≡ whole
operands-end mark r b fs i now whole h k =
    sym (append-nil now) ∙ sym (ap (λ l. now ++ l) (ap (λ xs. left_operands mark r b (formulas (map formula_view xs))) (drop_of_length-le fs h) ∙ none-left-operands mark r b)) ∙ k

pub names-step : (b : Bool) (xs : List PlacedName) (i : ℕ) (x : PlacedName) (now marked later whole : List Written) → i < length xs → x ≡ get_or xs i x →
    marked ≡ now ++ (if not b then symbol syms.Comma ∷ [] else []) → later ≡ marked ++ name x.name ∷ [] →
    now ++ left_names b (drop i xs) ≡ whole → later ++ left_names false (drop (i + 1) xs) ≡ whole
names-step true xs i x now marked later whole h e m is k =
    let rest = more_names_spelling (drop (i + 1) xs) in
    ap (λ l. l ++ rest) (is ∙ ap (λ l. l ++ name x.name ∷ []) (m ∙ append-nil now))
    ∙ append_assoc now (name x.name ∷ []) rest
    ∙ sym (ap (λ ys. now ++ names_spelling ys) (next xs i x h e))
    ∙ k
names-step false xs i x now marked later whole h e m is k =
    let rest = more_names_spelling (drop (i + 1) xs) in
    ap (λ l. l ++ rest) (is ∙ ap (λ l. l ++ name x.name ∷ []) m ∙ append_assoc now (symbol syms.Comma ∷ []) (name x.name ∷ []))
    ∙ append_assoc now (symbol syms.Comma ∷ name x.name ∷ []) rest
    ∙ sym (ap (λ ys. now ++ more_names_spelling ys) (next xs i x h e))
    ∙ k

none-left : (b : Bool) → left_names b [] ≡ []
none-left true = refl
none-left false = refl

pub names-end : (b : Bool) (xs : List PlacedName) (i : ℕ) (now whole : List Written) → length xs ≤ i → now ++ left_names b (drop i xs) ≡ whole → now ≡ whole
names-end b xs i now whole h k = sym (append-nil now) ∙ sym (ap (λ l. now ++ l) (ap (left_names b) (drop_of_length-le xs h) ∙ none-left b)) ∙ k
