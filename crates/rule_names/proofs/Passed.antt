-- A loop over parameters with their arguments.
use Rattle.std.proofs.Common.{◌≡◌, ℕ, ◌+◌, ◌<◌, ◌≤◌, Bool, List, [], ◌∷◌, ◌++◌, length, drop, map, get_or, Option, refl, sym, ap, ◌∙◌, arith}
use Rattle.std.specs.Prelude.{not, ◌==◌}
use Rattle.std.proofs.lemmas.List.{drop_more, drop_all, length-map}
use Rattle.rule_syntax.specs.Tree.{ArgumentTrees, arguments, no_arguments}
use Rattle.rule_syntax.specs.declared.tree.Argument.{Argument}
use Rattle.rule_syntax.specs.View.{argument_view}
use Rattle.problem_data.specs.Problem.{ParamData, MacroData, ProblemData}
use Rattle.problem_data.specs.Tree.{BodyTree}
use Rattle.problem_data.specs.declared.problem.ParamDef.{ParamDef}
use Rattle.problem_data.specs.ProblemView.{param_data}
use Rattle.rule_names.specs.declared.mistake.Mistake.{Mistake}
use Rattle.rule_names.specs.declared.mistake.Flaw.TheVariants.{WrongKind, WrongCount}
use Rattle.rule_names.specs.Mistakes.{earlier, first_of, mistake_if}
use Rattle.rule_names.specs.Sight.{Sight}
use Rattle.rule_names.specs.Names.{passed_mistakes, all_passed, argument_count, is_formula, differs, call_of_macro}
use Rattle.rule_names.proofs.Firsts.{earlier_none, earlier_assoc, first_append, two_lists}

-- the mistakes from the i-th parameter and its argument on
abbrev pub passed_from : ProblemData → Sight → List ParamDef → List Argument → ℕ → List Mistake
passed_from p s params given i = all_passed p s (map param_data (drop i params)) (arguments (map argument_view (drop i given)))

passed-more : (p : ProblemData) (s : Sight) (params : List ParamDef) (given : List Argument) (i : ℕ) (q : ParamDef) (a : Argument) → i < length params → q ≡ get_or params i q → i < length given → a ≡ get_or given i a →
    passed_from p s params given i ≡ passed_mistakes p s (param_data q) (argument_view a) ++ passed_from p s params given (i + 1)
passed-more p s params given i q a h e k f =
    ap (λ (qs : List ParamDef). all_passed p s (map param_data qs) (arguments (map argument_view (drop i given)))) (drop_more params i q h ∙ ap (λ (x : ParamDef). x ∷ drop (i + 1) params) (sym e))
    ∙ ap (λ (xs : List Argument). all_passed p s (map param_data (q ∷ drop (i + 1) params)) (arguments (map argument_view xs))) (drop_more given i a k ∙ ap (λ (x : Argument). x ∷ drop (i + 1) given) (sym f))

pub passed-step : (p : ProblemData) (s : Sight) (params : List ParamDef) (given : List Argument) (i : ℕ) (q : ParamDef) (a : Argument) (found here o total : Option Mistake) → i < length params → q ≡ get_or params i q → i < length given → a ≡ get_or given i a →
    o ≡ earlier found here → here ≡ first_of (passed_mistakes p s (param_data q) (argument_view a)) → earlier found (first_of (passed_from p s params given i)) ≡ total → earlier o (first_of (passed_from p s params given (i + 1))) ≡ total
passed-step p s params given i q a found here o total h e k f g y inv =
    let rest : List Mistake = passed_from p s params given (i + 1) in
    let z : first_of (passed_from p s params given i) ≡ earlier here (first_of rest) =
    ap first_of (passed-more p s params given i q a h e k f) ∙ first_append (passed_mistakes p s (param_data q) (argument_view a)) rest ∙ ap (λ (x : Option Mistake). earlier x (first_of rest)) (sym y) in
    ap (λ (x : Option Mistake). earlier x (first_of rest)) g ∙ earlier_assoc found here (first_of rest) ∙ ap (earlier found) (sym z) ∙ inv

none-given : (p : ProblemData) (s : Sight) (params : List ParamData) → all_passed p s params no_arguments ≡ []
none-given p s [] = refl
none-given p s (q ∷ params) = refl

-- where the arguments end
pub passed-short : (p : ProblemData) (s : Sight) (params : List ParamDef) (given : List Argument) (i : ℕ) (found total : Option Mistake) → length given ≤ i → earlier found (first_of (passed_from p s params given i)) ≡ total → found ≡ total
passed-short p s params given i found total h inv =
    sym (earlier_none found)
    ∙ ap (λ (ms : List Mistake). earlier found (first_of ms)) (sym (none-given p s (map param_data (drop i params))) ∙ ap (λ (xs : List Argument). all_passed p s (map param_data (drop i params)) (arguments (map argument_view xs))) (sym (drop_all i given h)))
    ∙ inv

-- where the parameters end
pub passed-end : (p : ProblemData) (s : Sight) (params : List ParamDef) (given : List Argument) (i : ℕ) (found total : Option Mistake) → length params ≤ i → earlier found (first_of (passed_from p s params given i)) ≡ total → found ≡ total
passed-end p s params given i found total h inv =
    sym (earlier_none found)
    ∙ ap (λ (ms : List Mistake). earlier found (first_of ms)) (ap (λ (qs : List ParamDef). all_passed p s (map param_data qs) (arguments (map argument_view (drop i given)))) (sym (drop_all i params h)))
    ∙ inv

-- ---- a call of a macro

argument-count : (given : List Argument) → argument_count (arguments (map argument_view given)) ≡ length given
argument-count [] = refl
argument-count (a ∷ given) = omega (arith, argument-count given)

pub called : (p : ProblemData) (s : Sight) (formula : Bool) (place : ℕ) (given : List Argument) (d : MacroData) (params : List ParamDef) (body : BodyTree) (marked : Bool) (kind count marks passed o : Option Mistake) →
    map param_data params ≡ d.params → body ≡ d.body → marked ≡ differs formula (is_formula body) → kind ≡ first_of (mistake_if marked place WrongKind) → count ≡ first_of (mistake_if (not (length given == length params)) place WrongCount) →
    marks ≡ earlier kind count → passed ≡ first_of (all_passed p s (map param_data params) (arguments (map argument_view given))) → o ≡ earlier marks passed →
    o ≡ first_of (call_of_macro p s formula place (arguments (map argument_view given)) d)
called p s formula place given d params body marked kind count marks passed o e b m k n j q r =
    let args : ArgumentTrees = arguments (map argument_view given) in
    let wrong_kind : List Mistake = mistake_if (differs formula (is_formula d.body)) place WrongKind in
    let wrong_count : List Mistake = mistake_if (not (argument_count args == length d.params)) place WrongCount in
    let many : length params ≡ length d.params = sym (length-map params param_data) ∙ ap length e in
    two_lists (wrong_kind ++ wrong_count) (all_passed p s d.params args) marks passed o r
    (two_lists wrong_kind wrong_count kind count marks j
    (k ∙ ap (λ (x : Bool). first_of (mistake_if x place WrongKind)) (m ∙ ap (λ (x : BodyTree). differs formula (is_formula x)) b))
    (n ∙ ap (λ (x : ℕ). first_of (mistake_if (not (x == length params)) place WrongCount)) (sym (argument-count given)) ∙ ap (λ (x : ℕ). first_of (mistake_if (not (argument_count args == x)) place WrongCount)) many))
    (q ∙ ap (λ (x : List ParamData). first_of (all_passed p s x args)) e)
