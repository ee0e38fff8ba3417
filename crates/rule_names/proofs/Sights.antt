-- Looking up a name among parameters, and a macro by its name.
use Rattle.std.proofs.Common.{◌≡◌, ℕ, ◌+◌, ◌<◌, ◌≤◌, true, false, cond, List, [], length, drop, map, get_or, sym, ap, ◌∙◌, arith}
use Rattle.std.specs.Prelude.{Option, None, Some, nat_lt}
use Rattle.std.specs.Option.{option_map_or}
use Rattle.std.specs.Str.{bytes_eq}
use Rattle.std.proofs.lemmas.Bool.Decides.{nat_tests}
use Rattle.std.proofs.lemmas.List.{drop_more, drop_all, get_or_default}
use Rattle.std.proofs.lemmas.List.Quantifiers.{position-Some}
use Rattle.rule_syntax.specs.Tree.{falsehood}
use Rattle.problem_data.specs.Tree.{means}
use Rattle.problem_data.specs.declared.tree.ParamKind.{ParamKind}
use Rattle.problem_data.specs.declared.problem.ParamDef.{ParamDef}
use Rattle.problem_data.specs.Problem.{MacroData, ProblemData}
use Rattle.problem_data.specs.ProblemView.{param_data}
use Rattle.problem_data.specs.Value.{macro_position}
use Rattle.problem_data.specs.Truth.{macro_of}
use Rattle.rule_names.specs.Sight.{kind_of, kind_of_object, macro_before, macro_called}

-- ---- a loop over parameters

sight-at : (p : ProblemData) (params : List ParamDef) (i : ℕ) (q : ParamDef) (n : List ℕ) → i < length params → q ≡ get_or params i q →
    kind_of p (map param_data (drop i params)) n ≡ cond (bytes_eq n q.name) (Some q.kind) (kind_of p (map param_data (drop (i + 1) params)) n)
sight-at p params i q n h e =
    ap (λ l. kind_of p (map param_data l) n) (drop_more params i q h)
    ∙ ap (λ (x : ParamDef). cond (bytes_eq n x.name) (Some x.kind) (kind_of p (map param_data (drop (i + 1) params)) n)) (sym e)

pub sight-skip : (p : ProblemData) (params : List ParamDef) (i : ℕ) (q : ParamDef) (n : List ℕ) (total : Option ParamKind) → i < length params → q ≡ get_or params i q → bytes_eq n q.name ≡ false →
    kind_of p (map param_data (drop i params)) n ≡ total → kind_of p (map param_data (drop (i + 1) params)) n ≡ total
sight-skip p params i q n total h e f inv =
    sym (sight-at p params i q n h e ∙ ap (λ b. cond b (Some q.kind) (kind_of p (map param_data (drop (i + 1) params)) n)) f) ∙ inv

pub sight-take : (p : ProblemData) (params : List ParamDef) (i : ℕ) (q : ParamDef) (n : List ℕ) (total : Option ParamKind) → i < length params → q ≡ get_or params i q → bytes_eq n q.name ≡ true →
    kind_of p (map param_data (drop i params)) n ≡ total → Some q.kind ≡ total
sight-take p params i q n total h e f inv =
    sym (sight-at p params i q n h e ∙ ap (λ b. cond b (Some q.kind) (kind_of p (map param_data (drop (i + 1) params)) n)) f) ∙ inv

pub sight-end : (p : ProblemData) (params : List ParamDef) (i : ℕ) (n : List ℕ) (total : Option ParamKind) → length params ≤ i → kind_of p (map param_data (drop i params)) n ≡ total → kind_of_object p n ≡ total
sight-end p params i n total h inv = ap (λ l. kind_of p (map param_data l) n) (sym (drop_all i params h)) ∙ inv

-- ---- macros

-- a macro's position is inside the list
pub macro-inside : (p : ProblemData) (name : List ℕ) (k : ℕ) → macro_position p name ≡ Some k → k < length p.macros
macro-inside p name k e = (position-Some (λ m. bytes_eq name m.name) p.macros k (macro_of p 0) e).0

pub macro-at : (p : ProblemData) (ms : List MacroData) (k : ℕ) (m : MacroData) → k < length ms → ms ≡ p.macros → m ≡ get_or ms k m → m ≡ macro_of p k
macro-at p ms k m h e f =
    let d : MacroData = record { place = 0; name = []; params = []; body = means (falsehood 0) } in
    f ∙ get_or_default ms k m d h ∙ ap (λ l. get_or l k d) e

pub called-before : (p : ProblemData) (ms : List MacroData) (statement k : ℕ) (m : MacroData) → k < length ms → ms ≡ p.macros → m ≡ get_or ms k m → m.place < statement → Some m ≡ macro_before p statement k
called-before p ms statement k m h e f l =
    let b : nat_lt m.place statement ≡ true = grind (arith, nat_tests) in
    sym (ap (λ (x : MacroData). cond (nat_lt x.place statement) (Some x) None) (sym (macro-at p ms k m h e f)) ∙ ap (λ b. cond b (Some m) None) b)

pub called-later : (p : ProblemData) (ms : List MacroData) (statement k : ℕ) (m : MacroData) → k < length ms → ms ≡ p.macros → m ≡ get_or ms k m → statement ≤ m.place → None ≡ macro_before p statement k
called-later p ms statement k m h e f l =
    let b : nat_lt m.place statement ≡ false = grind (arith, nat_tests) in
    sym (ap (λ (x : MacroData). cond (nat_lt x.place statement) (Some x) None) (sym (macro-at p ms k m h e f)) ∙ ap (λ b. cond b (Some m) None) b)

pub called-some : (p : ProblemData) (statement k : ℕ) (name : List ℕ) → macro_position p name ≡ Some k → macro_before p statement k ≡ macro_called p statement name
called-some p statement k name e = sym (ap (λ o. option_map_or (macro_before p statement) o None) e)

pub called-none : (p : ProblemData) (statement : ℕ) (name : List ℕ) → macro_position p name ≡ None → None ≡ macro_called p statement name
called-none p statement name e = sym (ap (λ o. option_map_or (macro_before p statement) o None) e)
