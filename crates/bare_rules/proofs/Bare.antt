-- A problem without its places: its macros and rules by their positions, and its names.
use Rattle.std.proofs.Common.{◌≡◌, ℕ, zero, suc, ◌+◌, not, List, [], ◌∷◌, get_or, map, cond, refl}
use Rattle.std.specs.Prelude.{nat_lt, Some, None}
use Rattle.std.specs.List.{position_or_len}
use Rattle.std.specs.Str.{bytes_eq}
use Rattle.std.proofs.lemmas.List.{length-map}
use Rattle.problem_data.specs.Problem.{MacroData, ProblemData}
use Rattle.problem_data.specs.SomeRules.{no_rule}
use Rattle.problem_data.specs.Value.{macro_position}
use Rattle.problem_data.specs.Truth.{macro_of}
use Rattle.problem_text.specs.ReadBack.{bare_macro, bare_rule, bare_problem}
use Rattle.bare_rules.specs.Bare.{rule_of}

get_bare : {A : Type 0} (f : A → A) (xs : List A) (n : ℕ) (d : A) → get_or (map f xs) n (f d) ≡ f (get_or xs n d)
get_bare f [] n d = refl
get_bare f (x ∷ xs) zero d = refl
get_bare f (x ∷ xs) (suc n) d = get_bare f xs n d

pub macro_bare : (p : ProblemData) (n : ℕ) → macro_of (bare_problem p) n ≡ bare_macro (macro_of p n)
macro_bare p n = get_bare bare_macro p.macros n (macro_of (record p { macros = [] }) 0)

pub rule_bare : (p : ProblemData) (n : ℕ) → rule_of (bare_problem p) n ≡ bare_rule (rule_of p n)
rule_bare p n = get_bare bare_rule p.rules n no_rule

named_bare : (n : List ℕ) (ms : List MacroData) → position_or_len (λ (m : MacroData). bytes_eq n m.name) (map bare_macro ms) ≡ position_or_len (λ (m : MacroData). bytes_eq n m.name) ms
named_bare n [] = refl
named_bare n (m ∷ ms) = λ i. cond (not (bytes_eq n m.name)) (1 + named_bare n ms i) 0

pub position_bare : (p : ProblemData) (n : List ℕ) → macro_position (bare_problem p) n ≡ macro_position p n
position_bare p n = λ i. cond (nat_lt (named_bare n p.macros i) (length-map p.macros bare_macro i)) (Some (named_bare n p.macros i)) None
