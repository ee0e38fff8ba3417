-- The text that is made is read as the problem that it is made of, and printed again as it is.
use Rattle.std.proofs.Common.{◌≡◌, ℕ, zero, suc, ◌<◌, ◌≤◌, List, [], ◌∷◌, ◌++◌, map, length, Some, false, refl, sym, ap, ◌∙◌, subst, arith}
use Rattle.std.specs.Prelude.{flat_map, not}
use Rattle.std.specs.List.{All, list_any}
use Rattle.geo_tokens.specs.declared.token.Token.{Token}
use Rattle.geo_tokens.specs.declared.token.Keyword.TheVariants as keywords
use Rattle.geo_tokens.proofs.Good.{reads_all}
use Rattle.rule_print.specs.Canonical.{word}
use Rattle.rule_print.proofs.Respelled.{AllOf}
use Rattle.problem_data.specs.Tree.{ProblemTree}
use Rattle.problem_data.specs.Grammar.{ProblemWords}
use Rattle.problem_data.specs.Whole.{IsWhole}
use Rattle.problem_data.specs.Parts.{Parts, parts_of}
use Rattle.problem_data.specs.Accepted.{most_bytes, Accepts}
use Rattle.problem_data.specs.Meaning.{problem_of}
use Rattle.problem_data.specs.WellFormed.{IsWellFormed}
use Rattle.problem_data.specs.Problem.{MacroData, DemandData, apart, within, plain, RuleData, ProblemData, runs_down}
use Rattle.problem_data.proofs.Sound.{sound}
use Rattle.problem_data.proofs.Yielded.{HasPieces, HasParts}
use Rattle.problem_syntax.specs.Reading.{problem_at}
use Rattle.problem_syntax.proofs.Right.{problem_good}
use Rattle.problem_syntax.proofs.Levels.{problem_reading}
use Rattle.problem_syntax.proofs.WholeText.{is_whole}
use Rattle.problem_text.specs.Canonical.{line_text, head_spelling, shape_names, object_names, shape_spelling, object_spelling, macro_spelling, rule_spelling, order_spelling, sides_spelling, counts_from, line_if, problem_text, needs_order, needs_sides, MayState}
use Rattle.problem_text.specs.ReadBack.{bare_macro, bare_demand, bare_rule, bare_problem, ReadsBack}
use Rattle.problem_text.proofs.BareParts.{bare_parts, parts_bare, meaning_bare}
use Rattle.problem_text.proofs.CanonicalParts.{object_tree_of, stated_parts, canonical_parts, parts_stated, stated_meaning}
use Rattle.problem_text.proofs.CanonicalRight.{right_again}
use Rattle.problem_text.proofs.OneProblem.{accepted_once}
use Rattle.problem_text.proofs.PrintingProblem.{problem_again, may_state_canonical}
use Rattle.problem_text.proofs.ReadStatements.{mapped}
use Rattle.problem_generator.specs.Made.{made_text}
use Rattle.generated_problems.specs.Problem.{object, made_problem}
use Rattle.generated_problems.proofs.Parts.{each_object}
use Rattle.generated_problems.proofs.Right.{made_right}
use Rattle.generated_problems.proofs.Written.{made_written, made_consistent}
use Rattle.generated_problems.proofs.Short.{made_short}
use Rattle.generated_problems.proofs.Canonical.{made_is_canonical}

all_of : {A : Type 0} (P : A → Type 0) (xs : List A) → AllOf P xs → All P xs
all_of P [] h k d less = absurd (omega arith)
all_of P (x ∷ xs) h zero d less = h.0
all_of P (x ∷ xs) h (suc k) d less = let fewer : k < length xs = omega arith in all_of P xs h.1 k d fewer

-- tokens that spell statements spell them and nothing else, whatever levels they open
spells_whole : (text : List ℕ) (list : List Token) (tree : ProblemTree) → ProblemWords text 64 (Some tree) list → IsWhole (ProblemWords text) 64 list tree
spells_whole text list tree w =
    is_whole (ProblemWords text) 64 _ _ (problem_good text 64).facts (problem_at text 64) (problem_good text 64).reads (problem_reading text 64) (length text) list tree [] (reads_all (problem_good text 64) tree list w) refl

-- a made object has shapes, and each of its ranges is one piece
has_parts : (names : List (List ℕ)) (i : ℕ) → HasParts false (object_tree_of names (object i))
has_parts names i = record {
  shapes = omega arith;
  present = λ _. refl;
  pieces = all_of (HasPieces false) (object_tree_of names (object i)).pieces ((omega arith, λ _. refl), ((omega arith, λ _. refl), ((omega arith, λ _. refl), tt)));
}

pub made_reads_back : (seed : ℕ) → ReadsBack (made_problem seed)
made_reads_back seed =
    let p : ProblemData = made_problem seed in
    let o : Parts = canonical_parts p in
    let may : MayState (needs_order p) (needs_sides p) p = may_state_canonical p in
    let means : problem_of o ≡ p = stated_meaning (needs_order p) (needs_sides p) p (made_consistent seed) may in
    let filled : All (HasParts false) o.objects =
    all_of (HasParts false) o.objects (mapped (HasParts false) (object_tree_of (shape_names p)) p.objects (each_object (λ u. HasParts false (object_tree_of (shape_names p) u)) seed (λ i low high. has_parts (shape_names p) i))) in
    let well : IsWellFormed (problem_of o) = sound o filled (made_right seed) in
    let x = problem_again (needs_order p) (needs_sides p) p (made_written seed) (subst IsWellFormed means well) may in
    let parts : bare_parts (parts_of x.tree) ≡ o = sym (parts_bare x.tree) ∙ ap parts_of x.same ∙ parts_stated (needs_order p) (needs_sides p) p in
    let same : bare_parts (parts_of x.tree) ≡ stated_parts (needs_order p) (needs_sides p) (problem_of o) = parts ∙ ap (stated_parts (needs_order p) (needs_sides p)) (sym means) in
    let short : length (problem_text p) ≤ most_bytes = subst (λ (text : List ℕ). length text ≤ most_bytes) (made_is_canonical seed) (made_short seed) in
    record {
      again = problem_of (parts_of x.tree);
      accepts = record {
        tree = x.tree;
        says = record { short = short; list = x.list; tokens = x.tokens; spells = spells_whole (problem_text p) x.list x.tree x.word };
        right = right_again o (made_right seed) well (needs_order p) (needs_sides p) (parts_of x.tree) same;
        means = refl;
      };
      same = sym (meaning_bare (parts_of x.tree)) ∙ ap problem_of parts ∙ means;
    }

-- ---- what is printed again

-- rules without formulas are spelled the same without places
abbrev HasNoFormula : DemandData → Type 0
HasNoFormula apart = Unit {0}
HasNoFormula (within rs) = Unit {0}
HasNoFormula (plain f) = ⊥

rule_line : (place : ℕ) (name : List ℕ) (d : DemandData) → HasNoFormula (bare_demand d) → line_text (rule_spelling (record { place = place; name = name; demand = d })) ≡ line_text (rule_spelling (bare_rule (record { place = place; name = name; demand = d })))
rule_line place name apart h = refl
rule_line place name (within rs) h = refl
rule_line place name (plain f) h = absurd h

rule_lines : (rs : List RuleData) → AllOf (λ (r : RuleData). HasNoFormula r.demand) (map bare_rule rs) → flat_map (λ r. line_text (rule_spelling r)) rs ≡ flat_map (λ r. line_text (rule_spelling r)) (map bare_rule rs)
rule_lines [] h = refl
rule_lines (r ∷ rs) h = λ k. rule_line r.place r.name r.demand h.0 k ++ rule_lines rs h.1 k

macro_lines : (ms : List MacroData) → map bare_macro ms ≡ [] → flat_map (λ m. line_text (macro_spelling m)) ms ≡ flat_map (λ m. line_text (macro_spelling m)) (map bare_macro ms)
macro_lines [] e = refl
macro_lines (m ∷ ms) e = absurd cc

bare_text : (q : ProblemData) → map bare_macro q.macros ≡ [] → AllOf (λ (r : RuleData). HasNoFormula r.demand) (map bare_rule q.rules) → problem_text q ≡ problem_text (bare_problem q)
bare_text q none plain_rules = λ k.
    line_text (head_spelling q) ++ (flat_map (λ s. line_text (shape_spelling s)) q.shapes ++ (flat_map (λ o. line_text (object_spelling (shape_names q) o)) q.objects
    ++ (macro_lines q.macros none k ++ (line_if (not (counts_from 0 q.order)) (order_spelling (object_names q) q.order)
    ++ (line_if (list_any runs_down q.sides) (sides_spelling q.sides) ++ (rule_lines q.rules plain_rules k ++ line_text (word keywords.End ∷ [])))))))

pub made_printed_again : (seed : ℕ) (q : ProblemData) → Accepts (made_text seed) q → problem_text q ≡ made_text seed
made_printed_again seed q a =
    let r = made_reads_back seed in
    let text : made_text seed ≡ problem_text (made_problem seed) = made_is_canonical seed in
    let is : q ≡ r.again = accepted_once (problem_text (made_problem seed)) q r.again (subst (λ (t : List ℕ). Accepts t q) text a) r.accepts in
    let none : map bare_macro r.again.macros ≡ [] = ap (λ (p : ProblemData). p.macros) r.same in
    let kept : AllOf (λ (u : RuleData). HasNoFormula u.demand) (map bare_rule r.again.rules) = subst (λ (p : ProblemData). AllOf (λ (u : RuleData). HasNoFormula u.demand) p.rules) (sym r.same) (tt, (tt, tt)) in
    ap problem_text is ∙ bare_text r.again none kept ∙ ap problem_text r.same ∙ sym text
