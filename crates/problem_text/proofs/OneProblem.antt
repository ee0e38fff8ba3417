-- A text is accepted with one problem, and then it has no fault.
use Rattle.std.proofs.Common.{◌≡◌, ℕ, ◌≤◌, List, length, Err, sym, ap, ◌∙◌, subst, arith}
use Rattle.geo_tokens.specs.declared.token.Token.{Token}
use Rattle.geo_tokens.specs.declared.fault.FaultWord.{FaultWord}
use Rattle.geo_tokens.specs.declared.fault.TextFault.TheVariants as faults
use Rattle.geo_tokens.specs.Deep.{Spells}
use Rattle.geo_tokens.proofs.Cuts.{one_list, list_or_fault}
use Rattle.problem_data.specs.Tree.{ProblemTree}
use Rattle.problem_data.specs.View.{problem_view}
use Rattle.problem_data.specs.Grammar.{ProblemWords}
use Rattle.problem_data.specs.Whole.{IsWhole}
use Rattle.problem_syntax.specs.WholeText.{FirstFault}
use Rattle.problem_data.specs.Problem.{ProblemData}
use Rattle.problem_data.specs.Parts.{parts_of}
use Rattle.problem_data.specs.Faults.{IsFault}
use Rattle.problem_data.specs.Meaning.{problem_of}
use Rattle.problem_data.specs.Accepted.{Says, Accepts}
use Rattle.problem_text.specs.FirstFault.{HasFirstFault, long, no_token, no_statements, in_statements}
use Rattle.problem_syntax.proofs.Right.{problem_good}
use Rattle.problem_syntax.proofs.WholeText.{only_answer}

module _ (text : List ℕ) where
  same_tree : (t u : ProblemTree) → Says text t → Says text u → u ≡ t
  same_tree t u a b =
      let lists : b.list ≡ a.list = one_list text b.list a.list b.tokens a.tokens in
      a.spells.text.only u (subst (λ (ts : List Token). Spells (ProblemWords text) u ts) lists b.spells.text.spells)

  pub accepted_once : (p q : ProblemData) → Accepts text p → Accepts text q → p ≡ q
  accepted_once p q a b = a.means ∙ (ap (λ (t : ProblemTree). problem_of (parts_of t)) (same_tree b.tree a.tree b.says a.says) ∙ sym b.means)

  whole_or_refused : (t : ProblemTree) (list : List Token) (place : ℕ) (word : FaultWord) → IsWhole (ProblemWords text) 64 list t → FirstFault (ProblemWords text) 64 (length text) list place word → ⊥
  whole_or_refused t list place word a f = (only_answer (ProblemWords text) 64 _ _ (problem_good text 64).facts (length text) list problem_view (Err (faults.At place word)) f).0 t a

  pub accepted_not_refused : (p : ProblemData) (place : ℕ) (word : FaultWord) → Accepts text p → HasFirstFault text place word → ⊥
  accepted_not_refused p place word a (long l d e) = let s : length text ≤ 1048576 = a.says.short in omega arith
  accepted_not_refused p place word a (no_token s f) = list_or_fault text a.says.list place word a.says.tokens f
  accepted_not_refused p place word a (no_statements s list tokens f) =
      whole_or_refused a.tree list place word (subst (λ (ts : List Token). IsWhole (ProblemWords text) 64 ts a.tree) (one_list text a.says.list list a.says.tokens tokens) a.says.spells) f
  accepted_not_refused p place word a (in_statements t says f) = a.right _ (subst (λ (u : ProblemTree). IsFault (parts_of u) (record { place = place; word = word })) (same_tree a.tree t a.says says) f.there)
