-- A text is accepted with one tuple, and then it has no fault.
use Rattle.std.proofs.Common.{◌≡◌, ℕ, ◌≤◌, List, length, Err, sym, ap, ◌∙◌, subst, arith}
use Rattle.geo_tokens.specs.declared.token.Token.{Token}
use Rattle.geo_tokens.specs.declared.fault.FaultWord.{FaultWord}
use Rattle.geo_tokens.specs.declared.fault.TextFault.TheVariants as faults
use Rattle.geo_tokens.specs.Deep.{Spells}
use Rattle.geo_tokens.proofs.Cuts.{one_list, list_or_fault}
use Rattle.problem_data.specs.Whole.{IsWhole}
use Rattle.problem_syntax.specs.WholeText.{FirstFault}
use Rattle.problem_data.specs.Problem.{ProblemData}
use Rattle.problem_data.specs.Tuple.{Tuple}
use Rattle.problem_syntax.proofs.WholeText.{only_answer}
use Rattle.layout_text.specs.Tree.{LayoutTree}
use Rattle.layout_text.specs.View.{layout_view}
use Rattle.layout_text.specs.Grammar.{LayoutWords}
use Rattle.layout_text.specs.Faults.{tuple_of, IsFault}
use Rattle.layout_text.specs.FirstFault.{Says, Accepts, HasFirstFault, long, no_token, no_lines, in_lines}
use Rattle.problem_data.specs.Least.{fault}
use Rattle.layout_text.proofs.Right.{layout_good}

module _ (p : ProblemData) (text : List ℕ) where
  same_tree : (t u : LayoutTree) → Says text t → Says text u → u ≡ t
  same_tree t u a b =
      let lists : b.list ≡ a.list = one_list text b.list a.list b.tokens a.tokens in
      a.spells.text.only u (subst (λ (ts : List Token). Spells (LayoutWords text) u ts) lists b.spells.text.spells)

  pub layout_once : (t u : Tuple) → Accepts p text t → Accepts p text u → u ≡ t
  layout_once t u a b = b.means ∙ (ap (λ (x : LayoutTree). tuple_of p x.lines) (same_tree a.tree b.tree a.says b.says) ∙ sym a.means)

  whole_or_refused : (t : LayoutTree) (list : List Token) (place : ℕ) (word : FaultWord) → IsWhole (LayoutWords text) 0 list t → FirstFault (LayoutWords text) 0 (length text) list place word → ⊥
  whole_or_refused t list place word a f = (only_answer (LayoutWords text) 0 _ _ (layout_good text 0).facts (length text) list layout_view (Err (faults.At place word)) f).0 t a

  pub layout_or_fault : (t : Tuple) (place : ℕ) (word : FaultWord) → Accepts p text t → HasFirstFault p text place word → ⊥
  layout_or_fault t place word a (long l d e) = let s : length text ≤ 1048576 = a.says.short in omega arith
  layout_or_fault t place word a (no_token s f) = list_or_fault text a.says.list place word a.says.tokens f
  layout_or_fault t place word a (no_lines s list tokens f) =
      whole_or_refused a.tree list place word (subst (λ (ts : List Token). IsWhole (LayoutWords text) 0 ts a.tree) (one_list text a.says.list list a.says.tokens tokens) a.says.spells) f
  layout_or_fault t place word a (in_lines x says f) = a.right _ (subst (λ (u : LayoutTree). IsFault p (length text) u (fault place word)) (same_tree a.tree x a.says says) f.there)
