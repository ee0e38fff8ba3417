-- A text has one answer: a problem that it spells, or its first fault.
use Rattle.std.proofs.Common.{◌≡◌, ℕ, ◌<◌, ◌≤◌, List, length, Result, Ok, Err, refl, sym, ap, ◌∙◌, subst, arith}
use Rattle.std.specs.Result.{IsErrAnd}
use Rattle.geo_tokens.specs.declared.token.Token.{Token}
use Rattle.geo_tokens.specs.declared.fault.FaultWord.{FaultWord}
use Rattle.geo_tokens.specs.declared.fault.FaultWord.TheVariants as words
use Rattle.geo_tokens.specs.declared.fault.TextFault.{TextFault}
use Rattle.geo_tokens.specs.declared.fault.TextFault.TheVariants as faults
use Rattle.geo_tokens.specs.Cut as cut
use Rattle.geo_tokens.specs.Cut.{IsTokens, IsTokenFault, Tokenizes}
use Rattle.problem_data.specs.declared.problem.Problem.{Problem}
use Rattle.problem_data.specs.declared.fault.Fault.{Fault}
use Rattle.problem_data.specs.Tree.{ProblemTree}
use Rattle.problem_data.specs.View.{problem_view}
use Rattle.problem_data.specs.Grammar.{ProblemWords}
use Rattle.problem_syntax.specs.WholeText as whole
use Rattle.problem_data.specs.Whole.{IsWhole}
use Rattle.problem_syntax.specs.WholeText.{FirstFault, AnswersText}
use Rattle.problem_data.specs.Parts.{parts_of}
use Rattle.problem_data.specs.Least.{fault, IsFirst}
use Rattle.problem_data.specs.Faults.{IsFault}
use Rattle.problem_data.specs.Meaning.{problem_of}
use Rattle.problem_data.specs.Accepted.{most_bytes, Says}
use Rattle.problem_text.specs.FirstFault.{HasFirstFault, long, no_token, no_statements, in_statements, AnswersProblem, AnswersParts, IsOnlyProblem}
use Rattle.problem_data.proofs.Firsts.{one_first}

pub record Answer (r : Result Problem TextFault) (text : List ℕ) : Type 0 where
  pub answer : AnswersProblem r text
  pub only : IsOnlyProblem r text

-- what `?` passed on
pub passed : (text : List ℕ) (r : Result Problem TextFault) (e : TextFault) → IsErrAnd r (λ f. f ≡ e) → Answer (Err e) text → Answer r text
passed text (Ok p) e h a = absurd h
passed text (Err f) e h a = subst (λ (x : TextFault). Answer (Err x) text) (sym h) a

module _ (text : List ℕ) where
  -- a text that is too long
  pub too_long : most_bytes < length text → Answer (Err (faults.At most_bytes words.Long)) text
  too_long lt = record {
    answer = long lt refl refl;
    only = (λ q a. let le : length text ≤ most_bytes = a.says.short in omega arith, one);
  }
    where
      one : (p : ℕ) (w : FaultWord) → HasFirstFault text p w → (p ≡ most_bytes) × (w ≡ words.Long)
      one p w (long l d e) = (d, e)
      one p w (no_token le h) = absurd (omega arith)
      one p w (no_statements le list ts h) = absurd (omega arith)
      one p w (in_statements t says h) = let le : length text ≤ most_bytes = says.short in absurd (omega arith)

  module _ (short : length text ≤ most_bytes) where
    -- a text that is not cut into tokens
    pub not_cut : (e : TextFault) → Tokenizes (Err e) text → cut.IsOnlyAnswer (Err e) text → Answer (Err e) text
    not_cut faults.Memory h only = record { answer = tt; only = tt }
    not_cut (faults.At place word) h only = record { answer = no_token short h; only = (λ q a. only.0 a.says.list a.says.tokens, one) }
      where
        one : (p : ℕ) (w : FaultWord) → HasFirstFault text p w → (p ≡ place) × (w ≡ word)
        one p w (long l d e) = absurd (omega arith)
        one p w (no_token le g) = only.1 p w g
        one p w (no_statements le list ts g) = absurd (only.0 list ts)
        one p w (in_statements t says g) = absurd (only.0 says.list says.tokens)

    module _ (list : List Token) (cuts : IsTokens text list) (one_list : (us : List Token) → IsTokens text us → us ≡ list) (no_fault : (p : ℕ) (w : FaultWord) → IsTokenFault text p w → ⊥) where
      spelled_by : (us : List Token) (t : ProblemTree) → IsTokens text us → IsWhole (ProblemWords text) 64 us t → IsWhole (ProblemWords text) 64 list t
      spelled_by us t ts h = subst (λ (vs : List Token). IsWhole (ProblemWords text) 64 vs t) (one_list us ts) h

      refused_by : (us : List Token) (p : ℕ) (w : FaultWord) → IsTokens text us → FirstFault (ProblemWords text) 64 (length text) us p w → FirstFault (ProblemWords text) 64 (length text) list p w
      refused_by us p w ts h = subst (λ (vs : List Token). FirstFault (ProblemWords text) 64 (length text) vs p w) (one_list us ts) h

      -- tokens that spell no statements
      pub not_spelled : (e : TextFault) → AnswersText problem_view (Err e) (ProblemWords text) 64 (length text) list → whole.IsOnlyAnswer problem_view (Err e) (ProblemWords text) 64 (length text) list → Answer (Err e) text
      not_spelled faults.Memory h only = record { answer = tt; only = tt }
      not_spelled (faults.At place word) h only = record { answer = no_statements short list cuts h; only = (λ q a. only.0 a.tree (spelled_by a.says.list a.tree a.says.tokens a.says.spells), one) }
        where
          one : (p : ℕ) (w : FaultWord) → HasFirstFault text p w → (p ≡ place) × (w ≡ word)
          one p w (long l d e) = absurd (omega arith)
          one p w (no_token le g) = absurd (no_fault p w g)
          one p w (no_statements le us ts g) = only.1 p w (refused_by us p w ts g)
          one p w (in_statements t says g) = absurd (only.0 t (spelled_by says.list t says.tokens says.spells))

      module _ (tree : ProblemTree) (spells : IsWhole (ProblemWords text) 64 list tree) (one_tree : (t : ProblemTree) → IsWhole (ProblemWords text) 64 list t → t ≡ tree) (no_refusal : (p : ℕ) (w : FaultWord) → FirstFault (ProblemWords text) 64 (length text) list p w → ⊥) where
        says_it : Says text tree
        says_it = record { short = short; list = list; tokens = cuts; spells = spells }

        same_tree : (t : ProblemTree) → Says text t → t ≡ tree
        same_tree t says = one_tree t (spelled_by says.list t says.tokens says.spells)

        first_of : (t : ProblemTree) (p : ℕ) (w : FaultWord) → Says text t → IsFirst (IsFault (parts_of t)) (fault p w) → IsFirst (IsFault (parts_of tree)) (fault p w)
        first_of t p w says g = subst (λ (u : ProblemTree). IsFirst (IsFault (parts_of u)) (fault p w)) (same_tree t says) g

        -- statements with a fault
        pub at_fault : (f : Fault) → IsFirst (IsFault (parts_of tree)) f → Answer (Err (faults.At f.place f.word)) text
        at_fault f h = record {
          answer = in_statements tree says_it h;
          only = (λ q a. a.right f (subst (λ (u : ProblemTree). IsFault (parts_of u) f) (sym (same_tree a.tree a.says)) h.there), one);
        }
          where
            one : (p : ℕ) (w : FaultWord) → HasFirstFault text p w → (p ≡ f.place) × (w ≡ f.word)
            one p w (long l d e) = absurd (omega arith)
            one p w (no_token le g) = absurd (no_fault p w g)
            one p w (no_statements le us ts g) = absurd (no_refusal p w (refused_by us p w ts g))
            one p w (in_statements t says g) =
                let e : fault p w ≡ f = one_first (IsFault (parts_of tree)) (fault p w) f (first_of t p w says g) h in
                (ap (λ (x : Fault). x.place) e, ap (λ (x : Fault). x.word) e)

        -- statements without a fault
        pub accepted : (p : Problem) → ((f : Fault) → IsFault (parts_of tree) f → ⊥) → p ≡ problem_of (parts_of tree) → Answer (Ok p) text
        accepted p right means = record {
          answer = record { tree = tree; says = says_it; right = right; means = means };
          only = (λ q a. a.means ∙ ap (λ (u : ProblemTree). problem_of (parts_of u)) (same_tree a.tree a.says) ∙ sym means, none);
        }
          where
            none : (q : ℕ) (w : FaultWord) → HasFirstFault text q w → ⊥
            none q w (long l d e) = omega arith
            none q w (no_token le g) = no_fault q w g
            none q w (no_statements le us ts g) = no_refusal q w (refused_by us q w ts g)
            none q w (in_statements t says g) = right (fault q w) (first_of t q w says g).there

        -- what is answered to the statements
        pub answered : (r : Result Problem TextFault) → AnswersParts r (parts_of tree) → Answer r text
        answered (Ok p) h = accepted p h.0 h.1
        answered (Err (faults.At place word)) h = at_fault (fault place word) h
        answered (Err faults.Memory) h = record { answer = tt; only = tt }
