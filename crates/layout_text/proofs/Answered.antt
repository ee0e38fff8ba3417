-- A text has one answer: a tuple that it spells, or its first fault.
use Rattle.std.proofs.Common.{◌≡◌, ℕ, ◌+◌, ◌<◌, ◌≤◌, List, length, Result, Ok, Err, refl, sym, ap, ◌∙◌, subst, arith}
use Rattle.geo_conditions.specs.declared.layout.Layout.{Layout}
use Rattle.geo_tokens.specs.declared.token.Token.{Token}
use Rattle.geo_tokens.specs.declared.fault.FaultWord.{FaultWord}
use Rattle.geo_tokens.specs.declared.fault.FaultWord.TheVariants as words
use Rattle.geo_tokens.specs.declared.fault.TextFault.{TextFault}
use Rattle.geo_tokens.specs.declared.fault.TextFault.TheVariants as faults
use Rattle.geo_tokens.specs.Cut as cut
use Rattle.geo_tokens.specs.Cut.{IsTokens, IsTokenFault, Tokenizes}
use Rattle.problem_data.specs.declared.fault.Fault.{Fault}
use Rattle.problem_data.specs.Problem.{ProblemData}
use Rattle.problem_data.specs.Tuple.{Tuple}
use Rattle.problem_syntax.specs.WholeText as whole
use Rattle.problem_data.specs.Whole.{IsWhole}
use Rattle.problem_syntax.specs.WholeText.{FirstFault, AnswersText}
use Rattle.problem_data.specs.Least.{fault, IsFirst}
use Rattle.problem_data.proofs.Firsts.{one_first}
use Rattle.layout_text.proofs.Inside.{fault_within}
use Rattle.layout_text.specs.Tree.{LayoutTree}
use Rattle.layout_text.specs.View.{layout_view}
use Rattle.layout_text.specs.Grammar.{LayoutWords}
use Rattle.layout_text.specs.Faults.{tuple_of, IsFault}
use Rattle.layout_text.specs.FirstFault.{most_bytes, Says, Accepts, HasFirstFault, long, no_token, no_lines, in_lines, HasFaultFrom, AnswersLayout, IsOnlyLayout}

pub record Answer (r : Result Layout TextFault) (p : ProblemData) (text : List ℕ) : Type 0 where
  pub answer : AnswersLayout r p text 0
  pub only : IsOnlyLayout r p text 0

module _ (p : ProblemData) (text : List ℕ) where
  -- a text that begins at the place 0
  at_front : (place : ℕ) (word : FaultWord) → HasFirstFault p text place word → HasFaultFrom p text 0 place word
  at_front place word h = record { within = place; first = h; at = omega arith }

  from_front : (place : ℕ) (word : FaultWord) → HasFaultFrom p text 0 place word → HasFirstFault p text place word
  from_front place word h = let e : h.within ≡ place = (let at : place ≡ 0 + h.within = h.at in omega arith) in subst (λ (q : ℕ). HasFirstFault p text q word) e h.first

  refused : (place : ℕ) (word : FaultWord) → HasFirstFault p text place word → ((u : Tuple) → Accepts p text u → ⊥) → ((q : ℕ) (w : FaultWord) → HasFirstFault p text q w → (q ≡ place) × (w ≡ word)) → Answer (Err (faults.At place word)) p text
  refused place word h none one = record { answer = at_front place word h; only = (none, λ q w g. one q w (from_front q w g)) }

  -- a text that is too long
  pub too_long : most_bytes < length text → Answer (Err (faults.At most_bytes words.Long)) p text
  too_long lt = refused most_bytes words.Long (long lt refl refl) (λ u a. let le : length text ≤ most_bytes = a.says.short in absurd (omega arith)) one
    where
      one : (q : ℕ) (w : FaultWord) → HasFirstFault p text q w → (q ≡ most_bytes) × (w ≡ words.Long)
      one q w (long l d e) = (d, e)
      one q w (no_token le h) = absurd (omega arith)
      one q w (no_lines le list ts h) = absurd (omega arith)
      one q w (in_lines t says h) = let le : length text ≤ most_bytes = says.short in absurd (omega arith)

  module _ (short : length text ≤ most_bytes) where
    -- a text that is not cut into tokens
    pub not_cut : (e : TextFault) → Tokenizes (Err e) text → cut.IsOnlyAnswer (Err e) text → Answer (Err e) p text
    not_cut faults.Memory h only = record { answer = tt; only = tt }
    not_cut (faults.At place word) h only = refused place word (no_token short h) (λ u a. only.0 a.says.list a.says.tokens) one
      where
        one : (q : ℕ) (w : FaultWord) → HasFirstFault p text q w → (q ≡ place) × (w ≡ word)
        one q w (long l d e) = absurd (omega arith)
        one q w (no_token le g) = only.1 q w g
        one q w (no_lines le list ts g) = absurd (only.0 list ts)
        one q w (in_lines t says g) = absurd (only.0 says.list says.tokens)

    module _ (list : List Token) (cuts : IsTokens text list) (one_list : (us : List Token) → IsTokens text us → us ≡ list) (no_fault : (q : ℕ) (w : FaultWord) → IsTokenFault text q w → ⊥) where
      spelled_by : (us : List Token) (t : LayoutTree) → IsTokens text us → IsWhole (LayoutWords text) 0 us t → IsWhole (LayoutWords text) 0 list t
      spelled_by us t ts h = subst (λ (vs : List Token). IsWhole (LayoutWords text) 0 vs t) (one_list us ts) h

      refused_by : (us : List Token) (q : ℕ) (w : FaultWord) → IsTokens text us → FirstFault (LayoutWords text) 0 (length text) us q w → FirstFault (LayoutWords text) 0 (length text) list q w
      refused_by us q w ts h = subst (λ (vs : List Token). FirstFault (LayoutWords text) 0 (length text) vs q w) (one_list us ts) h

      -- tokens that spell no lines
      pub not_spelled : (e : TextFault) → AnswersText layout_view (Err e) (LayoutWords text) 0 (length text) list → whole.IsOnlyAnswer layout_view (Err e) (LayoutWords text) 0 (length text) list → Answer (Err e) p text
      not_spelled faults.Memory h only = record { answer = tt; only = tt }
      not_spelled (faults.At place word) h only = refused place word (no_lines short list cuts h) (λ u a. only.0 a.tree (spelled_by a.says.list a.tree a.says.tokens a.says.spells)) one
        where
          one : (q : ℕ) (w : FaultWord) → HasFirstFault p text q w → (q ≡ place) × (w ≡ word)
          one q w (long l d e) = absurd (omega arith)
          one q w (no_token le g) = absurd (no_fault q w g)
          one q w (no_lines le us ts g) = only.1 q w (refused_by us q w ts g)
          one q w (in_lines t says g) = absurd (only.0 t (spelled_by says.list t says.tokens says.spells))

      module _ (tree : LayoutTree) (spells : IsWhole (LayoutWords text) 0 list tree) (one_tree : (t : LayoutTree) → IsWhole (LayoutWords text) 0 list t → t ≡ tree) (no_refusal : (q : ℕ) (w : FaultWord) → FirstFault (LayoutWords text) 0 (length text) list q w → ⊥) where
        says_it : Says text tree
        says_it = record { short = short; list = list; tokens = cuts; spells = spells }

        same_tree : (t : LayoutTree) → Says text t → t ≡ tree
        same_tree t says = one_tree t (spelled_by says.list t says.tokens says.spells)

        first_of : (t : LayoutTree) (q : ℕ) (w : FaultWord) → Says text t → IsFirst (IsFault p (length text) t) (fault q w) → IsFirst (IsFault p (length text) tree) (fault q w)
        first_of t q w says g = subst (λ (u : LayoutTree). IsFirst (IsFault p (length text) u) (fault q w)) (same_tree t says) g

        -- lines with a fault
        pub at_fault : (f : Fault) → IsFirst (IsFault p (length text) tree) f → Answer (Err (faults.At f.place f.word)) p text
        at_fault f h = refused f.place f.word (in_lines tree says_it h) (λ u a. a.right f (subst (λ (t : LayoutTree). IsFault p (length text) t f) (sym (same_tree a.tree a.says)) h.there)) one
          where
            one : (q : ℕ) (w : FaultWord) → HasFirstFault p text q w → (q ≡ f.place) × (w ≡ f.word)
            one q w (long l d e) = absurd (omega arith)
            one q w (no_token le g) = absurd (no_fault q w g)
            one q w (no_lines le us ts g) = absurd (no_refusal q w (refused_by us q w ts g))
            one q w (in_lines t says g) =
                let e : fault q w ≡ f = one_first (IsFault p (length text) tree) (fault q w) f (first_of t q w says g) h in
                (ap (λ (x : Fault). x.place) e, ap (λ (x : Fault). x.word) e)

        -- lines without a fault
        pub accepted : (t : Layout) → ((f : Fault) → IsFault p (length text) tree f → ⊥) → t ≡ tuple_of p tree.lines → Answer (Ok t) p text
        accepted t right means = record {
          answer = record { tree = tree; says = says_it; right = right; means = means };
          only = (λ u a. a.means ∙ ap (λ (x : LayoutTree). tuple_of p x.lines) (same_tree a.tree a.says) ∙ sym means, λ q w g. none q w (from_front q w g));
        }
          where
            none : (q : ℕ) (w : FaultWord) → HasFirstFault p text q w → ⊥
            none q w (long l d e) = omega arith
            none q w (no_token le g) = no_fault q w g
            none q w (no_lines le us ts g) = no_refusal q w (refused_by us q w ts g)
            none q w (in_lines x says g) = right (fault q w) (first_of x q w says g).there

-- ---- a text that begins further on in the input

module _ (p : ProblemData) (text : List ℕ) (from place : ℕ) (word : FaultWord) where
  pub shifted : HasFaultFrom p text 0 place word → HasFaultFrom p text from (from + place) word
  shifted h = record { within = h.within; first = h.first; at = (let at : place ≡ 0 + h.within = h.at in omega arith) }

  pub shifted_only : IsOnlyLayout (Err (faults.At place word)) p text 0 → IsOnlyLayout (Err (faults.At (from + place) word)) p text from
  shifted_only h = (
    h.0,
    λ q w g.
        (let r = h.1 (0 + g.within) w (record { within = g.within; first = g.first; at = refl }) in
        let same : 0 + g.within ≡ place = r.0 in
        let at : q ≡ from + g.within = g.at in
        (omega arith, r.1)),
  )

  pub is_within : HasFaultFrom p text 0 place word → place ≤ most_bytes
  is_within h = let i : h.within ≤ most_bytes = fault_within p text h.within word h.first in let at : place ≡ 0 + h.within = h.at in omega arith

pub accepted_only : (p : ProblemData) (text : List ℕ) (from : ℕ) (t : Layout) → IsOnlyLayout (Ok t) p text 0 → IsOnlyLayout (Ok t) p text from
accepted_only p text from t h = (h.0, λ q w g. h.1 (0 + g.within) w (record { within = g.within; first = g.first; at = refl }))
