-- What is read from a text and spelled canonically is read back.
use Rattle.std.proofs.Common.{◌≡◌, ℕ, ◌+◌, ◌-◌, ◌≤◌, List, [], ◌++◌, length, take, drop, Some, false, inl, inr, refl, sym, ap, ◌∙◌, subst, append_assoc, arith}
use Rattle.std.proofs.lemmas.List.{append-nil, drop-drop, take-append-drop}
use Rattle.geo_tokens.specs.declared.token.Token.{Token}
use Rattle.geo_tokens.specs.Words.{Kinds, Lang}
use Rattle.geo_tokens.specs.Reading.{Read}
use Rattle.geo_tokens.specs.Cut.{IsToken, Cut, here, behind_gap, behind_token, IsTokens}
use Rattle.geo_tokens.specs.Deep.{IsReading}
use Rattle.geo_tokens.proofs.Levels.{Splits}
use Rattle.geo_tokens.proofs.Good.{Good, reads_all}
use Rattle.rule_print.specs.declared.rank.ExprRank.TheVariants as expr_ranks
use Rattle.rule_print.specs.declared.rank.FormulaRank.TheVariants as ranks
use Rattle.rule_syntax.specs.Tree.{ExprTree, FormulaTree}
use Rattle.rule_syntax.specs.Grammar.{ExprWords, FormulaWords}
use Rattle.rule_reading.specs.Outcome.{HasValue}
use Rattle.rule_syntax.specs.Reading.{expr_at, formula_at}
use Rattle.rule_print.specs.Canonical.{Written, shown}
use Rattle.rule_print.specs.Spelled.{expr_spelling, formula_spelling, expr_text, formula_text, bare_expr, bare_formula, IsRead, ReadsBack}
use Rattle.rule_syntax.proofs.Expressions.{expr_good}
use Rattle.rule_reading.proofs.Formulas.{formula_good}
use Rattle.rule_reading.proofs.Limits.{expr_step, expr_reading, formula_step, formula_reading}
use Rattle.rule_reading.proofs.Steps.{steps_split}
use Rattle.rule_reading.proofs.Outcomes.{has_value}
use Rattle.rule_print.proofs.ShownTokens.{tokens_behind, shown_tokens, shown_stands}
use Rattle.rule_print.proofs.Respelled.{Respelled, AllTrue, true_parts}
use Rattle.rule_print.proofs.ExpressionsRead.{factor_of, expr_of}
use Rattle.rule_print.proofs.FormulasRead.{unary_of, formula_of}
use Rattle.std.specs.Prelude.{None as Nothing}

-- the tokens of a text are what stands at their places
module _ (text : List ℕ) (end : ℕ) (rest : List ℕ) where
  cut_true : (place : ℕ) (bytes : List ℕ) (ts : List Token) → bytes ≡ drop place text → Cut end rest place bytes ts → AllTrue text ts
  cut_true place bytes ts d (here _ _ _ a b c) = subst (λ (us : List Token). AllTrue text us) (sym c) tt
  cut_true place bytes ts d (behind_gap _ _ _ n g x) = cut_true (place + n) (drop n bytes) ts (ap (λ (u : List ℕ). drop n u) d ∙ drop-drop n place text) x
  cut_true place bytes ts d (behind_token _ _ _ k n us g c x) =
      let size : n ≡ (place + n) - place = omega arith in
      let stands : IsToken k ((place + n) - place) (drop place text) = subst (λ (u : List ℕ). IsToken k ((place + n) - place) u) d (subst (λ (m : ℕ). IsToken k m bytes) size g) in
      subst (λ (vs : List Token). AllTrue text vs) (sym c) (stands, cut_true (place + n) (drop n bytes) us (ap (λ (u : List ℕ). drop n u) d ∙ drop-drop n place text) x)

pub tokens_true : (text : List ℕ) (list : List Token) → IsTokens text list → AllTrue text list
tokens_true text list h = cut_true text (length text) [] 0 text list refl h

run_true : (text : List ℕ) (list run rest : List Token) (from : ℕ) → AllTrue text list → drop from list ≡ run ++ rest → AllTrue text run
run_true text list run rest from h e =
    let all : AllTrue text (take from list ++ drop from list) = subst (λ (u : List Token). AllTrue text u) (sym (take-append-drop from list)) h in
    let behind : AllTrue text (drop from list) = (true_parts text (take from list) (drop from list) all).1 in
    (true_parts text run rest (subst (λ (u : List Token). AllTrue text u) e behind)).0

module _ {A : Type 0} (L : List ℕ → ℕ → Lang A) (bare : A → A) (spelling : A → List Written) (at : List ℕ → List Token → Read A) (f e : Kinds)
    (good : (text : List ℕ) → Good (L text 64) (at text) false f e) (reading : (text : List ℕ) (w : List Token) → IsReading (L text) 64 w (at text w)) (splits : (text : List ℕ) (m : ℕ) → Splits (L text m) (L text 64))
    (again : (text : List ℕ) (a : A) (w : List Token) → L text 64 (Some a) w → AllTrue text w → Respelled (λ t. L t 64) (λ b. bare b ≡ bare a) (spelling a)) where
  -- what is read has no more levels than may be opened
  within_limit : (text : List ℕ) (list : List Token) (from next : ℕ) (a : A) (h : HasValue (L text) 64 list from a next) → L text 64 (Some a) h.value.run
  within_limit text list from next a h =
      elim (splits text h.value.spells.0 a h.value.run h.value.spells.1) [
        | inl l ↦ l
        | inr c ↦ absurd (h.within c.0 (c.1 ++ drop next list) (h.value.parts ∙ ap (λ (u : List Token). u ++ drop next list) c.2 ∙ append_assoc c.0 c.1 (drop next list)) c.3)
      ]

  value_at : (text : List ℕ) (w : List Token) (a : A) → L text 64 (Some a) w → HasValue (L text) 64 w 0 a (length w)
  value_at text w a l =
      let size : length w - 0 ≡ length w = omega arith in
      let le : 0 ≤ length w = omega arith in
      subst (λ (n : ℕ). HasValue (L text) 64 w 0 a n) size
      (has_value (L text) 64 f e (good text).facts (at text) (good text).reads (reading text) w 0 le w refl a [] (reads_all (good text) a w l))

  pub reads_back : (a : A) → IsRead L a → ReadsBack L bare (shown (spelling a)) a
  reads_back a (text, list, from, next, tokens, h) =
      let word : L text 64 (Some a) h.value.run = within_limit text list from next a h in
      let r = again text a h.value.run word (run_true text list h.value.run (drop next list) from (tokens_true text list tokens) h.value.parts) in
      let bytes : List ℕ = shown (spelling a) in
      let v : List Token = tokens_behind Nothing 0 (spelling a) in
      let stands = shown_stands bytes [] Nothing 0 (spelling a) [] refl (sym (append-nil bytes)) in
      let x = r.again.reads bytes v stands in
      (v, x.0, shown_tokens (spelling a) r.good, value_at bytes v x.0 x.1, x.2)

pub expr_again : (text : List ℕ) (e : ExprTree) (w : List Token) → ExprWords text 64 (Some e) w → AllTrue text w → Respelled (λ t. ExprWords t 64) (λ b. bare_expr b ≡ bare_expr e) (expr_spelling expr_ranks.Sum e)
unfolding ExprWords
expr_again text e w l h = (expr_of text 64 (factor_of text 64) e w l h).expr

pub formula_again : (text : List ℕ) (f : FormulaTree) (w : List Token) → FormulaWords text 64 (Some f) w → AllTrue text w → Respelled (λ t. FormulaWords t 64) (λ b. bare_formula b ≡ bare_formula f) (formula_spelling ranks.Equivalence f)
unfolding FormulaWords
formula_again text f w l h = (formula_of text 64 (unary_of text 64) f w l h).formula

pub expr_reads_back : (e : ExprTree) → IsRead ExprWords e → ReadsBack ExprWords bare_expr (expr_text e) e
expr_reads_back = reads_back ExprWords bare_expr (expr_spelling expr_ranks.Sum) (λ text. expr_at text 64) _ _ (λ text. expr_good text 64) (λ text w. expr_reading text 64 w) (λ text m. steps_split (ExprWords text) (expr_step text) m 64) expr_again

pub formula_reads_back : (f : FormulaTree) → IsRead FormulaWords f → ReadsBack FormulaWords bare_formula (formula_text f) f
formula_reads_back = reads_back FormulaWords bare_formula (formula_spelling ranks.Equivalence) (λ text. formula_at text 64) _ _ (λ text. formula_good text 64) (λ text w. formula_reading text 64 w) (λ text m. steps_split (FormulaWords text) (formula_step text) m 64) formula_again
