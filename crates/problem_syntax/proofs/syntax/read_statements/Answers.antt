use Rattle.std.proofs.Common.{◌≡◌, ◌==◌, ◌≤◌, ℕ, List, [], ◌∷◌, length, false, Some, Ok, Err, Result, refl, sym, ◌∙◌, subst, arith}
use Rattle.std.proofs.lemmas.Bool.Decides.{Decides-eqb}
use Rattle.geo_tokens.specs.declared.token.Token.{Token}
use Rattle.geo_tokens.specs.declared.stop.Stop.{Stop}
use Rattle.geo_tokens.specs.declared.fault.TextFault.{TextFault}
use Rattle.geo_tokens.specs.Reading.{Got}
use Rattle.geo_tokens.specs.Gives.{Fails}
use Rattle.rule_reading.specs.Outcome.{place_of, IsInside, fault_of}
use Rattle.rule_reading.proofs.Outcomes.{value_in, stop_inside}
use Rattle.problem_data.specs.declared.tree.ProblemText.{ProblemText}
use Rattle.problem_data.specs.Grammar.{ProblemWords}
use Rattle.problem_syntax.specs.Reading.{problem_at}
use Rattle.problem_data.specs.View.{problem_view}
use Rattle.problem_data.specs.Whole.{IsWhole}
use Rattle.problem_syntax.specs.WholeText.{IsWrong, AnswersText, IsOnlyAnswer}
use Rattle.problem_syntax.proofs.Right.{problem_good}
use Rattle.problem_syntax.proofs.Levels.{problem_reading}
use Rattle.problem_syntax.proofs.WholeText.{only_answer, is_whole, is_left_over, is_stopped}
use Rattle.problem_syntax.proofs.syntax.read_statements.Goals as goal

not_empty : (xs : List Token) → length xs ≡ 0 → xs ≡ []
not_empty [] e = refl
not_empty (x ∷ xs) e = absurd (omega arith)

not_none : (xs : List Token) → (length xs == 0) ≡ false → xs ≡ [] → ⊥
not_none [] t e = cc
not_none (x ∷ xs) t e = cc

-- the lemmas on whole texts, of problems
module _ (text : List ℕ) (list : List Token) where
  whole : (p : ProblemText) (rest : List Token) → problem_at text 64 list ≡ Got (Some (problem_view p)) rest → rest ≡ [] → IsWhole (ProblemWords text) 64 list (problem_view p)
  whole p rest h done = is_whole (ProblemWords text) 64 _ _ (problem_good text 64).facts (problem_at text 64) (problem_good text 64).reads (problem_reading text 64) (length text) list (problem_view p) rest h done

  left_over : (p : ProblemText) (rest : List Token) → problem_at text 64 list ≡ Got (Some (problem_view p)) rest → (rest ≡ [] → ⊥) → IsWrong (ProblemWords text) 64 (length text) list (place_of (length text) rest)
  left_over p rest h more = is_left_over (ProblemWords text) 64 _ _ (problem_good text 64).facts (problem_at text 64) (problem_good text 64).reads (problem_reading text 64) (length text) list (problem_view p) rest h more

  stopped : (e : Stop) → Fails e (problem_at text 64 list) → AnswersText problem_view (Err (fault_of (length text) list e)) (ProblemWords text) 64 (length text) list
  stopped e h = is_stopped (ProblemWords text) 64 _ _ (problem_good text 64).facts (problem_at text 64) (problem_good text 64).reads (problem_reading text 64) (length text) list problem_view e h

  only : (res : Result ProblemText TextFault) → AnswersText problem_view res (ProblemWords text) 64 (length text) list → IsOnlyAnswer problem_view res (ProblemWords text) 64 (length text) list
  only res h = only_answer (ProblemWords text) 64 _ _ (problem_good text 64).facts (length text) list problem_view res h

  inside_value : (p : ProblemText) (rest : List Token) → problem_at text 64 list ≡ Got (Some (problem_view p)) rest → length rest ≤ length list
  inside_value p rest h = value_in (ProblemWords text) 64 _ _ (problem_good text 64).facts (problem_at text 64) (problem_good text 64).reads (problem_reading text 64) list 0 (omega arith) list refl (problem_view p) rest h

  inside_stop : (e : Stop) → Fails e (problem_at text 64 list) → IsInside list e
  inside_stop e h = stop_inside (ProblemWords text) 64 _ _ (problem_good text 64).facts (problem_at text 64) (problem_good text 64).reads (problem_reading text 64) list 0 (omega arith) list refl e h

pub fault_of-requires : goal.fault_of-requires
fault_of-requires c = inside_value c.args.text.now c.args.list.now c.in-Ok.said c.in-Ok.rest.now c.in-Ok.ensures

pub fault_of-requires-in-Err : goal.fault_of-requires-in-Err
fault_of-requires-in-Err c = inside_stop c.args.text.now c.args.list.now c.in-Err.stop c.in-Err.ensures

pub returns-then-is_empty : goal.returns-then-is_empty
returns-then-is_empty c =
    let done : c.in-Ok.rest.now ≡ [] = not_empty c.in-Ok.rest.now ((Decides-eqb (length c.in-Ok.rest.now) 0).0 (sym c.is_empty.ensures ∙ c.if-is_empty.true)) in
    let answer : AnswersText problem_view (Ok c.in-Ok.said) (ProblemWords c.args.text.now) 64 (length c.args.text.now) c.args.list.now = whole c.args.text.now c.args.list.now c.in-Ok.said c.in-Ok.rest.now c.in-Ok.ensures done in
    record { answer = answer; only = only c.args.text.now c.args.list.now (Ok c.in-Ok.said) answer }

pub returns-else-is_empty : goal.returns-else-is_empty
returns-else-is_empty c =
    let wrong : IsWrong (ProblemWords c.args.text.now) 64 (length c.args.text.now) c.args.list.now (place_of (length c.args.text.now) c.in-Ok.rest.now) =
    left_over c.args.text.now c.args.list.now c.in-Ok.said c.in-Ok.rest.now c.in-Ok.ensures (not_none c.in-Ok.rest.now (sym c.is_empty.ensures ∙ c.if-is_empty.false)) in
    let answer : AnswersText problem_view (Err c.fault_of.result) (ProblemWords c.args.text.now) 64 (length c.args.text.now) c.args.list.now =
    subst (λ (e : TextFault). AnswersText problem_view (Err e) (ProblemWords c.args.text.now) 64 (length c.args.text.now) c.args.list.now) (sym c.fault_of.ensures) wrong in
    record { answer = answer; only = only c.args.text.now c.args.list.now (Err c.fault_of.result) answer }

pub returns-in-Err : goal.returns-in-Err
returns-in-Err c =
    let answer : AnswersText problem_view (Err c.fault_of-in-Err.result) (ProblemWords c.args.text.now) 64 (length c.args.text.now) c.args.list.now =
    subst (λ (e : TextFault). AnswersText problem_view (Err e) (ProblemWords c.args.text.now) 64 (length c.args.text.now) c.args.list.now) (sym c.fault_of-in-Err.ensures) (stopped c.args.text.now c.args.list.now c.in-Err.stop c.in-Err.ensures) in
    record { answer = answer; only = only c.args.text.now c.args.list.now (Err c.fault_of-in-Err.result) answer }
