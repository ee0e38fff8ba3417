-- Words ask one question.
use Rattle.std.proofs.Common.{◌≡◌, inl, inr, ℕ, ℤ, List, refl, subst, sym, ◌∙◌, arith}
use Rattle.std.specs.Option.{option_copied}
use Rattle.command_input.specs.declared.command.Command.{Command}
use Rattle.command_input.specs.declared.command.Command.TheVariants.{
  First,
  Show,
  Judge,
  Check,
  Draw,
  All,
  Make,
  Best,
  CheckBest,
  Load,
  Why,
  ToJson,
  FromJson,
  FirstJson,
}
use Rattle.command_input.specs.declared.command.Status.{Status}
use Rattle.command_input.specs.Words.{HasForm}
use Rattle.command_input.proofs.OneForm.{one_best, one_check_best, one_first_json, one_load, one_number, one_page, one_seed, one_why, same_mark}
use Rattle.command_reply.specs.Question.{Question, IsSound}
use Rattle.check_commands.specs.CheckBest.{check_best_question}
use Rattle.json_search_commands.specs.FirstJson.{first_json_question}
use Rattle.layout_commands.specs.Load.{load_question}
use Rattle.search_commands.specs.All.{all_question}
use Rattle.search_commands.specs.Best.{best_question}
use Rattle.search_commands.specs.First.{first_question}
use Rattle.search_commands.specs.Make.{make_question}
use Rattle.search_commands.specs.Why.{why_question}
use Rattle.geost_run.specs.Answer.{Answer, AreAlike}
use Rattle.geost_run.specs.Questions.{AnswerTo, question_of}

-- what answers the second question answers the first, and so with what has no fault; and as many
-- bytes are taken
pub record AreSame (q r : Question) : Type 0 where
  pub answers : (input text : List ℕ) (status : Status) → r.answer input text status → q.answer input text status
  pub faultless : (input : List ℕ) → r.faultless input → q.faultless input
  pub most : q.most ≡ r.most

same : (q : Question) → AreSame q q
same q = record { answers = λ input text status a. a; faultless = λ input h. h; most = refl }

same_by : {A : Type 0} (Q : A → Question) (a b : A) → a ≡ b → AreSame (Q a) (Q b)
same_by {A} Q a b e = subst (λ (x : A). AreSame (Q a) (Q x)) e (same (Q a))

then_same : (q r s : Question) → AreSame q r → AreSame r s → AreSame q s
then_same q r s a b = record {
  answers = λ input text status x. a.answers input text status (b.answers input text status x);
  faultless = λ input h. a.faultless input (b.faultless input h);
  most = a.most ∙ b.most;
}

same_make : (words : List (List ℕ)) (seed n other m : ℕ) → HasForm words (Make seed n) → HasForm words (Make other m) → AreSame (make_question seed n) (make_question other m)
same_make words seed n other m f g =
    let e = one_seed words seed n other m f g in
    then_same (make_question seed n) (make_question other n) (make_question other m) (same_by (λ (s : ℕ). make_question s n) seed other e.0) (same_by (make_question other) n m e.1)

same_best : (words : List (List ℕ)) (d n e m : ℕ) → HasForm words (Best d n) → HasForm words (Best e m) → AreSame (best_question d n) (best_question e m)
same_best words d n e m f g =
    let h = one_best words d n e m f g in
    then_same (best_question d n) (best_question e n) (best_question e m) (same_by (λ (k : ℕ). best_question k n) d e h.0) (same_by (best_question e) n m h.1)

same_check_best : (words : List (List ℕ)) (d : ℕ) (x : ℤ) (e : ℕ) (y : ℤ) → HasForm words (CheckBest d x) → HasForm words (CheckBest e y) → AreSame (check_best_question d x) (check_best_question e y)
same_check_best words d x e y f g =
    let h = one_check_best words d x e y f g in
    then_same (check_best_question d x) (check_best_question e x) (check_best_question e y) (same_by (λ (k : ℕ). check_best_question k x) d e h.0)
    (same_by (check_best_question e) x y h.1)

-- the commands of the same words ask the same: one line a command
pub one_question : (words : List (List ℕ)) (c d : Command) → HasForm words c → HasForm words d → AreSame (question_of c) (question_of d)
one_question words (First n) (First m) f g = same_by first_question n m (one_number words n m f g)
one_question words Show Show f g = same (question_of Show)
one_question words Judge Judge f g = same (question_of Judge)
one_question words Check Check f g = same (question_of Check)
one_question words Draw Draw f g = same (question_of Draw)
one_question words (All x) (All y) f g =
    let e = one_page words x y f g in
    then_same (all_question x.most x.budget (option_copied x.token)) (all_question y.most y.budget (option_copied x.token)) (all_question y.most y.budget (option_copied y.token))
    (then_same (all_question x.most x.budget (option_copied x.token)) (all_question y.most x.budget (option_copied x.token)) (all_question y.most y.budget (option_copied x.token))
    (same_by (λ (k : ℕ). all_question k x.budget (option_copied x.token)) x.most y.most e.0) (same_by (λ (k : ℕ). all_question y.most k (option_copied x.token)) x.budget y.budget e.1))
    (same_by (all_question y.most y.budget) (option_copied x.token) (option_copied y.token) e.2)
one_question words (Make seed n) (Make other m) f g = same_make words seed n other m f g
one_question words (Best d n) (Best e m) f g = same_best words d n e m f g
one_question words (CheckBest d x) (CheckBest e y) f g = same_check_best words d x e y f g
one_question words (Load d) (Load e) f g = same_by load_question d e (one_load words d e f g)
one_question words (Why n) (Why m) f g = same_by why_question n m (one_why words n m f g)
one_question words ToJson ToJson f g = same (question_of ToJson)
one_question words FromJson FromJson f g = same (question_of FromJson)
one_question words (FirstJson n) (FirstJson m) f g = same_by first_json_question n m (one_first_json words n m f g)
one_question words c d f g = absurd (let e = same_mark words c d f g in omega (arith, e))

-- an answer to words that have the form of a command is one to the command
pub answers_to : (words : List (List ℕ)) (c : Command) (input text : List ℕ) (s : Status) → HasForm words c → Answer words input text s → AnswerTo c input text s
answers_to words c input text s form (inl a) = (one_question words c a.command form a.form).answers input text s a.answers
answers_to words c input text s form (inr h) = absurd (h.none c form)

-- ---- what is sound of a command is sound of its words

module _ (words : List (List ℕ)) (c : Command) (form : HasForm words c) (sound : IsSound (question_of c)) where
  pub one_status : (input t u : List ℕ) (s r : Status) → Answer words input t s → Answer words input u r → s ≡ r
  one_status input t u s r a b = sound.one_status input t u s r (answers_to words c input t s form a) (answers_to words c input u r form b)

  pub one_text : (input t u : List ℕ) (s : Status) → Answer words input t s → Answer words input u s → AreAlike words input s t u
  one_text input t u s a b = elim (sound.one_text input t u s (answers_to words c input t s form a) (answers_to words c input u s form b)) [
    | inl e ↦ inl e
    | inr d ↦ inr (record { command = c; form = form; differ = d })
  ]

-- ---- words that have no form

module _ (words : List (List ℕ)) (none : (c : Command) → HasForm words c → ⊥) where
  pub bad_status : (input t u : List ℕ) (s r : Status) → Answer words input t s → Answer words input u r → s ≡ r
  bad_status input t u s r (inl a) b = absurd (none a.command a.form)
  bad_status input t u s r (inr h) (inl b) = absurd (none b.command b.form)
  bad_status input t u s r (inr h) (inr k) = h.ends ∙ sym k.ends

  pub bad_text : (input t u : List ℕ) (s : Status) → Answer words input t s → Answer words input u s → AreAlike words input s t u
  bad_text input t u s (inl a) b = absurd (none a.command a.form)
  bad_text input t u s (inr h) (inl b) = absurd (none b.command b.form)
  bad_text input t u s (inr h) (inr k) = inl (h.says ∙ sym k.says)
