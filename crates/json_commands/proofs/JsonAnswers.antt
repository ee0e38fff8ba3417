-- A text of JSON has one answer, where the text of statements that it spells has one.
use Rattle.std.proofs.Common.{◌≡◌, inl, inr, ℕ, ◌+◌, ◌<◌, List, [], ◌++◌, length, sym, subst, ◌∙◌, ap, arith, length-append}
use Rattle.std.specs.Prelude.{◌⊎◌, Option}
use Rattle.std.proofs.lemmas.List.{append-nil}
use Rattle.json_sheets.specs.SheetText.{TextSpells}
use Rattle.json_sheets.proofs.Alike.{one_built, spells_something}
use Rattle.command_input.specs.Reading.{IsFirstText, IsReadFrom}
use Rattle.command_input.specs.declared.command.Status.{Status}
use Rattle.command_reply.specs.Question.{Question, IsSound, IsVerdict, Decides}
use Rattle.command_reply.specs.Reply.{IsAnswered, IsSaid}
use Rattle.command_reply.proofs.Ending.{answers_text}
use Rattle.json_commands.specs.Reading.{Replies, long, no_form, spelled, RepliesUnspelled, SpellsFaultless, json_question}

-- ---- what is asked of the text of statements has one answer, and so has the text of JSON

module _ (q : Question) (sound : IsSound q) where
  one_status : (input t u : List ℕ) (s r : Status) → Replies q.answer input t s → Replies q.answer input u r → s ≡ r
  one_status input t u s r (long l e m) (long k f n) = m ∙ sym n
  one_status input t u s r (long l e m) (no_form short none f n) = m ∙ sym n
  one_status input t u s r (long l e m) (spelled short built h b) = absurd (omega (arith, l, short))
  one_status input t u s r (no_form short none e m) (long k f n) = m ∙ sym n
  one_status input t u s r (no_form short none e m) (no_form less nothing f n) = m ∙ sym n
  one_status input t u s r (no_form short none e m) (spelled less built h b) = absurd (spells_something input built h none)
  one_status input t u s r (spelled short built h a) (long k f n) = absurd (omega (arith, k, short))
  one_status input t u s r (spelled short built h a) (no_form less none f n) = absurd (spells_something input built h none)
  one_status input t u s r (spelled short built h a) (spelled less other g b) =
      sound.one_status built t u s r a (subst (λ (x : List ℕ). q.answer x u r) (one_built input other built g h) b)

  one_text : (input t u : List ℕ) (s : Status) → Replies q.answer input t s → Replies q.answer input u s → (t ≡ u) ⊎ ((built : List ℕ) × TextSpells input built × q.differ built s t u)
  one_text input t u s (long l e m) (long k f n) = inl (e ∙ sym f)
  one_text input t u s (long l e m) (no_form short none f n) = absurd (omega (arith, l, short))
  one_text input t u s (long l e m) (spelled short built h b) = absurd (omega (arith, l, short))
  one_text input t u s (no_form short none e m) (long k f n) = absurd (omega (arith, k, short))
  one_text input t u s (no_form short none e m) (no_form less nothing f n) = inl (e ∙ sym f)
  one_text input t u s (no_form short none e m) (spelled less built h b) = absurd (spells_something input built h none)
  one_text input t u s (spelled short built h a) (long k f n) = absurd (omega (arith, k, short))
  one_text input t u s (spelled short built h a) (no_form less none f n) = absurd (spells_something input built h none)
  one_text input t u s (spelled short built h a) (spelled less other g b) =
      elim (sound.one_text built t u s a (subst (λ (x : List ℕ). q.answer x u s) (one_built input other built g h) b)) [
        | inl e ↦ inl e
        | inr d ↦ inr (built, h, d)
      ]

  complete : (input text : List ℕ) (s : Status) → SpellsFaultless q.faultless input → Replies q.answer input text s → IsVerdict s
  complete input text s given (long l e m) = (let short = given.short in absurd (omega (arith, l, short)))
  complete input text s given (no_form short none e m) = absurd (spells_something input given.built given.spells none)
  complete input text s given (spelled short built h a) =
      sound.complete built text s (subst q.faultless (one_built input given.built built given.spells h) given.faultless) a

  pub json_sound : IsSound (json_question q)
  json_sound = record { one_status = one_status; one_text = one_text; complete = complete; within = omega arith }

-- ---- what was read in place of the whole input

module _ (q : Question) where
  replied_to_input : (input text out : List ℕ) (s : Status) → IsFirstText input text → Replies q.answer text out s → Replies q.answer input out s
  replied_to_input input text out s first reply = by first.whole reply
    where
      size : length input ≡ length text + length first.rest
      size = ap length first.front ∙ length-append text first.rest

      by : (first.rest ≡ []) ⊎ (1048576 < length text) → Replies q.answer text out s → Replies q.answer input out s
      by (inl e) r = subst (λ (x : List ℕ). Replies q.answer x out s) (sym (first.front ∙ ap (λ (x : List ℕ). text ++ x) e ∙ append-nil text)) r
      by (inr l) (long k e m) = long (omega (arith, size, l)) e m
      by (inr l) (no_form short none e m) = absurd (omega (arith, l, short))
      by (inr l) (spelled short built h a) = absurd (omega (arith, l, short))

  module _ (ends : (built text : List ℕ) (s : Status) → q.answer built text s → IsAnswered s) where
    answered : (input text : List ℕ) (s : Status) → Replies q.answer input text s → IsAnswered s
    answered input text s (long l e m) = subst IsAnswered (sym m) tt
    answered input text s (no_form short none e m) = subst IsAnswered (sym m) tt
    answered input text s (spelled short built h a) = ends built text s a

    -- a reply to the text that was read is one to the input
    pub decides_json : (left : Option (List ℕ)) (read text out : List ℕ) (s : Status) → IsReadFrom left read → text ≡ read → Replies q.answer text out s → Decides (json_question q) left (IsSaid out s)
    decides_json left read text out s (input, told, first) e reply =
        let a = replied_to_input input read out s first (subst (λ (x : List ℕ). Replies q.answer x out s) e reply) in
        record { input = input; told = told; answers = answers_text (Replies q.answer) input out s a (answered input out s a) }

-- a text that spells nothing is answered in one way, whatever answers texts of statements
pub replied_unspelled : (Built : List ℕ → List ℕ → Status → Type 0) (input text : List ℕ) (s : Status) → RepliesUnspelled input text s → Replies Built input text s
replied_unspelled Built input text s (long l e m) = long l e m
replied_unspelled Built input text s (no_form short none e m) = no_form short none e m
replied_unspelled Built input text s (spelled short built h a) = absurd a
