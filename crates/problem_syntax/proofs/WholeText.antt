-- What reading gives of a whole list of tokens is its value or its first fault, and a list has one of these alone.
use Rattle.std.proofs.Common.{◌≡◌, ℕ, ◌+◌, ◌-◌, ◌<◌, List, [], ◌∷◌, ◌++◌, drop, length, Some, None, Result, Ok, Err, false, ◌⊎◌, inl, inr, refl, sym, ap, ◌∙◌, append_assoc, subst, arith}
use Rattle.std.proofs.lemmas.List.{append-nil, length-drop}
use Rattle.geo_tokens.specs.declared.token.Token.{Token}
use Rattle.geo_tokens.specs.declared.stop.Stop.{Stop}
use Rattle.geo_tokens.specs.declared.stop.Stop.TheVariants as stops
use Rattle.geo_tokens.specs.declared.fault.FaultWord.{FaultWord}
use Rattle.geo_tokens.specs.declared.fault.FaultWord.TheVariants as words
use Rattle.geo_tokens.specs.declared.fault.TextFault.{TextFault}
use Rattle.geo_tokens.specs.declared.fault.TextFault.TheVariants as faults
use Rattle.geo_tokens.specs.Words.{Kinds, Lang, start_of}
use Rattle.geo_tokens.specs.Reading.{Read, Got, Is, Found}
use Rattle.geo_tokens.specs.Deep.{Spells, IsFault, IsDeep, IsTextFault, IsReading, Departs}
use Rattle.geo_tokens.specs.Gives.{Fails}
use Rattle.geo_tokens.proofs.Lists.{behind, before, cuts}
use Rattle.geo_tokens.proofs.Facts.{Facts}
use Rattle.geo_tokens.proofs.Text.{text_fault, text_done, text_not_done}
use Rattle.rule_reading.specs.Outcome.{place_of, HasFault, HasDeep, fault_of}
use Rattle.rule_reading.proofs.Outcomes.{has_value, stop_refuses}
use Rattle.problem_data.specs.Whole.{IsWhole}
use Rattle.problem_syntax.specs.WholeText.{IsWrong, FirstFault, AnswersText, IsOnlyAnswer}

-- ---- two answers about one list

no_departure : (v : List Token) → Departs v v → ⊥
no_departure [] h = h
no_departure (t ∷ v) h = h refl

-- what agrees at its first token does not depart
agrees : (e more rest : List Token) → Departs (e ++ more) (e ++ rest) → e ≡ [] ⊎ ⊥
agrees [] more rest h = inl refl
agrees (t ∷ e) more rest h = inr (h refl)

module _ {A : Type 0} (L : ℕ → Lang A) (w : List Token) where
  longer : (rest last : List Token) (r : IsTextFault L w rest) (q : IsTextFault L w last) (e : List Token) → r.run ≡ q.run ++ e → last ≡ e ++ rest → e ≡ []
  longer rest last r q e c d =
      elim (agrees e r.more rest (subst (λ (u : List Token). Departs (e ++ r.more) u) d
      (q.only r.value (e ++ r.more) (subst (λ (u : List Token). Spells L r.value u) (append_assoc q.run e r.more) (subst (λ (u : List Token). Spells L r.value (u ++ r.more)) c r.begins))))) [ inl y ↦ y | inr y ↦ absurd y ]

  -- a text has one first fault
  one_fault : (rest last : List Token) → IsTextFault L w rest → IsTextFault L w last → rest ≡ last
  one_fault rest last r q =
      elim (cuts r.run rest q.run last (sym r.parts ∙ q.parts)) [
        | behind e c d ↦ sym (d ∙ ap (λ (u : List Token). u ++ rest) (longer rest last r q e c d))
        | before s e c d ↦ (let no_way : s ∷ e ≡ [] = longer last rest q r (s ∷ e) c d in absurd cc)
      ]

  -- what is spelled has no fault
  spelled_right : (a : A) (rest : List Token) → Spells L a w → IsTextFault L w rest → ⊥
  spelled_right a rest s r = no_departure rest (r.only a rest (subst (λ (u : List Token). Spells L a u) r.parts s))

module _ {A : Type 0} (L : ℕ → Lang A) (limit : ℕ) (f e : Kinds) (l : Facts (L limit) false f e) where
  -- what is cut is not whole, and goes on in nothing whole
  cut_not_whole : (a : A) (run rest : List Token) → L limit None run → L limit (Some a) (run ++ rest) → ⊥
  cut_not_whole a run [] c m = (let same : None ≡ Some a = l.same None (Some a) run c (subst (λ (u : List Token). L limit (Some a) u) (append-nil run) m) in absurd cc)
  cut_not_whole a run (t ∷ rest) c m = l.behind None (Some a) run t rest c m

  no_more : (run d : List Token) → L limit None run → L limit None (run ++ d) → d ≡ []
  no_more run [] c m = refl
  no_more run (t ∷ d) c m = absurd (l.behind None None run t d c m)

  one_cut : (w rest last : List Token) → IsDeep L limit w rest → IsDeep L limit w last → rest ≡ last
  one_cut w rest last r q =
      elim (cuts r.run rest q.run last (sym r.parts ∙ q.parts)) [
        | behind d c g ↦ sym (g ∙ ap (λ (u : List Token). u ++ rest) (no_more q.run d q.cut (subst (λ (u : List Token). L limit None u) c r.cut)))
        | before s d c g ↦ absurd (l.behind None None r.run s d r.cut (subst (λ (u : List Token). L limit None u) c q.cut))
      ]

  -- ---- one value, or one first fault

  same_number : (list : List Token) (j k : ℕ) → j < length list → k < length list → drop (j + 1) list ≡ drop (k + 1) list → j ≡ k
  same_number list j k h i e =
      let lengths : length list - (j + 1) ≡ length list - (k + 1) = sym (length-drop (j + 1) list) ∙ ap length e ∙ length-drop (k + 1) list in
      omega (arith, lengths)

  module _ (end : ℕ) (list : List Token) where
    whole_wrong : (a : A) (p : ℕ) → IsWhole L limit list a → IsWrong L limit end list p → ⊥
    whole_wrong a p r q = spelled_right L list a q.rest r.text.spells q.fault

    whole_deep : (a : A) (p : ℕ) → IsWhole L limit list a → HasDeep L limit list 0 p → ⊥
    whole_deep a p r q = cut_not_whole a q.fault.run (drop (q.token + 1) list) q.fault.cut (subst (λ (u : List Token). L limit (Some a) u) q.fault.parts r.within)

    wrong_deep : (p q : ℕ) → IsWrong L limit end list p → HasDeep L limit list 0 q → ⊥
    wrong_deep p q r s = r.within s.fault.run (drop (s.token + 1) list) s.fault.parts s.fault.cut

    wrong_wrong : (p q : ℕ) → IsWrong L limit end list p → IsWrong L limit end list q → q ≡ p
    wrong_wrong p q r s = s.at ∙ ap (place_of end) (one_fault L list s.rest r.rest s.fault r.fault) ∙ sym r.at

    deep_deep : (p q : ℕ) → HasDeep L limit list 0 p → HasDeep L limit list 0 q → q ≡ p
    deep_deep p q r s =
        let number : s.token ≡ r.token = same_number list s.token r.token s.in_list r.in_list (one_cut list (drop (s.token + 1) list) (drop (r.token + 1) list) s.fault r.fault) in
        s.at ∙ ap (λ (k : ℕ). start_of (drop k list)) number ∙ sym r.at

    whole_no_fault : (a : A) (p : ℕ) (w : FaultWord) → IsWhole L limit list a → FirstFault L limit end list p w → ⊥
    whole_no_fault a p words.Syntax r h = whole_wrong a p r h
    whole_no_fault a p words.Deep r h = whole_deep a p r h
    whole_no_fault a p _ r h = h

    wrong_alone : (p q : ℕ) (w : FaultWord) → IsWrong L limit end list p → FirstFault L limit end list q w → (q ≡ p) × (w ≡ words.Syntax)
    wrong_alone p q words.Syntax r h = (wrong_wrong p q r h, refl)
    wrong_alone p q words.Deep r h = absurd (wrong_deep p q r h)
    wrong_alone p q _ r h = absurd h

    deep_alone : (p q : ℕ) (w : FaultWord) → HasDeep L limit list 0 p → FirstFault L limit end list q w → (q ≡ p) × (w ≡ words.Deep)
    deep_alone p q words.Syntax r h = absurd (wrong_deep q p h r)
    deep_alone p q words.Deep r h = (deep_deep p q r h, refl)
    deep_alone p q _ r h = absurd h

    fault_alone : (p q : ℕ) (v w : FaultWord) → FirstFault L limit end list p v → FirstFault L limit end list q w → (q ≡ p) × (w ≡ v)
    fault_alone p q words.Syntax w r h = wrong_alone p q w r h
    fault_alone p q words.Deep w r h = deep_alone p q w r h
    fault_alone p q _ w r h = absurd r

    -- an answer is the only one
    pub only_answer : {X : Type 0} (view : X → A) (res : Result X TextFault) → AnswersText view res L limit end list → IsOnlyAnswer view res L limit end list
    only_answer view (Ok x) h = (λ b k. h.text.only b k.text.spells, λ p w k. whole_no_fault (view x) p w h k)
    only_answer view (Err (faults.At place word)) h = (λ b k. whole_no_fault b place word k h, λ p w k. fault_alone place p word w h k)
    only_answer view (Err faults.Memory) h = tt

  -- ---- what reading gives

  module _ (at : List Token → Read A) (is : (w : List Token) → Is (L limit) w (at w)) (reading : (w : List Token) → IsReading L limit w (at w)) (end : ℕ) (list : List Token) where
    found_whole : (a : A) (r : Found (L limit) list (Some a) []) → L limit (Some a) list
    found_whole a r = subst (λ (u : List Token). L limit (Some a) u) (sym (r.parts ∙ append-nil r.run)) r.word

    pub is_whole : (a : A) (rest : List Token) → at list ≡ Got (Some a) rest → rest ≡ [] → IsWhole L limit list a
    is_whole a rest h done = record {
      within = found_whole a (subst (λ (u : Read A). Is (L limit) list u) (h ∙ ap (λ (v : List Token). Got (Some a) v) done) (is list));
      text = text_done L limit list (at list) (reading list) a rest h done;
    }

    -- something is left behind a value
    pub is_left_over : (a : A) (rest : List Token) → at list ≡ Got (Some a) rest → (rest ≡ [] → ⊥) → IsWrong L limit end list (place_of end rest)
    is_left_over a rest h more = record {
      rest = rest;
      fault = text_not_done L limit list (at list) (reading list) a rest h more;
      within = (has_value L limit f e l at is reading list 0 (omega arith) list refl a rest h).within;
      at = refl;
    }

    is_wrong : (rest : List Token) → IsFault L list rest → HasFault L limit end list 0 (place_of end rest) → IsWrong L limit end list (place_of end rest)
    is_wrong rest r h = record { rest = rest; fault = text_fault L list rest r; within = h.within; at = refl }

    -- reading stopped
    pub is_stopped : {X : Type 0} (view : X → A) (e : Stop) → Fails e (at list) → AnswersText {X = X} view (Err (fault_of end list e)) L limit end list
    is_stopped view stops.Memory h = tt
    is_stopped view (stops.Wrong rest) h =
        is_wrong rest.now (subst (λ (u : Read A). IsReading L limit list u) h (reading list)) (stop_refuses L limit f e l at is reading list 0 (omega arith) list refl end (stops.Wrong rest) h)
    is_stopped view (stops.Deep rest) h = stop_refuses L limit f e l at is reading list 0 (omega arith) list refl end (stops.Deep rest) h
