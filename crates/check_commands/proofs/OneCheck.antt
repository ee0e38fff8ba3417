-- An input has one answer to a claim: one status, and one text.
use Rattle.std.proofs.Common.{◌≡◌, inl, inr, arith, ℕ, zero, suc, ◌+◌, Bool, true, false, List, Some, map, refl, sym, ap, ◌∙◌, subst}
use Rattle.std.specs.Prelude.{slice_get}
use Rattle.std.specs.List.{All}
use Rattle.geo_tokens.specs.declared.fault.FaultWord.{FaultWord}
use Rattle.geo_conditions.specs.declared.cond.Cond.{Cond}
use Rattle.geo_conditions.specs.Reach.{State}
use Rattle.derivation.specs.Nodes.{Node, node_events}
use Rattle.derivation.specs.Valid.{Fails}
use Rattle.derivation_check.specs.declared.progress.Checked.{Checked}
use Rattle.derivation_check.specs.declared.progress.Checked.TheVariants as verdicts
use Rattle.derivation_check.specs.Judges.{Judges}
use Rattle.derivation_check.proofs.OneAnswer.{one_answer}
use Rattle.derivation_reading.specs.FirstFault.{IsText}
use Rattle.derivation_reading.proofs.OneReading as readings
use Rattle.problem_data.specs.Problem.{ProblemData}
use Rattle.problem_text.specs.NameTable.{name_table}
use Rattle.linear_conditions.specs.CondTree.{cond_view}
use Rattle.rule_ground.specs.Start.{first_state}
use Rattle.layout_search.proofs.AlikeRows.{rows-alike}
use Rattle.command_input.specs.declared.command.Status.{Status}
use Rattle.command_input.specs.declared.command.Status.TheVariants.{Answered, No, Refused, Budget, BadWords, BadToken, ReadFault, WriteFault, Memory, BadDimension}
use Rattle.command_reply.specs.Accepted.{IsAccepted}
use Rattle.command_reply.specs.Refusal.{RefusedPairAnswer}
use Rattle.command_reply.specs.Question.{IsSound, IsVerdict}
use Rattle.check_commands.specs.Check.{ClaimAnswer, Derives, FindsFailing, FindsValid, HasFaultBehind, IsDerivable, check_question, failing_node}
use Rattle.check_commands.specs.Claims.{Claim, no_layout}
use Rattle.command_reply.proofs.Refusals.{same_problem, not_refused_pair}
use Rattle.command_reply.proofs.TwoTexts.{one-cut}
use Rattle.command_reply.proofs.OneRefusal.{one_refused_pair_text}

-- ---- conditions that stand for the same trees judge a derivation alike

module _ (cs ds : List Cond) (same : map cond_view cs ≡ map cond_view ds) (S : State) (root : Node) where
  fails_alike : (n : ℕ) → Fails cs S root n → Fails ds S root n
  fails_alike zero f = f
  fails_alike (suc n) f = subst (λ (met : List Bool). slice_get met n ≡ Some false) (rows-alike cs ds same S root) f

  fails_back : (n : ℕ) → Fails ds S root n → Fails cs S root n
  fails_back zero f = f
  fails_back (suc n) f = subst (λ (met : List Bool). slice_get met n ≡ Some false) (sym (rows-alike cs ds same S root)) f

  judged_alike : (x : Checked) → Judges cs S root x → Judges ds S root x
  judged_alike verdicts.Yes v = subst (All (λ met. met ≡ true)) (rows-alike cs ds same S root) v
  judged_alike (verdicts.No n) f = record { fails = fails_alike n f.fails; first = λ m l g. f.first m l (fails_back m g) }

valid_or_not : (n : ℕ) → verdicts.Yes ≡ verdicts.No n → ⊥
valid_or_not n e = absurd cc

one_number : (n m : ℕ) → verdicts.No n ≡ verdicts.No m → n ≡ m
one_number n m e = cc

module _ (c : Claim) where
  -- ---- the second text

  one_derivation_fault : (p : ProblemData) (text : List ℕ) (from k q : ℕ) (v w : FaultWord) → HasFaultBehind c p text from k v → HasFaultBehind c p text from q w → (q ≡ k) × (w ≡ v)
  one_derivation_fault p text from k q v w (a, f) (b, g) =
      let e = readings.first_faults (name_table p) text f.within g.within v w f.first g.first in
      (g.at ∙ ap (λ (n : ℕ). from + n) (sym e.0) ∙ sym f.at, sym e.1)

  -- both ways of reading the two texts give the same problem, and derivations of the same events
  derived_once : (input : List ℕ) (p q : ProblemData) (root other : Node) → Derives c input p root → Derives c input q other → (q ≡ p) × (node_events root ≡ node_events other)
  derived_once input p q root other x y =
      let e = one-cut input x.first x.second y.first y.second x.cut y.cut in
      let same : q ≡ p = same_problem x.first q p (subst (λ (z : List ℕ). IsAccepted z q) (sym e.0) y.accepted) x.accepted in
      let said : IsText (name_table q) x.second (node_events other) = subst (λ (z : List ℕ). IsText (name_table q) z (node_events other)) (sym e.1) y.spells in
      (same, readings.one_text (name_table p) x.second (node_events root) (node_events other) x.spells (subst (λ (z : ProblemData). IsText (name_table z) x.second (node_events other)) same said))

  -- what is refused spells no derivation
  derived_or_refused : (input text : List ℕ) (p : ProblemData) (root : Node) → Derives c input p root → RefusedPairAnswer (HasFaultBehind c) input text → ⊥
  derived_or_refused input text p root x (place, word, r, e) =
      not_refused_pair (HasFaultBehind c) input x.first x.second p place word x.cut x.accepted (λ f. readings.text_or_first (name_table p) x.second (node_events root) f.1.within word x.spells f.1.first) r

  -- ---- the answer

  checked_once : (input : List ℕ) (p q : ProblemData) (cs ds : List Cond) (root other : Node) (x y : Checked) → Derives c input p root → map cond_view cs ≡ c.conditions p → Derives c input q other → map cond_view ds ≡ c.conditions q
      → Judges cs (first_state p) root x → Judges ds (first_state q) other y → x ≡ y
  checked_once input p q cs ds root other x y g are h is f k =
      let e = derived_once input p q root other g h in
      let same : map cond_view ds ≡ map cond_view cs = subst (λ (z : ProblemData). map cond_view ds ≡ c.conditions z) e.0 is ∙ sym are in
      one_answer cs (first_state p) root other x y e.1 f (judged_alike ds cs same (first_state p) other y (subst (λ (z : ProblemData). Judges ds (first_state z) other y) e.0 k))

  valid_or_failing : (input t u : List ℕ) → FindsValid c input t → FindsFailing c input u → ⊥
  valid_or_failing input t u a b =
      valid_or_not b.node (checked_once input a.problem b.problem a.conditions b.conditions a.root b.root verdicts.Yes (verdicts.No b.node) a.derives a.are b.derives b.are a.valid b.fails)

  pub one_claim_status : (input t u : List ℕ) (s r : Status) → ClaimAnswer c input t s → ClaimAnswer c input u r → s ≡ r
  one_claim_status input t u Answered Answered a b = refl
  one_claim_status input t u No No a b = refl
  one_claim_status input t u Refused Refused a b = refl
  one_claim_status input t u Answered No a b = absurd (valid_or_failing input t u a b)
  one_claim_status input t u No Answered b a = absurd (valid_or_failing input u t a b)
  one_claim_status input t u Answered Refused a r = absurd (derived_or_refused input u a.problem a.root a.derives r)
  one_claim_status input t u Refused Answered r a = absurd (derived_or_refused input t a.problem a.root a.derives r)
  one_claim_status input t u No Refused a r = absurd (derived_or_refused input u a.problem a.root a.derives r)
  one_claim_status input t u Refused No r a = absurd (derived_or_refused input t a.problem a.root a.derives r)
  one_claim_status input t u Budget r a b = absurd a
  one_claim_status input t u BadWords r a b = absurd a
  one_claim_status input t u BadToken r a b = absurd a
  one_claim_status input t u ReadFault r a b = absurd a
  one_claim_status input t u WriteFault r a b = absurd a
  one_claim_status input t u Memory r a b = absurd a
  one_claim_status input t u BadDimension r a b = absurd a
  one_claim_status input t u s _ a b = absurd b

  one_failing : (input t u : List ℕ) → FindsFailing c input t → FindsFailing c input u → t ≡ u
  one_failing input t u a b =
      let e = checked_once input a.problem b.problem a.conditions b.conditions a.root b.root (verdicts.No a.node) (verdicts.No b.node) a.derives a.are b.derives b.are a.fails b.fails in
      a.says ∙ ap failing_node (one_number a.node b.node e) ∙ sym b.says

  pub one_claim_text : (input t u : List ℕ) (s : Status) → ClaimAnswer c input t s → ClaimAnswer c input u s → t ≡ u
  one_claim_text input t u Answered a b = a.says ∙ sym b.says
  one_claim_text input t u No a b = one_failing input t u a b
  one_claim_text input t u Refused a b = one_refused_pair_text (HasFaultBehind c) one_derivation_fault input t u a b
  one_claim_text input t u _ a b = absurd a

  pub claim_complete : (input text : List ℕ) (s : Status) → IsDerivable c input → ClaimAnswer c input text s → IsVerdict s
  claim_complete input text Answered given a = inl refl
  claim_complete input text No given a = inr (inl refl)
  claim_complete input text Refused (p, root, d) r = absurd (derived_or_refused input text p root d r)
  claim_complete input text _ given a = absurd a

-- ---- `check`

pub check_sound : IsSound check_question
check_sound = record {
  one_status = one_claim_status no_layout;
  one_text = λ input t u s a b. inl (one_claim_text no_layout input t u s a b);
  complete = claim_complete no_layout;
  within = omega arith;
}
