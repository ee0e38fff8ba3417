-- A text that is refused has one first fault: one place, and one word.
use Rattle.std.proofs.Common.{◌≡◌, ℕ, ◌+◌, ◌≤◌, List, length, Some, None, Err, sym, ◌∙◌, ap, subst, arith}
use Rattle.std.specs.Prelude.{Option}
use Rattle.geo_tokens.specs.declared.token.Token.{Token}
use Rattle.geo_tokens.specs.declared.fault.FaultWord.{FaultWord}
use Rattle.geo_tokens.specs.declared.fault.TextFault.{TextFault}
use Rattle.geo_tokens.specs.declared.fault.TextFault.TheVariants as faults
use Rattle.geo_tokens.specs.Cut.{IsTokens}
use Rattle.geo_tokens.specs.Deep.{Spells}
use Rattle.geo_tokens.proofs.Cuts.{one_list, list_or_fault, one_fault}
use Rattle.problem_data.specs.declared.fault.Fault.{Fault}
use Rattle.problem_data.specs.Tree.{ProblemTree}
use Rattle.problem_data.specs.View.{problem_view}
use Rattle.problem_data.specs.Grammar.{ProblemWords}
use Rattle.problem_data.specs.Whole.{IsWhole}
use Rattle.problem_syntax.specs.WholeText.{FirstFault, IsOnlyAnswer}
use Rattle.problem_data.specs.Problem.{ProblemData}
use Rattle.problem_data.specs.Parts.{parts_of}
use Rattle.problem_data.specs.Least.{fault, IsFirst}
use Rattle.problem_data.specs.Faults.{IsFault}
use Rattle.problem_data.specs.Accepted.{Says, Accepts}
use Rattle.problem_text.specs.FirstFault.{HasFirstFault, long, no_token, no_statements, in_statements}
use Rattle.problem_syntax.proofs.Right.{problem_good}
use Rattle.problem_syntax.proofs.WholeText.{only_answer}
use Rattle.problem_data.proofs.Firsts.{one_first}
use Rattle.problem_text.proofs.OneProblem.{accepted_once, accepted_not_refused}
use Rattle.rule_names.specs.declared.mistake.Mistake.{Mistake}
use Rattle.rule_names.specs.Mistakes.{word_of}
use Rattle.rule_names.specs.Names.{mistakes}
use Rattle.rule_names.specs.Answers.{AreNamesRight, HasFirstMistake}
use Rattle.rule_names.proofs.Firsts as mistaken
use Rattle.rule_expand.specs.Rules.{expansion_fault}
use Rattle.rule_ground.specs.Ground.{ground_fault}
use Rattle.layout_text.specs.Tree.{LayoutTree}
use Rattle.layout_text.specs.View.{layout_view}
use Rattle.layout_text.specs.Grammar.{LayoutWords}
use Rattle.layout_text.specs.FirstFault as layouts
use Rattle.layout_text.specs.Faults as lines
use Rattle.layout_text.proofs.Right.{layout_good}
use Rattle.command_reply.specs.Accepted.{IsAccepted, IsRefused, unread, misnamed, unexpanded, ungrounded}
use Rattle.command_reply.specs.Texts.{IsRefusedPair, endless, in_first, in_second}
use Rattle.command_reply.specs.Refusal.{refusal, RefusedAnswer, RefusedPairAnswer}
use Rattle.command_reply.proofs.Refusals.{same_problem, not_refused, right_or_wrong, within_or_large}
use Rattle.command_reply.proofs.TwoTexts.{one-cut, long-front, long-refusal, spelled-short}

-- ---- the first fault of a problem's text

module _ (text : List ℕ) where
  only_statements : (list : List Token) (p : ℕ) (v : FaultWord) → FirstFault (ProblemWords text) 64 (length text) list p v → IsOnlyAnswer problem_view (Err (faults.At p v)) (ProblemWords text) 64 (length text) list
  only_statements list p v f = only_answer (ProblemWords text) 64 _ _ (problem_good text 64).facts (length text) list problem_view (Err (faults.At p v)) f

  same_statements : (t u : ProblemTree) → Says text t → Says text u → u ≡ t
  same_statements t u a b =
      a.spells.text.only u (subst (λ (ts : List Token). Spells (ProblemWords text) u ts) (one_list text b.list a.list b.tokens a.tokens) b.spells.text.spells)

  unspelled : (list : List Token) (t : ProblemTree) (p : ℕ) (v : FaultWord) → IsTokens text list → FirstFault (ProblemWords text) 64 (length text) list p v → Says text t → ⊥
  unspelled list t p v ts f says =
      (only_statements list p v f).0 t (subst (λ (us : List Token). IsWhole (ProblemWords text) 64 us t) (one_list text says.list list says.tokens ts) says.spells)

  pub one_text_fault : (p q : ℕ) (v w : FaultWord) → HasFirstFault text p v → HasFirstFault text q w → (q ≡ p) × (w ≡ v)
  one_text_fault p q v w (long l d e) (long m f g) = (f ∙ sym d, g ∙ sym e)
  one_text_fault p q v w (long l d e) (no_token s y) = absurd (omega (arith, l, s))
  one_text_fault p q v w (long l d e) (no_statements s us ts g) = absurd (omega (arith, l, s))
  one_text_fault p q v w (long l d e) (in_statements u says g) = absurd (let s : length text ≤ 1048576 = says.short in omega (arith, l, s))
  one_text_fault p q v w (no_token s x) (long l d e) = absurd (omega (arith, l, s))
  one_text_fault p q v w (no_token s x) (no_token r y) = one_fault text q p w v y x
  one_text_fault p q v w (no_token s x) (no_statements r us ts g) = absurd (list_or_fault text us p v ts x)
  one_text_fault p q v w (no_token s x) (in_statements u says g) = absurd (list_or_fault text says.list p v says.tokens x)
  one_text_fault p q v w (no_statements s list ts f) (long l d e) = absurd (omega (arith, l, s))
  one_text_fault p q v w (no_statements s list ts f) (no_token r y) = absurd (list_or_fault text list q w ts y)
  one_text_fault p q v w (no_statements s list ts f) (no_statements r us ys g) =
      (only_statements list p v f).1 q w (subst (λ (zs : List Token). FirstFault (ProblemWords text) 64 (length text) zs q w) (one_list text us list ys ts) g)
  one_text_fault p q v w (no_statements s list ts f) (in_statements u says g) = absurd (unspelled list u p v ts f says)
  one_text_fault p q v w (in_statements t says f) (long l d e) = absurd (let s : length text ≤ 1048576 = says.short in omega (arith, l, s))
  one_text_fault p q v w (in_statements t says f) (no_token r y) = absurd (list_or_fault text says.list q w says.tokens y)
  one_text_fault p q v w (in_statements t says f) (no_statements r us ys g) = absurd (unspelled us t q w ys g says)
  one_text_fault p q v w (in_statements t says f) (in_statements u said g) =
      let e : fault q w ≡ fault p v = one_first (IsFault (parts_of t)) (fault q w) (fault p v) (subst (λ (x : ProblemTree). IsFirst (IsFault (parts_of x)) (fault q w)) (same_statements t u says said) g) f in
      (ap (λ (x : Fault). x.place) e, ap (λ (x : Fault). x.word) e)

-- ---- the first fault of a layout's text

module _ (p : ProblemData) (text : List ℕ) where
  only_lines : (list : List Token) (k : ℕ) (v : FaultWord) → FirstFault (LayoutWords text) 0 (length text) list k v → IsOnlyAnswer layout_view (Err (faults.At k v)) (LayoutWords text) 0 (length text) list
  only_lines list k v f = only_answer (LayoutWords text) 0 _ _ (layout_good text 0).facts (length text) list layout_view (Err (faults.At k v)) f

  same_lines : (t u : LayoutTree) → layouts.Says text t → layouts.Says text u → u ≡ t
  same_lines t u a b =
      a.spells.text.only u (subst (λ (ts : List Token). Spells (LayoutWords text) u ts) (one_list text b.list a.list b.tokens a.tokens) b.spells.text.spells)

  unlined : (list : List Token) (t : LayoutTree) (k : ℕ) (v : FaultWord) → IsTokens text list → FirstFault (LayoutWords text) 0 (length text) list k v → layouts.Says text t → ⊥
  unlined list t k v ts f says =
      (only_lines list k v f).0 t (subst (λ (us : List Token). IsWhole (LayoutWords text) 0 us t) (one_list text says.list list says.tokens ts) says.spells)

  pub one_layout_fault : (k q : ℕ) (v w : FaultWord) → layouts.HasFirstFault p text k v → layouts.HasFirstFault p text q w → (q ≡ k) × (w ≡ v)
  one_layout_fault k q v w (layouts.long l d e) (layouts.long m f g) = (f ∙ sym d, g ∙ sym e)
  one_layout_fault k q v w (layouts.long l d e) (layouts.no_token s y) = absurd (omega (arith, l, s))
  one_layout_fault k q v w (layouts.long l d e) (layouts.no_lines s us ts g) = absurd (omega (arith, l, s))
  one_layout_fault k q v w (layouts.long l d e) (layouts.in_lines u says g) = absurd (let s : length text ≤ 1048576 = says.short in omega (arith, l, s))
  one_layout_fault k q v w (layouts.no_token s x) (layouts.long l d e) = absurd (omega (arith, l, s))
  one_layout_fault k q v w (layouts.no_token s x) (layouts.no_token r y) = one_fault text q k w v y x
  one_layout_fault k q v w (layouts.no_token s x) (layouts.no_lines r us ts g) = absurd (list_or_fault text us k v ts x)
  one_layout_fault k q v w (layouts.no_token s x) (layouts.in_lines u says g) = absurd (list_or_fault text says.list k v says.tokens x)
  one_layout_fault k q v w (layouts.no_lines s list ts f) (layouts.long l d e) = absurd (omega (arith, l, s))
  one_layout_fault k q v w (layouts.no_lines s list ts f) (layouts.no_token r y) = absurd (list_or_fault text list q w ts y)
  one_layout_fault k q v w (layouts.no_lines s list ts f) (layouts.no_lines r us ys g) =
      (only_lines list k v f).1 q w (subst (λ (zs : List Token). FirstFault (LayoutWords text) 0 (length text) zs q w) (one_list text us list ys ts) g)
  one_layout_fault k q v w (layouts.no_lines s list ts f) (layouts.in_lines u says g) = absurd (unlined list u k v ts f says)
  one_layout_fault k q v w (layouts.in_lines t says f) (layouts.long l d e) = absurd (let s : length text ≤ 1048576 = says.short in omega (arith, l, s))
  one_layout_fault k q v w (layouts.in_lines t says f) (layouts.no_token r y) = absurd (list_or_fault text says.list q w says.tokens y)
  one_layout_fault k q v w (layouts.in_lines t says f) (layouts.no_lines r us ys g) = absurd (unlined us t q w ys g says)
  one_layout_fault k q v w (layouts.in_lines t says f) (layouts.in_lines u said g) =
      let e : fault q w ≡ fault k v = one_first (lines.IsFault p (length text) t) (fault q w) (fault k v)
      (subst (λ (x : LayoutTree). IsFirst (lines.IsFault p (length text) x) (fault q w)) (same_lines t u says said) g) f in
      (ap (λ (x : Fault). x.place) e, ap (λ (x : Fault). x.word) e)

  pub one_fault_from : (from k q : ℕ) (v w : FaultWord) → layouts.HasFaultFrom p text from k v → layouts.HasFaultFrom p text from q w → (q ≡ k) × (w ≡ v)
  one_fault_from from k q v w f g =
      let e = one_layout_fault f.within g.within v w f.first g.first in
      (g.at ∙ ap (λ (n : ℕ). from + n) e.0 ∙ sym f.at, e.1)

-- ---- the first fault of a text that is no accepted problem

one_mistake : (p : ProblemData) (k q : ℕ) (v w : FaultWord) → HasFirstMistake p k v → HasFirstMistake p q w → (q ≡ k) × (w ≡ v)
one_mistake p k q v w f g =
    let e : g.mistake ≡ f.mistake = mistaken.one_first (mistakes p) g.mistake f.mistake g.first f.first in
    (g.at ∙ ap (λ (m : Mistake). m.place) e ∙ sym f.at, g.says ∙ ap (λ (m : Mistake). word_of m.flaw) e ∙ sym f.says)

one_some : (o : Option TextFault) (k q : ℕ) (v w : FaultWord) → o ≡ Some (faults.At k v) → o ≡ Some (faults.At q w) → (q ≡ k) × (w ≡ v)
one_some o k q v w f g = (let e : Some (faults.At q w) ≡ Some (faults.At k v) = sym g ∙ f in (cc, cc))

module _ (text : List ℕ) where
  -- what is said of a problem that the text spells is said of the other one
  as_said : (R : ProblemData → Type 0) (p q : ProblemData) → Accepts text p → Accepts text q → R q → R p
  as_said R p q a b h = subst R (accepted_once text q p b a) h

  pub one_refusal : (k q : ℕ) (v w : FaultWord) → IsRefused text k v → IsRefused text q w → (q ≡ k) × (w ≡ v)
  one_refusal k q v w (unread f) (unread g) = one_text_fault text k q v w f g
  one_refusal k q v w (unread f) (misnamed s b h) = absurd (accepted_not_refused text s k v b f)
  one_refusal k q v w (unread f) (unexpanded s b right h) = absurd (accepted_not_refused text s k v b f)
  one_refusal k q v w (unread f) (ungrounded s b right x h) = absurd (accepted_not_refused text s k v b f)
  one_refusal k q v w (misnamed p a f) (unread g) = absurd (accepted_not_refused text p q w a g)
  one_refusal k q v w (misnamed p a f) (misnamed s b h) = one_mistake p k q v w f (as_said (λ (x : ProblemData). HasFirstMistake x q w) p s a b h)
  one_refusal k q v w (misnamed p a f) (unexpanded s b right h) = absurd (right_or_wrong p k v (as_said AreNamesRight p s a b right) f)
  one_refusal k q v w (misnamed p a f) (ungrounded s b right x h) = absurd (right_or_wrong p k v (as_said AreNamesRight p s a b right) f)
  one_refusal k q v w (unexpanded p a right f) (unread g) = absurd (accepted_not_refused text p q w a g)
  one_refusal k q v w (unexpanded p a right f) (misnamed s b h) = absurd (right_or_wrong p q w right (as_said (λ (x : ProblemData). HasFirstMistake x q w) p s a b h))
  one_refusal k q v w (unexpanded p a right f) (unexpanded s b true_names h) =
      one_some (expansion_fault p) k q v w f (as_said (λ (x : ProblemData). expansion_fault x ≡ Some (faults.At q w)) p s a b h)
  one_refusal k q v w (unexpanded p a right f) (ungrounded s b true_names x h) =
      absurd (within_or_large (expansion_fault p) (faults.At k v) (as_said (λ (y : ProblemData). expansion_fault y ≡ None) p s a b x) f)
  one_refusal k q v w (ungrounded p a right x f) (unread g) = absurd (accepted_not_refused text p q w a g)
  one_refusal k q v w (ungrounded p a right x f) (misnamed s b h) = absurd (right_or_wrong p q w right (as_said (λ (y : ProblemData). HasFirstMistake y q w) p s a b h))
  one_refusal k q v w (ungrounded p a right x f) (unexpanded s b true_names h) =
      absurd (within_or_large (expansion_fault p) (faults.At q w) x (as_said (λ (y : ProblemData). expansion_fault y ≡ Some (faults.At q w)) p s a b h))
  one_refusal k q v w (ungrounded p a right x f) (ungrounded s b true_names y h) =
      one_some (ground_fault p) k q v w f (as_said (λ (z : ProblemData). ground_fault z ≡ Some (faults.At q w)) p s a b h)

-- ---- the first fault of two texts

module _ (Second : ProblemData → List ℕ → ℕ → ℕ → FaultWord → Type 0)
    (one : (p : ProblemData) (text : List ℕ) (from k q : ℕ) (v w : FaultWord) → Second p text from k v → Second p text from q w → (q ≡ k) × (w ≡ v)) (input : List ℕ) where
  pub one_pair_refusal : (k q : ℕ) (v w : FaultWord) → IsRefusedPair Second input k v → IsRefusedPair Second input q w → (q ≡ k) × (w ≡ v)
  one_pair_refusal k q v w (endless e x y) (endless d i j) = (i ∙ sym x, j ∙ sym y)
  one_pair_refusal k q v w (endless e x y) (in_first a b cut f) =
      let l = long-refusal a q w (long-front input a b e cut) f in (l.0 ∙ sym x, l.1 ∙ sym y)
  one_pair_refusal k q v w (endless e x y) (in_second a b cut p acc f) =
      absurd (let l = long-front input a b e cut in let s = spelled-short a p acc.spells in omega (arith, l, s))
  one_pair_refusal k q v w (in_first a b cut f) (endless d i j) =
      let l = long-refusal a k v (long-front input a b d cut) f in (i ∙ sym l.0, j ∙ sym l.1)
  one_pair_refusal k q v w (in_first a b cut f) (in_first c d cut' g) =
      one_refusal a k q v w f (subst (λ (z : List ℕ). IsRefused z q w) (sym (one-cut input a b c d cut cut').0) g)
  one_pair_refusal k q v w (in_first a b cut f) (in_second c d cut' p acc g) =
      absurd (not_refused a p k v (subst (λ (z : List ℕ). IsAccepted z p) (sym (one-cut input a b c d cut cut').0) acc) f)
  one_pair_refusal k q v w (in_second a b cut p acc f) (endless d i j) =
      absurd (let l = long-front input a b d cut in let s = spelled-short a p acc.spells in omega (arith, l, s))
  one_pair_refusal k q v w (in_second a b cut p acc f) (in_first c d cut' g) =
      absurd (not_refused a p q w acc (subst (λ (z : List ℕ). IsRefused z q w) (sym (one-cut input a b c d cut cut').0) g))
  one_pair_refusal k q v w (in_second a b cut p acc f) (in_second c d cut' s acc' g) =
      let e = one-cut input a b c d cut cut' in
      let same : s ≡ p = same_problem a s p (subst (λ (z : List ℕ). IsAccepted z s) (sym e.0) acc') acc in
      let at_a : Second s b (length a) q w = subst (λ (z : List ℕ). Second s b (length z) q w) (sym e.0) (subst (λ (z : List ℕ). Second s z (length c) q w) (sym e.1) g) in
      one p b (length a) k q v w f (subst (λ (x : ProblemData). Second x b (length a) q w) same at_a)

-- the same fault is written with the same text
pub same_refusal : (k q : ℕ) (v w : FaultWord) → (q ≡ k) × (w ≡ v) → refusal q w ≡ refusal k v
same_refusal k q v w e = ap (λ (n : ℕ). refusal n w) e.0 ∙ ap (λ (x : FaultWord). refusal k x) e.1

-- a text that is refused is answered with one text
pub one_refused_text : (input t u : List ℕ) → RefusedAnswer input t → RefusedAnswer input u → t ≡ u
one_refused_text input t u (k, v, f, e) (q, w, g, h) = e ∙ sym (h ∙ same_refusal k q v w (one_refusal input k q v w f g))

module _ (Second : ProblemData → List ℕ → ℕ → ℕ → FaultWord → Type 0)
    (one : (p : ProblemData) (text : List ℕ) (from k q : ℕ) (v w : FaultWord) → Second p text from k v → Second p text from q w → (q ≡ k) × (w ≡ v)) (input : List ℕ) where
  pub one_refused_pair_text : (t u : List ℕ) → RefusedPairAnswer Second input t → RefusedPairAnswer Second input u → t ≡ u
  one_refused_pair_text t u (k, v, f, e) (q, w, g, h) = e ∙ sym (h ∙ same_refusal k q v w (one_pair_refusal Second one input k q v w f g))
