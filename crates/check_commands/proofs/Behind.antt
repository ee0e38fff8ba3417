-- What is found of a problem and the text behind it is found of the input.
use Rattle.std.proofs.Common.{◌≡◌, inl, inr, ℕ, ◌<◌, ◌≤◌, List, [], ◌++◌, length, take, drop, Bool, true, false, refl, sym, ap, ◌∙◌, subst, arith, append-nil}
use Rattle.std.specs.Prelude.{◌^◌, IfSome, MatchOption, Option, None, Some, Result, Ok, Err, codes}
use Rattle.std.specs.Option.{unwrap_or}
use Rattle.std.specs.Io.KnownBytes.{Consumes, IsAtEnd}
use Rattle.std.proofs.lemmas.List.{length-take-le}
use Rattle.geo_tokens.specs.FirstEnd.{HasNoEnd, IsFirstEnd}
use Rattle.geo_tokens.specs.declared.fault.FaultWord.{FaultWord}
use Rattle.geo_tokens.specs.declared.fault.TextFault.{TextFault}
use Rattle.geo_tokens.specs.declared.fault.TextFault.TheVariants as faults
use Rattle.geo_tokens.specs.Names.{NameTable}
use Rattle.geo_conditions.specs.declared.cond.Cond.{Cond}
use Rattle.geo_conditions.specs.Conditions.{AllFit}
use Rattle.geo_conditions.specs.Reach.{State}
use Rattle.derivation.specs.declared.event.Event.{Event}
use Rattle.derivation_check.specs.declared.progress.Checked.{Checked}
use Rattle.derivation_check.specs.declared.progress.Checked.TheVariants as verdicts
use Rattle.derivation_check.specs.Checking.{Checking}
use Rattle.derivation_reading.specs.declared.feeder.Feeder.{Feeder}
use Rattle.derivation_reading.specs.FirstFault.{IsText, HasFaultFrom}
use Rattle.stream_check.specs.Streaming.{HasChecked, IsDecided}
use Rattle.problem_data.specs.Problem.{ProblemData}
use Rattle.problem_data.specs.WellFormed.{IsWellFormed}
use Rattle.problem_text.specs.NameTable.{name_table}
use Rattle.rule_ground.specs.Start.{first_state}
use Rattle.rule_ground.proofs.Starts.{tuples-are}
use Rattle.derivation.specs.Nodes.{Node, node_events}
use Rattle.command_reply.specs.Accepted.{IsRefused, AnswersAccepted}
use Rattle.command_reply.specs.Dimension.{HasFewerDimensions, IsFirst}
use Rattle.command_reply.proofs.Ending.{some_input, answers_told}
use Rattle.check_commands.specs.Check.{ClaimAnswer, Derives, HasDerivationFault, HasFaultBehind, failing_node}
use Rattle.check_commands.specs.Checks.{
  AnswersFront,
  FindsBehind,
  FindsIn,
  FindsOf,
  Follows,
  HasEnded,
  IsFront,
  IsReplyTo,
  NothingBehind,
  RefusesProblem,
  Serves,
  bytes_before,
  bytes_behind,
}
use Rattle.check_commands.specs.Claims.{Claim}
use Rattle.check_commands.specs.declared.front.Front.{Front}
use Rattle.command_input.specs.declared.command.Status.{Status}
use Rattle.command_input.specs.declared.command.Status.TheVariants.{Answered, No, Refused}
use Rattle.command_reply.specs.Question.{AnswersInput, Decides, Question}
use Rattle.command_reply.specs.Reply.{IsSaid}
use Rattle.command_reply.specs.Refusal.{refusal}
use Rattle.command_input.specs.Reading.{Tells, ReadsUpTo}
use Rattle.command_reply.specs.Texts.{AreTextsOf, IsRefusedPair, endless, in_first, in_second}
use Rattle.command_reply.proofs.TwoTexts.{cut-at, texts-on, refused-first, spelled-short}

-- ---- the text behind the problem

-- a check that has come to the end of a derivation, or to its fault
module _ {T : Type 0} (first : State) (k : ℕ) (old : Feeder) (c : Checking) (r : Result T TextFault) (text : List ℕ) (h : HasEnded first k old c r text) where
  pub checked_whole : (v : T) → r ≡ Ok v → HasChecked first k old.names.now c text
  checked_whole v e = subst (λ (s : Result T TextFault). HasEnded first k old c s text) e h

  pub has_fault : (fault : TextFault) → r ≡ Err fault → HasFaultFrom old.names.now old.place text fault
  has_fault fault e = subst (λ (s : Result T TextFault). HasEnded first k old c s text) e h

-- the fault of the text is what is found of it
pub finds_fault : (p : ProblemData) (cs : List Cond) (n : NameTable) (q : ℕ) (text : List ℕ) (from : ℕ) (fault : TextFault) → n ≡ name_table p → q ≡ from → HasFaultFrom n q text fault → FindsOf p cs text from (Err fault)
finds_fault p cs n q text from (faults.At place word) same at h =
    let x : HasFaultFrom (name_table p) from text (faults.At place word) =
    subst (λ (m : NameTable). HasFaultFrom m from text (faults.At place word)) same (subst (λ (z : ℕ). HasFaultFrom n z text (faults.At place word)) at h) in
    record { within = x.0; first = x.2; at = x.1 }
finds_fault p cs n q text from faults.Memory same at h = tt

module _ (p : ProblemData) (cs : List Cond) (well : IsWellFormed p) (fit : AllFit cs (first_state p)) where
  finds_second : (second : List ℕ) (from : ℕ) (answer : Checked) → IsDecided (name_table p) cs (first_state p) second answer → FindsOf p cs second from (Ok answer)
  finds_second second from verdicts.Yes d = (
    d.root,
    subst (λ (es : List Event). IsText (name_table p) second es) (sym d.tree) d.whole,
    d.judged,
    (λ t wide holds. d.sound refl t (record { fits = fit; inside = (tuples-are p t well).1 wide; holds = holds })),
  )
  finds_second second from (verdicts.No n) d = (d.root, subst (λ (es : List Event). IsText (name_table p) second es) (sym d.tree) d.whole, d.judged)

  pub finds_as : (n : NameTable) (ds : List Cond) (S : State) (second : List ℕ) (from : ℕ) (answer : Checked) → n ≡ name_table p → ds ≡ cs → S ≡ first_state p → IsDecided n ds S second answer → FindsOf p cs second from (Ok answer)
  finds_as n ds S second from answer same are is h =
      finds_second second from answer (subst (λ (m : NameTable). IsDecided m cs (first_state p) second answer) same
      (subst (λ (l : List Cond). IsDecided n l (first_state p) second answer) are (subst (λ (s : State). IsDecided n ds s second answer) is h)))

-- ---- the input

-- the bytes that were read, and what follows, are the input
told : (is_whole : Bool) (left new : Option (List ℕ)) (bytes more : List ℕ) → Consumes left new bytes → (is_whole ≡ true → IsAtEnd new) → Follows is_whole new more → Tells left (bytes ++ more)
told is_whole None new bytes more got end f = tt
told is_whole (Some u) None bytes more got end f = absurd got
told true (Some u) (Some v) bytes more got end f = ap (λ (t : List ℕ). bytes ++ t) (f ∙ sym (end refl)) ∙ sym got
told false (Some u) (Some v) bytes more got end f = ap (λ (t : List ℕ). bytes ++ t) f ∙ sym got

module _ (left new : Option (List ℕ)) (f : Front) (h : IsFront left new f) where
  abbrev bytes : List ℕ
  bytes = f.second.read.items

  abbrev first : List ℕ
  first = bytes_before f.second

  abbrev second : List ℕ
  second = bytes_behind f.second

  got : Consumes left new bytes
  got = subst (λ (t : List ℕ). Consumes left new t) (sym h.read.behind) h.read.taken

  long : length first ≡ f.second.place
  long = length-take-le f.second.place bytes h.inside

  short : length first ≤ 1048576
  short = spelled-short first f.accepted.problem h.problem.accepted.spells

  pub place_few : f.second.place ≤ 2 ^ 62
  place_few = omega (arith, long, short)

  at_end : f.second.is_whole ≡ true → IsAtEnd new
  at_end e = elim h.read.ends [ inl x ↦ x | inr l ↦ absurd (let k = h.all e in omega (arith, l, k)) ]

  module _ (more : List ℕ) (follows : Follows f.second.is_whole new more) where
    told_on : Tells left (bytes ++ more)
    told_on = told f.second.is_whole left new bytes more got at_end follows

    cut_on : AreTextsOf (bytes ++ more) first (second ++ more)
    cut_on = go f.second.is_whole refl follows
      where
        go : (w : Bool) → f.second.is_whole ≡ w → Follows w new more → AreTextsOf (bytes ++ more) first (second ++ more)
        go true e none = subst (λ (t : List ℕ). AreTextsOf (bytes ++ t) first (second ++ t)) (sym none)
            (subst (λ (t : List ℕ). AreTextsOf t first (second ++ [])) (sym (append-nil bytes)) (subst (λ (t : List ℕ). AreTextsOf bytes first t) (sym (append-nil second)) h.cut))
        go false e x = texts-on (bytes ++ more) bytes more refl first second h.cut (let l = h.part e in omega (arith, l, short))

    module _ (c : Claim) (cs : List Cond) (s : Serves c f.accepted.problem cs) where
      derives_on : (root : Node) → IsText (name_table f.accepted.problem) (second ++ more) (node_events root) → Derives c (bytes ++ more) f.accepted.problem root
      derives_on root x = record { first = first; second = second ++ more; cut = cut_on; accepted = h.problem.accepted; asked = s.asked; spells = x }

      finds_on : (r : Result Checked TextFault) → FindsOf f.accepted.problem cs (second ++ more) f.second.place r → FindsIn c (bytes ++ more) r
      finds_on (Ok verdicts.Yes) x = record {
        problem = f.accepted.problem;
        conditions = cs;
        root = x.0;
        derives = derives_on x.0 x.1;
        are = s.are;
        valid = x.2;
        none = s.none x.3;
        says = refl;
      }
      finds_on (Ok (verdicts.No n)) x = record {
        problem = f.accepted.problem;
        conditions = cs;
        root = x.0;
        node = n;
        derives = derives_on x.0 x.1;
        are = s.are;
        fails = x.2;
        says = refl;
      }
      finds_on (Err (faults.At place word)) x =
          in_second first (second ++ more) cut_on f.accepted.problem h.problem.accepted
          (s.asked, subst (λ (n : ℕ). HasDerivationFault f.accepted.problem (second ++ more) n place word) (sym long) x)
      finds_on (Err faults.Memory) x = tt

  -- what is found of the text behind the problem
  pub finds_behind : (c : Claim) (cs : List Cond) → Serves c f.accepted.problem cs → (r : Result Checked TextFault) → FindsBehind f.accepted.problem cs f.second new r → (input : List ℕ) × Tells left input × FindsIn c input r
  finds_behind c cs s r (more, follows, on) = (bytes ++ more, told_on more follows, finds_on more follows c cs s r on)

  something : (w : Bool) (l : Option (List ℕ)) → (more : List ℕ) × Follows w l more
  something true l = ([], refl)
  something false l = some_input l

  -- the problem has fewer dimensions, whatever stands behind it
  pub fewer_behind : (d : ℕ) → f.accepted.problem.dims < d → (input : List ℕ) × Tells left input × HasFewerDimensions IsFirst d input (codes "bad dimension\n")
  fewer_behind d few =
      let x = something f.second.is_whole new in (
        bytes ++ x.0,
        told_on x.0 x.1,
        record {
          problem = f.accepted.problem;
          given = record { first = first; second = second ++ x.0; cut = cut_on x.0 x.1; accepted = h.problem.accepted };
          fewer = few;
          says = refl;
        },
      )

-- the problem is refused
module _ (left new : Option (List ℕ)) (bytes first second : List ℕ) (read : ReadsUpTo 1048577 left new [] bytes) (cut : AreTextsOf bytes first second) where
  taken : Consumes left new bytes
  taken = subst (λ (t : List ℕ). Consumes left new t) (sym read.behind) read.taken

  refused_at : (place : ℕ) (word : FaultWord) → IsRefused first place word → (input : List ℕ) × Tells left input × IsRefusedPair NothingBehind input place word
  refused_at place word r = elim read.ends [
    | inl end ↦ (bytes, whole left new taken end, in_first first second cut r)
    | inr long ↦ let x = beyond left new taken in (bytes ++ x.0, x.1, refused-first (bytes ++ x.0) bytes x.0 refl NothingBehind first second place word (omega (arith, long)) cut r)
  ]
    where
      whole : (l n : Option (List ℕ)) → Consumes l n bytes → IsAtEnd n → Tells l bytes
      whole None n c e = tt
      whole (Some u) None c e = absurd c
      whole (Some u) (Some v) c e = sym (c ∙ ap (λ (t : List ℕ). bytes ++ t) e ∙ append-nil bytes)

      beyond : (l n : Option (List ℕ)) → Consumes l n bytes → (more : List ℕ) × Tells l (bytes ++ more)
      beyond None n c = ([], tt)
      beyond (Some u) None c = absurd c
      beyond (Some u) (Some v) c = (v, sym c)

  -- the fault of the problem's text is that of the input
  pub refused_before : (fault : TextFault) → AnswersAccepted (Err fault) first → AnswersFront left new (Err fault)
  refused_before (faults.At place word) r = refused_at place word r
  refused_before faults.Memory r = ((some_input left).0, (some_input left).1, tt)

-- where no text is wanted behind the problem, any may be
refused_any : (Second : ProblemData → List ℕ → ℕ → ℕ → FaultWord → Type 0) (input : List ℕ) (place : ℕ) (word : FaultWord) → IsRefusedPair NothingBehind input place word → IsRefusedPair Second input place word
refused_any Second input place word (endless e a w) = endless e a w
refused_any Second input place word (in_first a b cut r) = in_first a b cut r
refused_any Second input place word (in_second a b cut p x n) = absurd n

pub refused_in : (c : Claim) (input : List ℕ) (fault : TextFault) → RefusesProblem input fault → FindsIn c input (Err fault)
refused_in c input (faults.At place word) r = refused_any (HasFaultBehind c) input place word r
refused_in c input faults.Memory r = tt

-- ---- the reply

module _ (c : Claim) (answer : List ℕ → List ℕ → Status → Type 0) (input own : List ℕ) (mine : Status) (lift : (text : List ℕ) (status : Status) → ClaimAnswer c input text status → answer input text status) where
  pub replied : (r : Result Checked TextFault) → IsReplyTo r own mine → FindsIn c input r → AnswersInput answer input (IsSaid own mine)
  replied (Ok verdicts.Yes) (e, s) a = answers_told answer input (codes "yes\n") own Answered mine e s (lift (codes "yes\n") Answered a) tt
  replied (Ok (verdicts.No n)) (e, s) a = answers_told answer input (failing_node n) own No mine e s (lift (failing_node n) No a) tt
  replied (Err (faults.At place word)) (e, s) a = answers_told answer input (refusal place word) own Refused mine e s (lift (refusal place word) Refused (place, word, a, refl)) tt
  replied (Err faults.Memory) n a = absurd n

module _ (c : Claim) (q : Question) (lift : (input text : List ℕ) (status : Status) → ClaimAnswer c input text status → q.answer input text status) (left : Option (List ℕ)) (own : List ℕ) (mine : Status) where
  -- what is found of the input is replied
  pub decides : (r : Result Checked TextFault) → IsReplyTo r own mine → (input : List ℕ) × Tells left input × FindsIn c input r → Decides q left (IsSaid own mine)
  decides r says (input, told, finds) = record { input = input; told = told; answers = replied c q.answer input own mine (lift input) r says finds }

  -- and so is the fault of the problem
  pub decides_refused : (new : Option (List ℕ)) (a : Result Front TextFault) (fault : TextFault) → a ≡ Err fault → AnswersFront left new a → IsReplyTo (Err fault) own mine → Decides q left (IsSaid own mine)
  decides_refused new a fault is h says =
      let x = subst (AnswersFront left new) is h in
      decides (Err fault) says (x.0, x.1, refused_in c x.0 fault x.2)

-- the front that was taken
pub taken_front : (left new : Option (List ℕ)) (a : Result Front TextFault) (f : Front) → a ≡ Ok f → AnswersFront left new a → IsFront left new f
taken_front left new a f is h = subst (AnswersFront left new) is h

-- where the bytes are cut in two
module _ (bytes seen : List ℕ) (o : Option ℕ) (place size : ℕ) (same : seen ≡ bytes) (all : size ≡ length bytes) (is : place ≡ unwrap_or o size) where
  pub cut_inside : IfSome o (λ e. e ≤ length seen) → place ≤ length bytes
  cut_inside h = subst (λ (n : ℕ). n ≤ length bytes) (sym is) (go o (subst (λ (t : List ℕ). IfSome o (λ e. e ≤ length t)) same h))
    where
      go : (m : Option ℕ) → IfSome m (λ e. e ≤ length bytes) → unwrap_or m size ≤ length bytes
      go None x = omega (arith, all)
      go (Some e) x = x

  pub cut_there : IfSome o (λ e. e ≤ length seen) → MatchOption o (HasNoEnd seen) (IsFirstEnd seen) → AreTextsOf bytes (take place bytes) (drop place bytes)
  cut_there h m =
      cut-at bytes (take place bytes) (drop place bytes) o place (subst (λ (t : List ℕ). MatchOption o (HasNoEnd t) (IsFirstEnd t)) same m) (is ∙ ap (unwrap_or o) all) (length-take-le place bytes (cut_inside h)) refl refl
