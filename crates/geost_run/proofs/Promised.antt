-- What the program promises follows from its answers.
use Rattle.std.proofs.Common.{◌≡◌, ◌≤◌, ◌-◌, inl, inr, ℕ, ℤ, List, refl, sym, ◌∙◌, subst, arith}
use Rattle.std.specs.Prelude.{Option, None, Some}
use Rattle.std.proofs.lemmas.List.{append-nil}
use Rattle.geo_chan.specs.Causes.{Rose}
use Rattle.check_commands.specs.Check.{FindsValid}
use Rattle.check_commands.specs.Claims.{Claim, no_layout, none_below}
use Rattle.geo_best.specs.declared.extent.Extent.{Extent}
use Rattle.geo_best.specs.declared.one_round.Best.TheVariants as bests
use Rattle.geo_best.specs.declared.one_round.Best.{Best as BestOf}
use Rattle.geo_best.specs.Rounds.{IsBest, IsLeast, PromisesLeast}
use Rattle.layout_commands.specs.Load.{LoadAnswer}
use Rattle.layout_search.specs.FirstLayout.{HasNoLayout}
use Rattle.problem_data.specs.Problem.{ProblemData}
use Rattle.rule_ground.specs.Ground.{conditions}
use Rattle.command_input.specs.declared.command.Command.{Command}
use Rattle.command_input.specs.declared.command.Command.TheVariants.{First, Check, Best, CheckBest, Load, Why}
use Rattle.command_input.specs.declared.command.Status.{Status}
use Rattle.command_input.specs.declared.command.Status.TheVariants.{Answered, No, Refused, Budget, ReadFault, WriteFault, Memory, BadDimension}
use Rattle.command_input.specs.Reading.{TakesAtMost, Tells}
use Rattle.command_input.specs.Words.{HasForm}
use Rattle.command_reply.specs.Ends.{Ends, Gave}
use Rattle.command_reply.specs.Question.{FrontOf, IsSound, IsVerdict}
use Rattle.command_reply.proofs.Ending.{ends_as}
use Rattle.command_reply.specs.Accepted.{AreConditions, IsAccepted}
use Rattle.search_commands.specs.Best.{BestAnswer, SaysBest, SaysEnd, WritesBest}
use Rattle.search_commands.specs.First.{FirstAnswer, SaysNone}
use Rattle.search_commands.proofs.OneBest.{says-status, status_of}
use Rattle.search_commands.proofs.OneWhy.{says-status as why_status, status_of as core_status}
use Rattle.search_commands.specs.Why.{SaysWhy, WhyAnswer, WritesWhy}
use Rattle.geo_core.specs.Cores.{ComesTo}
use Rattle.geo_core.specs.Refusing.{Refuse}
use Rattle.geo_core.specs.declared.leaving.Core.{Core as CoreOf}
use Rattle.geo_core.specs.declared.leaving.Core.TheVariants as cores
use Rattle.geost_run.specs.Answer.{Answer, Begins}
use Rattle.geost_run.specs.Headline.{BeginsWith, IsComplete, Promises, PromisesBest, PromisesExtent, PromisesNone, PromisesWhy}
use Rattle.geost_run.specs.Questions.{IsFaultless, question_of}
use Rattle.geost_run.proofs.Confirmed.{confirmed, confirmed_below}
use Rattle.geost_run.proofs.OneQuestion.{answers_to, one_question}

promised : (n : ℕ) (input text : List ℕ) (s : Status) → FirstAnswer n input text s → Promises n input text s
promised n input text Answered a = record {
  problem = a.problem;
  tuple = a.tuple;
  accepted = a.found.accepted;
  layout = a.found.first.layout;
  first = a.found.first.first;
  says = a.says;
}
promised n input text No a = record {
  problem = a.problem;
  conditions = a.conditions;
  accepted = a.found.accepted;
  are = a.found.are;
  none = a.found.none;
  says = a.says;
  confirmed = confirmed input a.problem a.conditions text a.found.accepted a.found.are a.found.none a.says;
}
promised n input text Budget a = (let l = a.found.listing in record {
  problem = a.problem;
  conditions = a.conditions;
  members = l.walked;
  accepted = a.found.accepted;
  are = a.found.are;
  front = l.front;
  count = l.ends.1;
  no_layouts = sym l.full;
  goes_on = l.ends.2;
  says = a.says;
})
promised n input text Refused r = r
promised n input text _ a = absurd a

-- ---- `best`

none_behind : (d : ℕ) (input text : List ℕ) (p : ProblemData) → IsAccepted input p → HasNoLayout p → SaysEnd p (d - 1) None text → PromisesNone input text
none_behind d input text p acc none h =
    let are : AreConditions p h.conditions = h.are ∙ append-nil (conditions p) in
    let (derivation, shown, is) = h.none in
    let says : SaysNone p h.conditions text = subst (SaysNone p h.conditions) (sym is) shown in
    record { problem = p; conditions = h.conditions; accepted = acc; are = are; none = none; says = says; confirmed = confirmed input p h.conditions text acc are none says }

extent_behind : (d : ℕ) (input text : List ℕ) (p : ProblemData) (x : Extent) → IsAccepted input p → d ≤ p.dims → IsLeast p (d - 1) x.end x.layout → SaysEnd p (d - 1) (Some x) text → PromisesExtent d input text
extent_behind d input text p x acc there least h =
    let (derivation, shown, is) = h.none in
    record {
      problem = p;
      extent = x;
      derivation = derivation;
      accepted = acc;
      least = least;
      confirmed = confirmed_below d x.end input p h.conditions derivation acc there h.are least.least shown;
      says = is;
    }

-- what is said with the status of what the rounds come to
said_promised : (d n : ℕ) (input text : List ℕ) (p : ProblemData) (b : BestOf) → IsAccepted input p → d ≤ p.dims → IsBest p (d - 1) n b → PromisesLeast p (d - 1) b
    → SaysBest p (d - 1) n b text (status_of b) → PromisesBest d n input text (status_of b)
said_promised d n input text p (bests.Least e t log) acc there is h says = inl (extent_behind d input text p (record { end = e; layout = t }) acc there h says)
said_promised d n input text p (bests.Bare t) acc there is h says = inr (record { problem = p; tuple = t; accepted = acc; bare = h; says = says })
said_promised d n input text p (bests.Refused log) acc there is h says = none_behind d input text p acc h says
said_promised d n input text p bests.Budget acc there is h says = record { problem = p; last = is.0; accepted = acc; spent = is.1; says = says }

written_promised : (d n : ℕ) (input text : List ℕ) (s : Status) → WritesBest d n input text s → PromisesBest d n input text s
written_promised d n input text s a =
    let e : s ≡ status_of a.best = says-status a.problem (d - 1) n a.best text s a.says in
    subst (λ (x : Status). PromisesBest d n input text x) (sym e)
    (said_promised d n input text a.problem a.best a.accepted a.there a.is_best a.promises (subst (λ (x : Status). SaysBest a.problem (d - 1) n a.best text x) e a.says))

best_promised : (d n : ℕ) (input text : List ℕ) (s : Status) → BestAnswer d n input text s → PromisesBest d n input text s
best_promised d n input text Answered a = written_promised d n input text Answered a
best_promised d n input text No a = written_promised d n input text No a
best_promised d n input text Budget a = written_promised d n input text Budget a
best_promised d n input text Refused a = a
best_promised d n input text BadDimension a = a
best_promised d n input text _ a = absurd a

pub best_headline : (words : List (List ℕ)) (d n : ℕ) → HasForm words (Best d n) → (input text : List ℕ) (s : Status) → Answer words input text s → PromisesBest d n input text s
best_headline words d n form input text s a = best_promised d n input text s (answers_to words (Best d n) input text s form a)

-- ---- `why`

said_core : (n : ℕ) (input text : List ℕ) (p : ProblemData) (c : CoreOf) → IsAccepted input p → ComesTo p n c → Refuse p c → SaysWhy p n c text (core_status c) → PromisesWhy n input text (core_status c)
said_core n input text p (cores.Left R ts log) acc comes h says = record { problem = p; rules = R.items; layouts = ts.items; accepted = acc; core = h; says = says }
said_core n input text p (cores.Found t) acc comes h says = record { problem = p; tuple = t; accepted = acc; layout = comes.first.layout; first = comes.first.first; says = says }
said_core n input text p cores.Budget acc comes h says = record { problem = p; accepted = acc; spent = comes; says = says }

written_core : (n : ℕ) (input text : List ℕ) (s : Status) → WritesWhy n input text s → PromisesWhy n input text s
written_core n input text s a =
    let e : s ≡ core_status a.core = why_status a.problem n a.core text s a.says in
    subst (λ (x : Status). PromisesWhy n input text x) (sym e)
    (said_core n input text a.problem a.core a.accepted a.comes a.refuse (subst (λ (x : Status). SaysWhy a.problem n a.core text x) e a.says))

why_promised : (n : ℕ) (input text : List ℕ) (s : Status) → WhyAnswer n input text s → PromisesWhy n input text s
why_promised n input text Answered a = written_core n input text Answered a
why_promised n input text No a = written_core n input text No a
why_promised n input text Budget a = written_core n input text Budget a
why_promised n input text Refused a = a
why_promised n input text _ a = absurd a

pub why_headline : (words : List (List ℕ)) (n : ℕ) → HasForm words (Why n) → (input text : List ℕ) (s : Status) → Answer words input text s → PromisesWhy n input text s
why_headline words n form input text s a = why_promised n input text s (answers_to words (Why n) input text s form a)

-- ---- `first`

pub headline : (words : List (List ℕ)) (n : ℕ) → HasForm words (First n) → (input text : List ℕ) (s : Status) → Answer words input text s → Promises n input text s
headline words n form input text s a = promised n input text s (answers_to words (First n) input text s form a)

complete_verdict : (s : Status) → IsVerdict s → IsComplete s
complete_verdict s (inl e) = inl e
complete_verdict s (inr (inl e)) = inr (inl e)
complete_verdict s (inr (inr e)) = inr (inr (inl e))

-- where the words have a form, the texts no fault and no count rose, the answer was written, or
-- memory ran out
module _ (words : List (List ℕ)) (d : Command) (own : HasForm words d) (sound : IsSound (question_of d)) (c : Command) (form : HasForm words c) (input : List ℕ) (faultless : IsFaultless c input) where
  gave_verdict : (left : Option (List ℕ)) (w0 w1 : Option (List ℕ)) (s : Status) → left ≡ Some input → Gave (Answer words) left w0 w1 s → IsComplete s
  gave_verdict left w0 w1 s told h =
      let e : h.input ≡ input = subst (λ (o : Option (List ℕ)). Tells o h.input) told h.told in
      complete_verdict s (sound.complete input h.text s ((one_question words d c own form).faultless input faultless) (answers_to words d input h.text s own (subst (λ (i : List ℕ). Answer words i h.text s) e h.answers)))

  pub complete : (left : Option (List ℕ)) (r0 r1 : ℕ) (w0 w1 : Option (List ℕ)) (f0 f1 : ℕ) (s : Status) → left ≡ Some input → (Rose r0 r1 → ⊥) → (Rose f0 f1 → ⊥)
      → Ends (Answer words) (Begins words) left r0 r1 w0 w1 f0 f1 s → IsComplete s
  complete left r0 r1 w0 w1 f0 f1 Memory told no_read no_write h = inr (inr (inr refl))
  complete left r0 r1 w0 w1 f0 f1 ReadFault told no_read no_write h = absurd (no_read h.0)
  complete left r0 r1 w0 w1 f0 f1 WriteFault told no_read no_write h = absurd (no_write h.1)
  complete left r0 r1 w0 w1 f0 f1 s told no_read no_write h = gave_verdict left w0 w1 s told h.2

front_promised : (words : List (List ℕ)) (n : ℕ) → HasForm words (First n) → (input front : List ℕ) → Begins words input front → FrontOf (Promises n) input front
front_promised words n form input front (inl b) =
    let (text, s, back, a, is) = b.begins in
    (text, s, back, headline words n form input text s (inl (record { command = b.command; form = b.form; answers = a })), is)
front_promised words n form input front (inr (text, s, back, a, is)) = (text, s, back, headline words n form input text s (inr a), is)

-- what this run took and wrote is as promised
pub run_promised : (words : List (List ℕ)) (n : ℕ) (left : Option (List ℕ)) (r0 r1 : ℕ) (w0 w1 : Option (List ℕ)) (f0 f1 : ℕ) (s : Status) → HasForm words (First n)
    → Ends (Answer words) (Begins words) left r0 r1 w0 w1 f0 f1 s → Ends (Promises n) (FrontOf (Promises n)) left r0 r1 w0 w1 f0 f1 s
run_promised words n left r0 r1 w0 w1 f0 f1 s form h =
    ends_as (Answer words) (Promises n) (Begins words) (FrontOf (Promises n)) left r0 r1 w0 w1 f0 f1 s (headline words n form) (front_promised words n form) h

-- where this run answered `yes` to a claim, that is so of the problem
module _ (claim : Claim) (words : List (List ℕ)) (answers : (input text : List ℕ) → Answer words input text Answered → FindsValid claim input text)
    (left : Option (List ℕ)) (r0 r1 : ℕ) (w0 w1 : Option (List ℕ)) (f0 f1 : ℕ) where
  claim_so : Ends (Answer words) (Begins words) left r0 r1 w0 w1 f0 f1 Answered → (input : List ℕ) × Tells left input × BeginsWith claim input
  claim_so (r, f, g) =
      let a = answers g.input g.text g.answers in
      let d = a.derives in
      (g.input, g.told, record { problem = a.problem; first = d.first; second = d.second; cut = d.cut; accepted = d.accepted; none = a.none })

  pub run_sound : (s : Status) → s ≡ Answered → Ends (Answer words) (Begins words) left r0 r1 w0 w1 f0 f1 s → (input : List ℕ) × Tells left input × BeginsWith claim input
  run_sound s e h = claim_so (subst (λ (x : Status). Ends (Answer words) (Begins words) left r0 r1 w0 w1 f0 f1 x) e h)

pub check_answers : (words : List (List ℕ)) → HasForm words Check → (input text : List ℕ) → Answer words input text Answered → FindsValid no_layout input text
check_answers words form input text a = answers_to words Check input text Answered form a

pub check_best_answers : (words : List (List ℕ)) (d : ℕ) (e : ℤ) → HasForm words (CheckBest d e) → (input text : List ℕ) → Answer words input text Answered → FindsValid (none_below d e) input text
check_best_answers words d e form input text a = answers_to words (CheckBest d e) input text Answered form a

pub load_answers : (words : List (List ℕ)) (d : ℕ) → HasForm words (Load d) → (input text : List ℕ) (s : Status) → Answer words input text s → LoadAnswer d input text s
load_answers words d form input text s a = answers_to words (Load d) input text s form a

-- who takes at most so many bytes takes no more than a larger number
pub takes_more : (m n : ℕ) (old new : Option (List ℕ)) → m ≤ n → TakesAtMost m old new → TakesAtMost n old new
takes_more m n old new le (front, taken, few) = (front, taken, omega (arith, le, few))
