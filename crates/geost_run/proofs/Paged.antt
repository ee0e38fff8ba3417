-- What `all` promises follows from its answers.
use Rattle.std.proofs.Common.{◌≡◌, ◌∙◌, ℕ, ℤ, List, ap, length, map, subst, sym}
use Rattle.std.specs.Prelude.{Ok, Option}
use Rattle.std.specs.Option.{option_copied}
use Rattle.std.proofs.lemmas.List.{length-map}
use Rattle.geo_conditions.specs.declared.cond.Cond.{Cond}
use Rattle.geo_conditions.specs.Walk.{EndWord, EndsWith, More, values}
use Rattle.layout_search.specs.FirstLayout.{AreConditionsOf, walk_after}
use Rattle.layout_search.proofs.Unpassed.{passes-none-over}
use Rattle.linear_conditions.specs.CondTree.{cond_view}
use Rattle.problem_data.specs.Problem.{ProblemData}
use Rattle.problem_data.proofs.Accepted.{accepted_well_formed}
use Rattle.rule_ground.specs.Order.{variables_for}
use Rattle.rule_ground.specs.Rules.{grounded}
use Rattle.rule_ground.proofs.Fit.{grounded-fit}
use Rattle.rule_ground.proofs.Grounded.{no-fault}
use Rattle.rule_ground.proofs.Meaning.{ground-meant}
use Rattle.command_input.specs.declared.command.Command.TheVariants.{All}
use Rattle.command_input.specs.declared.command.PageRequest.{PageRequest}
use Rattle.command_input.specs.declared.command.Status.{Status}
use Rattle.command_input.specs.declared.command.Status.TheVariants.{Answered, BadToken, Budget, Refused}
use Rattle.command_input.specs.Words.{HasForm}
use Rattle.command_reply.specs.Accepted.{AreConditions, IsAccepted}
use Rattle.search_commands.specs.All.{AllAnswer, ListsLayouts}
use Rattle.geost_run.specs.Answer.{Answer}
use Rattle.geost_run.specs.Headline.{PromisesAll, PromisesListing}
use Rattle.geost_run.proofs.OneQuestion.{answers_to}

-- conditions of an accepted problem mean its layouts
meant : (input : List ℕ) (p : ProblemData) (cs : List Cond) → IsAccepted input p → AreConditions p cs → AreConditionsOf p cs
meant input p cs accepted are =
    let well = accepted_well_formed input p accepted.spells in
    let e = no-fault (grounded p) accepted.grounds ∙ ap Ok (sym are) in
    record { fit = grounded-fit p well cs e; meaning = ground-meant p cs well accepted.expands e }

listing_promised : (most n : ℕ) (token : Option (List ℕ)) (input text : List ℕ) (s : Status) → ListsLayouts most n token input text s → PromisesListing most n token input text s
listing_promised most n token input text s a =
    let p = a.problem in
    let l = a.page.listing in
    let found : List (List ℤ) = map (values (variables_for p)) a.layouts in
    record {
      problem = p;
      after = a.after;
      layouts = a.layouts;
      word = a.word;
      accepted = a.accepted;
      from = a.from;
      passes = passes-none-over p a.conditions a.after most n a.layouts a.word (accepted_well_formed input p a.accepted.spells) (meant input p a.conditions a.accepted a.are) a.page;
      full = λ e.
          let ends : EndsWith (walk_after p a.conditions a.after) most n l.walked found More = subst (λ (x : EndWord). EndsWith (walk_after p a.conditions a.after) most n l.walked found x) e l.ends in
          sym (length-map a.layouts (values (variables_for p))) ∙ ends;
      says = a.says;
      ends = a.ends;
    }

all_promised : (most n : ℕ) (token : Option (List ℕ)) (input text : List ℕ) (s : Status) → AllAnswer most n token input text s → PromisesAll most n token input text s
all_promised most n token input text Answered a = listing_promised most n token input text Answered a
all_promised most n token input text Budget a = listing_promised most n token input text Budget a
all_promised most n token input text BadToken a = a
all_promised most n token input text Refused a = a
all_promised most n token input text _ a = absurd a

pub all_headline : (words : List (List ℕ)) (page : PageRequest) → HasForm words (All page) → (input text : List ℕ) (s : Status) → Answer words input text s → PromisesAll page.most page.budget (option_copied page.token) input text s
all_headline words page form input text s a = all_promised page.most page.budget (option_copied page.token) input text s (answers_to words (All page) input text s form a)
