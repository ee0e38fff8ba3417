use Rattle.std.proofs.Common.{◌≡◌, ◌∙◌, List, ap, sym, refl, Option, Some, None}
use Rattle.rule_names.specs.declared.mistake.Mistake.{Mistake}
use Rattle.rule_names.specs.Mistakes.{first_of, word_of, IsFirst}
use Rattle.rule_names.specs.Names.{mistakes}
use Rattle.rule_names.proofs.Firsts.{no_first, is_first, one_first}
use Rattle.rule_names.proofs.check.check_names.Goals as goal

none_there : (ms : List Mistake) (o : Option Mistake) → o ≡ None → o ≡ first_of ms → None ≡ first_of ms
none_there ms o e f = sym e ∙ f

one_there : (ms : List Mistake) (o : Option Mistake) (m : Mistake) → o ≡ Some m → o ≡ first_of ms → IsFirst ms m
one_there ms o m e f = is_first ms m (sym e ∙ f)

pub returns-in-Ok-None-clause-answers : goal.returns-in-Ok-None-clause-answers
returns-in-Ok-None-clause-answers c = no_first (mistakes c.args.problem.now) (none_there (mistakes c.args.problem.now) c.in-Ok-None.field-0 c.in-Ok-None.field-0-is c.in-Ok-None.ensures)

pub returns-in-Ok-None-clause-only : goal.returns-in-Ok-None-clause-only
returns-in-Ok-None-clause-only c = λ place word h. no_first (mistakes c.args.problem.now) (none_there (mistakes c.args.problem.now) c.in-Ok-None.field-0 c.in-Ok-None.field-0-is c.in-Ok-None.ensures) h.mistake h.first.there

pub returns-in-Ok-Some-clause-answers : goal.returns-in-Ok-Some-clause-answers
returns-in-Ok-Some-clause-answers c = record {
  mistake = c.in-Ok-Some.first;
  first = one_there (mistakes c.args.problem.now) c.in-Ok-Some.field-0 c.in-Ok-Some.first c.in-Ok-Some.field-0-is c.in-Ok-Some.ensures;
  at = refl;
  says = c.word_of.ensures;
}

pub returns-in-Ok-Some-clause-only : goal.returns-in-Ok-Some-clause-only
returns-in-Ok-Some-clause-only c =
    let here : IsFirst (mistakes c.args.problem.now) c.in-Ok-Some.first = one_there (mistakes c.args.problem.now) c.in-Ok-Some.field-0 c.in-Ok-Some.first c.in-Ok-Some.field-0-is c.in-Ok-Some.ensures in (
      λ none. none c.in-Ok-Some.first here.there,
      λ q w h. (
        h.at ∙ ap (λ (m : Mistake). m.place) (one_first (mistakes c.args.problem.now) h.mistake c.in-Ok-Some.first h.first here),
        h.says ∙ ap (λ (m : Mistake). word_of m.flaw) (one_first (mistakes c.args.problem.now) h.mistake c.in-Ok-Some.first h.first here) ∙ sym c.word_of.ensures,
      ),
    )
