use Rattle.std.proofs.Common.{◌≡◌, ◌∙◌, ◌==◌, true, List, Option, ap, length, refl, sym, subst, arith}
use Rattle.std.specs.Prelude.{IfSome}
use Rattle.std.proofs.lemmas.Option.{IfSome_then}
use Rattle.geo_conditions.specs.declared.cond.Cond.{Cond}
use Rattle.geo_conditions.specs.Conditions.{AllFit}
use Rattle.geo_conditions.specs.Walk.{Tree}
use Rattle.rule_ground.specs.Start.{first_state}
use Rattle.derivation.specs.Events.{Kept}
use Rattle.derivation.specs.declared.event.Event.{Event}
use Rattle.layout_search.specs.FirstLayout.{Lists, FindsSolution, Derives, walk_of, with_record}
use Rattle.layout_search.specs.declared.first.Outcome.{Outcome}
use Rattle.layout_search.proofs.Solutions.{lists-of, finds-of, derives-of, lists-with, finds-with, derives-with, some-made}
use Rattle.layout_search.proofs.first.recorded_within.Goals as goal

pub first_answer-requires : goal.first_answer-requires
first_answer-requires g c =
    let p = c.args.problem.now in
    let a = c.in_ok-search.search in
    let e = c.in_ok-search.ensures.walk in
    let own : a.walk.conditions ≡ c.args.conditions.items = ap (λ (W : Tree). W.conditions) e in (
      omega arith,
      (
        omega arith,
        (
          c.requires.k.1,
          (
            c.requires.dims,
            (
              e ∙ ap (walk_of p) (sym own),
              (
                subst (λ (cs : List Cond). AllFit cs (first_state p)) (sym own) c.requires.fits,
                (omega (arith, ap length own, c.requires.few), (c.in_ok-search.ensures.walked, c.in_ok-search.ensures.over)),
              ),
            ),
          ),
        ),
      ),
    )

pub returns-clause-walk : goal.returns-clause-walk
returns-clause-walk g c =
    let p = c.args.problem.now in
    let cs = c.args.conditions.items in
    let n = c.args.budget in
    let a = c.in_ok-search.search in
    let o = c.in_ok-outcome.outcome in
    let log = c.into_log.result in
    let own : IfSome o (λ x. Lists p cs n (with_record x log)) = IfSome_then o c.in_ok-outcome.ensures.walk (λ x h. lists-with p cs n x log (lists-of p cs n a c.in_ok-search.ensures.walk c.in_ok-search.ensures.budget x h)) in
    subst (λ (x : Option (Outcome Kept)). IfSome x (Lists p cs n)) (sym c.put_record.ensures) (some-made (λ x. with_record x log) (Lists p cs n) o own)

pub returns-clause-solution : goal.returns-clause-solution
returns-clause-solution g c =
    let p = c.args.problem.now in
    let cs = c.args.conditions.items in
    let a = c.in_ok-search.search in
    let o = c.in_ok-outcome.outcome in
    let log = c.into_log.result in
    let own : IfSome o (λ x. FindsSolution p cs (with_record x log)) = IfSome_then o c.in_ok-outcome.ensures.solution (λ x h. finds-with p cs x log (finds-of p cs c.args.budget a c.in_ok-search.ensures.walk c.in_ok-search.ensures.budget x h)) in
    subst (λ (x : Option (Outcome Kept)). IfSome x (FindsSolution p cs)) (sym c.put_record.ensures) (some-made (λ x. with_record x log) (FindsSolution p cs) o own)

pub returns-clause-derivation : goal.returns-clause-derivation
returns-clause-derivation g c =
    let p = c.args.problem.now in
    let cs = c.args.conditions.items in
    let a = c.in_ok-search.search in
    let b = c.first_answer.new.search in
    let o = c.in_ok-outcome.outcome in
    let log = c.into_log.result in
    let list : Kept → List Event = λ l. l.events in
    let empty : a.began_empty ≡ true = c.in_ok-search.ensures.began_empty refl ∙ ap (λ (es : List Event). length es == 0) c.new-record.ensures.events in
    let same : log.events ≡ b.events = c.into_log.ensures ∙ c.into_parts-recorder.ensures.events in
    let own : IfSome o (λ x. Derives p cs list (with_record x log)) =
    IfSome_then o (c.in_ok-outcome.ensures.derivation refl c.in_ok-search.ensures.some_found empty)
    (λ x h. derives-with p cs b.events list x log same (derives-of p cs c.args.budget a c.in_ok-search.ensures.walk c.in_ok-search.ensures.budget (λ _. b.events) x h)) in
    subst (λ (x : Option (Outcome Kept)). IfSome x (Derives p cs list)) (sym c.put_record.ensures) (some-made (λ x. with_record x log) (Derives p cs list) o own)

pub returns-clause-conditions : goal.returns-clause-conditions
returns-clause-conditions g c = c.in_ok-conditions.ensures ∙ c.into_parts-recorder.ensures.conditions ∙ c.first_answer.ensures.conditions ∙ ap (λ (W : Tree). W.conditions) c.in_ok-search.ensures.walk
