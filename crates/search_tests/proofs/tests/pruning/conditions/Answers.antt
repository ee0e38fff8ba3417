use Rattle.std.proofs.Common.{◌≡◌, ◌∷◌, [], List, map, sym, ◌∙◌, ap, subst, Vec, Global}
use Rattle.std.proofs.lemmas.List.{map-append}
use Rattle.std.proofs.lemmas.List.Elements.{All-append, All-cons, All-nil}
use Rattle.geo_conditions.specs.declared.cond.Cond.{Cond}
use Rattle.geo_conditions.specs.Conditions.{AllFit, FitsIn}
use Rattle.indexical.specs.declared.any.AnyIndexical.{AnyIndexical}
use Rattle.search_tests.proofs.tests.pruning.conditions.Goals.{then-fits+in_ok-push, else-fits}
use Rattle.search_tests.proofs.tests.pruning.conditions.Goals as goal

pub loop-row-preserved : goal.loop-row-preserved
loop-row-preserved c =
    let f = λ (x : AnyIndexical 1). x.cond in
    let S = c.args.s.now in
    let P = λ (e : Cond). FitsIn e S in
    let conds = λ (v : Vec (AnyIndexical 1) Global). map f v.items in
    let before = c.loop-row.list.items in
    elim c.if-fits.branch [
      | then-fits+in_ok-push w ↦
          subst (λ (cs : List Cond). AllFit cs S)
          (sym (ap conds w.list-is ∙ ap (map f) w.in_ok-push.ensures.items ∙ map-append f before (w.from_cond.result ∷ [])))
          (All-append P (map f before) (w.from_cond.result.cond ∷ []) c.loop-row.invariant
          (All-cons P w.from_cond.result.cond [] (subst P (sym w.from_cond.ensures) (c.fits.ensures.0 w.if-fits.true)) (All-nil P)))
      | else-fits w ↦ subst (λ (cs : List Cond). AllFit cs S) (sym (ap conds w.list-is)) c.loop-row.invariant
    ]
