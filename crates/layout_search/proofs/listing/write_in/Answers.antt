use Rattle.std.proofs.Common.{ℕ, List, Option, [], subst, refl, arith}
use Rattle.std.specs.Option.{option_copied, option_map}
use Rattle.std.proofs.lemmas.List.Elements.{All-nil}
use Rattle.std.proofs.lemmas.Result.{err_from_is_err_and}
use Rattle.geo_conditions.specs.Walk.{EndWord, Tree, values}
use Rattle.geo_conditions.proofs.Steps.{front_none}
use Rattle.geo_base.specs.Tuple.{Tuple}
use Rattle.geo_conditions.specs.declared.cond.Cond.{Cond}
use Rattle.layout_search.specs.FirstLayout.{AreConditionsOf, walk_after}
use Rattle.problem_data.specs.Problem.{ProblemData}
use Rattle.problem_data.specs.WellFormed.{IsWellFormed}
use Rattle.problem_data.specs.Layouts.{IsLayout}
use Rattle.rule_ground.specs.Order.{variables_for}
use Rattle.layout_search.specs.Page.{IsPage, WritesPage}
use Rattle.layout_search.proofs.Listed.{goes-on}
use Rattle.layout_search.proofs.Pages.{page-unbegun}
use Rattle.layout_search.proofs.listing.write_in.Goals as goal

pub write_layouts-requires : goal.write_layouts-requires
write_layouts-requires g c = (
  omega arith,
  (
    omega arith,
    (
      c.requires.k.1,
      (
        c.requires.dims,
        (
          (c.args.conditions.items, option_map (values (variables_for c.args.problem.now)) (option_copied c.args.after), c.requires.conditions, c.in_ok-search.ensures.walk),
          (c.in_ok-search.ensures.walked, (c.in_ok-search.ensures.over, c.in_ok-layout.ensures)),
        ),
      ),
    ),
  ),
)

-- from nothing on there is a listing
some-page : (p : ProblemData) (cs : List Cond) (after : Option Tuple) (most n : ℕ) → IsWellFormed p → AreConditionsOf p cs → (ts : List Tuple) × (word : EndWord) × IsPage p (walk_after p cs after) most n ts word
some-page p cs after most n well are =
    let W = walk_after p cs after in
    goes-on p W n well (cs, option_map (values (variables_for p)) after, are, refl) most [] [] (front_none W) refl (omega arith) (omega arith) (All-nil (IsLayout p))

pub returns-in_err-search-clause-page : goal.returns-in_err-search-clause-page
returns-in_err-search-clause-page g c =
    let r = some-page c.args.problem.now c.args.conditions.items (option_copied c.args.after) c.args.most c.args.budget c.is_said.ensures.formed c.requires.conditions in
    let x = err_from_is_err_and c.from_residual.result c.from_residual.ensures.1 in
    rw (x.1, x.2) (page-unbegun c.args.problem.now _ c.args.most c.args.budget _ _ _ r.0 r.1 r.2)

pub returns-in_err-layout-clause-page : goal.returns-in_err-layout-clause-page
returns-in_err-layout-clause-page g c =
    let r = some-page c.args.problem.now c.args.conditions.items (option_copied c.args.after) c.args.most c.args.budget c.is_said.ensures.formed c.requires.conditions in
    let x = err_from_is_err_and c.from_residual-in_err-layout.result c.from_residual-in_err-layout.ensures.1 in
    rw (x.1, x.2) (page-unbegun c.args.problem.now _ c.args.most c.args.budget _ _ _ r.0 r.1 r.2)

pub returns-clause-page : goal.returns-clause-page
returns-clause-page g c =
    let p = c.args.problem.now in
    let s = c.in_ok-search.search in
    let new = c.write_layouts.new.sink in
    let old = c.args.sink.now in
    let Writes : Tree → ℕ → Type 0 = λ V n. WritesPage p V c.args.most n (g.W.Sink.written old) (g.W.Sink.written new) (g.W.Sink.faults old) (g.W.Sink.faults new) (g.W.Sink.quiet old) (g.W.Sink.quiet new) c.write_layouts.result in
    subst (λ (V : Tree). Writes V c.args.budget) c.in_ok-search.ensures.walk (subst (Writes s.walk) c.in_ok-search.ensures.budget c.write_layouts.ensures.page)
