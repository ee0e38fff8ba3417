use Rattle.std.proofs.Common.{◌∷◌, [], ◌++◌, List, ap, subst, refl, ◌∙◌, arith}
use Rattle.std.proofs.lemmas.List.{append-nil, append_assoc, length-append}
use Rattle.std.proofs.lemmas.Grind.{flat_map-append}
use Rattle.std.proofs.lemmas.Result.{err_from_is_err_and}
use Rattle.geo_base.specs.Tuple.{Tuple}
use Rattle.std.specs.Prelude.{Err, IsErrOf, Result}
use Rattle.geo_chan.specs.declared.outside.PutFault.{PutFault}
use Rattle.geo_chan.specs.declared.outside.PutFault.TheVariants.{Memory}
use Rattle.geo_chan.proofs.Appending.{err_same, wrote_none, wrote_ok}
use Rattle.geo_conditions.specs.Walk.{Tree}
use Rattle.layout_search.proofs.Members.{found-tuple}
use Rattle.layout_search.proofs.Outcomes.{answered}
use Rattle.layout_text.specs.Block.{block_of}
use Rattle.layout_search.specs.declared.listing.Ending.{Ending}
use Rattle.layout_search.specs.declared.listing.Ending.TheVariants.{More, End, OutOfBudget}
use Rattle.layout_search.specs.Page.{IsPage, blocks_of}
use Rattle.layout_search.proofs.Layouts.{shaped-tuple}
use Rattle.layout_search.proofs.Listed.{none-listed, one-more, more-page, end-page, spent-page, listed-on}
use Rattle.layout_search.proofs.Pages.{page-written, page-cut}
use Rattle.layout_search.proofs.listing.write_layouts.Goals as goal

pub listing-init : goal.listing-init
listing-init g c =
    let a = c.args.search.now in
    ([], refl, none-listed c.args.problem.now a.walk a.budget c.is_said.ensures.formed c.requires.walk a refl refl c.requires.over c.requires.walked, c.requires.room, wrote_none _ _ _)

pub take_layout-requires : goal.take_layout-requires
take_layout-requires g c =
    let a = c.listing.search in
    let b = c.next.new.self in
    let h = c.listing.invariant.2 in
    let (cs, past, are, e) = c.requires.walk in
    let step = answered a b _ h.over c.in-Found.ensures.steps in
    let same = c.in-Found.ensures.steps.0 in
    (omega arith, (omega arith, (c.requires.k, (c.requires.dims, (ap (λ (V : Tree). V.first) (same ∙ h.walk ∙ e), (found-tuple c.args.problem.now cs past c.is_said.ensures.formed are.fit a b (h.walk ∙ e) same step, c.listing.invariant.3))))))

pub write_over-requires : goal.write_over-requires
write_over-requires g c = shaped-tuple c.args.problem.now c.take_layout.new.layout c.take_layout.ensures.tuple

pub returns-in_err-write_over-in-Found-clause-page : goal.returns-in_err-write_over-in-Found-clause-page
returns-in_err-write_over-in-Found-clause-page g c =
    let p = c.args.problem.now in
    let a = c.args.search.now in
    let b = c.next.new.self in
    let ts = c.listing.invariant.0 in
    let size = c.listing.invariant.1 in
    let h = c.listing.invariant.2 in
    let t = c.take_layout.new.layout in
    let steps = c.in-Found.ensures.steps in
    let m = one-more p a.walk a.budget c.is_said.ensures.formed c.requires.walk c.listing.search b ts t h steps.0 steps.1 (answered c.listing.search b _ h.over steps) c.take_layout.ensures.tuple c.take_layout.ensures.found in
    let r = listed-on p a.walk a.budget c.is_said.ensures.formed c.requires.walk c.args.most b (ts ++ t ∷ []) m (omega (arith, size, c.listing-test.true, length-append ts (t ∷ []))) in
    let page : IsPage p a.walk c.args.most a.budget (ts ++ t ∷ r.0) r.1 = subst (λ (us : List Tuple). IsPage p a.walk c.args.most a.budget us r.1) (append_assoc ts (t ∷ []) r.0) r.2 in
    let x = err_from_is_err_and c.from_residual.result c.from_residual.ensures.1 in
    rw (x.1, x.2) (page-cut p a.walk c.args.most a.budget _ _ _ _ _ _ ts c.listing.invariant.4 _ _ _ _ t r.0 r.1 c.in_err-write_over-in-Found.ensures page)

pub returns-in-Ended-clause-page : goal.returns-in-Ended-clause-page
returns-in-Ended-clause-page g c =
    let p = c.args.problem.now in
    let a = c.args.search.now in
    let b = c.next.new.self in
    let ts = c.listing.invariant.0 in
    let size = c.listing.invariant.1 in
    let h = c.listing.invariant.2 in
    let steps = c.in-Ended.ensures.steps in
    let page = end-page p a.walk a.budget c.is_said.ensures.formed c.requires.walk c.args.most c.listing.search b ts h steps.0 (answered c.listing.search b _ h.over steps) (omega (arith, size, c.listing-test.true)) in
    page-written p a.walk c.args.most a.budget _ _ _ _ _ _ ts c.listing.invariant.4 End page

pub returns-in-Budget-clause-page : goal.returns-in-Budget-clause-page
returns-in-Budget-clause-page g c =
    let p = c.args.problem.now in
    let a = c.args.search.now in
    let b = c.next.new.self in
    let ts = c.listing.invariant.0 in
    let size = c.listing.invariant.1 in
    let h = c.listing.invariant.2 in
    let steps = c.in-Budget.ensures.steps in
    let page = spent-page p a.walk a.budget c.is_said.ensures.formed c.requires.walk c.args.most c.listing.search b ts h steps.0 (answered c.listing.search b _ h.over steps) (omega (arith, size, c.listing-test.true)) in
    page-written p a.walk c.args.most a.budget _ _ _ _ _ _ ts c.listing.invariant.4 OutOfBudget page

pub listing-preserved : goal.listing-preserved
listing-preserved g c =
    let p = c.args.problem.now in
    let a = c.args.search.now in
    let b = c.next.new.self in
    let ts = c.listing.invariant.0 in
    let size = c.listing.invariant.1 in
    let h = c.listing.invariant.2 in
    let t = c.take_layout.new.layout in
    let steps = c.in-Found.ensures.steps in (
      ts ++ t ∷ [],
      omega (arith, size, length-append ts (t ∷ [])),
      one-more p a.walk a.budget c.is_said.ensures.formed c.requires.walk c.listing.search b ts t h steps.0 steps.1 (answered c.listing.search b _ h.over steps) c.take_layout.ensures.tuple c.take_layout.ensures.found,
      shaped-tuple p t c.take_layout.ensures.tuple,
      wrote_ok _ _ _ _ _ _ _ _ _ _ _ _ _ c.listing.invariant.4 c.in_ok-write_over-in-Found.ensures (flat_map-append (block_of p) ts (t ∷ []) ∙ ap (λ (x : List _). blocks_of p ts ++ x) (append-nil (block_of p t))),
    )

pub returns-clause-page : goal.returns-clause-page
returns-clause-page g c =
    let p = c.args.problem.now in
    let a = c.args.search.now in
    let ts = c.listing.invariant.0 in
    let size = c.listing.invariant.1 in
    let page = more-page p a.walk a.budget c.is_said.ensures.formed c.requires.walk c.args.most c.listing.search ts c.listing.invariant.2 (omega (arith, size, c.listing-test.false)) in
    page-written p a.walk c.args.most a.budget _ _ _ _ _ _ ts c.listing.invariant.4 More page

pub returns-in_err-write_over-in-Found-clause-quiet : goal.returns-in_err-write_over-in-Found-clause-quiet
returns-in_err-write_over-in-Found-clause-quiet g c = λ quiet wants.
    let x = err_from_is_err_and c.from_residual.result c.from_residual.ensures.1 in
    let own = subst (λ (r : Result Ending PutFault). IsErrOf r Memory) x.1 wants in
    let same = subst (λ (f : PutFault). IsErrOf {T = Ending} (Err f) Memory) x.2 own in
    (c.in_err-write_over-in-Found.ensures.quiet (c.listing.invariant.4.quiet quiet)).1 (err_same _ Ending _ Memory same)
