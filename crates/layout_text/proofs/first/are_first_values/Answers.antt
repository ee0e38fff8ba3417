use Rattle.std.proofs.Common.{◌≡◌, ◌<◌, ℕ, ℤ, pos, length, map, get_or, FitsSigned, to_z, of_z, w64, rules, true, false, refl, sym, ap, ◌∙◌, arith, below_more}
use Rattle.std.proofs.lemmas.Int.{to_z-of_z}
use Rattle.std.proofs.lemmas.List.{get_or-map}
use Rattle.geo_base.specs.Boxes.{coordinate}
use Rattle.problem_data.specs.declared.tree.Int.{Int}
use Rattle.problem_data.specs.Meaning.{number_of}
use Rattle.problem_data.specs.Places.{first_value}
use Rattle.layout_text.proofs.FirstValues.{all_first, are_first_of, wrong_count}
use Rattle.layout_text.proofs.first.are_first_values.Goals as goal

abbrev no_int : Int
no_int = record { place = 0; value = pos 0 }

pub returns-then-origin-dims : goal.returns-then-origin-dims
returns-then-origin-dims c = (
  λ t. (let e : false ≡ true = t in absurd cc),
  λ e. absurd (wrong_count c.args.problem.now c.args.object.now c.args.origin.now (λ n. c.if-origin-dims.true (n ∙ sym c.dims.ensures)) e),
)

pub returns-then-number-first_value : goal.returns-then-number-first_value
returns-then-number-first_value c = (
  λ t. (let e : false ≡ true = t in absurd cc),
  λ e.
      (let i : ℕ = c.loop-d.d in
      let lt : i < length c.args.origin.now = c.loop-d-test.true in
      let size : length c.args.origin.now ≡ c.args.problem.now.dims = c.if-origin-dims.false ∙ c.dims.ensures in
      let less : i < c.args.problem.now.dims = omega arith in
      let same : number_of (get_or c.args.origin.now i no_int) ≡ c.first_value.result =
      sym (get_or-map number_of c.args.origin.now i no_int (pos 0) lt) ∙ are_first_of c.args.problem.now c.args.object.now (map number_of c.args.origin.now) e i less ∙ sym c.first_value.ensures in
      absurd (c.if-number-first_value.true (ap (of_z w64) same))),
)

pub loop-d-preserved : goal.loop-d-preserved
loop-d-preserved c =
    let i : ℕ = c.loop-d.d in
    let P : ℕ → Type 0 = λ d. coordinate (map number_of c.args.origin.now) d ≡ first_value c.args.problem.now c.args.object.now d in
    let lt : i < length c.args.origin.now = c.loop-d-test.true in
    let x : ℤ = (get_or c.args.origin.now i no_int).value in
    let one : FitsSigned w64 x = search rules in
    let other : FitsSigned w64 c.first_value.result = search rules in
    let same : x ≡ c.first_value.result = sym (to_z-of_z w64 x one) ∙ ap (to_z w64) c.if-number-first_value.false ∙ to_z-of_z w64 c.first_value.result other in
    below_more P i c.loop-d.invariant (get_or-map number_of c.args.origin.now i no_int (pos 0) lt ∙ same ∙ c.first_value.ensures)

pub returns : goal.returns
returns c =
    let size : length c.args.origin.now ≡ c.args.problem.now.dims = c.if-origin-dims.false ∙ c.dims.ensures in (
      λ t. all_first c.args.problem.now c.args.object.now c.args.origin.now size (λ d lt. c.loop-d.invariant d (let more = c.loop-d-test.false in omega (arith, size, more, lt))),
      λ e. refl,
    )
