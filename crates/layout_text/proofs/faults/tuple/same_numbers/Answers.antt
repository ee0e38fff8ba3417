use Rattle.std.proofs.Common.{◌≡◌, ◌<◌, ℤ, pos, length, get_or, of_z, w64, sym, ap, ◌∙◌, arith, List, true, false}
use Rattle.std.proofs.lemmas.List.{get_or-map}
use Rattle.problem_data.specs.declared.tree.Int.{Int}
use Rattle.problem_data.specs.Meaning.{number_of}
use Rattle.layout_text.proofs.faults.tuple.same_numbers.Goals as goal

pub returns-then-number-b : goal.returns-then-number-b
returns-then-number-b c = (
  λ t. (let e : false ≡ true = t in absurd cc),
  λ e.
      (let d : Int = record { place = 0; value = pos 0 } in
      let la : c.loop-i.i < length c.args.a.now = c.loop-i-test.true in
      let lb : c.loop-i.i < length c.args.b.now = (let n : length c.args.a.now ≡ length c.args.b.now = c.if-a-b.false in omega arith) in
      let same : number_of (get_or c.args.a.now c.loop-i.i d) ≡ number_of (get_or c.args.b.now c.loop-i.i d) =
      sym (get_or-map number_of c.args.a.now c.loop-i.i d (pos 0) la) ∙ ap (λ (vs : List ℤ). get_or vs c.loop-i.i (pos 0)) e ∙ get_or-map number_of c.args.b.now c.loop-i.i d (pos 0) lb in
      absurd (c.if-number-b.true (ap (of_z w64) same))),
)
