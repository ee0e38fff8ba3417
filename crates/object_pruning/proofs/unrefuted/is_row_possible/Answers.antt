use Rattle.std.proofs.Common.{◌≡◌, ◌+◌, suc, length, refl, sym, ap, ◌∙◌, inl, inr, arith, Some}
use Rattle.std.specs.Prelude.{slice_get}
use Rattle.std.proofs.lemmas.Bool.{false≢true, cases_lt}
use Rattle.std.proofs.lemmas.Option.{slice_get_within}
use Rattle.object_pruning.specs.Runs.{start_at}
use Rattle.object_pruning.proofs.RunPicks.{start_next}
use Rattle.object_pruning.proofs.unrefuted.is_row_possible.Goals as goal

pub loop-j-preserved : goal.loop-j-preserved
loop-j-preserved g c = λ i w.
    let runs = c.args.runs.now in
    let j = c.loop-j.j in
    let after : j + 1 ≡ suc j = omega arith in
    let run = c.run_at-run.result.now in
    let at : slice_get runs j ≡ Some run = c.run_at-run.ensures.at in
    let next : start_at 0 runs (j + 1) ≡ run.end = ap (start_at 0 runs) after ∙ start_next 0 j runs run at in
    elim (cases_lt w.0 (start_at 0 runs j)) [
      | inl h ↦ c.loop-j.invariant i (w.0, w.1, w.2, h, w.4, w.5)
      | inr h ↦ c.is_run_possible.ensures.0 c.if-not-is_run_possible.false i (w.0, w.1, omega (arith, h, (c.requires.runs.each j run at).first), omega (arith, w.3, next), w.4, w.5)
    ]

pub returns-then-not-is_run_possible : goal.returns-then-not-is_run_possible
returns-then-not-is_run_possible g c = (
  λ e. absurd (false≢true e),
  λ n. absurd (false≢true (sym c.if-not-is_run_possible.true ∙ c.is_run_possible.ensures.1 (λ i b. n i (b.0, b.1, b.4, b.5)))),
)

pub returns : goal.returns
returns g c =
    let gs = c.args.groups.now in
    let runs = c.args.runs.now in
    let all : c.loop-j.j ≡ length runs = omega (arith, c.loop-j-test.false, c.loop-j.auto.j-end) in
    let end : start_at 0 runs c.loop-j.j ≡ length gs = ap (start_at 0 runs) all ∙ c.requires.runs.whole in (
      λ e i w. c.loop-j.invariant i (w.0, w.1, omega arith, omega (arith, slice_get_within gs w.0 w.1 w.2, end), w.2, w.3),
      λ n. refl,
    )
