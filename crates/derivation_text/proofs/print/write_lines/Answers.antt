use Rattle.std.proofs.Common.{◌≡◌, ◌+◌, ◌++◌, ℕ, List, [], drop, get_or, ap, sym, subst, ◌∙◌, arith, append_assoc, append-nil}
use Rattle.std.proofs.lemmas.List.{drop_all}
use Rattle.std.proofs.lemmas.Result.{err_from_is_err_and}
use Rattle.geo_chan.proofs.Appending.{wrote_err, wrote_then}
use Rattle.derivation.specs.declared.event.Event.{Event}
use Rattle.derivation.specs.declared.event.Event.TheVariants.{SplitShape}
use Rattle.derivation_text.specs.Lines.{line_of, lines_of, listed, AreNamed}
use Rattle.derivation_text.proofs.Gathered.{gathered, wrote_both}
use Rattle.derivation_text.proofs.Steps.{lines_step, named_step}
use Rattle.derivation_text.proofs.print.write_lines.Goals as goal

pub returns-in_err-gather_line : goal.returns-in_err-gather_line
returns-in_err-gather_line g c =
    let p = err_from_is_err_and c.from_residual.result c.from_residual.ensures.1 in
    let done = c.loop-e.invariant.done in
    let page = c.loop-e.page in
    let n = c.args.names.now in
    let o = c.loop-e.o.0 in
    let some : Event = SplitShape (record { 0 = 0 }) 0 in
    let e : Event = get_or c.args.events.now c.loop-e.e-index some in
    let next = lines_step n o c.args.events.now c.loop-e.e-index some (omega arith) in
    rw (p.1, p.2) (wrote_err _ _ _ _ _ _ _ _ _ _ _ _ _ _ done.2 c.in_err-gather_line.ensures (done.1 ∙ ap (λ (z : List ℕ). done.0 ++ z) (ap (λ (z : List ℕ). page ++ z) next ∙ sym (append_assoc page (line_of n o e) (lines_of n (listed o e) (drop (c.loop-e.e-index + 1) c.args.events.now))))))

pub loop-e-preserved : goal.loop-e-preserved
loop-e-preserved g c =
    let n = c.args.names.now in
    let rest = drop (c.loop-e.e-index + 1) c.args.events.now in
    let done = c.loop-e.invariant.done in
    let now = c.in_ok-gather_line.ensures in
    let some : Event = SplitShape (record { 0 = 0 }) 0 in
    let e : Event = get_or c.args.events.now c.loop-e.e-index some in
    let next : lines_of n c.loop-e.o.0 (drop c.loop-e.e-index c.args.events.now) ≡ line_of n c.loop-e.o.0 e ++ lines_of n (listed c.loop-e.o.0 e) rest = lines_step n c.loop-e.o.0 c.args.events.now c.loop-e.e-index some (omega arith) in
    record {
      named = subst (λ (o : ℕ). AreNamed n o rest) (sym c.listed-o.ensures) (named_step n c.loop-e.o.0 c.args.events.now c.loop-e.e-index some (omega arith) c.loop-e.invariant.named).1;
      done = (
        done.0 ++ now.0,
        done.1 ∙ ap (λ (z : List ℕ). done.0 ++ (c.loop-e.page ++ z)) (next ∙ ap (λ (o : ℕ). line_of n c.loop-e.o.0 e ++ lines_of n o rest) (sym c.listed-o.ensures))
            ∙ gathered done.0 c.loop-e.page (line_of n c.loop-e.o.0 e) now.0 c.gather_line.new.page (lines_of n c.listed-o.result.0 rest) now.1,
        wrote_both _ _ _ _ _ _ _ _ _ _ _ done.2 now.2,
      );
    }

pub returns : goal.returns
returns g c =
    let done = c.loop-e.invariant.done in
    let page = c.loop-e.page in
    let n = c.args.names.now in
    let o = c.loop-e.o.0 in
    let none : drop c.loop-e.e-index c.args.events.now ≡ [] = drop_all c.loop-e.e-index c.args.events.now c.loop-e-test.false in
    wrote_then _ _ _ _ _ _ _ _ _ c.write_all_bytes.result done.0 c.bytes.result.now (lines_of n 0 c.args.events.now) done.2 c.write_all_bytes.ensures
    (done.1 ∙ ap (λ (z : List ℕ). done.0 ++ z) (ap (λ (es : List Event). page ++ lines_of n o es) none ∙ append-nil page ∙ sym c.bytes.ensures))
