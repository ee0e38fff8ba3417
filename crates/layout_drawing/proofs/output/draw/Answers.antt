use Rattle.std.proofs.Common.{◌≡◌, ℕ, List, Vec, Global, Ok, Err, subst}
use Rattle.std.specs.Prelude.{MatchOption, OnErr, Option, Result, Some}
use Rattle.std.specs.Io.KnownBytes.{Appends}
use Rattle.geo_chan.specs.Written.{AppendsFront}
use Rattle.geo_chan.specs.declared.outside.PutFault.{PutFault}
use Rattle.problem_data.specs.Problem.{ProblemData}
use Rattle.problem_data.specs.Tuple.{Tuple}
use Rattle.layout_drawing.specs.declared.output.Drawn.{Drawn}
use Rattle.layout_drawing.specs.Drawing.{IsDrawing, IsLarge}
use Rattle.layout_drawing.proofs.OneDrawing.{one_drawing, not_large}
use Rattle.layout_drawing.proofs.output.draw.Goals as goal

-- what was drawn, once it is there
found : (p : ProblemData) (t : Tuple) (o : Option (Vec ℕ Global)) (v : Vec ℕ Global) → o ≡ Some v → MatchOption o (IsLarge p t) (λ text. IsDrawing p t text.items) → IsDrawing p t v.items
found p t o v e h = subst (λ (x : Option (Vec ℕ Global)). MatchOption x (IsLarge p t) (λ text. IsDrawing p t text.items)) e h

on_err : (r : Result Drawn PutFault) (P : Type 0) → P → OnErr r P
on_err (Ok d) P h = tt
on_err (Err e) P h = h

pub returns-in_err-write_all_bytes-in-Some-clause-nothing : goal.returns-in_err-write_all_bytes-in-Some-clause-nothing
returns-in_err-write_all_bytes-in-Some-clause-nothing g c = λ large.
    let is = found c.args.problem.now c.args.layout.now c.in_ok-text.field-0 c.in-Some.text c.in-Some.is c.in_ok-text.ensures in
    absurd (not_large c.args.problem.now c.is_said.ensures.formed c.args.layout.now c.in-Some.text.items is large)

pub returns-in_err-write_all_bytes-in-Some-clause-front : goal.returns-in_err-write_all_bytes-in-Some-clause-front
returns-in_err-write_all_bytes-in-Some-clause-front g c =
    let is = found c.args.problem.now c.args.layout.now c.in_ok-text.field-0 c.in-Some.text c.in-Some.is c.in_ok-text.ensures in
    let front : AppendsFront (g.W.Sink.written c.args.sink.now) (g.W.Sink.written c.write_all_bytes.new.sink) c.in-Some.text.items =
    subst (λ (x : List ℕ). AppendsFront (g.W.Sink.written c.args.sink.now) (g.W.Sink.written c.write_all_bytes.new.sink) x) c.as_slice.ensures.value c.in_err-write_all_bytes-in-Some.ensures.bytes in
    on_err c.from_residual-in_err-write_all_bytes-in-Some.result
    ((text : List ℕ) → IsDrawing c.args.problem.now c.args.layout.now text → AppendsFront (g.W.Sink.written c.args.sink.now) (g.W.Sink.written c.write_all_bytes.new.sink) text)
    (λ text also. subst (λ (x : List ℕ). AppendsFront (g.W.Sink.written c.args.sink.now) (g.W.Sink.written c.write_all_bytes.new.sink) x)
    (one_drawing c.args.problem.now c.is_said.ensures.formed c.args.layout.now c.in-Some.text.items text is also) front)

pub returns-in_ok-write_all_bytes-in-Some-clause-done : goal.returns-in_ok-write_all_bytes-in-Some-clause-done
returns-in_ok-write_all_bytes-in-Some-clause-done g c = λ e. (
  c.in-Some.text.items,
  found c.args.problem.now c.args.layout.now c.in_ok-text.field-0 c.in-Some.text c.in-Some.is c.in_ok-text.ensures,
  subst (λ (x : List ℕ). Appends (g.W.Sink.written c.args.sink.now) (g.W.Sink.written c.write_all_bytes.new.sink) x) c.as_slice.ensures.value c.in_ok-write_all_bytes-in-Some.ensures.bytes,
)

pub returns-in_ok-write_all_bytes-in-Some-clause-nothing : goal.returns-in_ok-write_all_bytes-in-Some-clause-nothing
returns-in_ok-write_all_bytes-in-Some-clause-nothing g c = λ large.
    let is = found c.args.problem.now c.args.layout.now c.in_ok-text.field-0 c.in-Some.text c.in-Some.is c.in_ok-text.ensures in
    absurd (not_large c.args.problem.now c.is_said.ensures.formed c.args.layout.now c.in-Some.text.items is large)
