use Rattle.std.proofs.Common.{rules, ◌≡◌, ◌<◌, ℕ, length, take, drop, set, refl, sym, ap, ◌∙◌, subst, arith, lit<}
use Rattle.std.proofs.lemmas.List.{drop_all, take_all}
use Rattle.geo_conditions.specs.Reach.{State}
use Rattle.geo_state.specs.Undo.{state_before, marks_before}
use Rattle.geo_state.proofs.Undo.{length_undone}
use Rattle.geo_state.proofs.Trailings.{last_of}
use Rattle.geo_state.proofs.entries.put_back.Goals as goal

pub loop-saved-init : goal.loop-saved-init
loop-saved-init g c =
    let es = c.args.saved.now.items in record {
      least = c.requires.left;
      items = sym (take_all (length es) es (omega arith));
      state = sym (ap (state_before c.args.state.now) (drop_all (length es) es (omega arith)));
      marks = sym (ap (marks_before c.args.marks.now) (drop_all (length es) es (omega arith)));
      room = refl;
    }

pub put_back-requires : goal.put_back-requires
put_back-requires g c =
    let l = c.loop-saved in let es = c.args.saved.now.items in
    let e = last_of es l.saved.items c.pop.new.self.items c.in-Some.entry l.invariant.items c.in-Some.ensures.0 in
    let long : length l.state ≡ length c.args.state.now = ap length l.invariant.state ∙ length_undone (λ d. d.reach) c.args.state.now (drop (length l.saved.items) es) in
    (search rules, (lit< tt, (c.requires.k, subst (λ (n : ℕ). c.in-Some.entry.object < n) (sym long) (e.exists (length c.args.state.now) c.requires.exist))))

pub bounds-marks-o : goal.bounds-marks-o
bounds-marks-o g c =
    let l = c.loop-saved in let es = c.args.saved.now.items in
    let e = last_of es l.saved.items c.pop.new.self.items c.in-Some.entry l.invariant.items c.in-Some.ensures.0 in
    omega (arith, c.mark-level.ensures.object, e.exists (length c.args.state.now) c.requires.exist, c.requires.marks, l.auto.marks)

pub loop-saved-preserved-in-Some : goal.loop-saved-preserved-in-Some
loop-saved-preserved-in-Some g c =
    let l = c.loop-saved in let es = c.args.saved.now.items in let ys = c.pop.new.self.items in let e = c.in-Some.entry in
    let k = last_of es l.saved.items ys e l.invariant.items c.in-Some.ensures.0 in record {
      least = omega (arith, k.count, c.loop-saved-test.true, c.len.ensures);
      items = k.left;
      state = c.put_back.ensures ∙ ap (λ (S : State). set S e.object e.reach) l.invariant.state ∙ ap (state_before c.args.state.now) (sym k.behind);
      marks = (λ i. set (l.invariant.marks i) (c.mark-level.ensures.object i) (c.mark-level.ensures.level i)) ∙ ap (marks_before c.args.marks.now) (sym k.behind);
      room = omega (arith, k.count, c.in-Some.ensures.1, l.invariant.room);
    }

pub loop-saved-preserved : goal.loop-saved-preserved
loop-saved-preserved g c = absurd (omega (arith, c.loop-saved-test.true, c.len.ensures, ap length c.in_default.ensures.0))

pub returns : goal.returns
returns g c =
    let l = c.loop-saved in let es = c.args.saved.now.items in
    let left : length l.saved.items ≡ c.args.left = omega (arith, l.invariant.least, c.loop-saved-test.false, c.len.ensures) in record {
      state = l.invariant.state ∙ ap (λ (n : ℕ). state_before c.args.state.now (drop n es)) left;
      marks = l.invariant.marks ∙ ap (λ (n : ℕ). marks_before c.args.marks.now (drop n es)) left;
      items = l.invariant.items ∙ ap (λ (n : ℕ). take n es) left;
      room = l.invariant.room;
    }
