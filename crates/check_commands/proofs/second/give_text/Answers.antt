use Rattle.std.proofs.Common.{rules, ◌≡◌, ◌≤◌, ℕ, List, [], length, take, true, refl, sym, ap, ◌∙◌, subst, arith, Ok}
use Rattle.std.proofs.lemmas.Grind.{common_steps}
use Rattle.command_input.specs.Reading.{TakesAtMost}
use Rattle.geo_conditions.specs.Reach.{Reach}
use Rattle.stream_check.specs.Streaming.{IsChecking}
use Rattle.check_commands.proofs.Pieces.{HasGiven, count_given, first_given, piece_taken, next_given, most_given, all_checked, fault_found, ok_or_err}
use Rattle.check_commands.proofs.second.give_text.Goals as goal
use Rattle.check_commands.proofs.second.give_text.Goals.{in_default, in_default-2}

pub giving-init : goal.giving-init
giving-init g c = record {
  given = subst
      (λ (piece : List ℕ). HasGiven g.row.K (λ (first : List Reach). IsChecking first g.row.K c.args.check.now.feeder c.args.check.now.checker c.args.check.now.log [] []) c.args.check.now.feeder.names.now
      c.args.check.now.feeder.place c.args.text.now.is_whole (g.S.Source.left c.args.source.now) (g.S.Source.left c.args.source.now) (g.S.Source.taken c.args.source.now) (g.S.Source.taken c.args.source.now) piece c.take-progress.result c.take-progress.new.self.feeder c.take-progress.new.self.checker c.take-progress.new.self.log)
      c.bytes.ensures
      (first_given g.row.K _ _ _ _ _ _ _ _ _ _ _
      (λ first h. piece_taken g.row.K _ _ _ _ _ _ c.bytes.result.now _ _ c.take-progress.result c.take-progress.ensures.checking c.take-progress.ensures.open c.take-progress.ensures.checked c.take-progress.ensures.refused refl refl
      first [] [] h));
  names = c.take-progress.ensures.names;
  place = c.take-progress.ensures.place;
  conditions = c.take-progress.ensures.conditions;
  size = search rules;
  same = refl;
}

pub returns-in_err-count-clause-most : goal.returns-in_err-count-clause-most
returns-in_err-count-clause-most g c =
    most_given g.row.K _ _ _ _ _ _ _ _ _ _ _ _ _ _ c.requires.fresh.0 c.requires.fresh.1 c.giving.invariant.given (c.in-Ok-false.is ∙ ap Ok c.in-Ok-false.field-0-test)
    (subst (λ (m : ℕ). TakesAtMost m (g.S.Source.left c.giving.source) (g.S.Source.left c.next_piece.new.source)) c.giving.invariant.size c.next_piece.ensures.kept)

pub returns-then-count-eq0-clause-most : goal.returns-then-count-eq0-clause-most
returns-then-count-eq0-clause-most g c =
    most_given g.row.K _ _ _ _ _ _ _ _ _ _ _ _ _ _ c.requires.fresh.0 c.requires.fresh.1 c.giving.invariant.given (c.in-Ok-false.is ∙ ap Ok c.in-Ok-false.field-0-test)
    (subst (λ (m : ℕ). TakesAtMost m (g.S.Source.left c.giving.source) (g.S.Source.left c.next_piece.new.source)) c.giving.invariant.size c.next_piece.ensures.kept)

pub giving-preserved : goal.giving-preserved
giving-preserved g c =
    let piece = take c.in_ok-count.count c.next_piece.new.piece in
    let size : length c.next_piece.new.piece ≡ 4096 = c.next_piece.ensures.size ∙ c.giving.invariant.size in
    let small : length piece ≤ length c.next_piece.new.piece = grind (arith, common_steps) in
    record {
      given = next_given g.row.K _ _ _ _ _ _ _ _ _ _ _ _ c.take-progress-in-Ok-false.result _ _ _ _ _ _ piece c.requires.fresh.0 c.requires.fresh.1 c.giving.invariant.given (c.in-Ok-false.is ∙ ap Ok c.in-Ok-false.field-0-test)
          (λ u text es z. piece_taken g.row.K _ _ _ _ _ _ piece _ _ c.take-progress-in-Ok-false.result c.take-progress-in-Ok-false.ensures.checking c.take-progress-in-Ok-false.ensures.open
          c.take-progress-in-Ok-false.ensures.checked c.take-progress-in-Ok-false.ensures.refused c.giving.invariant.names c.giving.invariant.place u text es z)
          c.in_ok-count.ensures.bytes (let full : length piece ≡ c.in_ok-count.count = grind (arith, common_steps, c.in_ok-count.ensures.bound) in omega (arith, full, c.in_ok-count.ensures.few)) (omega (arith, small, size)) (λ e. let none : c.in_ok-count.count ≡ 0 = c.in_ok-count.ensures.none e in rw none refl);
      names = c.take-progress-in-Ok-false.ensures.names ∙ c.giving.invariant.names;
      place = c.take-progress-in-Ok-false.ensures.place ∙ c.giving.invariant.place;
      conditions = c.take-progress-in-Ok-false.ensures.conditions ∙ c.giving.invariant.conditions;
      size = size;
      same = c.in_ok-count.ensures.cause.stays ∙ c.giving.invariant.same;
    }

pub returns-in-Ok-clause-ended : goal.returns-in-Ok-clause-ended
returns-in-Ok-clause-ended g c = λ first fresh. all_checked g.row.K _ _ _ _ _ _ _ _ _ c.giving.progress _ _ _ c.giving.invariant.given first fresh (elim c.match-progress.branch [
  | in_default w ↦ let e : c.giving.progress ≡ Ok true = cc (w.in_default.field-0-test) in e
  | in_default-2 w ↦ absurd (ok_or_err _ _ _ c.in-Ok.is (w.progress-is ∙ w.in_default.is))
])

pub returns-in-Err-clause-ended : goal.returns-in-Err-clause-ended
returns-in-Err-clause-ended g c = λ first fresh. fault_found g.row.K _ _ _ _ _ _ _ _ _ c.giving.progress _ _ _ c.giving.invariant.given first fresh c.in-Err.fault (elim c.match-progress.branch [
  | in_default w ↦ absurd (ok_or_err _ _ _ w.progress-is c.in-Err.is)
  | in_default-2 w ↦ sym w.progress-is ∙ c.in-Err.is
])

pub returns-in_err-count-clause-counted : goal.returns-in_err-count-clause-counted
returns-in_err-count-clause-counted g c =
    count_given g.row.K _ _ _ _ _ _ _ _ _ _ _ _ _ _ c.requires.fresh.0 c.requires.fresh.1 c.giving.invariant.given (c.in-Ok-false.is ∙ ap Ok c.in-Ok-false.field-0-test)
    (omega (arith, c.giving.invariant.size, c.next_piece.ensures.counted))

pub returns-then-count-eq0-clause-counted : goal.returns-then-count-eq0-clause-counted
returns-then-count-eq0-clause-counted g c =
    count_given g.row.K _ _ _ _ _ _ _ _ _ _ _ _ _ _ c.requires.fresh.0 c.requires.fresh.1 c.giving.invariant.given (c.in-Ok-false.is ∙ ap Ok c.in-Ok-false.field-0-test)
    (omega (arith, c.giving.invariant.size, c.next_piece.ensures.counted))

pub returns-in-Ok-clause-counted : goal.returns-in-Ok-clause-counted
returns-in-Ok-clause-counted g c = omega (arith, c.giving.invariant.given.counted, c.giving.invariant.given.few)

pub returns-in-Err-clause-counted : goal.returns-in-Err-clause-counted
returns-in-Err-clause-counted g c = omega (arith, c.giving.invariant.given.counted, c.giving.invariant.given.few)
