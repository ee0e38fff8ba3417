use Rattle.std.proofs.Common.{◌≡◌, ◌≤◌, ◌-◌, ◌∙◌, ℕ, arith, length, rules, inr, refl, subst}
use Rattle.std.specs.Prelude.{Result}
use Rattle.geo_chan.specs.Causes.{CountsTaken}
use Rattle.geo_chan.specs.declared.outside.Failed.{Failed}
use Rattle.std.proofs.lemmas.Grind.{common_steps}
use Rattle.std.proofs.lemmas.Result.{MatchResult-at_ok, IfOk-at_ok}
use Rattle.command_input.proofs.Taking.{counted_more, counted_most, few_more, none_behind, more_behind, taken_most, read_enough, ended_behind, ended_most, piece_is}
use Rattle.command_input.proofs.read.read_up_to.Goals as goal

pub reading-init : goal.reading-init
reading-init g c = record {
  taken = none_behind _ _ _;
  size = search rules;
  same = refl;
  counted = omega arith;
}

pub reading-preserved : goal.reading-preserved
reading-preserved g c =
    let bound = IfOk-at_ok _ c.in_ok-count.ensures.count c.take.ensures.bound in
    let bytes = MatchResult-at_ok _ _ _ c.in_ok-count.ensures.count c.take.ensures.bytes in
    let items = piece_is c.reading.text.items _ c.take.new.into _ c.in_ok-count.count bound.0 c.in_ok-extend_from_slice.ensures.items in
    let size : length c.take.new.into ≡ c.min-room.result = grind (arith, common_steps, c.take.auto.into, c.reading.invariant.size, c.min-room.ensures) in
    let room : c.min-room.result ≤ c.args.most - length c.reading.text.items = grind (arith, common_steps, c.min-room.ensures) in
    record {
      taken = more_behind c.args.most _ _ _ _ _ _ c.take.new.into c.in_ok-count.count c.reading.invariant.taken bytes.0 (omega (arith, size, room)) items;
      size = grind (arith, common_steps, c.take.auto.into, c.reading.invariant.size, c.min-room.ensures);
      same = IfOk-at_ok _ c.in_ok-count.ensures.count c.take.ensures.cause.stays ∙ c.reading.invariant.same;
      counted = counted_more (g.S.Source.taken c.args.source.now) (g.S.Source.taken c.reading.source) (g.S.Source.taken c.take.new.self) c.in_ok-count.count c.args.text.now.items c.reading.text.items _ c.take.new.into
          c.reading.invariant.counted (subst (λ (r : Result ℕ Failed). CountsTaken (g.S.Source.taken c.reading.source) (g.S.Source.taken c.take.new.self) r) c.in_ok-count.ensures.count c.take.ensures.counts) bound.0 items;
    }

pub returns-after-reading-clause-text : goal.returns-after-reading-clause-text
returns-after-reading-clause-text g c = read_enough c.args.most _ _ _ _ c.reading.invariant.taken (inr (omega (arith, c.reading-test.false)))

pub returns-after-reading-clause-most : goal.returns-after-reading-clause-most
returns-after-reading-clause-most g c = taken_most c.args.most _ _ _ _ c.reading.invariant.taken

pub returns-then-count-eq0-clause-text : goal.returns-then-count-eq0-clause-text
returns-then-count-eq0-clause-text g c =
    ended_behind c.args.most _ _ _ _ _ _ _ c.reading.invariant.taken (MatchResult-at_ok _ _ _ c.in_ok-count.ensures.count c.take.ensures.bytes) c.if-count-eq0.true
    (grind (arith, common_steps, c.take.auto.into, c.reading.invariant.size, c.min-room.ensures))

pub returns-then-count-eq0-clause-most : goal.returns-then-count-eq0-clause-most
returns-then-count-eq0-clause-most g c =
    ended_most c.args.most _ _ _ _ _ c.take.new.into _ c.reading.invariant.taken (MatchResult-at_ok _ _ _ c.in_ok-count.ensures.count c.take.ensures.bytes).0 c.if-count-eq0.true

pub returns-in_err-extend_from_slice-clause-most : goal.returns-in_err-extend_from_slice-clause-most
returns-in_err-extend_from_slice-clause-most g c =
    let bytes = MatchResult-at_ok _ _ _ c.in_ok-count.ensures.count c.take.ensures.bytes in
    let size : length c.take.new.into ≡ c.min-room.result = grind (arith, common_steps, c.take.auto.into, c.reading.invariant.size, c.min-room.ensures) in
    let room : c.min-room.result ≤ c.args.most - length c.reading.text.items = grind (arith, common_steps, c.min-room.ensures) in
    taken_most c.args.most _ _ _ _ (more_behind c.args.most _ _ _ _ _ _ c.take.new.into c.in_ok-count.count c.reading.invariant.taken bytes.0 (omega (arith, size, room)) refl)

pub returns-after-reading-clause-counted : goal.returns-after-reading-clause-counted
returns-after-reading-clause-counted g c = counted_most c.args.most _ _ _ _ _ _ c.reading.invariant.taken c.reading.invariant.counted
