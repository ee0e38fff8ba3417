use Rattle.std.proofs.Common.{◌∙◌, sym, subst, arith, ℤ}
use Rattle.std.proofs.lemmas.Int.{ints}
use Rattle.std.proofs.lemmas.Bool.{false≢true}
use Rattle.geo_state.proofs.Numbers.{kept64}
use Rattle.trail_search.proofs.Moves.{NoneAfter, none_after_start, none_after_more, none_after_end}
use Rattle.trail_search.proofs.narrow.has_place_after.Goals as goal
use Rattle.trail_search.proofs.narrow.has_place_after.Goals.{else-v-from-via-then-v-from+else-has_shape, else-v-from-via-else-v-from}

pub loop-place-init : goal.loop-place-init
loop-place-init g c = none_after_start c.args.s.now c.args.o.0 _

pub loop-place-preserved : goal.loop-place-preserved
loop-place-preserved g c =
    none_after_more c.args.s.now c.args.o.0 c.loop-place.place _ c.loop-place.invariant (λ t l. elim c.else-v-from.branch [
      | else-v-from-via-then-v-from+else-has_shape w ↦ false≢true (sym w.if-has_shape.false ∙ w.has_shape.ensures ∙ t)
      | else-v-from-via-else-v-from w ↦
          let k = kept64 c.from.result c.from.type_inv in
          absurd (omega (arith, ints, w.if-v-from.false, l, k, c.from.ensures))
    ])

pub returns : goal.returns
returns g c =
    let none : NoneAfter c.args.s.now c.args.o.0 c.args.v c.loop-place.place = subst (λ (z : ℤ). NoneAfter c.args.s.now c.args.o.0 z c.loop-place.place) (kept64 c.args.v c.ranges.v.sfits) c.loop-place.invariant in (
      λ t. absurd (false≢true t),
      λ y. absurd (none_after_end c.args.s.now c.args.o.0 c.loop-place.place c.args.v none (omega (arith, c.loop-place-test.false)) c.region-region.ensures.places y),
    )
