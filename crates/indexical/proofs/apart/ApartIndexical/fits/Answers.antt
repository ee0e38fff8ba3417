use Rattle.std.proofs.Common.{◌≡◌, ◌<◌, length, ap, ◌∙◌, arith}
use Rattle.std.proofs.lemmas.Bool.{lt-ltb, ltb-true}
use Rattle.geo_conditions.specs.declared.object.ObjId.{ObjId}
use Rattle.indexical.proofs.ApartForm.{apart_fits, apart_says_apart}
use Rattle.indexical.proofs.apart.ApartIndexical.fits.Goals as goal
use Rattle.indexical.proofs.apart.ApartIndexical.fits.Goals.{After-from-second}

first_is : (g : _) (c : After-from-second g) → c.from-first.result ≡ c.args.self.now.first.object.0
first_is g c = c.from-first.ensures ∙ ap (λ (o : ObjId). o.0) c.object.ensures

second_is : (g : _) (c : After-from-second g) → c.from-second.result ≡ c.args.self.now.second.object.0
second_is g c = c.from-second.ensures ∙ ap (λ (o : ObjId). o.0) c.object-2.ensures

pub returns-then-first-objects : goal.returns-then-first-objects
returns-then-first-objects g c =
    let a = (goal.at.returns-then-first-objects g c).After-from-second in
    let x = c.args.self.now in
    let f = first_is g a in
    let s = second_is g a in
    let n = c.objects-objects.ensures.number in
    let first : x.first.object.0 < length c.args.s.now = omega (arith, f, n, c.if-first-objects.true) in (
      λ h.
          let lt = ltb-true c.from-second.result c.objects-objects.result h in
          let second : x.second.object.0 < length c.args.s.now = omega (arith, s, n, lt) in
          apart_fits x.first x.second c.args.s.now c.objects-objects.ensures.shape first second x.short,
      λ fit.
          let both = (apart_says_apart x.first x.second x.short x.some).exist c.args.s.now fit in
          lt-ltb c.from-second.result c.objects-objects.result (omega (arith, s, n, both.1)),
    )

pub returns-else-first-objects : goal.returns-else-first-objects
returns-else-first-objects g c =
    let a = (goal.at.returns-else-first-objects g c).After-from-second in
    let x = c.args.self.now in
    let f = first_is g a in
    let n = c.objects-objects.ensures.number in (
      λ h. absurd (let lt = ltb-true c.from-first.result c.objects-objects.result h in omega (arith, lt, c.if-first-objects.false)),
      λ fit.
          let both = (apart_says_apart x.first x.second x.short x.some).exist c.args.s.now fit in
          lt-ltb c.from-first.result c.objects-objects.result (omega (arith, f, n, both.0)),
    )
