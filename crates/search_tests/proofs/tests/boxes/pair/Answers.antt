use Rattle.std.proofs.Common.{[], ◌∷◌, sym, subst}
use Rattle.std.proofs.lemmas.List.Elements.{All-cons, All-nil}
use Rattle.geo_conditions.specs.declared.cond.Cond.{Cond}
use Rattle.geo_conditions.specs.Conditions.{FitsIn}
use Rattle.indexical.specs.declared.apart.ApartIndexical.{ApartIndexical}
use Rattle.indexical.specs.Apart.{apart}
use Rattle.search_tests.proofs.tests.boxes.pair.Goals as goal

pub returns : goal.returns
returns c =
    let P = λ (e : Cond). FitsIn e c.args._s.now in
    let x = c.new.result.inner in
    let y = c.new-2.result.inner in
    record {
      fits = All-cons P (apart x.first x.second x.short) (apart y.first y.second y.short ∷ [])
          (subst (λ (z : ApartIndexical 1). FitsIn (apart z.first z.second z.short) c.args._s.now) (sym c.new.ensures) c.requires.first)
          (All-cons P (apart y.first y.second y.short) []
          (subst (λ (z : ApartIndexical 1). FitsIn (apart z.first z.second z.short) c.args._s.now) (sym c.new-2.ensures) c.requires.second)
          (All-nil P));
    }
