use Rattle.std.proofs.Common.{List, All, length, ap, sym, subst, arith}
use Rattle.std.specs.Str.{IsAscii}
use Rattle.problem_data.specs.Problem.{ObjectData}
use Rattle.geo_json.specs.Ascii.{IsAsciiObject}
use Rattle.geo_json.proofs.layout.place_to_json.Goals as goal

pub to_json-requires : goal.to_json-requires
to_json-requires c =
    let all = subst (λ (os : List ObjectData). All IsAsciiObject os) (sym c.objects.ensures) c.is_ascii.ensures.objects in
    let size = ap (λ (os : List ObjectData). length os) c.objects.ensures in
    let own = subst IsAsciiObject (sym c.index-objects-o.is) (all c.args.o.0 c.index-objects-o.result (omega (arith, c.requires.object, size))) in
    subst IsAscii (sym c.name.ensures) own.name
