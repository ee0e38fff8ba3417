use Rattle.std.proofs.Common.{sym, subst}
use Rattle.geo_json.specs.Ascii.{IsAsciiObject}
use Rattle.geo_json.proofs.object.object_values.Goals as goal

pub object_to_json-requires-clause-object : goal.object_to_json-requires-clause-object
object_to_json-requires-clause-object c = subst IsAsciiObject (sym c.object-item.is) (c.requires.objects c.loop-object.object-index c.object-item.result c.loop-object-test.true)
