use Rattle.std.proofs.Common.{◌≡◌, map, take}
use Rattle.geo_conditions.specs.Terms.{term_of}
use Rattle.geo_conditions.proofs.form.listed.Given as goal

abbrev pub invariant-loop-given : goal.invariant-loop-given
invariant-loop-given l = l.list.items ≡ map term_of (take l.given-index l.terms)
