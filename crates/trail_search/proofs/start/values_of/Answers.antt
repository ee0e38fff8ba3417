use Rattle.std.proofs.Common.{◌≡◌, ◌+◌, ◌<◌, ◌∙◌, ◌++◌, ◌∷◌, [], ℕ, ℤ, List, length, map, take, get_or, ap, sym, arith, to_z-of_z, w64}
use Rattle.std.proofs.lemmas.List.{length-map, map-append, map_more}
use Rattle.geo_conditions.specs.Reach.{Tuple}
use Rattle.geo_conditions.specs.Walk.{values, value_in}
use Rattle.trail_search.specs.declared.variable.Variable.{Variable}
use Rattle.geo_conditions.proofs.Defaults.{any_default}
use Rattle.trail_search.specs.Cursor.{HasDimension}
use Rattle.trail_search.specs.Variables.{variable_of}
use Rattle.trail_search.specs.declared.variable.Variable.TheVariants.{Place}
use Rattle.trail_search.proofs.Walking.{item_is, object_at, fact_at}
use Rattle.trail_search.proofs.start.values_of.Goals as goal

-- the value of one variable more
one_more : (t : Tuple) (xs : List Variable) (m : ℕ) (other : Variable) (v : ℤ) (before now : List ℤ) → m < length xs → before ≡ values (map variable_of (take m xs)) t → v ≡ value_in t (variable_of (get_or xs m other)) → now ≡ before ++ v ∷ []
    → now ≡ values (map variable_of (take (m + 1) xs)) t
one_more t xs m other v before now there so_far is pushed =
    pushed ∙ ap (λ (vs : List ℤ). vs ++ v ∷ []) so_far ∙ ap (λ (z : ℤ). values (map variable_of (take m xs)) t ++ z ∷ []) is
    ∙ sym (ap (map (value_in t)) (map_more variable_of xs m other there) ∙ map-append (value_in t) (map variable_of (take m xs)) (variable_of (get_or xs m other) ∷ []))

pub value_of-requires : goal.value_of-requires
value_of-requires g c =
    let vs = map variable_of c.args.variables.now in
    let y = get_or c.args.variables.now c.loop-x.x-index (Place (record { 0 = 0 })) in
    let n : c.loop-x.x-index < length vs = omega (arith, c.loop-x-test.true, length-map c.args.variables.now variable_of) in
    let e = item_is c.args.variables.now c.loop-x.x-index y (any_default c.args.variables.now c.loop-x.x-index (Place (record { 0 = 0 })) y c.loop-x-test.true) in
    (omega arith, (c.requires.k, (c.requires.inside, (object_at c.args.first.now vs c.loop-x.x-index (variable_of y) c.requires.objects n e, fact_at (HasDimension g.row.K) vs c.loop-x.x-index (variable_of y) c.requires.dimensions n e))))

pub loop-x-preserved : goal.loop-x-preserved
loop-x-preserved g c = one_more c.args.t.now c.args.variables.now c.loop-x.x-index (Place (record { 0 = 0 })) _ c.loop-x.all.items c.push.new.self.items c.loop-x-test.true c.loop-x.invariant (to_z-of_z {w = w64} (record { sfits = c.value_of.type_inv }) ∙ c.value_of.ensures) c.in_ok-push.ensures.items
