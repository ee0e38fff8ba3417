use Rattle.std.proofs.Common.{◌≡◌, ◌++◌, List, length, map, sym, ap, ◌∙◌, subst, arith}
use Rattle.std.proofs.lemmas.List.{length-map, length-append}
use Rattle.indexical.specs.declared.any.AnyIndexical.{AnyIndexical}
use Rattle.geo_conditions.specs.declared.cond.Cond.{Cond}
use Rattle.derivation.specs.declared.renumbering.Renumbering.{Renumbering}
use Rattle.condition_parts.specs.Apart.{IsTakenApart, wholes_of}
use Rattle.condition_parts.proofs.Apart.{apart_all, back_all}
use Rattle.condition_parts.proofs.taken.take_apart.Goals as goal

pub returns-clause-apart : goal.returns-clause-apart
returns-clause-apart g c =
    let f = λ (x : AnyIndexical g.row.K). x.cond in
    let cs = map f c.args.list.items in
    let made = c.in_ok-fronts.field-0 in
    let r : Renumbering = record { same = c.len-count.result; others = made.numbers } in
    subst (λ (ps : List Cond). IsTakenApart cs ps r) (sym c.in_ok-list.ensures)
    (apart_all cs (map f made.fronts.items) (map f made.rest.items) made.wholes.items r c.in_ok-fronts.ensures.made (omega (arith, c.len-count.ensures, length-map c.args.list.items f)))

pub returns-clause-back : goal.returns-clause-back
returns-clause-back g c =
    let f = λ (x : AnyIndexical g.row.K). x.cond in
    let cs = map f c.args.list.items in
    let made = c.in_ok-fronts.field-0 in
    let r : Renumbering = record { same = c.len-count.result; others = made.numbers } in
    ap (wholes_of made.wholes.items) c.in_ok-list.ensures
    ∙ back_all cs (map f made.fronts.items) (map f made.rest.items) made.wholes.items r c.in_ok-fronts.ensures.made (omega (arith, c.len-count.ensures, length-map c.args.list.items f))

pub returns-clause-few : goal.returns-clause-few
returns-clause-few g c =
    let f = λ (x : AnyIndexical g.row.K). x.cond in
    let made = c.in_ok-fronts.field-0 in
    let all : length (map f c.in_ok-list.list.items) ≡ length (map f made.fronts.items ++ map f made.rest.items) = ap length c.in_ok-list.ensures in
    let long = c.in_ok-fronts.ensures.made.long in
    let a = length-map c.in_ok-list.list.items f in
    let b = length-append (map f made.fronts.items) (map f made.rest.items) in
    let d = length-map made.rest.items f in
    let e = length-map c.args.list.items f in
    let room = c.in_ok-fronts.ensures.room in
    omega (arith, all, long, a, b, d, e, room, c.len-count.ensures, c.requires)
