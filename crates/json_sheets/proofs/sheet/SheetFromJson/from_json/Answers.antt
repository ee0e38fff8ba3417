use Rattle.std.proofs.Common.{rules, map}
use Rattle.serde_json.specs.View.{view}
use Rattle.json_parts.proofs.Lists.{opened, behind}
use Rattle.json_sheets.specs.Sheet.{object_sheet, rule_sheet}
use Rattle.json_sheets.proofs.Members.{sheet_formed}
use Rattle.json_sheets.proofs.sheet.SheetFromJson.from_json.Goals as goal

pub returns-in_err-objects-clause-form : goal.returns-in_err-objects-clause-form
returns-in_err-objects-clause-form c = λ same x right e.
    let second = behind c.in_ok-version.ensures.ok (behind c.in_ok-dims.ensures.ok (opened c.in_ok-members.ensures.ok e)) in
    c.in_err-objects.ensures.form (search rules) x.objects _ right.objects (behind c.in_ok-macros.ensures.ok second)

pub returns-in_err-order-clause-form : goal.returns-in_err-order-clause-form
returns-in_err-order-clause-form c = λ same x right e.
    let second = behind c.in_ok-version.ensures.ok (behind c.in_ok-dims.ensures.ok (opened c.in_ok-members.ensures.ok e)) in
    let fourth = behind c.in_ok-objects.ensures.ok (behind c.in_ok-macros.ensures.ok second) in
    c.in_err-order.ensures.form (search rules) x.order _ right.order fourth

pub returns-in_err-rules-clause-form : goal.returns-in_err-rules-clause-form
returns-in_err-rules-clause-form c = λ same x right e.
    let second = behind c.in_ok-version.ensures.ok (behind c.in_ok-dims.ensures.ok (opened c.in_ok-members.ensures.ok e)) in
    let fourth = behind c.in_ok-objects.ensures.ok (behind c.in_ok-macros.ensures.ok second) in
    c.in_err-rules.ensures.form (search rules) x.rules _ right.rules (behind c.in_ok-order.ensures.ok fourth)

pub returns-in_err-shapes-clause-form : goal.returns-in_err-shapes-clause-form
returns-in_err-shapes-clause-form c = λ same x right e.
    let second = behind c.in_ok-version.ensures.ok (behind c.in_ok-dims.ensures.ok (opened c.in_ok-members.ensures.ok e)) in
    let fourth = behind c.in_ok-objects.ensures.ok (behind c.in_ok-macros.ensures.ok second) in
    let sixth = behind c.in_ok-rules.ensures.ok (behind c.in_ok-order.ensures.ok fourth) in
    c.in_err-shapes.ensures.form (search rules) x.shapes _ right.shapes sixth

pub returns-in_err-sides-clause-form : goal.returns-in_err-sides-clause-form
returns-in_err-sides-clause-form c = λ same x right e.
    let second = behind c.in_ok-version.ensures.ok (behind c.in_ok-dims.ensures.ok (opened c.in_ok-members.ensures.ok e)) in
    let fourth = behind c.in_ok-objects.ensures.ok (behind c.in_ok-macros.ensures.ok second) in
    let sixth = behind c.in_ok-rules.ensures.ok (behind c.in_ok-order.ensures.ok fourth) in
    c.in_err-sides.ensures.form (search rules) x.sides _ (λ k d l. tt) (behind c.in_ok-shapes.ensures.ok sixth)

pub returns-clause-ok : goal.returns-clause-ok
returns-clause-ok c =
    sheet_formed (view c.args.value.now) _ _ _ _ _ _ _ _ _ c.in_ok-dims.dims c.in_ok-version.version c.in_ok-macros.macros.items (map object_sheet c.in_ok-objects.objects.items) c.in_ok-order.order.items
    (map rule_sheet c.in_ok-rules.rules.items) c.in_ok-shapes.shapes.items c.in_ok-sides.sides.items c.in_ok-members.ensures.ok c.in_ok-dims.ensures.ok c.in_ok-version.ensures.ok c.in_ok-macros.ensures.ok
    c.in_ok-objects.ensures.ok c.in_ok-order.ensures.ok c.in_ok-rules.ensures.ok c.in_ok-shapes.ensures.ok c.in_ok-sides.ensures.ok c.in_ok-end.ensures.ok
