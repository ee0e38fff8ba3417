use Rattle.std.proofs.Common.{sym, arith}
use Rattle.std.proofs.lemmas.Result.{err_from_is_err_and}
use Rattle.command_reply.proofs.TwoTexts.{cut-at}
use Rattle.command_reply.proofs.InDimension.{refused_first_in, refused_second_in}
use Rattle.command_reply.proofs.given.read_given_in.Goals as goal

pub returns-in_err-accepted : goal.returns-in_err-accepted
returns-in_err-accepted c =
    let first = c.split_at.result.0.now in
    let second = c.split_at.result.1.now in
    let cut = cut-at c.args.text.now first second c.first_text_end.result c.unwrap_or-end.result c.first_text_end.ensures.value c.unwrap_or-end.ensures c.split_at.ensures.front_len c.split_at.ensures.front c.split_at.ensures.back in
    let p = err_from_is_err_and c.from_residual.result c.from_residual.ensures.1 in
    rw (p.1, p.2) (refused_first_in c.args.d c.args.text.now first second cut _ c.in_err-accepted.ensures)

pub returns-then-dims-d : goal.returns-then-dims-d
returns-then-dims-d c =
    let first = c.split_at.result.0.now in
    let second = c.split_at.result.1.now in
    let cut = cut-at c.args.text.now first second c.first_text_end.result c.unwrap_or-end.result c.first_text_end.ensures.value c.unwrap_or-end.ensures c.split_at.ensures.front_len c.split_at.ensures.front c.split_at.ensures.back in
    (c.in_ok-accepted.accepted.problem, record { first = first; second = second; cut = cut; accepted = c.in_ok-accepted.ensures.accepted }, (let e = c.dims.ensures in let l = c.if-dims-d.true in omega (arith, e, l)))

pub returns-in_err-layout : goal.returns-in_err-layout
returns-in_err-layout c =
    let first = c.split_at.result.0.now in
    let second = c.split_at.result.1.now in
    let cut = cut-at c.args.text.now first second c.first_text_end.result c.unwrap_or-end.result c.first_text_end.ensures.value c.unwrap_or-end.ensures c.split_at.ensures.front_len c.split_at.ensures.front c.split_at.ensures.back in
    let p = err_from_is_err_and c.from_residual-in_err-layout.result c.from_residual-in_err-layout.ensures.1 in
    rw (p.1, p.2) (refused_second_in c.args.d c.args.text.now first second cut c.in_ok-accepted.accepted.problem _ _ c.in_ok-accepted.ensures.accepted (let e = c.dims.ensures in let l = c.if-dims-d.false in omega (arith, e, l)) (sym c.split_at.ensures.front_len) c.in_err-layout.ensures.answer)

pub returns : goal.returns
returns c =
    let first = c.split_at.result.0.now in
    let second = c.split_at.result.1.now in
    let cut = cut-at c.args.text.now first second c.first_text_end.result c.unwrap_or-end.result c.first_text_end.ensures.value c.unwrap_or-end.ensures c.split_at.ensures.front_len c.split_at.ensures.front c.split_at.ensures.back in
    (record { first = first; second = second; cut = cut; read = c.in_ok-accepted.ensures; spells = c.in_ok-layout.ensures.answer; tuple = c.in_ok-layout.ensures.tuple }, (let e = c.dims.ensures in let l = c.if-dims-d.false in omega (arith, e, l)))
