use Rattle.std.proofs.Common.{◌<◌, length, sym, ◌∙◌, arith, refl}
use Rattle.geo_tokens.specs.declared.token.Sym.TheVariants as symbols
use Rattle.geo_tokens.specs.Words.{symbol}
use Rattle.geo_tokens.proofs.Followed.{one_shorter, one_more}
use Rattle.problem_data.specs.Marks.{int_firsts}
use Rattle.problem_data.specs.Grammar.{PiecesWords}
use Rattle.problem_data.specs.View.{pieces_view}
use Rattle.problem_syntax.specs.Reading.{pieces_at, each_pieces_at}
use Rattle.problem_syntax.proofs.Right.{pieces_good}
use Rattle.problem_syntax.proofs.pieces.each_pieces.Goals as goal

pub items-smaller : goal.items-smaller
items-smaller c =
    let lt : length c.in_ok-rest-2.rest.now < length c.items.rest.now = one_shorter (PiecesWords c.args.second) (pieces_at c.args.second) int_firsts (symbol symbols.Comma) (pieces_good c.args.second) refl
    pieces_view c.pieces-in-items.result c.items.read.items c.add-in-items.new.items.items c.items.rest.now c.in_ok-rest-2.rest c.in_ok-rest-2.ensures c.pieces-in-items.ensures in
    omega arith

pub items-preserved : goal.items-preserved
items-preserved c =
    one_more (PiecesWords c.args.second) (pieces_at c.args.second) int_firsts (symbol symbols.Comma) (pieces_good c.args.second) refl
    pieces_view c.pieces-in-items.result c.items.read.items c.add-in-items.new.items.items c.items.rest.now c.in_ok-rest-2.rest (each_pieces_at c.args.second c.args.tokens.now)
    (sym c.begins_int.ensures ∙ c.items-test.true) c.in_ok-rest-2.ensures c.pieces-in-items.ensures c.items.invariant
