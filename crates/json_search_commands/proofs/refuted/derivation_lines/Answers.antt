use Rattle.std.proofs.Common.{vec_len}
use Rattle.json_search_commands.proofs.JsonLines.{ascii_left, lines_left}
use Rattle.json_search_commands.proofs.refuted.derivation_lines.Goals as goal

pub returns-clause-lines : goal.returns-clause-lines
returns-clause-lines c = lines_left c.args.names.now c.args.log.now.events c.in_ok-text.text.items (vec_len c.in_ok-text.text) c.pop-line_feed.new.self.items c.in_ok-text.ensures (search) c.pop-line_feed.ensures.rest

pub returns-clause-ascii : goal.returns-clause-ascii
returns-clause-ascii c =
    ascii_left c.args.names.now c.args.log.now.events c.in_ok-text.text.items (vec_len c.in_ok-text.text) c.pop-line_feed.new.self.items c.dims-dims.ensures.whole c.requires c.in_ok-text.ensures (search) c.pop-line_feed.ensures.rest
