use Rattle.geo_tokens.proofs.Spellings.{reserved}
use Rattle.geo_tokens.proofs.lookup.word_of_length.Goals as goal

pub returns-in-2 : goal.returns-in-2
returns-in-2 c = reserved 2 c.word_among.result c.args.bytes.now c.in-2.is c.word_among.ensures

pub returns-in-3 : goal.returns-in-3
returns-in-3 c = reserved 3 c.word_among-in-3.result c.args.bytes.now c.in-3.is c.word_among-in-3.ensures

pub returns-in-4 : goal.returns-in-4
returns-in-4 c = reserved 4 c.word_among-in-4.result c.args.bytes.now c.in-4.is c.word_among-in-4.ensures

pub returns-in-5 : goal.returns-in-5
returns-in-5 c = reserved 5 c.word_among-in-5.result c.args.bytes.now c.in-5.is c.word_among-in-5.ensures

pub returns-in-6 : goal.returns-in-6
returns-in-6 c = reserved 6 c.word_among-in-6.result c.args.bytes.now c.in-6.is c.word_among-in-6.ensures

pub returns-in-7 : goal.returns-in-7
returns-in-7 c = reserved 7 c.word_among-in-7.result c.args.bytes.now c.in-7.is c.word_among-in-7.ensures
