use Rattle.std.proofs.Common.{rules}
use Rattle.qt_canon.proofs.Twos.{greatest_twos_is}
use Rattle.qt_canon.proofs.search.greatest_twos.Goals as goal

pub returns-clause-few : goal.returns-clause-few
returns-clause-few c = (greatest_twos_is c.args.entries.now c.all_bits.result c.requires.some c.requires.within (search rules) c.all_bits.ensures).few

pub returns-clause-whole : goal.returns-clause-whole
returns-clause-whole c = (greatest_twos_is c.args.entries.now c.all_bits.result c.requires.some c.requires.within (search rules) c.all_bits.ensures).whole

pub returns-clause-greatest : goal.returns-clause-greatest
returns-clause-greatest c = (greatest_twos_is c.args.entries.now c.all_bits.result c.requires.some c.requires.within (search rules) c.all_bits.ensures).greatest
