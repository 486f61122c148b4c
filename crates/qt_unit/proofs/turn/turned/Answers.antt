use Rattle.qt_ring.specs.Wide.{number_of}
use Rattle.qt_ring.proofs.Coefficients.{turned_is}
use Rattle.qt_unit.proofs.Products.{word_negative}
use Rattle.qt_unit.proofs.Words.{word_is}
use Rattle.qt_unit.proofs.turn.turned.Goals as goal

pub returns-clause-value : goal.returns-clause-value
returns-clause-value c = turned_is (number_of c.args.x) _ (word_negative _ c.requires.c3_in) (word_is _ c.requires.c0_in) (word_is _ c.requires.c1_in) (word_is _ c.requires.c2_in)
