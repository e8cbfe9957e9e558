use Rattle.std.proofs.Common.{◌-◌, arith}
use Rattle.zeta_model.specs.declared.Letter.TheVariants.{X, Y}
use Rattle.word_letters.proofs.Ends.{ends_with_y-last}
use Rattle.word_letters.proofs.word.Word.ends_with_y.Goals as goal

pub returns-in-X : goal.returns-in-X
returns-in-X c = ends_with_y-last (c.weight-weight.result - 1) c.args.self X (omega arith) c.in-X.ensures

pub returns-in-Y : goal.returns-in-Y
returns-in-Y c = ends_with_y-last (c.weight-weight.result - 1) c.args.self Y (omega arith) c.in-Y.ensures
