use Rattle.std.proofs.Common.{◌*◌}
use Rattle.std.proofs.Math.Nat.{add-mod-mod}
use Rattle.linear_model.proofs.combine.add_product.Goals as goal

pub returns : goal.returns
returns c = add-mod-mod c.args.sum (c.args.a * c.args.b) c.args.m
