use Rattle.std.proofs.Common.{arith, ap}
use Rattle.relation_list.specs.Names.{depth_of_name}
use Rattle.relation_list.proofs.NameBounds.{depth_of_name-most}
use Rattle.relation_list.proofs.names.depth.Goals as goal

pub direct_depth-requires : goal.direct_depth-requires
direct_depth-requires c = omega (arith, depth_of_name-most c.args.name.now c.requires, ap depth_of_name c.in-Plain.is)

pub returns-in-Plain-clause-within : goal.returns-in-Plain-clause-within
returns-in-Plain-clause-within c = omega (arith, depth_of_name-most c.args.name.now c.requires, ap depth_of_name c.in-Plain.is)
