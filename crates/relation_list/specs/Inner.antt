-- What single steps of the code answer. No public clause cites these, so a reader need not believe them.
use Rattle.std.specs.Prelude.{ℕ, Bool, nat_le}
use Rattle.relation_list.specs.declared.names.Direct.{Direct}
use Rattle.relation_list.specs.declared.names.RelName.{RelName}
use Rattle.relation_list.specs.Names.{direct_depth_of, depth_of_name}

-- the direct name has the depth d at most
abbrev pub direct_within : ℕ → Direct → Bool
direct_within d r = nat_le (direct_depth_of r) d

-- the name has the depth d at most
abbrev pub name_within : ℕ → RelName → Bool
name_within d n = nat_le (depth_of_name n) d
