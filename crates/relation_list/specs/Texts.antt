-- How names are printed: `Fin z(2) z(3)`, `Reg 1 z(2,1)`, `Dual z(3)`, `Prod [Dual z(3)] z(2)`.
use Rattle.std.specs.Prelude.{ℕ, List, ◌++◌, codes}
use Rattle.std.specs.Fmt.{decimal}
use Rattle.zeta_model.specs.Indices.{word_text}
use Rattle.relation_list.specs.declared.names.Direct.{Direct}
use Rattle.relation_list.specs.declared.names.Direct.TheVariants.{Fin, Reg, Dual}
use Rattle.relation_list.specs.declared.names.RelName.{RelName}
use Rattle.relation_list.specs.declared.names.RelName.TheVariants.{Plain, Prod}

abbrev pub direct_text_of : Direct → List ℕ
direct_text_of (Fin u v) = codes "Fin " ++ word_text u ++ codes " " ++ word_text v
direct_text_of (Reg m v) = codes "Reg " ++ decimal m ++ codes " " ++ word_text v
direct_text_of (Dual u) = codes "Dual " ++ word_text u

abbrev pub text_of : RelName → List ℕ
text_of (Plain r) = direct_text_of r
text_of (Prod r u) = codes "Prod [" ++ direct_text_of r ++ codes "] " ++ word_text u
