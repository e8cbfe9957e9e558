use Rattle.std.proofs.Common.{sym, subst}
use Rattle.std.specs.Prelude.{◌↔◌, IsTrue}
use Rattle.table_build.specs.Inner.{Stands}
use Rattle.table_build.proofs.Restorings.{found_stands}
use Rattle.table_build.proofs.restoring.stands.Goals as goal

pub returns : goal.returns
returns c =
    subst (λ b. IsTrue b ↔ Stands c.args.numbers.now c.args.number) (sym c.is_ok.ensures.value)
    (found_stands c.args.numbers.now c.args.number c.binary_search.result c.requires.rising c.binary_search.ensures.position)
