use Rattle.std.specs.Prelude.{None}
use Rattle.table_texts.proofs.ShownTexts.{preferred_end}
use Rattle.table_texts.proofs.texts.push_params.Goals as goal

pub push_preferred-requires : goal.push_preferred-requires
push_preferred-requires c =
    let params = c.args.params.now in
    let preferred = c.requires.preferred in
    preferred_end params.weight params.depth None params.preferred preferred.in_order
