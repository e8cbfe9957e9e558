use Rattle.merge_program.proofs.Endings.{fault_has_text}
use Rattle.merge_program.proofs.share.share_over.Goals as goal

pub refuse_share-requires-clause-text : goal.refuse_share-requires-clause-text
refuse_share-requires-clause-text g c =
    let words = c.args.words.now in
    fault_has_text words.params words.id c.requires.range.params c.in-Err.fault c.in-Err.ensures.err
