use Rattle.std.proofs.Common.{Err, length, ◌∙◌, ap, subst}
use Rattle.share_merge.specs.Turns.{turns_of, turn_words, share_count, IsLeastMissing}
use Rattle.table_model.specs.ReducedRows.{IsUnbroken}
use Rattle.share_merge.proofs.RowPlaces.{places_count}
use Rattle.share_merge.proofs.Exclusions.{one_missing, share_count_is, all_there, none_missing}
use Rattle.share_merge.specs.declared.fault.MergeFault.TheVariants.{MissingShare}
use Rattle.share_merge.proofs.merging.merge.Goals as goal

pub returns-in-Ok-finished-clause-whole : goal.returns-in-Ok-finished-clause-whole
returns-in-Ok-finished-clause-whole g c =
    let t = c.args.table.now in
    let list = c.args.shares.now in
    let count = places_count g.R.Ring.modulus g.R.Ring.has g.R.Ring.value list (turns_of list) c.in-Ok.places.items c.in-Ok.ensures.places in
    subst (IsUnbroken (g.R.Ring.modulus t.ring) t.columns (turn_words (g.R.Ring.value t.ring) t.columns list))
    (ap (λ ps. length ps) c.deref.ensures.value ∙ count) c.in-Ok-offered.ensures.ok.unbroken

pub returns-in-Some-clause-missing : goal.returns-in-Some-clause-missing
returns-in-Some-clause-missing g c index least =
    let list = c.args.shares.now in
    let x = c.index-shares-0.result in
    let of = ap (λ id. id.of) c.id.ensures ∙ share_count_is list x c.requires.some c.index-shares-0.is in
    ap (λ i. Err (MissingShare i))
    (one_missing (share_count list) c.in-Some.index index list (subst (λ n. IsLeastMissing n list c.in-Some.index) of c.in-Some.ensures.missing) least)

pub finished-requires-clause-all : goal.finished-requires-clause-all
finished-requires-clause-all g c =
    all_there c.args.shares.now c.index-shares-0.result c.id.result.of c.requires.some c.index-shares-0.is (ap (λ id. id.of) c.id.ensures)
    c.in_default.ensures.all

pub returns-in-Ok-finished-clause-all : goal.returns-in-Ok-finished-clause-all
returns-in-Ok-finished-clause-all g c =
    all_there c.args.shares.now c.index-shares-0.result c.id.result.of c.requires.some c.index-shares-0.is (ap (λ id. id.of) c.id.ensures)
    c.in_default.ensures.all

pub returns-in-Ok-finished-clause-missing : goal.returns-in-Ok-finished-clause-missing
returns-in-Ok-finished-clause-missing g c index least =
    let list = c.args.shares.now in
    absurd (none_missing (share_count list) index list (all_there list c.index-shares-0.result c.id.result.of c.requires.some c.index-shares-0.is
    (ap (λ id. id.of) c.id.ensures) c.in_default.ensures.all) least)

pub returns-in-Err-offered-clause-missing : goal.returns-in-Err-offered-clause-missing
returns-in-Err-offered-clause-missing g c index least =
    let list = c.args.shares.now in
    absurd (none_missing (share_count list) index list (all_there list c.index-shares-0.result c.id.result.of c.requires.some c.index-shares-0.is
    (ap (λ id. id.of) c.id.ensures) c.in_default.ensures.all) least)

pub returns-clause-missing : goal.returns-clause-missing
returns-clause-missing g c index least =
    let list = c.args.shares.now in
    absurd (none_missing (share_count list) index list (all_there list c.index-shares-0.result c.id.result.of c.requires.some c.index-shares-0.is
    (ap (λ id. id.of) c.id.ensures) c.in_default.ensures.all) least)
