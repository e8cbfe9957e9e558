use Rattle.std.proofs.Common.{◌∙◌, arith}
use Rattle.share_merge.specs.Turns.{turns_of}
use Rattle.share_merge.proofs.RowPlaces.{turn_at, share_inside, row_inside, combination_is}
use Rattle.share_merge.proofs.expanding.combination_of.Goals as goal

pub offset_bounds-shares-place : goal.offset_bounds-shares-place
offset_bounds-shares-place g c =
    let list = c.args.shares.now in
    let at = turn_at g.R.Ring.modulus g.R.Ring.has g.R.Ring.value list (turns_of list) c.args.places.now c.requires.places c.args.t
    (record { share = 0; row = 0 }) c.requires.inside in
    omega (arith, share_inside g.R.Ring.modulus g.R.Ring.has g.R.Ring.value list c.args.t _ at)

pub bounds-shares-place : goal.bounds-shares-place
bounds-shares-place g c =
    let list = c.args.shares.now in
    let at = turn_at g.R.Ring.modulus g.R.Ring.has g.R.Ring.value list (turns_of list) c.args.places.now c.requires.places c.args.t
    (record { share = 0; row = 0 }) c.requires.inside in
    share_inside g.R.Ring.modulus g.R.Ring.has g.R.Ring.value list c.args.t _ at

pub combination-requires : goal.combination-requires
combination-requires g c =
    let list = c.args.shares.now in
    let at = turn_at g.R.Ring.modulus g.R.Ring.has g.R.Ring.value list (turns_of list) c.args.places.now c.requires.places c.args.t
    (record { share = 0; row = 0 }) c.requires.inside in
    row_inside g.R.Ring.modulus g.R.Ring.has g.R.Ring.value list c.args.t _ at c.index-shares-place.result c.index-shares-place.is

pub returns : goal.returns
returns g c =
    let list = c.args.shares.now in
    let at = turn_at g.R.Ring.modulus g.R.Ring.has g.R.Ring.value list (turns_of list) c.args.places.now c.requires.places c.args.t
    (record { share = 0; row = 0 }) c.requires.inside in
    c.combination.ensures.combination
    ∙ combination_is g.R.Ring.modulus g.R.Ring.has g.R.Ring.value list c.args.t _ at c.index-shares-place.result c.index-shares-place.is
