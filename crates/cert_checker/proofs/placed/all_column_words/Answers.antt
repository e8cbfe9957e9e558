use Rattle.std.proofs.Common.{[], sym, subst, arith}
use Rattle.std.proofs.lemmas.Option.{get_or_from_slice_get}
use Rattle.table_model.specs.MonomialWords.{words_of_monomial}
use Rattle.cert_checker.specs.Inner.{IsPlaced}
use Rattle.cert_checker.proofs.PlacingWords.{column_words-push}
use Rattle.cert_checker.proofs.placed.all_column_words.Goals as goal

pub loop-i-preserved : goal.loop-i-preserved
loop-i-preserved g c =
    let ring = c.args.ring.now in
    let columns = c.args.columns.now in
    let m = g.R.Ring.modulus ring in
    let here = get_or_from_slice_get columns.list c.loop-i.i c.at.result.now [] c.at.ensures.at in
    let of_column = subst (λ p. IsPlaced m (g.R.Ring.has ring) (g.R.Ring.value ring) columns (words_of_monomial p) c.in_ok-placed.field-0) (sym here)
    (c.in_ok-placed.ensures (words_of_monomial c.at.result.now) c.in_ok-sum.ensures) in
    record {
      count = omega (arith, c.in_ok-push.ensures.len, c.loop-i.invariant.count);
      each = column_words-push m (g.R.Ring.has ring) (g.R.Ring.value ring) columns c.loop-i.words.items c.loop-i.i c.in_ok-placed.field-0
          c.push.new.self.items c.loop-i.invariant.count c.loop-i.invariant.each of_column c.in_ok-push.ensures.items;
    }
