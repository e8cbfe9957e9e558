use Rattle.std.proofs.Common.{[], subst, arith}
use Rattle.std.proofs.lemmas.Option.{get_or_from_slice_get}
use Rattle.word_sums.specs.Sums.{IsSumOf}
use Rattle.table_model.specs.MonomialWords.{words_of_row}
use Rattle.lyndon_polys.specs.Tables.{entries_of}
use Rattle.lyndon_polys.proofs.Converting.{Converting-next, Converting-end}
use Rattle.lyndon_polys.proofs.lyndon_table.LyndonTable.to_words.Goals as goal

pub loop-entry-preserved : goal.loop-entry-preserved
loop-entry-preserved g c =
    let t = c.self.inside in
    let m = g.R.Ring.modulus t.ring in
    let added = c.in_ok-add_multiple.ensures in
    Converting-next g.R.Ring.zero (g.R.Ring.has t.ring) (g.R.Ring.value t.ring) m t.columns c.entries-rest.result.now c.loop-entry.sum
    c.loop-entry.rest.now c.in-Some.behind.now c.in-Some.entry.now c.in-Some.ensures.cases.0 c.loop-entry.invariant c.at.result.now
    c.in_ok-words.words c.add_multiple.new.sum
    (get_or_from_slice_get t.columns.list c.in-Some.entry.now.0 c.at.result.now [] c.at.ensures.at)
    c.in_ok-words.ensures c.add_multiple.ensures.sum added.ok

pub returns : goal.returns
returns g c = record {
  value =
      let t = c.self.inside in
      subst (λ v. IsSumOf g.R.Ring.zero (g.R.Ring.has v.ring) (g.R.Ring.value v.ring) (g.R.Ring.modulus v.ring)
      (words_of_row v.columns.list (entries_of (g.R.Ring.value v.ring) c.args.row.now)) c.loop-entry.sum) c.self.view_is
      (subst (λ es. IsSumOf g.R.Ring.zero (g.R.Ring.has t.ring) (g.R.Ring.value t.ring) (g.R.Ring.modulus t.ring)
      (words_of_row t.columns.list (entries_of (g.R.Ring.value t.ring) es)) c.loop-entry.sum) c.entries-rest.ensures.entries
      (Converting-end g.R.Ring.zero (g.R.Ring.has t.ring) (g.R.Ring.value t.ring) (g.R.Ring.modulus t.ring) t.columns c.entries-rest.result.now
      c.loop-entry.sum c.loop-entry.rest.now (omega (arith, g.met.R.Ring.modulus_from t.ring)) (g.met.R.Ring.value_below t.ring)
      c.in_default.ensures.cases c.loop-entry.invariant));
}
