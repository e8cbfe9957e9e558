use Rattle.std.proofs.Common.{◌≡◌, ℕ, ◌+◌, ◌-◌, ◌*◌, min, List, length, subst, arith}
use Rattle.std.specs.Prelude.{IfOk, Some, slice_get}
use Rattle.page_codec.specs.Places.{block_count}
use Rattle.table_model.specs.ListedSpan.{count_of}
use Rattle.relation_list.proofs.HeldWords.{after_ok}
use Rattle.table_build.specs.Inner.{IsPageOfFinals, between}
use Rattle.table_build.proofs.FinalPages.{group_page_stands}
use Rattle.table_build.proofs.groups.page_of_group.Goals as goal

pub returns : goal.returns
returns g c = record {
  page = λ columns course recorded.
      let ring = c.args.ring.now in
      let m = g.R.Ring.modulus ring in
      let has = g.R.Ring.has ring in
      let value = g.R.Ring.value ring in
      let place = c.args.place in
      let group = c.args.group.now in
      let finals = c.args.rows.now.rows in
      let made = group.combinations.items in
      let start = 64 * (place - group.first) in
      let stop_is : c.min-stop.result ≡ min (length made) (start + 64) = omega (arith, c.min-stop.ensures, c.len.ensures, group.combinations.ok.0) in
      let Is : List (List (ℕ × g.row.R-Elem.Denot)) → Type 0 = λ cs. IfOk c.final_page.result (IsPageOfFinals has g.R.Ring.zero value place finals cs) in
      let page_is : Is (between start (min (length made) (start + 64)) made) =
      subst (λ stop. Is (between start stop made)) stop_is
      (subst (λ (cs : List (List (ℕ × g.row.R-Elem.Denot))). Is (between start c.min-stop.result cs)) c.deref.ensures.value c.final_page.ensures) in
      after_ok (IsPageOfFinals has g.R.Ring.zero value place finals (between start (min (length made) (start + 64)) made))
      (λ page. slice_get course.pages (1 + block_count (count_of columns) + place) ≡ Some page)
      (λ page is. group_page_stands g.R.Ring.zero has value (g.met.R.Ring.has_zero ring) (g.met.R.Ring.value_zero ring) (g.met.R.Ring.value_injective ring)
      course columns group.first group.end finals made c.requires.group place c.requires.from c.requires.below m (g.met.R.Ring.value_below ring) recorded
      page is) c.final_page.result page_is;
}
