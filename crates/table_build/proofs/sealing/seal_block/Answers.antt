use Rattle.std.proofs.Common.{◌≡◌, ℕ, suc, ◌+◌, List, length, slice_get, sym, ◌∙◌, ap, subst, arith}
use Rattle.std.specs.Prelude.{IfSome, Some, None}
use Rattle.outside_io.specs.Causes.{Rose}
use Rattle.page_codec.specs.declared.page.Page.{Page}
use Rattle.page_codec.specs.Bounds.{IsPage}
use Rattle.page_file.specs.Files.{IsSealed}
use Rattle.table_build.specs.Inner.{IsReadyAt, IsPageOfRows, AllKept, Holds, Keeps}
use Rattle.table_build.proofs.Keepings.{keeps_same}
use Rattle.table_build.proofs.CauseSteps.{cause_more}
use Rattle.table_build.proofs.SealSteps.{keeps_next, holds_next, no_page_untold}
use Rattle.table_build.proofs.SealedSums.{AreCombined, next_told, kept_untold, all_pages}
use Rattle.table_build.proofs.sealing.seal_block.Goals as goal

pub returns-in-Err-clause-keeps : goal.returns-in-Err-clause-keeps
returns-in-Err-clause-keeps g c = λ columns course is.
    keeps_same course.pages (1 + c.args.number) (g.D.Disk.trace c.args.disk.now) (g.D.Disk.trace c.combinations_of-made.new.disk)
    c.combinations_of-made.ensures.disk

pub returns-in-Err-forward_page-clause-keeps : goal.returns-in-Err-forward_page-clause-keeps
returns-in-Err-forward_page-clause-keeps g c = λ columns course is.
    keeps_same course.pages (1 + c.args.number) (g.D.Disk.trace c.args.disk.now) (g.D.Disk.trace c.combinations_of-made.new.disk)
    c.combinations_of-made.ensures.disk

pub returns-in-Err-clause-fault : goal.returns-in-Err-clause-fault
returns-in-Err-clause-fault g c = λ columns course is.
    let ring = c.args.ring.now in
    let m = g.R.Ring.modulus ring in
    let has = g.R.Ring.has ring in
    let value = g.R.Ring.value ring in
    let number = c.args.number in
    let old = g.D.Disk.trace c.args.disk.now in
    let sealed = c.args.sealed.now in
    let kept = c.args.block.kept in
    let numbers = kept.numbers.items in
    let uses = c.args.block.uses.items in
    let starts = c.args.block.starts.items in
    let rose : Type 0 = Rose (g.D.Disk.faults c.args.disk.now) (g.D.Disk.faults c.combinations_of-made.new.disk) in
    cause_more rose (IfSome old (λ t. (pages : List Page) → IsSealed pages t.now.contents
    → ¬ (AllKept m g.R.Ring.zero value number sealed.numbers.items sealed.rows.items pages))) rose (old ≡ None) (λ _ _. ⊥) (λ _ _. ⊥) (λ r. r)
    (kept_untold m g.R.Ring.zero has value (g.met.R.Ring.has_zero ring) (g.met.R.Ring.value_zero ring) (g.met.R.Ring.value_injective ring)
    (g.met.R.Ring.value_below ring) course columns number sealed.numbers.items sealed.rows.items numbers kept.rows.items uses starts old is
    c.requires.sealed_rows old is.holds)
    (λ _ _ never. never) c.in-Err.fault c.in-Err.ensures.fault

pub returns-in-Err-seal-clause-keeps : goal.returns-in-Err-seal-clause-keeps
returns-in-Err-seal-clause-keeps g c = λ columns course is.
    let ring = c.args.ring.now in
    let m = g.R.Ring.modulus ring in
    let has = g.R.Ring.has ring in
    let value = g.R.Ring.value ring in
    let number = c.args.number in
    let old = g.D.Disk.trace c.args.disk.now in
    let sealed = c.args.sealed.now in
    let kept = c.args.block.kept in
    let numbers = kept.numbers.items in
    let uses = c.args.block.uses.items in
    let starts = c.args.block.starts.items in
    let mid = g.D.Disk.trace c.combinations_of-made.new.disk in
    let now = g.D.Disk.trace c.seal.new.disk in
    let made = c.in-Ok.combinations.items in
    let page = c.in-Ok-forward_page.page in
    let same : mid ≡ old = c.combinations_of-made.ensures.disk in
    let combined : IfSome old (λ t. (pages : List Page) → IsSealed pages t.now.contents
    → AreCombined m value sealed.numbers.items numbers uses starts made pages) =
    subst (λ (us : List (List (ℕ × g.row.R-Elem.Denot))). IfSome old (λ t. (pages : List Page) → IsSealed pages t.now.contents
    → AreCombined m value sealed.numbers.items numbers us starts made pages)) c.deref-2.ensures.value
    (subst (λ ns. IfSome old (λ t. (pages : List Page) → IsSealed pages t.now.contents
    → AreCombined m value sealed.numbers.items ns c.deref-2.result.now starts made pages)) c.deref.ensures.value c.in-Ok.ensures.told) in
    let count : length made ≡ length numbers = c.in-Ok.ensures.count ∙ ap length c.deref.ensures.value in
    let page_is : IsPageOfRows g.R.Ring.zero value number numbers kept.rows.items made page =
    subst (λ (cs : List (List (ℕ × g.row.R-Elem.Denot))). IsPageOfRows g.R.Ring.zero value number numbers kept.rows.items cs page) c.deref-3.ensures.value
    c.in-Ok-forward_page.ensures in
    let next : IfSome mid (λ t. slice_get course.pages (1 + number) ≡ Some page) = subst
    (λ o. IfSome o (λ t. slice_get course.pages (1 + number) ≡ Some page)) (sym same)
    (next_told m g.R.Ring.zero has value (g.met.R.Ring.has_zero ring) (g.met.R.Ring.value_zero ring) (g.met.R.Ring.value_injective ring)
    (g.met.R.Ring.value_below ring) course columns number sealed.numbers.items sealed.rows.items numbers kept.rows.items uses starts old is
    c.requires.sealed_rows made page
    c.requires.rows c.requires.behind c.requires.sums c.in-Ok.ensures.in_ring count page_is old is.holds combined) in
    let held : Holds course.pages (1 + number) mid = subst (Holds course.pages (1 + number)) (sym same) is.holds in
    subst (λ o. Keeps course.pages (1 + number) o now) same (keeps_next course.pages (1 + number) page mid now c.seal.ensures.keeps held next)

pub returns-in-Ok-append-clause-keeps : goal.returns-in-Ok-append-clause-keeps
returns-in-Ok-append-clause-keeps g c = λ columns course is.
    let ring = c.args.ring.now in
    let m = g.R.Ring.modulus ring in
    let has = g.R.Ring.has ring in
    let value = g.R.Ring.value ring in
    let number = c.args.number in
    let old = g.D.Disk.trace c.args.disk.now in
    let sealed = c.args.sealed.now in
    let kept = c.args.block.kept in
    let numbers = kept.numbers.items in
    let uses = c.args.block.uses.items in
    let starts = c.args.block.starts.items in
    let mid = g.D.Disk.trace c.combinations_of-made.new.disk in
    let now = g.D.Disk.trace c.seal.new.disk in
    let made = c.in-Ok.combinations.items in
    let page = c.in-Ok-forward_page.page in
    let same : mid ≡ old = c.combinations_of-made.ensures.disk in
    let combined : IfSome old (λ t. (pages : List Page) → IsSealed pages t.now.contents
    → AreCombined m value sealed.numbers.items numbers uses starts made pages) =
    subst (λ (us : List (List (ℕ × g.row.R-Elem.Denot))). IfSome old (λ t. (pages : List Page) → IsSealed pages t.now.contents
    → AreCombined m value sealed.numbers.items numbers us starts made pages)) c.deref-2.ensures.value
    (subst (λ ns. IfSome old (λ t. (pages : List Page) → IsSealed pages t.now.contents
    → AreCombined m value sealed.numbers.items ns c.deref-2.result.now starts made pages)) c.deref.ensures.value c.in-Ok.ensures.told) in
    let count : length made ≡ length numbers = c.in-Ok.ensures.count ∙ ap length c.deref.ensures.value in
    let page_is : IsPageOfRows g.R.Ring.zero value number numbers kept.rows.items made page =
    subst (λ (cs : List (List (ℕ × g.row.R-Elem.Denot))). IsPageOfRows g.R.Ring.zero value number numbers kept.rows.items cs page) c.deref-3.ensures.value
    c.in-Ok-forward_page.ensures in
    let next : IfSome mid (λ t. slice_get course.pages (1 + number) ≡ Some page) = subst
    (λ o. IfSome o (λ t. slice_get course.pages (1 + number) ≡ Some page)) (sym same)
    (next_told m g.R.Ring.zero has value (g.met.R.Ring.has_zero ring) (g.met.R.Ring.value_zero ring) (g.met.R.Ring.value_injective ring)
    (g.met.R.Ring.value_below ring) course columns number sealed.numbers.items sealed.rows.items numbers kept.rows.items uses starts old is
    c.requires.sealed_rows made page
    c.requires.rows c.requires.behind c.requires.sums c.in-Ok.ensures.in_ring count page_is old is.holds combined) in
    let held : Holds course.pages (1 + number) mid = subst (Holds course.pages (1 + number)) (sym same) is.holds in
    subst (λ o. Keeps course.pages (1 + number) o now) same (keeps_next course.pages (1 + number) page mid now c.seal.ensures.keeps held next)

pub returns-clause-keeps : goal.returns-clause-keeps
returns-clause-keeps g c = λ columns course is.
    let ring = c.args.ring.now in
    let m = g.R.Ring.modulus ring in
    let has = g.R.Ring.has ring in
    let value = g.R.Ring.value ring in
    let number = c.args.number in
    let old = g.D.Disk.trace c.args.disk.now in
    let sealed = c.args.sealed.now in
    let kept = c.args.block.kept in
    let numbers = kept.numbers.items in
    let uses = c.args.block.uses.items in
    let starts = c.args.block.starts.items in
    let mid = g.D.Disk.trace c.combinations_of-made.new.disk in
    let now = g.D.Disk.trace c.seal.new.disk in
    let made = c.in-Ok.combinations.items in
    let page = c.in-Ok-forward_page.page in
    let same : mid ≡ old = c.combinations_of-made.ensures.disk in
    let combined : IfSome old (λ t. (pages : List Page) → IsSealed pages t.now.contents
    → AreCombined m value sealed.numbers.items numbers uses starts made pages) =
    subst (λ (us : List (List (ℕ × g.row.R-Elem.Denot))). IfSome old (λ t. (pages : List Page) → IsSealed pages t.now.contents
    → AreCombined m value sealed.numbers.items numbers us starts made pages)) c.deref-2.ensures.value
    (subst (λ ns. IfSome old (λ t. (pages : List Page) → IsSealed pages t.now.contents
    → AreCombined m value sealed.numbers.items ns c.deref-2.result.now starts made pages)) c.deref.ensures.value c.in-Ok.ensures.told) in
    let count : length made ≡ length numbers = c.in-Ok.ensures.count ∙ ap length c.deref.ensures.value in
    let page_is : IsPageOfRows g.R.Ring.zero value number numbers kept.rows.items made page =
    subst (λ (cs : List (List (ℕ × g.row.R-Elem.Denot))). IsPageOfRows g.R.Ring.zero value number numbers kept.rows.items cs page) c.deref-3.ensures.value
    c.in-Ok-forward_page.ensures in
    let next : IfSome mid (λ t. slice_get course.pages (1 + number) ≡ Some page) = subst
    (λ o. IfSome o (λ t. slice_get course.pages (1 + number) ≡ Some page)) (sym same)
    (next_told m g.R.Ring.zero has value (g.met.R.Ring.has_zero ring) (g.met.R.Ring.value_zero ring) (g.met.R.Ring.value_injective ring)
    (g.met.R.Ring.value_below ring) course columns number sealed.numbers.items sealed.rows.items numbers kept.rows.items uses starts old is
    c.requires.sealed_rows made page
    c.requires.rows c.requires.behind c.requires.sums c.in-Ok.ensures.in_ring count page_is old is.holds combined) in
    let held : Holds course.pages (1 + number) mid = subst (Holds course.pages (1 + number)) (sym same) is.holds in
    subst (λ o. Keeps course.pages (1 + number) o now) same (keeps_next course.pages (1 + number) page mid now c.seal.ensures.keeps held next)

pub returns-in-Err-seal-clause-fault : goal.returns-in-Err-seal-clause-fault
returns-in-Err-seal-clause-fault g c = λ columns course is.
    let ring = c.args.ring.now in
    let m = g.R.Ring.modulus ring in
    let has = g.R.Ring.has ring in
    let value = g.R.Ring.value ring in
    let number = c.args.number in
    let old = g.D.Disk.trace c.args.disk.now in
    let sealed = c.args.sealed.now in
    let kept = c.args.block.kept in
    let numbers = kept.numbers.items in
    let uses = c.args.block.uses.items in
    let starts = c.args.block.starts.items in
    let mid = g.D.Disk.trace c.combinations_of-made.new.disk in
    let now = g.D.Disk.trace c.seal.new.disk in
    let made = c.in-Ok.combinations.items in
    let page = c.in-Ok-forward_page.page in
    let same : mid ≡ old = c.combinations_of-made.ensures.disk in
    let combined : IfSome old (λ t. (pages : List Page) → IsSealed pages t.now.contents
    → AreCombined m value sealed.numbers.items numbers uses starts made pages) =
    subst (λ (us : List (List (ℕ × g.row.R-Elem.Denot))). IfSome old (λ t. (pages : List Page) → IsSealed pages t.now.contents
    → AreCombined m value sealed.numbers.items numbers us starts made pages)) c.deref-2.ensures.value
    (subst (λ ns. IfSome old (λ t. (pages : List Page) → IsSealed pages t.now.contents
    → AreCombined m value sealed.numbers.items ns c.deref-2.result.now starts made pages)) c.deref.ensures.value c.in-Ok.ensures.told) in
    let count : length made ≡ length numbers = c.in-Ok.ensures.count ∙ ap length c.deref.ensures.value in
    let page_is : IsPageOfRows g.R.Ring.zero value number numbers kept.rows.items made page =
    subst (λ (cs : List (List (ℕ × g.row.R-Elem.Denot))). IsPageOfRows g.R.Ring.zero value number numbers kept.rows.items cs page) c.deref-3.ensures.value
    c.in-Ok-forward_page.ensures in
    let next : IfSome mid (λ t. slice_get course.pages (1 + number) ≡ Some page) = subst
    (λ o. IfSome o (λ t. slice_get course.pages (1 + number) ≡ Some page)) (sym same)
    (next_told m g.R.Ring.zero has value (g.met.R.Ring.has_zero ring) (g.met.R.Ring.value_zero ring) (g.met.R.Ring.value_injective ring)
    (g.met.R.Ring.value_below ring) course columns number sealed.numbers.items sealed.rows.items numbers kept.rows.items uses starts old is
    c.requires.sealed_rows made page
    c.requires.rows c.requires.behind c.requires.sums c.in-Ok.ensures.in_ring count page_is old is.holds combined) in
    let held : Holds course.pages (1 + number) mid = subst (Holds course.pages (1 + number)) (sym same) is.holds in
    cause_more (Rose (g.D.Disk.faults c.combinations_of-made.new.disk) (g.D.Disk.faults c.seal.new.disk)) (¬ (IsPage page))
    (Rose (g.D.Disk.faults c.args.disk.now) (g.D.Disk.faults c.seal.new.disk)) (old ≡ None) (λ _ _. ⊥) (λ _ _. ⊥)
    (λ r. omega (arith, r, c.combinations_of-made.ensures.faults))
    (λ isnt. sym same ∙ no_page_untold course.pages (1 + number) page mid (all_pages m g.R.Ring.zero has value (g.met.R.Ring.has_zero ring)
    (g.met.R.Ring.value_zero ring) (g.met.R.Ring.value_injective ring)
    (g.met.R.Ring.value_below ring) course columns number sealed.numbers.items sealed.rows.items numbers kept.rows.items uses starts old is
    c.requires.sealed_rows) next isnt)
    (λ _ _ never. never) c.in-Err-seal.fault c.in-Err-seal.ensures.fault

pub returns-in-Ok-append-clause-ready : goal.returns-in-Ok-append-clause-ready
returns-in-Ok-append-clause-ready g c =
    let number = c.args.number in
    let file = c.combinations_of-made.new.file in
    let ready : IsReadyAt (1 + number) file = subst (IsReadyAt (1 + number)) (sym c.combinations_of-made.ensures.same) c.requires.ready in
    subst (λ k. IsReadyAt k c.seal.new.file) (let e : suc (1 + number) ≡ 2 + number = omega arith in e) (c.in_default.ensures.ready (1 + number) ready)

pub returns-in-Ok-append-clause-holds : goal.returns-in-Ok-append-clause-holds
returns-in-Ok-append-clause-holds g c = λ columns course is.
    let ring = c.args.ring.now in
    let m = g.R.Ring.modulus ring in
    let has = g.R.Ring.has ring in
    let value = g.R.Ring.value ring in
    let number = c.args.number in
    let old = g.D.Disk.trace c.args.disk.now in
    let sealed = c.args.sealed.now in
    let kept = c.args.block.kept in
    let numbers = kept.numbers.items in
    let uses = c.args.block.uses.items in
    let starts = c.args.block.starts.items in
    let mid = g.D.Disk.trace c.combinations_of-made.new.disk in
    let now = g.D.Disk.trace c.seal.new.disk in
    let made = c.in-Ok.combinations.items in
    let page = c.in-Ok-forward_page.page in
    let same : mid ≡ old = c.combinations_of-made.ensures.disk in
    let combined : IfSome old (λ t. (pages : List Page) → IsSealed pages t.now.contents
    → AreCombined m value sealed.numbers.items numbers uses starts made pages) =
    subst (λ (us : List (List (ℕ × g.row.R-Elem.Denot))). IfSome old (λ t. (pages : List Page) → IsSealed pages t.now.contents
    → AreCombined m value sealed.numbers.items numbers us starts made pages)) c.deref-2.ensures.value
    (subst (λ ns. IfSome old (λ t. (pages : List Page) → IsSealed pages t.now.contents
    → AreCombined m value sealed.numbers.items ns c.deref-2.result.now starts made pages)) c.deref.ensures.value c.in-Ok.ensures.told) in
    let count : length made ≡ length numbers = c.in-Ok.ensures.count ∙ ap length c.deref.ensures.value in
    let page_is : IsPageOfRows g.R.Ring.zero value number numbers kept.rows.items made page =
    subst (λ (cs : List (List (ℕ × g.row.R-Elem.Denot))). IsPageOfRows g.R.Ring.zero value number numbers kept.rows.items cs page) c.deref-3.ensures.value
    c.in-Ok-forward_page.ensures in
    let next : IfSome mid (λ t. slice_get course.pages (1 + number) ≡ Some page) = subst
    (λ o. IfSome o (λ t. slice_get course.pages (1 + number) ≡ Some page)) (sym same)
    (next_told m g.R.Ring.zero has value (g.met.R.Ring.has_zero ring) (g.met.R.Ring.value_zero ring) (g.met.R.Ring.value_injective ring)
    (g.met.R.Ring.value_below ring) course columns number sealed.numbers.items sealed.rows.items numbers kept.rows.items uses starts old is
    c.requires.sealed_rows made page
    c.requires.rows c.requires.behind c.requires.sums c.in-Ok.ensures.in_ring count page_is old is.holds combined) in
    let held : Holds course.pages (1 + number) mid = subst (Holds course.pages (1 + number)) (sym same) is.holds in
    subst (λ k. Holds course.pages k now) (let e : suc (1 + number) ≡ 2 + number = omega arith in e)
    (holds_next course.pages (1 + number) page mid now c.seal.ensures.keeps held c.in_default.ensures.holds next)
