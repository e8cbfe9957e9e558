use Rattle.std.proofs.Common.{◌≡◌, ◌+◌, ◌/◌, length, sym, ◌∙◌, subst, ap, arith}
use Rattle.std.specs.Prelude.{Some, slice_get}
use Rattle.outside_io.specs.Causes.{Rose}
use Rattle.page_codec.specs.declared.page.Page.TheVariants.{Done}
use Rattle.file_model.specs.Resuming.{Differs}
use Rattle.table_build.specs.Inner.{AreFirstUpTo}
use Rattle.table_build.proofs.FinalSums.{last_stands}
use Rattle.table_build.proofs.BuildEndings.{rose_since}
use Rattle.table_build.proofs.Comparisons.{all_first, compare_on, past_last}
use Rattle.table_build.proofs.comparing.compare_pages.Goals as goal

pub returns-then-sealed-end-clause-first : goal.returns-then-sealed-end-clause-first
returns-then-sealed-end-clause-first g c = λ columns course all have first.
    all_first course.pages (1 + c.args.blocks + c.min.result) c.args.file.now (g.D.Disk.trace c.args.disk.now) c.requires.suits
    (c.in_default.ensures.first columns course all have first) (omega (arith, c.requires.sealed, c.min.ensures, c.if-sealed-end.true))

pub returns-in-Err-compare_last-clause-fault : goal.returns-in-Err-compare_last-clause-fault
returns-in-Err-compare_last-clause-fault g c = λ columns course all have first.
    let ring = c.args.ring.now in
    let blocks = c.args.blocks in
    let finals = c.args.finals.now.rows.rows in
    let told = g.D.Disk.trace c.args.disk.now in
    let mid = g.D.Disk.trace c.compare_finals.new.disk in
    let same : mid ≡ told = c.compare_finals.ensures.disk in
    let number = c.from.result + 1 + c.from-2.result in
    let there = last_stands (g.R.Ring.modulus ring) g.R.Ring.zero (g.R.Ring.has ring) (g.R.Ring.value ring) (g.met.R.Ring.has_zero ring)
    (g.met.R.Ring.value_zero ring) (g.met.R.Ring.value_injective ring) (g.met.R.Ring.value_below ring) course columns blocks
    c.args.kept.now.numbers.items c.args.kept.now.rows.items finals c.args.finals.now.uses.items told all have c.requires.rows in
    let last : 1 + blocks + (length finals + 63) / 64 ≡ number = omega (arith, c.from.ensures, c.from-2.ensures, c.len-count.ensures) in
    let at : slice_get course.pages number ≡ Some (Done c.len-count.result) =
    ap (slice_get course.pages) (sym last) ∙ there.0 ∙ ap (λ n. Some (Done n)) (sym c.len-count.ensures) in
    let is : 1 + blocks + c.min.result ≡ number = omega (arith, c.from.ensures, c.from-2.ensures, c.min.ensures, c.if-sealed-end.false) in
    let before = subst (AreFirstUpTo course.pages number) (sym same) (subst (λ n. AreFirstUpTo course.pages n told) is
    (c.in_default.ensures.first columns course all have first)) in
    let a = g.D.Disk.faults c.args.disk.now in
    let b = g.D.Disk.faults c.compare_finals.new.disk in
    let d = g.D.Disk.faults c.compare_last.new.disk in
    compare_on (Rose b d) (Rose a d) mid told (λ i sealed. Differs sealed course.pages i) c.in-Err-compare_last.fault
    (rose_since a b d c.compare_finals.ensures.faults) same (c.in-Err-compare_last.ensures.fault course.pages at before)

pub returns-then-sealed-end-2-clause-fault : goal.returns-then-sealed-end-2-clause-fault
returns-then-sealed-end-2-clause-fault g c = λ columns course all have first.
    let ring = c.args.ring.now in
    let blocks = c.args.blocks in
    let finals = c.args.finals.now.rows.rows in
    let told = g.D.Disk.trace c.args.disk.now in
    let mid = g.D.Disk.trace c.compare_finals.new.disk in
    let same : mid ≡ told = c.compare_finals.ensures.disk in
    let number = c.from.result + 1 + c.from-2.result in
    let there = last_stands (g.R.Ring.modulus ring) g.R.Ring.zero (g.R.Ring.has ring) (g.R.Ring.value ring) (g.met.R.Ring.has_zero ring)
    (g.met.R.Ring.value_zero ring) (g.met.R.Ring.value_injective ring) (g.met.R.Ring.value_below ring) course columns blocks
    c.args.kept.now.numbers.items c.args.kept.now.rows.items finals c.args.finals.now.uses.items told all have c.requires.rows in
    let last : 1 + blocks + (length finals + 63) / 64 ≡ number = omega (arith, c.from.ensures, c.from-2.ensures, c.len-count.ensures) in
    let at : slice_get course.pages number ≡ Some (Done c.len-count.result) =
    ap (slice_get course.pages) (sym last) ∙ there.0 ∙ ap (λ n. Some (Done n)) (sym c.len-count.ensures) in
    let is : 1 + blocks + c.min.result ≡ number = omega (arith, c.from.ensures, c.from-2.ensures, c.min.ensures, c.if-sealed-end.false) in
    let before = subst (AreFirstUpTo course.pages number) (sym same) (subst (λ n. AreFirstUpTo course.pages n told) is
    (c.in_default.ensures.first columns course all have first)) in
    let up_to = subst (AreFirstUpTo course.pages (1 + number)) same (c.in_default-compare_last.ensures.first course.pages at before) in
    let i = number + 1 in
    let e : 1 + number ≡ i = omega arith in
    past_last course.pages i c.args.file.now told c.requires.suits (subst (λ n. AreFirstUpTo course.pages n told) e up_to)
    (omega (arith, last, c.len-count.ensures, c.if-sealed-end-2.true, c.requires.sealed))
    (omega (arith, there.1, last))

pub returns-clause-first : goal.returns-clause-first
returns-clause-first g c = λ columns course all have first.
    let ring = c.args.ring.now in
    let blocks = c.args.blocks in
    let finals = c.args.finals.now.rows.rows in
    let told = g.D.Disk.trace c.args.disk.now in
    let mid = g.D.Disk.trace c.compare_finals.new.disk in
    let same : mid ≡ told = c.compare_finals.ensures.disk in
    let number = c.from.result + 1 + c.from-2.result in
    let there = last_stands (g.R.Ring.modulus ring) g.R.Ring.zero (g.R.Ring.has ring) (g.R.Ring.value ring) (g.met.R.Ring.has_zero ring)
    (g.met.R.Ring.value_zero ring) (g.met.R.Ring.value_injective ring) (g.met.R.Ring.value_below ring) course columns blocks
    c.args.kept.now.numbers.items c.args.kept.now.rows.items finals c.args.finals.now.uses.items told all have c.requires.rows in
    let last : 1 + blocks + (length finals + 63) / 64 ≡ number = omega (arith, c.from.ensures, c.from-2.ensures, c.len-count.ensures) in
    let at : slice_get course.pages number ≡ Some (Done c.len-count.result) =
    ap (slice_get course.pages) (sym last) ∙ there.0 ∙ ap (λ n. Some (Done n)) (sym c.len-count.ensures) in
    let is : 1 + blocks + c.min.result ≡ number = omega (arith, c.from.ensures, c.from-2.ensures, c.min.ensures, c.if-sealed-end.false) in
    let before = subst (AreFirstUpTo course.pages number) (sym same) (subst (λ n. AreFirstUpTo course.pages n told) is
    (c.in_default.ensures.first columns course all have first)) in
    all_first course.pages (1 + number) c.args.file.now told c.requires.suits
    (subst (AreFirstUpTo course.pages (1 + number)) same (c.in_default-compare_last.ensures.first course.pages at before))
    (omega (arith, last, c.len-count.ensures, c.if-sealed-end.false, c.if-sealed-end-2.false, c.requires.sealed))
