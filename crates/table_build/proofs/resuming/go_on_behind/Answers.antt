use Rattle.std.proofs.Common.{◌≡◌, ◌+◌, length, refl, sym, ◌∙◌, ap, subst, arith}
use Rattle.std.specs.Prelude.{None}
use Rattle.outside_io.specs.Causes.{Rose}
use Rattle.page_codec.specs.Places.{block_count}
use Rattle.table_model.specs.ListedSpan.{count_of}
use Rattle.file_model.specs.Resuming.{Differs}
use Rattle.table_build.specs.Inner.{AreFinals, HaveFinals, HasFinished, Holds, IfSealed, IsEnd, Keeps}
use Rattle.table_build.proofs.Beginnings.{first_keeps_behind, first_holds_behind}
use Rattle.table_build.proofs.BlockWork.{rows_few}
use Rattle.table_build.proofs.BuildEndings.{rose_since}
use Rattle.table_build.proofs.Comparisons.{forward_up_to, gone_cause, left_cause}
use Rattle.table_build.proofs.Keepings.{keeps_same, keeps_then, keeps_untold}
use Rattle.table_build.proofs.NamedValues.{count_is}
use Rattle.table_build.proofs.WorkSteps.{have_there, end_of}
use Rattle.table_build.proofs.resuming.go_on_behind.Goals as goal

pub compare_pages-requires-clause-few_rows : goal.compare_pages-requires-clause-few_rows
compare_pages-requires-clause-few_rows g c =
    let o = c.args.offering.now in
    let can = c.requires.can in
    let r = o.echelon.ring in
    let few = rows_few (g.R.Ring.modulus r) (g.R.Ring.has r) (g.R.Ring.value r) g.R.Ring.zero o.echelon.columns c.in-Ok.finals.rows.rows c.in-Ok.ensures.ok in
    omega (arith, few, can.columns, can.few)

pub seal_finals-requires-clause-few_rows : goal.seal_finals-requires-clause-few_rows
seal_finals-requires-clause-few_rows g c =
    let o = c.args.offering.now in
    let can = c.requires.can in
    let r = o.echelon.ring in
    let few = rows_few (g.R.Ring.modulus r) (g.R.Ring.has r) (g.R.Ring.value r) g.R.Ring.zero o.echelon.columns c.in-Ok.finals.rows.rows c.in-Ok.ensures.ok in
    omega (arith, few, can.columns, can.few)

pub returns-in-Err-clause-keeps : goal.returns-in-Err-clause-keeps
returns-in-Err-clause-keeps g c = λ course offered upto.
    let old = g.D.Disk.trace c.args.disk.now in
    keeps_same course.pages (1 + c.args.blocks + c.args.sealed) old old refl

pub returns-in-Err-compare_pages-clause-keeps : goal.returns-in-Err-compare_pages-clause-keeps
returns-in-Err-compare_pages-clause-keeps g c = λ course offered upto.
    keeps_same course.pages (1 + c.args.blocks + c.args.sealed) (g.D.Disk.trace c.args.disk.now) (g.D.Disk.trace c.compare_pages.new.disk)
    c.compare_pages.ensures.disk

pub returns-in-Err-compare_pages-clause-fault : goal.returns-in-Err-compare_pages-clause-fault
returns-in-Err-compare_pages-clause-fault g c = λ course offered upto.
    let o = c.args.offering.now in
    let t = o.table in
    let kept = c.args.kept.now in
    let blocks = c.args.blocks in
    let k = 1 + blocks + c.args.sealed in
    let finals = c.in-Ok.finals.rows.rows in
    let uses = c.in-Ok.finals.uses.items in
    let found = c.in-Ok.ensures in
    let can = c.requires.can in
    let old = g.D.Disk.trace c.args.disk.now in
    let all : blocks ≡ block_count (count_of t.columns) = c.requires.all ∙ ap (λ x. block_count x) (count_is o.names.items t.columns can.names_are) in
    let have : HaveFinals (g.R.Ring.modulus c.ring-ring.result.now) (g.R.Ring.value c.ring-ring.result.now) t.columns course blocks kept.numbers.items
    kept.rows.items
    finals uses old =
    have_there g.R.Ring.modulus g.R.Ring.has g.R.Ring.value t.ring o.echelon.ring c.ring-ring.result.now t.columns course blocks kept.numbers.items
    o.echelon.numbers kept.rows.items o.echelon.rows finals uses old can.ring c.ring-ring.ensures c.requires.numbers c.requires.same_rows
    found.ok.reduced found.span found.uses offered (forward_up_to course.pages blocks old upto) in
    gone_cause (Rose (g.D.Disk.faults c.args.disk.now) (g.D.Disk.faults c.compare_pages.new.disk)) (old ≡ None)
    (λ i. IfSealed (λ sealed. Differs sealed course.pages i) old) old (g.D.Disk.trace c.compare_pages.new.disk) c.in-Err-compare_pages.fault
    c.compare_pages.ensures.disk (c.in-Err-compare_pages.ensures.fault t.columns course all have upto)

pub returns-in-Err-renew-clause-keeps : goal.returns-in-Err-renew-clause-keeps
returns-in-Err-renew-clause-keeps g c = λ course offered upto.
    let o = c.args.offering.now in
    let t = o.table in
    let kept = c.args.kept.now in
    let blocks = c.args.blocks in
    let k = 1 + blocks + c.args.sealed in
    let finals = c.in-Ok.finals.rows.rows in
    let uses = c.in-Ok.finals.uses.items in
    let found = c.in-Ok.ensures in
    let can = c.requires.can in
    let old = g.D.Disk.trace c.args.disk.now in
    let all : blocks ≡ block_count (count_of t.columns) = c.requires.all ∙ ap (λ x. block_count x) (count_is o.names.items t.columns can.names_are) in
    let have : HaveFinals (g.R.Ring.modulus c.ring-ring.result.now) (g.R.Ring.value c.ring-ring.result.now) t.columns course blocks kept.numbers.items
    kept.rows.items
    finals uses old =
    have_there g.R.Ring.modulus g.R.Ring.has g.R.Ring.value t.ring o.echelon.ring c.ring-ring.result.now t.columns course blocks kept.numbers.items
    o.echelon.numbers kept.rows.items o.echelon.rows finals uses old can.ring c.ring-ring.ensures c.requires.numbers c.requires.same_rows
    found.ok.reduced found.span found.uses offered (forward_up_to course.pages blocks old upto) in
    let mid = g.D.Disk.trace c.compare_pages.new.disk in
    let ready = g.D.Disk.trace c.renew.new.disk in
    let same : mid ≡ old = c.compare_pages.ensures.disk in
    let first = c.in_default.ensures.first t.columns course all have upto in
    let renewed : Keeps course.pages k old ready = subst (λ n. Keeps course.pages n old ready) c.requires.sealed
    (first_keeps_behind course.pages c.args.file.now old mid ready same c.requires.suits first c.renew.ensures.moments) in
    renewed

pub returns-clause-keeps : goal.returns-clause-keeps
returns-clause-keeps g c = λ course offered upto.
    let o = c.args.offering.now in
    let t = o.table in
    let kept = c.args.kept.now in
    let blocks = c.args.blocks in
    let k = 1 + blocks + c.args.sealed in
    let finals = c.in-Ok.finals.rows.rows in
    let uses = c.in-Ok.finals.uses.items in
    let found = c.in-Ok.ensures in
    let can = c.requires.can in
    let old = g.D.Disk.trace c.args.disk.now in
    let all : blocks ≡ block_count (count_of t.columns) = c.requires.all ∙ ap (λ x. block_count x) (count_is o.names.items t.columns can.names_are) in
    let have : HaveFinals (g.R.Ring.modulus c.ring-ring.result.now) (g.R.Ring.value c.ring-ring.result.now) t.columns course blocks kept.numbers.items
    kept.rows.items
    finals uses old =
    have_there g.R.Ring.modulus g.R.Ring.has g.R.Ring.value t.ring o.echelon.ring c.ring-ring.result.now t.columns course blocks kept.numbers.items
    o.echelon.numbers kept.rows.items o.echelon.rows finals uses old can.ring c.ring-ring.ensures c.requires.numbers c.requires.same_rows
    found.ok.reduced found.span found.uses offered (forward_up_to course.pages blocks old upto) in
    let mid = g.D.Disk.trace c.compare_pages.new.disk in
    let ready = g.D.Disk.trace c.renew.new.disk in
    let same : mid ≡ old = c.compare_pages.ensures.disk in
    let first = c.in_default.ensures.first t.columns course all have upto in
    let renewed : Keeps course.pages k old ready = subst (λ n. Keeps course.pages n old ready) c.requires.sealed
    (first_keeps_behind course.pages c.args.file.now old mid ready same c.requires.suits first c.renew.ensures.moments) in
    let now = g.D.Disk.trace c.seal_finals.new.disk in
    let are : AreFinals (g.R.Ring.modulus c.ring-ring.result.now) (g.R.Ring.value c.ring-ring.result.now) t.columns course k kept.numbers.items
    kept.rows.items finals uses
    ready = record {
      holds = subst (λ n. Holds course.pages n ready) c.requires.sealed
          (first_holds_behind course.pages c.args.file.now old mid ready same c.requires.suits first c.in_default-renew.ensures.left);
      finished = have.finished;
      made = have.made;
    } in
    keeps_then course.pages k k old ready now (omega arith) renewed (c.seal_finals.ensures.keeps t.columns course all are)

pub returns-clause-fault : goal.returns-clause-fault
returns-clause-fault g c = λ course offered upto.
    let o = c.args.offering.now in
    let t = o.table in
    let kept = c.args.kept.now in
    let blocks = c.args.blocks in
    let k = 1 + blocks + c.args.sealed in
    let finals = c.in-Ok.finals.rows.rows in
    let uses = c.in-Ok.finals.uses.items in
    let found = c.in-Ok.ensures in
    let can = c.requires.can in
    let old = g.D.Disk.trace c.args.disk.now in
    let all : blocks ≡ block_count (count_of t.columns) = c.requires.all ∙ ap (λ x. block_count x) (count_is o.names.items t.columns can.names_are) in
    let have : HaveFinals (g.R.Ring.modulus c.ring-ring.result.now) (g.R.Ring.value c.ring-ring.result.now) t.columns course blocks kept.numbers.items
    kept.rows.items
    finals uses old =
    have_there g.R.Ring.modulus g.R.Ring.has g.R.Ring.value t.ring o.echelon.ring c.ring-ring.result.now t.columns course blocks kept.numbers.items
    o.echelon.numbers kept.rows.items o.echelon.rows finals uses old can.ring c.ring-ring.ensures c.requires.numbers c.requires.same_rows
    found.ok.reduced found.span found.uses offered (forward_up_to course.pages blocks old upto) in
    let mid = g.D.Disk.trace c.compare_pages.new.disk in
    let ready = g.D.Disk.trace c.renew.new.disk in
    let same : mid ≡ old = c.compare_pages.ensures.disk in
    let first = c.in_default.ensures.first t.columns course all have upto in
    let renewed : Keeps course.pages k old ready = subst (λ n. Keeps course.pages n old ready) c.requires.sealed
    (first_keeps_behind course.pages c.args.file.now old mid ready same c.requires.suits first c.renew.ensures.moments) in
    let now = g.D.Disk.trace c.seal_finals.new.disk in
    let are : AreFinals (g.R.Ring.modulus c.ring-ring.result.now) (g.R.Ring.value c.ring-ring.result.now) t.columns course k kept.numbers.items
    kept.rows.items finals uses
    ready = record {
      holds = subst (λ n. Holds course.pages n ready) c.requires.sealed
          (first_holds_behind course.pages c.args.file.now old mid ready same c.requires.suits first c.in_default-renew.ensures.left);
      finished = have.finished;
      made = have.made;
    } in
    let a = g.D.Disk.faults c.args.disk.now in
    let b = g.D.Disk.faults c.renew.new.disk in
    let d = g.D.Disk.faults c.seal_finals.new.disk in
    left_cause (Rose b d) (Rose a d) (λ i sealed. Differs sealed course.pages i) old ready now c.in-Err-seal_finals.fault
    (rose_since a b d (omega (arith, c.compare_pages.ensures.faults, c.renew.ensures.cause.later))) (keeps_untold course.pages k old ready renewed)
    c.seal_finals.ensures.untold (c.in-Err-seal_finals.ensures.fault t.columns course all are)

pub returns-in-Ok-seal_finals-clause-figures : goal.returns-in-Ok-seal_finals-clause-figures
returns-in-Ok-seal_finals-clause-figures g c =
    let can = c.requires.can in
    (omega (arith, c.len.ensures, count_is c.args.offering.now.names.items c.args.offering.now.table.columns can.names_are), refl)

pub returns-in-Ok-seal_finals-clause-keeps : goal.returns-in-Ok-seal_finals-clause-keeps
returns-in-Ok-seal_finals-clause-keeps g c = λ course offered upto.
    let o = c.args.offering.now in
    let t = o.table in
    let kept = c.args.kept.now in
    let blocks = c.args.blocks in
    let k = 1 + blocks + c.args.sealed in
    let finals = c.in-Ok.finals.rows.rows in
    let uses = c.in-Ok.finals.uses.items in
    let found = c.in-Ok.ensures in
    let can = c.requires.can in
    let old = g.D.Disk.trace c.args.disk.now in
    let all : blocks ≡ block_count (count_of t.columns) = c.requires.all ∙ ap (λ x. block_count x) (count_is o.names.items t.columns can.names_are) in
    let have : HaveFinals (g.R.Ring.modulus c.ring-ring.result.now) (g.R.Ring.value c.ring-ring.result.now) t.columns course blocks kept.numbers.items
    kept.rows.items
    finals uses old =
    have_there g.R.Ring.modulus g.R.Ring.has g.R.Ring.value t.ring o.echelon.ring c.ring-ring.result.now t.columns course blocks kept.numbers.items
    o.echelon.numbers kept.rows.items o.echelon.rows finals uses old can.ring c.ring-ring.ensures c.requires.numbers c.requires.same_rows
    found.ok.reduced found.span found.uses offered (forward_up_to course.pages blocks old upto) in
    let mid = g.D.Disk.trace c.compare_pages.new.disk in
    let ready = g.D.Disk.trace c.renew.new.disk in
    let same : mid ≡ old = c.compare_pages.ensures.disk in
    let first = c.in_default.ensures.first t.columns course all have upto in
    let renewed : Keeps course.pages k old ready = subst (λ n. Keeps course.pages n old ready) c.requires.sealed
    (first_keeps_behind course.pages c.args.file.now old mid ready same c.requires.suits first c.renew.ensures.moments) in
    let now = g.D.Disk.trace c.seal_finals.new.disk in
    let are : AreFinals (g.R.Ring.modulus c.ring-ring.result.now) (g.R.Ring.value c.ring-ring.result.now) t.columns course k kept.numbers.items
    kept.rows.items finals uses
    ready = record {
      holds = subst (λ n. Holds course.pages n ready) c.requires.sealed
          (first_holds_behind course.pages c.args.file.now old mid ready same c.requires.suits first c.in_default-renew.ensures.left);
      finished = have.finished;
      made = have.made;
    } in
    keeps_then course.pages k k old ready now (omega arith) renewed (c.seal_finals.ensures.keeps t.columns course all are)

pub returns-in-Ok-seal_finals-clause-first : goal.returns-in-Ok-seal_finals-clause-first
returns-in-Ok-seal_finals-clause-first g c = λ course offered upto.
    let o = c.args.offering.now in
    let t = o.table in
    let kept = c.args.kept.now in
    let blocks = c.args.blocks in
    let k = 1 + blocks + c.args.sealed in
    let finals = c.in-Ok.finals.rows.rows in
    let uses = c.in-Ok.finals.uses.items in
    let found = c.in-Ok.ensures in
    let can = c.requires.can in
    let old = g.D.Disk.trace c.args.disk.now in
    let all : blocks ≡ block_count (count_of t.columns) = c.requires.all ∙ ap (λ x. block_count x) (count_is o.names.items t.columns can.names_are) in
    let have : HaveFinals (g.R.Ring.modulus c.ring-ring.result.now) (g.R.Ring.value c.ring-ring.result.now) t.columns course blocks kept.numbers.items
    kept.rows.items
    finals uses old =
    have_there g.R.Ring.modulus g.R.Ring.has g.R.Ring.value t.ring o.echelon.ring c.ring-ring.result.now t.columns course blocks kept.numbers.items
    o.echelon.numbers kept.rows.items o.echelon.rows finals uses old can.ring c.ring-ring.ensures c.requires.numbers c.requires.same_rows
    found.ok.reduced found.span found.uses offered (forward_up_to course.pages blocks old upto) in
    let mid = g.D.Disk.trace c.compare_pages.new.disk in
    let ready = g.D.Disk.trace c.renew.new.disk in
    let same : mid ≡ old = c.compare_pages.ensures.disk in
    let first = c.in_default.ensures.first t.columns course all have upto in
    let renewed : Keeps course.pages k old ready = subst (λ n. Keeps course.pages n old ready) c.requires.sealed
    (first_keeps_behind course.pages c.args.file.now old mid ready same c.requires.suits first c.renew.ensures.moments) in
    first

pub returns-in-Ok-seal_finals-clause-end : goal.returns-in-Ok-seal_finals-clause-end
returns-in-Ok-seal_finals-clause-end g c = λ course offered upto.
    let o = c.args.offering.now in
    let t = o.table in
    let kept = c.args.kept.now in
    let blocks = c.args.blocks in
    let k = 1 + blocks + c.args.sealed in
    let finals = c.in-Ok.finals.rows.rows in
    let uses = c.in-Ok.finals.uses.items in
    let found = c.in-Ok.ensures in
    let can = c.requires.can in
    let old = g.D.Disk.trace c.args.disk.now in
    let all : blocks ≡ block_count (count_of t.columns) = c.requires.all ∙ ap (λ x. block_count x) (count_is o.names.items t.columns can.names_are) in
    let have : HaveFinals (g.R.Ring.modulus c.ring-ring.result.now) (g.R.Ring.value c.ring-ring.result.now) t.columns course blocks kept.numbers.items
    kept.rows.items
    finals uses old =
    have_there g.R.Ring.modulus g.R.Ring.has g.R.Ring.value t.ring o.echelon.ring c.ring-ring.result.now t.columns course blocks kept.numbers.items
    o.echelon.numbers kept.rows.items o.echelon.rows finals uses old can.ring c.ring-ring.ensures c.requires.numbers c.requires.same_rows
    found.ok.reduced found.span found.uses offered (forward_up_to course.pages blocks old upto) in
    let mid = g.D.Disk.trace c.compare_pages.new.disk in
    let ready = g.D.Disk.trace c.renew.new.disk in
    let same : mid ≡ old = c.compare_pages.ensures.disk in
    let first = c.in_default.ensures.first t.columns course all have upto in
    let renewed : Keeps course.pages k old ready = subst (λ n. Keeps course.pages n old ready) c.requires.sealed
    (first_keeps_behind course.pages c.args.file.now old mid ready same c.requires.suits first c.renew.ensures.moments) in
    let now = g.D.Disk.trace c.seal_finals.new.disk in
    let are : AreFinals (g.R.Ring.modulus c.ring-ring.result.now) (g.R.Ring.value c.ring-ring.result.now) t.columns course k kept.numbers.items
    kept.rows.items finals uses
    ready = record {
      holds = subst (λ n. Holds course.pages n ready) c.requires.sealed
          (first_holds_behind course.pages c.args.file.now old mid ready same c.requires.suits first c.in_default-renew.ensures.left);
      finished = have.finished;
      made = have.made;
    } in
    let ring_is : c.ring-ring.result.now ≡ t.ring = c.ring-ring.ensures in
    let finished : HasFinished (g.R.Ring.modulus t.ring) (g.R.Ring.value t.ring) t.columns course kept.numbers.items kept.rows.items finals =
    subst (λ r. HasFinished (g.R.Ring.modulus r) (g.R.Ring.value r) t.columns course kept.numbers.items kept.rows.items finals) ring_is have.finished in
    let end : IsEnd (g.R.Ring.modulus t.ring) t.columns course (length finals) now =
    end_of (g.R.Ring.modulus t.ring) (g.R.Ring.value t.ring) t.columns course kept.numbers.items kept.rows.items finals now finished
    (c.in-Ok-seal_finals.ensures.holds t.columns course all are) in
    let rows : length finals ≡ c.len-in-Ok-seal_finals.result = sym c.len-in-Ok-seal_finals.ensures in
    let done = c.in-Ok-seal_finals.ensures.ready in
    (subst (λ n. IsEnd (g.R.Ring.modulus t.ring) t.columns course n now) rows end, omega (arith, done.count, c.count.ensures, end.pages, all))
