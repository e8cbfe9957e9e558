use Rattle.std.proofs.Common.{◌≡◌, ◌+◌, ◌-◌, ◌/◌, ◌≤◌, length, sym, subst, arith}
use Rattle.std.specs.Prelude.{Option, Some, None}
use Rattle.outside_io.specs.Causes.{Rose}
use Rattle.outside_io.specs.Traces.{Trace}
use Rattle.page_codec.specs.Places.{block_count}
use Rattle.page_file.specs.Notes.{count_of as page_count}
use Rattle.table_model.specs.ListedSpan.{count_of}
use Rattle.file_model.specs.Resuming.{Differs}
use Rattle.table_build.specs.Answers.{figures_of}
use Rattle.table_build.specs.Inner.{Course, HasOffered, AreFirst, AreFirstUpTo, IfSealed, IsEnd, IsGoneFault, IsStarted, Keeps}
use Rattle.table_build.specs.Resumes.{Tells, fault_says, IsWorkedFault, IsRefusal}
use Rattle.table_build.proofs.Comparisons.{sealed_count}
use Rattle.table_build.proofs.NamedValues.{count_is}
use Rattle.table_build.proofs.ResumeEndings.{put_back}
use Rattle.table_build.proofs.ResumeClauses.{Back, the_course, in_front, behind, figure_front, figure_behind, resume_ends, resume_left, resume_moments, broken_ends, broken_leaves, broken_refused, differing_ends, differing_leaves, differing_refuses}
use Rattle.table_build.proofs.resuming.go_on_from_rows.Goals as goal

pub returns-in-Ok-clause-ends : goal.returns-in-Ok-clause-ends
returns-in-Ok-clause-ends g c =
    let params = c.args.params.now in
    let t = c.args.offering.now.table in
    let can = c.requires.can in
    let m = g.R.Ring.modulus t.ring in
    let has = g.R.Ring.has t.ring in
    let value = g.R.Ring.value t.ring in
    let numbers = c.args.kept.numbers.items in
    let rows = c.args.kept.rows.items in
    let count = page_count c.args.file.now in
    let old = g.D.Disk.trace c.args.disk.now in
    let new = g.D.Disk.trace c.go_on.new.disk in
    let back = put_back params c.requires.params t.columns c.requires.columns c.requires.converts m c.requires.modulus value count numbers rows old
    c.requires.ours
    c.requires.taken (sealed_count c.args.file.now old c.requires.suits) in
    let listed = count_is c.args.offering.now.names.items t.columns can.names_are in
    let few : count ≤ 1 + block_count (count_of t.columns) =
    omega (arith, c.if-count-front.true, c.count-count.ensures, c.from-front.ensures, c.len.ensures, listed) in
    let P : Option Trace → Course → Type 0 = λ o course. IsStarted m value t.columns params course (count - 1) numbers rows o in
    let given : (u : Trace) (is : Back params c.requires.params t.columns c.requires.columns c.requires.converts m c.requires.modulus g.R.Ring.zero has
    value count numbers rows u.now.contents) → P (Some u) (the_course params c.requires.params t.columns c.requires.columns c.requires.converts m
    c.requires.modulus g.R.Ring.zero has value count numbers rows u is) = in_front params c.requires.params t.columns c.requires.columns
    c.requires.converts m c.requires.modulus g.R.Ring.zero has value count numbers rows few in
    resume_ends params c.requires.params t.columns c.requires.columns c.requires.converts m c.requires.modulus g.R.Ring.zero has value count numbers rows P
    given (figures_of c.in-Ok.built) old new back (λ course started. started.first) c.in-Ok.ensures.end c.in-Ok.ensures.figures.0
    (λ u is. figure_front params c.requires.params t.columns c.requires.columns c.requires.converts m c.requires.modulus g.R.Ring.zero has value count
    numbers rows few c.in-Ok.built.offered c.in-Ok.ensures.figures.1 u is)

pub returns-in-Ok-clause-left : goal.returns-in-Ok-clause-left
returns-in-Ok-clause-left g c = λ worked.
    let params = c.args.params.now in
    let t = c.args.offering.now.table in
    let can = c.requires.can in
    let m = g.R.Ring.modulus t.ring in
    let has = g.R.Ring.has t.ring in
    let value = g.R.Ring.value t.ring in
    let numbers = c.args.kept.numbers.items in
    let rows = c.args.kept.rows.items in
    let count = page_count c.args.file.now in
    let old = g.D.Disk.trace c.args.disk.now in
    let new = g.D.Disk.trace c.go_on.new.disk in
    let back = put_back params c.requires.params t.columns c.requires.columns c.requires.converts m c.requires.modulus value count numbers rows old
    c.requires.ours
    c.requires.taken (sealed_count c.args.file.now old c.requires.suits) in
    let listed = count_is c.args.offering.now.names.items t.columns can.names_are in
    let few : count ≤ 1 + block_count (count_of t.columns) =
    omega (arith, c.if-count-front.true, c.count-count.ensures, c.from-front.ensures, c.len.ensures, listed) in
    let P : Option Trace → Course → Type 0 = λ o course. IsStarted m value t.columns params course (count - 1) numbers rows o in
    let given : (u : Trace) (is : Back params c.requires.params t.columns c.requires.columns c.requires.converts m c.requires.modulus g.R.Ring.zero has
    value count numbers rows u.now.contents) → P (Some u) (the_course params c.requires.params t.columns c.requires.columns c.requires.converts m
    c.requires.modulus g.R.Ring.zero has value count numbers rows u is) = in_front params c.requires.params t.columns c.requires.columns
    c.requires.converts m c.requires.modulus g.R.Ring.zero has value count numbers rows few in
    resume_left params c.requires.params t.columns c.requires.columns c.requires.converts m c.requires.modulus g.R.Ring.zero has value count numbers rows P
    given c.in-Ok.built.rows c.in-Ok.built.pages old new back c.go_on.ensures.untold c.go_on.ensures.keeps c.in-Ok.ensures.end

pub returns-in-Ok-clause-moments : goal.returns-in-Ok-clause-moments
returns-in-Ok-clause-moments g c = λ k.
    let params = c.args.params.now in
    let t = c.args.offering.now.table in
    let can = c.requires.can in
    let m = g.R.Ring.modulus t.ring in
    let has = g.R.Ring.has t.ring in
    let value = g.R.Ring.value t.ring in
    let numbers = c.args.kept.numbers.items in
    let rows = c.args.kept.rows.items in
    let count = page_count c.args.file.now in
    let old = g.D.Disk.trace c.args.disk.now in
    let new = g.D.Disk.trace c.go_on.new.disk in
    let back = put_back params c.requires.params t.columns c.requires.columns c.requires.converts m c.requires.modulus value count numbers rows old
    c.requires.ours
    c.requires.taken (sealed_count c.args.file.now old c.requires.suits) in
    let listed = count_is c.args.offering.now.names.items t.columns can.names_are in
    let few : count ≤ 1 + block_count (count_of t.columns) =
    omega (arith, c.if-count-front.true, c.count-count.ensures, c.from-front.ensures, c.len.ensures, listed) in
    let P : Option Trace → Course → Type 0 = λ o course. IsStarted m value t.columns params course (count - 1) numbers rows o in
    let given : (u : Trace) (is : Back params c.requires.params t.columns c.requires.columns c.requires.converts m c.requires.modulus g.R.Ring.zero has
    value count numbers rows u.now.contents) → P (Some u) (the_course params c.requires.params t.columns c.requires.columns c.requires.converts m
    c.requires.modulus g.R.Ring.zero has value count numbers rows u is) = in_front params c.requires.params t.columns c.requires.columns
    c.requires.converts m c.requires.modulus g.R.Ring.zero has value count numbers rows few in
    resume_moments params c.requires.params t.columns c.requires.columns c.requires.converts m c.requires.modulus g.R.Ring.zero has value count numbers
    rows P given old new back c.go_on.ensures.untold c.requires.image c.go_on.ensures.keeps k

pub returns-in-Err-clause-moments : goal.returns-in-Err-clause-moments
returns-in-Err-clause-moments g c = λ k.
    let params = c.args.params.now in
    let t = c.args.offering.now.table in
    let can = c.requires.can in
    let m = g.R.Ring.modulus t.ring in
    let has = g.R.Ring.has t.ring in
    let value = g.R.Ring.value t.ring in
    let numbers = c.args.kept.numbers.items in
    let rows = c.args.kept.rows.items in
    let count = page_count c.args.file.now in
    let old = g.D.Disk.trace c.args.disk.now in
    let new = g.D.Disk.trace c.go_on.new.disk in
    let back = put_back params c.requires.params t.columns c.requires.columns c.requires.converts m c.requires.modulus value count numbers rows old
    c.requires.ours
    c.requires.taken (sealed_count c.args.file.now old c.requires.suits) in
    let listed = count_is c.args.offering.now.names.items t.columns can.names_are in
    let few : count ≤ 1 + block_count (count_of t.columns) =
    omega (arith, c.if-count-front.true, c.count-count.ensures, c.from-front.ensures, c.len.ensures, listed) in
    let P : Option Trace → Course → Type 0 = λ o course. IsStarted m value t.columns params course (count - 1) numbers rows o in
    let given : (u : Trace) (is : Back params c.requires.params t.columns c.requires.columns c.requires.converts m c.requires.modulus g.R.Ring.zero has
    value count numbers rows u.now.contents) → P (Some u) (the_course params c.requires.params t.columns c.requires.columns c.requires.converts m
    c.requires.modulus g.R.Ring.zero has value count numbers rows u is) = in_front params c.requires.params t.columns c.requires.columns
    c.requires.converts m c.requires.modulus g.R.Ring.zero has value count numbers rows few in
    resume_moments params c.requires.params t.columns c.requires.columns c.requires.converts m c.requires.modulus g.R.Ring.zero has value count numbers
    rows P given old new back c.go_on.ensures.untold c.requires.image c.go_on.ensures.keeps k

pub returns-in-Err-clause-ends : goal.returns-in-Err-clause-ends
returns-in-Err-clause-ends g c =
    let params = c.args.params.now in
    let t = c.args.offering.now.table in
    let can = c.requires.can in
    let m = g.R.Ring.modulus t.ring in
    let has = g.R.Ring.has t.ring in
    let value = g.R.Ring.value t.ring in
    let numbers = c.args.kept.numbers.items in
    let rows = c.args.kept.rows.items in
    let count = page_count c.args.file.now in
    let old = g.D.Disk.trace c.args.disk.now in
    let new = g.D.Disk.trace c.go_on.new.disk in
    let back = put_back params c.requires.params t.columns c.requires.columns c.requires.converts m c.requires.modulus value count numbers rows old
    c.requires.ours
    c.requires.taken (sealed_count c.args.file.now old c.requires.suits) in
    let listed = count_is c.args.offering.now.names.items t.columns can.names_are in
    let few : count ≤ 1 + block_count (count_of t.columns) =
    omega (arith, c.if-count-front.true, c.count-count.ensures, c.from-front.ensures, c.len.ensures, listed) in
    let P : Option Trace → Course → Type 0 = λ o course. IsStarted m value t.columns params course (count - 1) numbers rows o in
    let given : (u : Trace) (is : Back params c.requires.params t.columns c.requires.columns c.requires.converts m c.requires.modulus g.R.Ring.zero has
    value count numbers rows u.now.contents) → P (Some u) (the_course params c.requires.params t.columns c.requires.columns c.requires.converts m
    c.requires.modulus g.R.Ring.zero has value count numbers rows u is) = in_front params c.requires.params t.columns c.requires.columns
    c.requires.converts m c.requires.modulus g.R.Ring.zero has value count numbers rows few in
    let rose : Type 0 = Rose (g.D.Disk.faults c.args.disk.now) (g.D.Disk.faults c.go_on.new.disk) in
    let fault = c.in-Err.fault in
    subst (λ f. Tells params old (fault_says f)) (sym c.resume_fault.ensures) (broken_ends params c.requires.params t.columns c.requires.columns
    c.requires.converts m c.requires.modulus g.R.Ring.zero has value count numbers rows P given rose fault old new back c.in-Err.ensures.fault)

pub returns-in-Err-clause-left : goal.returns-in-Err-clause-left
returns-in-Err-clause-left g c = λ worked.
    let params = c.args.params.now in
    let t = c.args.offering.now.table in
    let can = c.requires.can in
    let m = g.R.Ring.modulus t.ring in
    let has = g.R.Ring.has t.ring in
    let value = g.R.Ring.value t.ring in
    let numbers = c.args.kept.numbers.items in
    let rows = c.args.kept.rows.items in
    let count = page_count c.args.file.now in
    let old = g.D.Disk.trace c.args.disk.now in
    let new = g.D.Disk.trace c.go_on.new.disk in
    let back = put_back params c.requires.params t.columns c.requires.columns c.requires.converts m c.requires.modulus value count numbers rows old
    c.requires.ours
    c.requires.taken (sealed_count c.args.file.now old c.requires.suits) in
    let listed = count_is c.args.offering.now.names.items t.columns can.names_are in
    let few : count ≤ 1 + block_count (count_of t.columns) =
    omega (arith, c.if-count-front.true, c.count-count.ensures, c.from-front.ensures, c.len.ensures, listed) in
    let P : Option Trace → Course → Type 0 = λ o course. IsStarted m value t.columns params course (count - 1) numbers rows o in
    let given : (u : Trace) (is : Back params c.requires.params t.columns c.requires.columns c.requires.converts m c.requires.modulus g.R.Ring.zero has
    value count numbers rows u.now.contents) → P (Some u) (the_course params c.requires.params t.columns c.requires.columns c.requires.converts m
    c.requires.modulus g.R.Ring.zero has value count numbers rows u is) = in_front params c.requires.params t.columns c.requires.columns
    c.requires.converts m c.requires.modulus g.R.Ring.zero has value count numbers rows few in
    let rose : Type 0 = Rose (g.D.Disk.faults c.args.disk.now) (g.D.Disk.faults c.go_on.new.disk) in
    let fault = c.in-Err.fault in
    broken_leaves params c.requires.params t.columns c.requires.columns c.requires.converts m c.requires.modulus g.R.Ring.zero has value count numbers rows
    P given rose fault old new back c.go_on.ensures.untold c.go_on.ensures.keeps c.in-Err.ensures.fault
    (subst IsWorkedFault c.resume_fault.ensures worked)

pub returns-in-Err-clause-refused : goal.returns-in-Err-clause-refused
returns-in-Err-clause-refused g c = λ refused.
    let params = c.args.params.now in
    let t = c.args.offering.now.table in
    let can = c.requires.can in
    let m = g.R.Ring.modulus t.ring in
    let has = g.R.Ring.has t.ring in
    let value = g.R.Ring.value t.ring in
    let numbers = c.args.kept.numbers.items in
    let rows = c.args.kept.rows.items in
    let count = page_count c.args.file.now in
    let old = g.D.Disk.trace c.args.disk.now in
    let new = g.D.Disk.trace c.go_on.new.disk in
    let back = put_back params c.requires.params t.columns c.requires.columns c.requires.converts m c.requires.modulus value count numbers rows old
    c.requires.ours
    c.requires.taken (sealed_count c.args.file.now old c.requires.suits) in
    let listed = count_is c.args.offering.now.names.items t.columns can.names_are in
    let few : count ≤ 1 + block_count (count_of t.columns) =
    omega (arith, c.if-count-front.true, c.count-count.ensures, c.from-front.ensures, c.len.ensures, listed) in
    let P : Option Trace → Course → Type 0 = λ o course. IsStarted m value t.columns params course (count - 1) numbers rows o in
    let given : (u : Trace) (is : Back params c.requires.params t.columns c.requires.columns c.requires.converts m c.requires.modulus g.R.Ring.zero has
    value count numbers rows u.now.contents) → P (Some u) (the_course params c.requires.params t.columns c.requires.columns c.requires.converts m
    c.requires.modulus g.R.Ring.zero has value count numbers rows u is) = in_front params c.requires.params t.columns c.requires.columns
    c.requires.converts m c.requires.modulus g.R.Ring.zero has value count numbers rows few in
    let rose : Type 0 = Rose (g.D.Disk.faults c.args.disk.now) (g.D.Disk.faults c.go_on.new.disk) in
    let fault = c.in-Err.fault in
    broken_refused params c.requires.params t.columns c.requires.columns c.requires.converts m c.requires.modulus g.R.Ring.zero has value count numbers
    rows P given rose fault old new back c.go_on.ensures.untold c.in-Err.ensures.fault (subst IsRefusal c.resume_fault.ensures refused)

pub returns-in-Ok-go_on_behind-clause-ends : goal.returns-in-Ok-go_on_behind-clause-ends
returns-in-Ok-go_on_behind-clause-ends g c =
    let params = c.args.params.now in
    let t = c.args.offering.now.table in
    let can = c.requires.can in
    let m = g.R.Ring.modulus t.ring in
    let has = g.R.Ring.has t.ring in
    let value = g.R.Ring.value t.ring in
    let numbers = c.args.kept.numbers.items in
    let rows = c.args.kept.rows.items in
    let count = page_count c.args.file.now in
    let old = g.D.Disk.trace c.args.disk.now in
    let new = g.D.Disk.trace c.go_on_behind.new.disk in
    let back = put_back params c.requires.params t.columns c.requires.columns c.requires.converts m c.requires.modulus value count numbers rows old
    c.requires.ours
    c.requires.taken (sealed_count c.args.file.now old c.requires.suits) in
    let listed = count_is c.args.offering.now.names.items t.columns can.names_are in
    let all : 1 + block_count (count_of t.columns) ≤ count =
    omega (arith, c.if-count-front.false, c.count-count.ensures, c.from-front.ensures, c.len.ensures, listed) in
    let made = (c.len.result + 63) / 64 in
    let blocks : made ≡ block_count (count_of t.columns) = omega (arith, c.len.ensures, listed) in
    let sealed : 1 + made + (c.count-count.result - (c.from-front.result + 1)) ≡ count =
    omega (arith, c.if-count-front.false, c.count-count.ensures, c.from-front.ensures, c.len.ensures, listed) in
    let P : Option Trace → Course → Type 0 = λ o course. HasOffered m value t.columns course (count_of t.columns) numbers rows
    × AreFirstUpTo course.pages (1 + block_count (count_of t.columns)) o in
    let given : (u : Trace) (is : Back params c.requires.params t.columns c.requires.columns c.requires.converts m c.requires.modulus g.R.Ring.zero has
    value count numbers rows u.now.contents) → P (Some u) (the_course params c.requires.params t.columns c.requires.columns c.requires.converts m
    c.requires.modulus g.R.Ring.zero has value count numbers rows u is) = behind params c.requires.params t.columns c.requires.columns c.requires.converts
    m c.requires.modulus g.R.Ring.zero has value count numbers rows all in
    let up : (course : Course) → P old course → AreFirstUpTo course.pages (1 + made) old =
    λ course p. subst (λ b. AreFirstUpTo course.pages (1 + b) old) (sym blocks) p.1 in
    let ended : (course : Course) → P old course → IsEnd m t.columns course c.in-Ok-go_on_behind.built.rows new
    × (c.in-Ok-go_on_behind.built.pages ≡ length course.pages) = λ course p. c.in-Ok-go_on_behind.ensures.end course p.0 (up course p) in
    let first : (course : Course) → P old course → AreFirst course.pages old = λ course p. c.in-Ok-go_on_behind.ensures.first course p.0 (up course p) in
    resume_ends params c.requires.params t.columns c.requires.columns c.requires.converts m c.requires.modulus g.R.Ring.zero has value count numbers rows P
    given (figures_of c.in-Ok-go_on_behind.built) old new back first ended c.in-Ok-go_on_behind.ensures.figures.0
    (λ u is. figure_behind params c.requires.params t.columns c.requires.columns c.requires.converts m c.requires.modulus g.R.Ring.zero has value count
    numbers rows all c.in-Ok-go_on_behind.built.offered c.in-Ok-go_on_behind.ensures.figures.1 u is)

pub returns-in-Ok-go_on_behind-clause-left : goal.returns-in-Ok-go_on_behind-clause-left
returns-in-Ok-go_on_behind-clause-left g c = λ worked.
    let params = c.args.params.now in
    let t = c.args.offering.now.table in
    let can = c.requires.can in
    let m = g.R.Ring.modulus t.ring in
    let has = g.R.Ring.has t.ring in
    let value = g.R.Ring.value t.ring in
    let numbers = c.args.kept.numbers.items in
    let rows = c.args.kept.rows.items in
    let count = page_count c.args.file.now in
    let old = g.D.Disk.trace c.args.disk.now in
    let new = g.D.Disk.trace c.go_on_behind.new.disk in
    let back = put_back params c.requires.params t.columns c.requires.columns c.requires.converts m c.requires.modulus value count numbers rows old
    c.requires.ours
    c.requires.taken (sealed_count c.args.file.now old c.requires.suits) in
    let listed = count_is c.args.offering.now.names.items t.columns can.names_are in
    let all : 1 + block_count (count_of t.columns) ≤ count =
    omega (arith, c.if-count-front.false, c.count-count.ensures, c.from-front.ensures, c.len.ensures, listed) in
    let made = (c.len.result + 63) / 64 in
    let blocks : made ≡ block_count (count_of t.columns) = omega (arith, c.len.ensures, listed) in
    let sealed : 1 + made + (c.count-count.result - (c.from-front.result + 1)) ≡ count =
    omega (arith, c.if-count-front.false, c.count-count.ensures, c.from-front.ensures, c.len.ensures, listed) in
    let P : Option Trace → Course → Type 0 = λ o course. HasOffered m value t.columns course (count_of t.columns) numbers rows
    × AreFirstUpTo course.pages (1 + block_count (count_of t.columns)) o in
    let given : (u : Trace) (is : Back params c.requires.params t.columns c.requires.columns c.requires.converts m c.requires.modulus g.R.Ring.zero has
    value count numbers rows u.now.contents) → P (Some u) (the_course params c.requires.params t.columns c.requires.columns c.requires.converts m
    c.requires.modulus g.R.Ring.zero has value count numbers rows u is) = behind params c.requires.params t.columns c.requires.columns c.requires.converts
    m c.requires.modulus g.R.Ring.zero has value count numbers rows all in
    let up : (course : Course) → P old course → AreFirstUpTo course.pages (1 + made) old =
    λ course p. subst (λ b. AreFirstUpTo course.pages (1 + b) old) (sym blocks) p.1 in
    let keeps : (course : Course) → P old course → Keeps course.pages count old new =
    λ course p. subst (λ k. Keeps course.pages k old new) sealed (c.go_on_behind.ensures.keeps course p.0 (up course p)) in
    let ended : (course : Course) → P old course → IsEnd m t.columns course c.in-Ok-go_on_behind.built.rows new
    × (c.in-Ok-go_on_behind.built.pages ≡ length course.pages) = λ course p. c.in-Ok-go_on_behind.ensures.end course p.0 (up course p) in
    resume_left params c.requires.params t.columns c.requires.columns c.requires.converts m c.requires.modulus g.R.Ring.zero has value count numbers rows P
    given c.in-Ok-go_on_behind.built.rows c.in-Ok-go_on_behind.built.pages old new back c.go_on_behind.ensures.untold keeps ended

pub returns-in-Ok-go_on_behind-clause-moments : goal.returns-in-Ok-go_on_behind-clause-moments
returns-in-Ok-go_on_behind-clause-moments g c = λ k.
    let params = c.args.params.now in
    let t = c.args.offering.now.table in
    let can = c.requires.can in
    let m = g.R.Ring.modulus t.ring in
    let has = g.R.Ring.has t.ring in
    let value = g.R.Ring.value t.ring in
    let numbers = c.args.kept.numbers.items in
    let rows = c.args.kept.rows.items in
    let count = page_count c.args.file.now in
    let old = g.D.Disk.trace c.args.disk.now in
    let new = g.D.Disk.trace c.go_on_behind.new.disk in
    let back = put_back params c.requires.params t.columns c.requires.columns c.requires.converts m c.requires.modulus value count numbers rows old
    c.requires.ours
    c.requires.taken (sealed_count c.args.file.now old c.requires.suits) in
    let listed = count_is c.args.offering.now.names.items t.columns can.names_are in
    let all : 1 + block_count (count_of t.columns) ≤ count =
    omega (arith, c.if-count-front.false, c.count-count.ensures, c.from-front.ensures, c.len.ensures, listed) in
    let made = (c.len.result + 63) / 64 in
    let blocks : made ≡ block_count (count_of t.columns) = omega (arith, c.len.ensures, listed) in
    let sealed : 1 + made + (c.count-count.result - (c.from-front.result + 1)) ≡ count =
    omega (arith, c.if-count-front.false, c.count-count.ensures, c.from-front.ensures, c.len.ensures, listed) in
    let P : Option Trace → Course → Type 0 = λ o course. HasOffered m value t.columns course (count_of t.columns) numbers rows
    × AreFirstUpTo course.pages (1 + block_count (count_of t.columns)) o in
    let given : (u : Trace) (is : Back params c.requires.params t.columns c.requires.columns c.requires.converts m c.requires.modulus g.R.Ring.zero has
    value count numbers rows u.now.contents) → P (Some u) (the_course params c.requires.params t.columns c.requires.columns c.requires.converts m
    c.requires.modulus g.R.Ring.zero has value count numbers rows u is) = behind params c.requires.params t.columns c.requires.columns c.requires.converts
    m c.requires.modulus g.R.Ring.zero has value count numbers rows all in
    let up : (course : Course) → P old course → AreFirstUpTo course.pages (1 + made) old =
    λ course p. subst (λ b. AreFirstUpTo course.pages (1 + b) old) (sym blocks) p.1 in
    let keeps : (course : Course) → P old course → Keeps course.pages count old new =
    λ course p. subst (λ k. Keeps course.pages k old new) sealed (c.go_on_behind.ensures.keeps course p.0 (up course p)) in
    resume_moments params c.requires.params t.columns c.requires.columns c.requires.converts m c.requires.modulus g.R.Ring.zero has value count numbers
    rows P given old new back c.go_on_behind.ensures.untold c.requires.image keeps k

pub returns-clause-moments : goal.returns-clause-moments
returns-clause-moments g c = λ k.
    let params = c.args.params.now in
    let t = c.args.offering.now.table in
    let can = c.requires.can in
    let m = g.R.Ring.modulus t.ring in
    let has = g.R.Ring.has t.ring in
    let value = g.R.Ring.value t.ring in
    let numbers = c.args.kept.numbers.items in
    let rows = c.args.kept.rows.items in
    let count = page_count c.args.file.now in
    let old = g.D.Disk.trace c.args.disk.now in
    let new = g.D.Disk.trace c.go_on_behind.new.disk in
    let back = put_back params c.requires.params t.columns c.requires.columns c.requires.converts m c.requires.modulus value count numbers rows old
    c.requires.ours
    c.requires.taken (sealed_count c.args.file.now old c.requires.suits) in
    let listed = count_is c.args.offering.now.names.items t.columns can.names_are in
    let all : 1 + block_count (count_of t.columns) ≤ count =
    omega (arith, c.if-count-front.false, c.count-count.ensures, c.from-front.ensures, c.len.ensures, listed) in
    let made = (c.len.result + 63) / 64 in
    let blocks : made ≡ block_count (count_of t.columns) = omega (arith, c.len.ensures, listed) in
    let sealed : 1 + made + (c.count-count.result - (c.from-front.result + 1)) ≡ count =
    omega (arith, c.if-count-front.false, c.count-count.ensures, c.from-front.ensures, c.len.ensures, listed) in
    let P : Option Trace → Course → Type 0 = λ o course. HasOffered m value t.columns course (count_of t.columns) numbers rows
    × AreFirstUpTo course.pages (1 + block_count (count_of t.columns)) o in
    let given : (u : Trace) (is : Back params c.requires.params t.columns c.requires.columns c.requires.converts m c.requires.modulus g.R.Ring.zero has
    value count numbers rows u.now.contents) → P (Some u) (the_course params c.requires.params t.columns c.requires.columns c.requires.converts m
    c.requires.modulus g.R.Ring.zero has value count numbers rows u is) = behind params c.requires.params t.columns c.requires.columns c.requires.converts
    m c.requires.modulus g.R.Ring.zero has value count numbers rows all in
    let up : (course : Course) → P old course → AreFirstUpTo course.pages (1 + made) old =
    λ course p. subst (λ b. AreFirstUpTo course.pages (1 + b) old) (sym blocks) p.1 in
    let keeps : (course : Course) → P old course → Keeps course.pages count old new =
    λ course p. subst (λ k. Keeps course.pages k old new) sealed (c.go_on_behind.ensures.keeps course p.0 (up course p)) in
    resume_moments params c.requires.params t.columns c.requires.columns c.requires.converts m c.requires.modulus g.R.Ring.zero has value count numbers
    rows P given old new back c.go_on_behind.ensures.untold c.requires.image keeps k

pub returns-clause-ends : goal.returns-clause-ends
returns-clause-ends g c =
    let params = c.args.params.now in
    let t = c.args.offering.now.table in
    let can = c.requires.can in
    let m = g.R.Ring.modulus t.ring in
    let has = g.R.Ring.has t.ring in
    let value = g.R.Ring.value t.ring in
    let numbers = c.args.kept.numbers.items in
    let rows = c.args.kept.rows.items in
    let count = page_count c.args.file.now in
    let old = g.D.Disk.trace c.args.disk.now in
    let new = g.D.Disk.trace c.go_on_behind.new.disk in
    let back = put_back params c.requires.params t.columns c.requires.columns c.requires.converts m c.requires.modulus value count numbers rows old
    c.requires.ours
    c.requires.taken (sealed_count c.args.file.now old c.requires.suits) in
    let listed = count_is c.args.offering.now.names.items t.columns can.names_are in
    let all : 1 + block_count (count_of t.columns) ≤ count =
    omega (arith, c.if-count-front.false, c.count-count.ensures, c.from-front.ensures, c.len.ensures, listed) in
    let made = (c.len.result + 63) / 64 in
    let blocks : made ≡ block_count (count_of t.columns) = omega (arith, c.len.ensures, listed) in
    let sealed : 1 + made + (c.count-count.result - (c.from-front.result + 1)) ≡ count =
    omega (arith, c.if-count-front.false, c.count-count.ensures, c.from-front.ensures, c.len.ensures, listed) in
    let P : Option Trace → Course → Type 0 = λ o course. HasOffered m value t.columns course (count_of t.columns) numbers rows
    × AreFirstUpTo course.pages (1 + block_count (count_of t.columns)) o in
    let given : (u : Trace) (is : Back params c.requires.params t.columns c.requires.columns c.requires.converts m c.requires.modulus g.R.Ring.zero has
    value count numbers rows u.now.contents) → P (Some u) (the_course params c.requires.params t.columns c.requires.columns c.requires.converts m
    c.requires.modulus g.R.Ring.zero has value count numbers rows u is) = behind params c.requires.params t.columns c.requires.columns c.requires.converts
    m c.requires.modulus g.R.Ring.zero has value count numbers rows all in
    let up : (course : Course) → P old course → AreFirstUpTo course.pages (1 + made) old =
    λ course p. subst (λ b. AreFirstUpTo course.pages (1 + b) old) (sym blocks) p.1 in
    let rose : Type 0 = Rose (g.D.Disk.faults c.args.disk.now) (g.D.Disk.faults c.go_on_behind.new.disk) in
    let fault = c.in-Err-go_on_behind.fault in
    let differing : (course : Course) → P old course → IsGoneFault rose (old ≡ None)
    (λ i. IfSealed (λ pages. Differs pages course.pages i) old × (new ≡ old)) fault =
    λ course p. c.in-Err-go_on_behind.ensures.fault course p.0 (up course p) in
    subst (λ f. Tells params old (fault_says f)) (sym c.resume_fault-in-Err-go_on_behind.ensures)
    (differing_ends params c.requires.params t.columns c.requires.columns c.requires.converts m c.requires.modulus g.R.Ring.zero has value count numbers
    rows all rose fault old new back differing)

pub returns-clause-left : goal.returns-clause-left
returns-clause-left g c = λ worked.
    let params = c.args.params.now in
    let t = c.args.offering.now.table in
    let can = c.requires.can in
    let m = g.R.Ring.modulus t.ring in
    let has = g.R.Ring.has t.ring in
    let value = g.R.Ring.value t.ring in
    let numbers = c.args.kept.numbers.items in
    let rows = c.args.kept.rows.items in
    let count = page_count c.args.file.now in
    let old = g.D.Disk.trace c.args.disk.now in
    let new = g.D.Disk.trace c.go_on_behind.new.disk in
    let back = put_back params c.requires.params t.columns c.requires.columns c.requires.converts m c.requires.modulus value count numbers rows old
    c.requires.ours
    c.requires.taken (sealed_count c.args.file.now old c.requires.suits) in
    let listed = count_is c.args.offering.now.names.items t.columns can.names_are in
    let all : 1 + block_count (count_of t.columns) ≤ count =
    omega (arith, c.if-count-front.false, c.count-count.ensures, c.from-front.ensures, c.len.ensures, listed) in
    let made = (c.len.result + 63) / 64 in
    let blocks : made ≡ block_count (count_of t.columns) = omega (arith, c.len.ensures, listed) in
    let sealed : 1 + made + (c.count-count.result - (c.from-front.result + 1)) ≡ count =
    omega (arith, c.if-count-front.false, c.count-count.ensures, c.from-front.ensures, c.len.ensures, listed) in
    let P : Option Trace → Course → Type 0 = λ o course. HasOffered m value t.columns course (count_of t.columns) numbers rows
    × AreFirstUpTo course.pages (1 + block_count (count_of t.columns)) o in
    let given : (u : Trace) (is : Back params c.requires.params t.columns c.requires.columns c.requires.converts m c.requires.modulus g.R.Ring.zero has
    value count numbers rows u.now.contents) → P (Some u) (the_course params c.requires.params t.columns c.requires.columns c.requires.converts m
    c.requires.modulus g.R.Ring.zero has value count numbers rows u is) = behind params c.requires.params t.columns c.requires.columns c.requires.converts
    m c.requires.modulus g.R.Ring.zero has value count numbers rows all in
    let up : (course : Course) → P old course → AreFirstUpTo course.pages (1 + made) old =
    λ course p. subst (λ b. AreFirstUpTo course.pages (1 + b) old) (sym blocks) p.1 in
    let rose : Type 0 = Rose (g.D.Disk.faults c.args.disk.now) (g.D.Disk.faults c.go_on_behind.new.disk) in
    let fault = c.in-Err-go_on_behind.fault in
    let differing : (course : Course) → P old course → IsGoneFault rose (old ≡ None)
    (λ i. IfSealed (λ pages. Differs pages course.pages i) old × (new ≡ old)) fault =
    λ course p. c.in-Err-go_on_behind.ensures.fault course p.0 (up course p) in
    differing_leaves params c.requires.params t.columns c.requires.columns c.requires.converts m c.requires.modulus g.R.Ring.zero has value count numbers
    rows all rose fault old new back c.go_on_behind.ensures.untold differing (subst IsWorkedFault c.resume_fault-in-Err-go_on_behind.ensures worked)

pub returns-clause-refused : goal.returns-clause-refused
returns-clause-refused g c = λ refused.
    let params = c.args.params.now in
    let t = c.args.offering.now.table in
    let can = c.requires.can in
    let m = g.R.Ring.modulus t.ring in
    let has = g.R.Ring.has t.ring in
    let value = g.R.Ring.value t.ring in
    let numbers = c.args.kept.numbers.items in
    let rows = c.args.kept.rows.items in
    let count = page_count c.args.file.now in
    let old = g.D.Disk.trace c.args.disk.now in
    let new = g.D.Disk.trace c.go_on_behind.new.disk in
    let back = put_back params c.requires.params t.columns c.requires.columns c.requires.converts m c.requires.modulus value count numbers rows old
    c.requires.ours
    c.requires.taken (sealed_count c.args.file.now old c.requires.suits) in
    let listed = count_is c.args.offering.now.names.items t.columns can.names_are in
    let all : 1 + block_count (count_of t.columns) ≤ count =
    omega (arith, c.if-count-front.false, c.count-count.ensures, c.from-front.ensures, c.len.ensures, listed) in
    let made = (c.len.result + 63) / 64 in
    let blocks : made ≡ block_count (count_of t.columns) = omega (arith, c.len.ensures, listed) in
    let sealed : 1 + made + (c.count-count.result - (c.from-front.result + 1)) ≡ count =
    omega (arith, c.if-count-front.false, c.count-count.ensures, c.from-front.ensures, c.len.ensures, listed) in
    let P : Option Trace → Course → Type 0 = λ o course. HasOffered m value t.columns course (count_of t.columns) numbers rows
    × AreFirstUpTo course.pages (1 + block_count (count_of t.columns)) o in
    let given : (u : Trace) (is : Back params c.requires.params t.columns c.requires.columns c.requires.converts m c.requires.modulus g.R.Ring.zero has
    value count numbers rows u.now.contents) → P (Some u) (the_course params c.requires.params t.columns c.requires.columns c.requires.converts m
    c.requires.modulus g.R.Ring.zero has value count numbers rows u is) = behind params c.requires.params t.columns c.requires.columns c.requires.converts
    m c.requires.modulus g.R.Ring.zero has value count numbers rows all in
    let up : (course : Course) → P old course → AreFirstUpTo course.pages (1 + made) old =
    λ course p. subst (λ b. AreFirstUpTo course.pages (1 + b) old) (sym blocks) p.1 in
    let rose : Type 0 = Rose (g.D.Disk.faults c.args.disk.now) (g.D.Disk.faults c.go_on_behind.new.disk) in
    let fault = c.in-Err-go_on_behind.fault in
    let differing : (course : Course) → P old course → IsGoneFault rose (old ≡ None)
    (λ i. IfSealed (λ pages. Differs pages course.pages i) old × (new ≡ old)) fault =
    λ course p. c.in-Err-go_on_behind.ensures.fault course p.0 (up course p) in
    differing_refuses params c.requires.params t.columns c.requires.columns c.requires.converts m c.requires.modulus g.R.Ring.zero has value count numbers
    rows all rose fault old new back c.go_on_behind.ensures.untold differing (subst IsRefusal c.resume_fault-in-Err-go_on_behind.ensures refused)
