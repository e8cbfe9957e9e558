use Rattle.std.proofs.Common.{◌≡◌, true, false, length, length-append, ap, arith}
use Rattle.page_codec.specs.Bounds.{IsPage}
use Rattle.page_codec.specs.Spelling.{spelling_of}
use Rattle.page_codec.proofs.Answering.{none_read, not_page, found_back, found_length}
use Rattle.page_codec.proofs.decoding.decode.Goals as goal

pub returns-in_default-clause-none : goal.returns-in_default-clause-none
returns-in_default-clause-none c = none_read c.args.bytes.now (rw c.in_default.is at c.in_ok-page.ensures)

pub returns-then-not-is_page-clause-none : goal.returns-then-not-is_page-clause-none
returns-then-not-is_page-clause-none c =
    let refused : ¬ (IsPage c.in-Some.page) = λ is. let yes : c.is_page.result ≡ true = c.is_page.ensures.1 is in
    let no : c.is_page.result ≡ false = c.if-not-is_page.true in absurd (cc (yes, no)) in
    not_page c.args.bytes.now c.in-Some.page c.in-Some.rest.now (rw c.in-Some.is at c.in_ok-page.ensures) refused

pub overflow_sub-length : goal.overflow_sub-length
overflow_sub-length c =
    let front = found_back c.args.bytes.now c.in-Some.page c.in-Some.rest.now (λ k. let h = c.type_inv.bytes k in
    omega arith) (rw c.in-Some.is at c.in_ok-page.ensures) in
    omega (arith, ap length front, length-append (spelling_of c.in-Some.page) c.in-Some.rest.now)

pub returns-clause-found : goal.returns-clause-found
returns-clause-found c =
    let front = found_back c.args.bytes.now c.in-Some.page c.in-Some.rest.now (λ k. let h = c.type_inv.bytes k in
    omega arith) (rw c.in-Some.is at c.in_ok-page.ensures) in
    (c.is_page.ensures.0 c.if-not-is_page.false, (c.in-Some.rest.now, front), found_length c.args.bytes.now c.in-Some.page c.in-Some.rest.now front)
