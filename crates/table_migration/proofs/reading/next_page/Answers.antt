use Rattle.std.proofs.Common.{◌≡◌, ◌∙◌, ◌<◌, ◌≤◌, ◌+◌, ◌++◌, List, ℕ, length, get_or, sym, ap, arith}
use Rattle.page_codec.specs.declared.page.Page.{Page}
use Rattle.table_migration.specs.OldFiles.{IsOldPage, old_spelling, NoOldPage}
use Rattle.table_migration.proofs.Taking.{frame, passed, unread, first_is, not_empty}
use Rattle.table_migration.proofs.reading.next_page.Goals as goal

pub returns-in-Some-2-clause-ok : goal.returns-in-Some-2-clause-ok
returns-in-Some-2-clause-ok g c =
    let gate = c.take_on.new.buffer in
    let head = c.take_on-2.new.buffer in
    let body = c.in_ok-take_on-3.ensures.ok in
    let some : 0 < length gate.items = omega (arith, gate.ok.0, not_empty _ c.if-is_empty.ensures) in
    let is_one : get_or gate.items 0 0 ≡ 1 = first_is gate.items c.index.result.now 1 some c.index.ensures c.if-index-ne1.false in
    let long : 5 ≤ length head.items = omega (arith, head.ok.0, c.len.ensures, c.if-len-lt-HEAD.false) in
    let framed = frame _ _ _ _ _ _ gate.items head.items c.take_on-3.new.buffer.items c.in-Some.length c.in_ok-take_on.ensures.ok
    c.clear.ensures.items some is_one c.in_ok-take_on-2.ensures.ok c.clear-2.ensures.items long body in
    let found = rw c.in-Some-2.is at c.in_ok-page.ensures.found in
    let page = c.in-Some-2.page in
    let whole : head.items ++ body.bytes ≡ old_spelling page ++ found.1.0 = sym body.after_is ∙ sym c.deref-2.ensures.value ∙ found.1.1 in
    let says : (page : Page) (more rest : List ℕ) → IsOldPage page → head.items ++ more ≡ old_spelling page ++ rest
    → length (old_spelling page) ≡ 5 + c.in-Some.length = λ page more rest is e.
    c.in-Some.ensures.found page more rest is (ap (λ l. l ++ more) c.deref.ensures.value ∙ e) in
    (found.0, passed _ _ head.items body.bytes c.in-Some.length framed says page found.1.0 found.0 whole)

pub returns-in-None-clause-ok : goal.returns-in-None-clause-ok
returns-in-None-clause-ok g c =
    let gate = c.take_on.new.buffer in
    let head = c.take_on-2.new.buffer in
    let body = c.in_ok-take_on-3.ensures.ok in
    let some : 0 < length gate.items = omega (arith, gate.ok.0, not_empty _ c.if-is_empty.ensures) in
    let is_one : get_or gate.items 0 0 ≡ 1 = first_is gate.items c.index.result.now 1 some c.index.ensures c.if-index-ne1.false in
    let long : 5 ≤ length head.items = omega (arith, head.ok.0, c.len.ensures, c.if-len-lt-HEAD.false) in
    let framed = frame _ _ _ _ _ _ gate.items head.items c.take_on-3.new.buffer.items c.in-Some.length c.in_ok-take_on.ensures.ok
    c.clear.ensures.items some is_one c.in_ok-take_on-2.ensures.ok c.clear-2.ensures.items long body in
    let says : (page : Page) (more rest : List ℕ) → IsOldPage page → head.items ++ more ≡ old_spelling page ++ rest
    → length (old_spelling page) ≡ 5 + c.in-Some.length = λ page more rest is e.
    c.in-Some.ensures.found page more rest is (ap (λ l. l ++ more) c.deref.ensures.value ∙ e) in
    let none : NoOldPage (head.items ++ body.bytes) = λ page rest is e.
    let there = rw c.in-None.is at c.in_ok-page.ensures.none in there page rest is (c.deref-2.ensures.value ∙ body.after_is ∙ e) in
    unread _ _ head.items body.bytes c.in-Some.length framed says none
