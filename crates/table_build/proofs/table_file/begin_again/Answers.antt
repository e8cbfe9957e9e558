use Rattle.std.proofs.Common.{◌≡◌, length, max, refl, ◌∙◌, ap, subst, arith}
use Rattle.std.specs.Prelude.{OnOk}
use Rattle.page_file.specs.Notes.{Notes, count_of as page_count}
use Rattle.table_build.specs.Inner.{IsReadyAt, Holds}
use Rattle.table_build.proofs.Keepings.{keeps_then}
use Rattle.table_build.proofs.Beginnings.{first_keeps, first_holds}
use Rattle.table_build.proofs.table_file.begin_again.Goals as goal

pub returns-in-Err-clause-keeps : goal.returns-in-Err-clause-keeps
returns-in-Err-clause-keeps g c = λ pages head first.
    first_keeps pages c.args.file.now (g.D.Disk.trace c.args.disk.now) (g.D.Disk.trace c.renew.new.disk) c.requires.suits first c.renew.ensures.moments

pub returns-then-count-gt0-clause-keeps : goal.returns-then-count-gt0-clause-keeps
returns-then-count-gt0-clause-keeps g c = λ pages head first.
    first_keeps pages c.args.file.now (g.D.Disk.trace c.args.disk.now) (g.D.Disk.trace c.renew.new.disk) c.requires.suits first c.renew.ensures.moments

pub returns-then-count-gt0-clause-holds : goal.returns-then-count-gt0-clause-holds
returns-then-count-gt0-clause-holds g c = λ pages head first.
    let k = page_count c.args.file.now in
    let gates : length c.renew.new.self.gates ≡ length c.args.file.now.gates = ap (λ (n : Notes). length n.gates) c.in_default.ensures.ok in
    subst (λ n. Holds pages n (g.D.Disk.trace c.renew.new.disk)) (let e : k ≡ max 1 k = omega (arith, gates, c.count.ensures, c.if-count-gt0.true) in e)
    (first_holds pages c.args.file.now (g.D.Disk.trace c.args.disk.now) (g.D.Disk.trace c.renew.new.disk) c.requires.suits first c.in_default.ensures.left)

pub seal-requires-clause-ready : goal.seal-requires-clause-ready
seal-requires-clause-ready g c =
    let ok = c.in_default.ensures.ok in
    let gates : length c.renew.new.self.gates ≡ length c.args.file.now.gates = ap (λ (n : Notes). length n.gates) ok in (
      0,
      record {
        ready = ap (λ (n : Notes). n.is_ready) ok;
        live = ap (λ (n : Notes). n.is_live) ok ∙ c.requires.live;
        count = omega (arith, gates, c.count.ensures, c.if-count-gt0.false, c.requires.noted);
      },
      omega arith,
      λ _. refl,
    )

pub returns-clause-ready : goal.returns-clause-ready
returns-clause-ready g c =
    let ok = c.in_default.ensures.ok in
    let k = page_count c.args.file.now in
    let gates : length c.renew.new.self.gates ≡ length c.args.file.now.gates = ap (λ (n : Notes). length n.gates) ok in
    let ready : IsReadyAt 0 c.renew.new.self = record {
      ready = ap (λ (n : Notes). n.is_ready) ok;
      live = ap (λ (n : Notes). n.is_live) ok ∙ c.requires.live;
      count = omega (arith, gates, c.count.ensures, c.if-count-gt0.false, c.requires.noted);
    } in
    subst (λ n. OnOk c.seal.result (IsReadyAt n c.seal.new.file)) (let e : 1 ≡ max 1 k = omega (arith, gates, c.count.ensures, c.if-count-gt0.false) in e)
    (c.seal.ensures.ready 0 ready)

pub returns-clause-keeps : goal.returns-clause-keeps
returns-clause-keeps g c = λ pages head first.
    let k = page_count c.args.file.now in
    let old = g.D.Disk.trace c.args.disk.now in
    let ready = g.D.Disk.trace c.renew.new.disk in
    let gates : length c.renew.new.self.gates ≡ length c.args.file.now.gates = ap (λ (n : Notes). length n.gates) c.in_default.ensures.ok in
    let zeroth : k ≡ 0 = omega (arith, gates, c.count.ensures, c.if-count-gt0.false) in
    keeps_then pages k 0 old ready (g.D.Disk.trace c.seal.new.disk) (omega (arith, zeroth))
    (first_keeps pages c.args.file.now old ready c.requires.suits first c.renew.ensures.moments)
    (c.seal.ensures.keeps pages 0 head (subst (λ n. Holds pages n ready) zeroth (first_holds pages c.args.file.now old ready c.requires.suits first
    c.in_default.ensures.left)))
