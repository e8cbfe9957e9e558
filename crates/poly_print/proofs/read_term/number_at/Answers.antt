use Rattle.std.proofs.Common.{rules, ◌≡◌, ◌≤◌, ◌+◌, ◌*◌, ◌-◌, ◌∷◌, ap, sym, subst, ◌∙◌, length, arith}
use Rattle.poly_print.proofs.ReadNumbers.{IsPartly, partly-begin, partly-next, partly-end, partly-digit, partly-small}
use Rattle.poly_print.proofs.read_term.number_at.Goals as goal
use Rattle.poly_print.proofs.read_term.number_at.Goals.{then-byte-lt48-via-then-byte-lt48, then-byte-lt48-via-else-byte-lt48+then-byte-gt57}

pub loop-byte-init : goal.loop-byte-init
loop-byte-init c = record {
  partly = λ r behind h e. partly-begin r behind c.args.bytes.now h e;
  within = omega arith;
  small = omega arith;
}

pub returns-then-number-clause-none : goal.returns-then-number-clause-none
returns-then-number-clause-none c = λ r behind h e.
    let p = c.loop-byte.invariant.partly r behind h e in
    let s = partly-small c.loop-byte.number r behind c.loop-byte.rest.now p in
    absurd (omega arith)

pub returns-then-byte-eq42-clause-some : goal.returns-then-byte-eq42-clause-some
returns-then-byte-eq42-clause-some c = λ r behind h e.
    let begins : c.loop-byte.rest.now ≡ c.in-Some.byte.now ∷ c.in-Some.behind.now = search rules in
    partly-end c.loop-byte.number r behind c.loop-byte.rest.now c.in-Some.behind.now (begins
    ∙ ap (λ b. b ∷ c.in-Some.behind.now) c.if-byte-eq42.true) (c.loop-byte.invariant.partly r behind h e)

pub returns-then-byte-lt48-clause-none : goal.returns-then-byte-lt48-clause-none
returns-then-byte-lt48-clause-none c = λ r behind h e.
    let begins : c.loop-byte.rest.now ≡ c.in-Some.byte.now ∷ c.in-Some.behind.now = search rules in
    let d = partly-digit c.loop-byte.number r c.in-Some.byte.now behind c.loop-byte.rest.now c.in-Some.behind.now begins c.if-byte-eq42.false
    (c.loop-byte.invariant.partly r behind h e) in
    let low : 48 ≤ c.in-Some.byte.now = d.0 in
    let high : c.in-Some.byte.now ≤ 57 = d.1 in
    elim c.then-byte-lt48.branch [
      | then-byte-lt48-via-then-byte-lt48 w ↦ let f = w.if-byte-lt48.true in absurd (omega arith)
      | then-byte-lt48-via-else-byte-lt48+then-byte-gt57 w ↦ let f = w.if-byte-gt57.true in absurd (omega arith)
    ]

pub loop-byte-preserved : goal.loop-byte-preserved
loop-byte-preserved c =
    let begins : c.loop-byte.rest.now ≡ c.in-Some.byte.now ∷ c.in-Some.behind.now = search rules in
    let same : c.from.result ≡ c.in-Some.byte.now - 48 = c.from.ensures in
    let l = ap length begins in
    record {
      partly = λ r behind h e. subst (λ d. IsPartly (10 * c.loop-byte.number + d) r behind c.in-Some.behind.now) (sym same)
          (partly-next c.loop-byte.number r c.in-Some.byte.now behind c.loop-byte.rest.now c.in-Some.behind.now begins c.if-byte-eq42.false
          (c.loop-byte.invariant.partly r behind h e));
      within = omega (arith, c.loop-byte.invariant.within);
      small = omega arith;
    }
