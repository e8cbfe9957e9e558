use Rattle.std.proofs.Common.{ℕ, ◌++◌, Option, None, Some, List, ap, ◌∙◌, Bor}
use Rattle.std.proofs.lemmas.Bool.Decides.{Decides-eqb}
use Rattle.std.proofs.lemmas.Slice.Eq.{strip_prefix_is}
use Rattle.poly_print.proofs.ReadTerms.{found-end, found-plus}
use Rattle.poly_print.proofs.read_term.term_at.Goals as goal

pub returns-in_err-rest-clause-none : goal.returns-in_err-rest-clause-none
returns-in_err-rest-clause-none c = rw c.from_residual-in_err-rest.ensures (λ r text tail t e.
    let none : Option (Bor (List ℕ)) = None in
    let n = strip_prefix_is Decides-eqb c.in_ok-number.text.now c.args.monomial.now none c.in_err-rest.ensures.cases in
    n tail ((c.in_ok-number.ensures.some r (text ++ tail) t.small t.whole).1 ∙ ap (λ m. m ++ tail) e))

pub returns-in-None-clause-some : goal.returns-in-None-clause-some
returns-in-None-clause-some c = λ r text tail t.
    let rest : Option (Bor (List ℕ)) = Some c.in_ok-rest.rest in
    let s = strip_prefix_is Decides-eqb c.in_ok-number.text.now c.args.monomial.now rest c.in_ok-rest.ensures.cases in
    let n = c.in_ok-number.ensures.some r (text ++ tail) t.small t.whole in
    let f = found-end c.args.monomial.now text tail c.in_ok-rest.rest.now c.in_ok-number.text.now c.requires t.free t.ends s n.1 c.in-None.ensures.cases in
    (f.0, n.0, f.1)

pub returns-then-byte-eq43-clause-some : goal.returns-then-byte-eq43-clause-some
returns-then-byte-eq43-clause-some c = λ r text tail t.
    let rest : Option (Bor (List ℕ)) = Some c.in_ok-rest.rest in
    let s = strip_prefix_is Decides-eqb c.in_ok-number.text.now c.args.monomial.now rest c.in_ok-rest.ensures.cases in
    let n = c.in_ok-number.ensures.some r (text ++ tail) t.small t.whole in
    let f = found-plus c.args.monomial.now text tail c.in_ok-rest.rest.now c.in_ok-number.text.now c.requires t.free t.ends s n.1 c.in-Some.byte.now
    c.in-Some.behind.now c.in-Some.ensures.cases.0 c.if-byte-eq43.true in
    (f.0, n.0, f.1)
