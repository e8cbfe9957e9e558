use Rattle.std.proofs.Common.{◌≡◌, ◌++◌, List, string_bytes, get_or, ap, slice_get, Some, [], ℕ, sym, ◌∙◌}
use Rattle.std.proofs.lemmas.Option.{get_or_from_slice_get}
use Rattle.zeta_model.specs.declared.Letter.{Letter}
use Rattle.poly_print.specs.Polynomials.{monomial_text}
use Rattle.std.specs.Prelude.{codes}
use Rattle.std.specs.Fmt.{decimal}
use Rattle.std.proofs.lemmas.Result.{on_ok_weaker}
use Rattle.std.proofs.Common.{append_assoc}
use Rattle.poly_print.proofs.row.push_term.Goals as goal

written : (out digits front out' : List ℕ) (p q : List (List Letter)) → front ≡ (out ++ digits) ++ codes "*" → q ≡ p → out' ≡ front ++ monomial_text p
    → out' ≡ out ++ (digits ++ (codes "*" ++ monomial_text q))
written out digits front out' p q e s h =
    h ∙ ap (λ f. f ++ monomial_text p) e ∙ append_assoc (out ++ digits) (codes "*") (monomial_text p)
    ∙ append_assoc out digits (codes "*" ++ monomial_text p) ∙ ap (λ r. out ++ (digits ++ (codes "*" ++ monomial_text r))) (sym s)

pub returns : goal.returns
returns c =
    let at : slice_get c.args.columns.now.list c.args.col ≡ Some c.at.result.now = sym (ap (slice_get c.args.columns.now.list) c.from.ensures)
    ∙ c.at.ensures.at in
    let same : get_or c.args.columns.now.list c.args.col [] ≡ c.at.result.now =
    get_or_from_slice_get c.args.columns.now.list c.args.col c.at.result.now [] at in
    let front : string_bytes c.push_str.new.self ≡ (string_bytes c.args.text.now ++ decimal c.args.residue) ++ codes "*" = c.in_ok-push_str.ensures.bytes
    ∙ ap (λ t. t ++ codes "*") c.in_ok-push_number.ensures in
    on_ok_weaker c.push_monomial.result (λ e. written (string_bytes c.args.text.now) (decimal c.args.residue) _ _ _ _ front same e) c.push_monomial.ensures
