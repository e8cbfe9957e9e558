use Rattle.std.proofs.Common.{◌≡◌, ◌+◌, ◌≤◌, length, sym, ap, subst, ◌∙◌, arith}
use Rattle.lyndon_words.specs.Monomials.{IsMonomial, IsProduct, product_of}
use Rattle.lyndon_words.proofs.Products.{IsProduct-product_of, product-fits}
use Rattle.lyndon_words.proofs.monomial.Monomial.times.Goals as goal

pub product-requires : goal.product-requires
product-requires c =
    let ma : IsMonomial c.args.self.now = subst IsMonomial c.self.view_is c.self.invariant.0 in
    let mb : IsMonomial c.args.other.now = subst IsMonomial c.other.view_is c.other.invariant.0 in
    let fits : length c.args.self.now + length c.args.other.now ≤ 12 = product-fits c.args.self.now c.args.other.now ma mb (omega arith) in
    omega (arith, ap length (c.as_slice.ensures ∙ c.self.view_is), ap length (c.as_slice-2.ensures ∙ c.other.view_is))

pub returns-clause-product : goal.returns-clause-product
returns-clause-product c =
    let ma : IsMonomial c.args.self.now = subst IsMonomial c.self.view_is c.self.invariant.0 in
    let mb : IsMonomial c.args.other.now = subst IsMonomial c.other.view_is c.other.invariant.0 in
    let made : c.product.result.items ≡ product_of c.args.self.now c.args.other.now =
    c.product.ensures.items ∙ (λ i. product_of ((c.as_slice.ensures ∙ c.self.view_is) i) ((c.as_slice-2.ensures ∙ c.other.view_is) i)) in
    subst (IsProduct c.args.self.now c.args.other.now) (sym made) (IsProduct-product_of c.args.self.now c.args.other.now ma mb (omega arith))

pub invariant_of-result : goal.invariant_of-result
invariant_of-result c =
    let ma : IsMonomial c.args.self.now = subst IsMonomial c.self.view_is c.self.invariant.0 in
    let mb : IsMonomial c.args.other.now = subst IsMonomial c.other.view_is c.other.invariant.0 in
    let made : c.product.result.items ≡ product_of c.args.self.now c.args.other.now =
    c.product.ensures.items ∙ (λ i. product_of ((c.as_slice.ensures ∙ c.self.view_is) i) ((c.as_slice-2.ensures ∙ c.other.view_is) i)) in
    (subst IsMonomial (sym made) (IsProduct-product_of c.args.self.now c.args.other.now ma mb (omega arith)).monomial, c.product.ensures.capacity)
