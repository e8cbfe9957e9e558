use Rattle.std.proofs.Common.{◌≢◌, All, subst}
use Rattle.std.specs.Prelude.{Result, Ok, Err, IfOk}
use Rattle.std.specs.Map.{values_of}
use Rattle.dual_reply.proofs.FoldedTerms.{ordered-IsListing}
use Rattle.dual_reply.proofs.listing.listing.Goals as goal

both : {X E : Type 0} (P Q R : X → Type 0) → ((x : X) → P x → Q x → R x) → (r : Result X E) → IfOk r P → IfOk r Q → IfOk r R
both P Q R f (Ok x) p q = f x p q
both P Q R f (Err e) p q = tt

pub returns : goal.returns
returns c =
    let nonzero = subst (λ es. All (λ a. a ≢ 0) (values_of es)) c.sum.view_is c.sum.invariant.nonzero in
    both _ _ _
    (λ entries increasing moved.
    ordered-IsListing c.args.ring.now.modulus c.args.terms.now c.in_ok-sum.sum entries.items moved increasing nonzero c.in_ok-sum.ensures.in_ring
    c.in_ok-sum.ensures.value)
    c.ordered.result c.ordered.ensures.increasing c.ordered.ensures.terms
