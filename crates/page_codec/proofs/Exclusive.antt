-- Parameters that pass are not refused.
use Rattle.std.proofs.Common.{ℕ, ◌≤◌, List, Option, Some, None, inl, inr, arith}
use Rattle.page_codec.specs.declared.params.Params.{Params}
use Rattle.page_codec.specs.declared.fault.ParamFault.{ParamFault}
use Rattle.page_codec.specs.declared.fault.ParamFault.TheVariants.{Weight, Depth, Modulus, NotBelow, Order, Preferred, Columns}
use Rattle.page_codec.specs.Tests.{Passes, Refuses, AreNamed, FailsText, pieces_of}
use Rattle.page_codec.proofs.Naming.{named_or_fails}

no_fails : (w d k : ℕ) (text : Option (List ℕ)) (p : Params) → w ≤ 24 → AreNamed w d text p.preferred → ¬ (FailsText w d text k)
no_fails w d k None p most named fails = fails
no_fails w d k (Some text) p most named fails = named_or_fails w d 0 k None (pieces_of text) p.preferred most named fails

pub not_both : (w d m : ℕ) (order : List ℕ) (text : Option (List ℕ)) (p : Params) (fault : ParamFault) → Passes w d m order text p
    → ¬ (Refuses w d m order text fault)
not_both w d m order text p (Weight n) passes refused = let is = passes.numbers in let a = is.weight_from in let b = is.weight_to in
    elim refused.1 [ inl h ↦ absurd (omega arith) | inr h ↦ absurd (omega arith) ]
not_both w d m order text p (Depth n) passes refused = let is = passes.numbers in let a = is.depth_from in let b = is.depth_to in
    elim refused.3 [ inl h ↦ absurd (omega arith) | inr h ↦ absurd (omega arith) ]
not_both w d m order text p (Modulus n) passes refused = let is = passes.numbers in let a = is.modulus_from in let b = is.modulus_to in
    elim refused.5 [ inl h ↦ absurd (omega arith) | inr h ↦ absurd (omega arith) ]
not_both w d m order text p (NotBelow a b) passes refused = let is = passes.numbers in let c = is.below in let e = refused.7 in absurd (omega arith)
not_both w d m order text p Order passes refused = refused.1 (p.order, passes.order_is)
not_both w d m order text p (Preferred k) passes refused = let is = passes.numbers in no_fails w d k text p is.weight_to passes.preferred refused.2
not_both w d m order text p (Columns n) passes refused = let few = passes.columns in let e = refused.3 in let over = refused.4 in absurd (omega arith)
