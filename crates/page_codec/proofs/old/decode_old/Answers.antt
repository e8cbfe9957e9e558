use Rattle.std.proofs.Common.{◌≡◌, true, false, refl, arith}
use Rattle.page_codec.specs.Bounds.{IsParams}
use Rattle.page_codec.proofs.OldHeader.{none_old, not_old, old_back}
use Rattle.page_codec.proofs.old.decode_old.Goals as goal

pub returns-in_default-clause-none : goal.returns-in_default-clause-none
returns-in_default-clause-none c = none_old c.args.bytes.now c.in_default.ensures.read

pub returns-then-not-is_params-clause-none : goal.returns-then-not-is_params-clause-none
returns-then-not-is_params-clause-none c =
    let refused : ¬ (IsParams c.in-Some.params) = λ is. let yes : c.is_params.result ≡ true = c.is_params.ensures.1 is in
    let no : c.is_params.result ≡ false = c.if-not-is_params.true in absurd (cc (yes, no)) in
    not_old c.args.bytes.now c.in-Some.params _ c.in-Some.ensures.read c.in-Some.ensures.none refused

pub returns-clause-found : goal.returns-clause-found
returns-clause-found c = (
  (c.is_params.ensures.0 c.if-not-is_params.false, c.in-Some.ensures.none),
  (_, old_back c.args.bytes.now c.in-Some.params _ (λ k. let h = c.type_inv.bytes k in omega arith) c.in-Some.ensures.read),
  refl,
)
