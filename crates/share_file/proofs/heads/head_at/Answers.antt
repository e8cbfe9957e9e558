use Rattle.std.proofs.Common.{◌≡◌, true, false, arith}
use Rattle.share_model.specs.declared.share.ShareId.{ShareId}
use Rattle.share_model.specs.Shares.{IsShareId}
use Rattle.share_file.proofs.HeadNumbers.{head_back, none_head, not_head}
use Rattle.share_file.proofs.heads.head_at.Goals as goal

pub returns-in_default-clause-none : goal.returns-in_default-clause-none
returns-in_default-clause-none c = none_head c.args.bytes.now (rw c.in_default.is at c.numbers_at.ensures)

pub returns-then-not-is_share_id-clause-none : goal.returns-then-not-is_share_id-clause-none
returns-then-not-is_share_id-clause-none c =
    let id : ShareId = record { index = c.in-Some.index; of = c.in-Some.of } in
    let refused : ¬ (IsShareId id) = λ is. let yes : c.is_share_id.result ≡ true = c.is_share_id.ensures.1 is in
    let no : c.is_share_id.result ≡ false = c.if-not-is_share_id.true in absurd (cc (yes, no)) in
    not_head c.args.bytes.now id c.in-Some.rest.now (rw c.in-Some.is at c.numbers_at.ensures) refused

pub returns-clause-some : goal.returns-clause-some
returns-clause-some c =
    let id : ShareId = record { index = c.in-Some.index; of = c.in-Some.of } in (
      c.is_share_id.ensures.0 c.if-not-is_share_id.false,
      head_back c.args.bytes.now id c.in-Some.rest.now (λ k. let h = c.type_inv.bytes k in omega arith) (rw c.in-Some.is at c.numbers_at.ensures),
    )
