use Rattle.std.proofs.Common.{◌≡◌, ◌<◌, true, ◌∙◌, ap, subst}
use Rattle.share_model.specs.Dealing.{share_size}
use Rattle.share_build.specs.Inner.{HasOffered, IsFinish}
use Rattle.share_build.proofs.TableFaults.{work_cause}
use Rattle.share_build.proofs.BuiltShares.{is_share, is_result, goes_through}
use Rattle.share_build.proofs.building.build_share.Goals as goal

pub returns-in-Err-clause-err : goal.returns-in-Err-clause-err
returns-in-Err-clause-err g c = c.in-Err.ensures.fault c.args.id

pub returns-in-Err-offered-clause-err : goal.returns-in-Err-offered-clause-err
returns-in-Err-offered-clause-err g c =
    let ring = c.in-Ok.table.ring in
    work_cause c.args.params.now c.args.id (g.R.Ring.modulus ring) c.in-Ok.table.columns
    (ap (λ r. g.R.Ring.modulus r) c.in-Ok.ensures.ring ∙ c.requires.modulus) c.in-Ok.ensures.columns c.in-Ok.ensures.converts c.in-Err-offered.fault
    c.in-Err-offered.ensures.fault

pub returns-in-Ok-finish-clause-share : goal.returns-in-Ok-finish-clause-share
returns-in-Ok-finish-clause-share g c =
    let params = c.args.params.now in
    let id = c.args.id in
    let table = c.in-Ok.table in
    let ring = table.ring in
    let has = g.R.Ring.has ring in
    let value = g.R.Ring.value ring in
    let zero = g.R.Ring.zero in
    let e = c.in-Ok-offered.echelon in
    let entries = c.in-Ok-finish.rows in
    let same : g.R.Ring.modulus ring ≡ params.modulus = ap (λ r. g.R.Ring.modulus r) c.in-Ok.ensures.ring ∙ c.requires.modulus in
    let below : (a : g.row.R-Elem.Denot) → has a ≡ true → value a < params.modulus =
    subst (λ k. (a : g.row.R-Elem.Denot) → has a ≡ true → value a < k) same (g.met.R.Ring.value_below ring) in
    let offered : HasOffered params.modulus has value zero table id.index id.of (share_size table.columns id.index id.of) e =
    subst (λ k. HasOffered k has value zero table id.index id.of (share_size table.columns id.index id.of) e) same c.in-Ok-offered.ensures.ok in
    let finish : IsFinish params.modulus has value zero e.core.columns e.core.rows e.combinations entries =
    subst (λ k. IsFinish k has value zero e.core.columns e.core.rows e.combinations entries) same
    (subst (λ r. IsFinish (g.R.Ring.modulus r) (g.R.Ring.has r) (g.R.Ring.value r) zero e.core.columns e.core.rows e.combinations entries) c.ring.ensures
    c.in-Ok-finish.ensures) in
    is_share params c.requires.params id c.requires.id has value zero (g.met.R.Ring.has_zero ring) (g.met.R.Ring.value_zero ring)
    (g.met.R.Ring.value_injective ring) below table c.in-Ok.ensures.columns e offered entries finish

pub returns-in-Ok-finish-clause-result : goal.returns-in-Ok-finish-clause-result
returns-in-Ok-finish-clause-result g c =
    let params = c.args.params.now in
    let id = c.args.id in
    let table = c.in-Ok.table in
    let ring = table.ring in
    let has = g.R.Ring.has ring in
    let value = g.R.Ring.value ring in
    let zero = g.R.Ring.zero in
    let e = c.in-Ok-offered.echelon in
    let entries = c.in-Ok-finish.rows in
    let same : g.R.Ring.modulus ring ≡ params.modulus = ap (λ r. g.R.Ring.modulus r) c.in-Ok.ensures.ring ∙ c.requires.modulus in
    let below : (a : g.row.R-Elem.Denot) → has a ≡ true → value a < params.modulus =
    subst (λ k. (a : g.row.R-Elem.Denot) → has a ≡ true → value a < k) same (g.met.R.Ring.value_below ring) in
    let offered : HasOffered params.modulus has value zero table id.index id.of (share_size table.columns id.index id.of) e =
    subst (λ k. HasOffered k has value zero table id.index id.of (share_size table.columns id.index id.of) e) same c.in-Ok-offered.ensures.ok in
    let finish : IsFinish params.modulus has value zero e.core.columns e.core.rows e.combinations entries =
    subst (λ k. IsFinish k has value zero e.core.columns e.core.rows e.combinations entries) same
    (subst (λ r. IsFinish (g.R.Ring.modulus r) (g.R.Ring.has r) (g.R.Ring.value r) zero e.core.columns e.core.rows e.combinations entries) c.ring.ensures
    c.in-Ok-finish.ensures) in
    is_result params c.requires.params id c.requires.id has value zero (g.met.R.Ring.has_zero ring) (g.met.R.Ring.value_zero ring)
    (g.met.R.Ring.value_injective ring) below table c.in-Ok.ensures.columns e offered entries finish

pub returns-in-Ok-finish-clause-unbroken : goal.returns-in-Ok-finish-clause-unbroken
returns-in-Ok-finish-clause-unbroken g c =
    let params = c.args.params.now in
    let id = c.args.id in
    let table = c.in-Ok.table in
    let ring = table.ring in
    let has = g.R.Ring.has ring in
    let value = g.R.Ring.value ring in
    let zero = g.R.Ring.zero in
    let e = c.in-Ok-offered.echelon in
    let entries = c.in-Ok-finish.rows in
    let same : g.R.Ring.modulus ring ≡ params.modulus = ap (λ r. g.R.Ring.modulus r) c.in-Ok.ensures.ring ∙ c.requires.modulus in
    let below : (a : g.row.R-Elem.Denot) → has a ≡ true → value a < params.modulus =
    subst (λ k. (a : g.row.R-Elem.Denot) → has a ≡ true → value a < k) same (g.met.R.Ring.value_below ring) in
    let offered : HasOffered params.modulus has value zero table id.index id.of (share_size table.columns id.index id.of) e =
    subst (λ k. HasOffered k has value zero table id.index id.of (share_size table.columns id.index id.of) e) same c.in-Ok-offered.ensures.ok in
    let finish : IsFinish params.modulus has value zero e.core.columns e.core.rows e.combinations entries =
    subst (λ k. IsFinish k has value zero e.core.columns e.core.rows e.combinations entries) same
    (subst (λ r. IsFinish (g.R.Ring.modulus r) (g.R.Ring.has r) (g.R.Ring.value r) zero e.core.columns e.core.rows e.combinations entries) c.ring.ensures
    c.in-Ok-finish.ensures) in
    goes_through params c.requires.params id c.requires.id has value zero (g.met.R.Ring.has_zero ring) (g.met.R.Ring.value_zero ring)
    (g.met.R.Ring.value_injective ring) below table c.in-Ok.ensures.columns e offered entries finish
