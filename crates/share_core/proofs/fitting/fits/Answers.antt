use Rattle.std.proofs.Common.{◌≡◌, length, sym, subst, ◌∙◌, arith, List}
use Rattle.relation_list.specs.declared.names.RelName.{RelName}
use Rattle.page_codec.specs.declared.params.Params.{Params}
use Rattle.page_codec.specs.declared.parts.FinalEntry.{FinalEntry}
use Rattle.share_core.specs.Inner.{AreRows}
use Rattle.share_core.proofs.ShareFits.{fits_if, passes_if}
use Rattle.share_core.proofs.fitting.fits.Goals as goal

pub returns-then-not-are_same : goal.returns-then-not-are_same
returns-then-not-are_same g c = (
  λ e. absurd (cc e),
  λ f. let p = passes_if g.R.Ring.modulus c.args.setting.now c.args.share.now c.params-params.ensures.setting f in
      let same = c.are_same.ensures.1 (subst (λ (q : Params). c.args.share.now.params ≡ q) (sym c.params-params.ensures.params) p.params) in
      let other = c.if-not-are_same.true in
      absurd (cc (same, other)),
)

pub returns-then-share-of : goal.returns-then-share-of
returns-then-share-of g c = (
  λ e. absurd (cc e),
  λ f. let p = passes_if g.R.Ring.modulus c.args.setting.now c.args.share.now c.params-params.ensures.setting f in
      absurd (omega (arith, c.if-share-of.true, p.of, c.of-of.ensures.of)),
)

pub returns-then-share-of-2 : goal.returns-then-share-of-2
returns-then-share-of-2 g c = (
  λ e. absurd (cc e),
  λ f. let p = passes_if g.R.Ring.modulus c.args.setting.now c.args.share.now c.params-params.ensures.setting f in
      absurd (omega (arith, c.if-share-of-2.true, p.index, c.of-of.ensures.of)),
)

pub returns : goal.returns
returns g c =
    let params = c.params-params.ensures.params in
    let entries = c.as_slice.ensures in
    let names = c.names.ensures in (
      λ yes. fits_if g.R.Ring.modulus c.args.setting.now c.args.share.now c.params-params.ensures.setting (record {
        params = subst (λ (q : Params). c.args.share.now.params ≡ q) params (c.are_same.ensures.0 c.if-not-are_same.false);
        of = c.if-share-of.false ∙ c.of-of.ensures.of;
        index = omega (arith, c.if-share-of-2.false, c.of-of.ensures.of);
        rows = subst (λ (q : Params). AreRows q (length c.args.setting.now.names) c.args.share.now.rows) params
            (subst (λ (list : List RelName). AreRows c.params-params.result.now (length list) c.args.share.now.rows) names
            (subst (λ (list : List FinalEntry). AreRows c.params-params.result.now (length c.names.result.now) list) entries
            (c.are_rows.ensures.0 yes)));
      }),
      λ f. let p = passes_if g.R.Ring.modulus c.args.setting.now c.args.share.now c.params-params.ensures.setting f in
          c.are_rows.ensures.1 (subst (λ (list : List FinalEntry). AreRows c.params-params.result.now (length c.names.result.now) list) (sym entries)
          (subst (λ (list : List RelName). AreRows c.params-params.result.now (length list) c.args.share.now.rows) (sym names)
          (subst (λ (q : Params). AreRows q (length c.args.setting.now.names) c.args.share.now.rows) (sym params) p.rows))),
    )
