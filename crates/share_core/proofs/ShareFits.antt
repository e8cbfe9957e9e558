-- Tests by which a share fits.
use Rattle.std.proofs.Common.{◌≡◌, ℕ, ◌≤◌, ◌<◌, length, refl, sym, ◌∙◌, ap, subst}
use Rattle.std.specs.List.{AllByRecursion}
use Rattle.column_order.specs.Columns.{column_count}
use Rattle.relation_list.specs.Listings.{listing_of}
use Rattle.page_codec.specs.declared.params.Params.{Params}
use Rattle.page_codec.specs.Bounds.{IsParams}
use Rattle.page_codec.specs.Places.{FinalInTable}
use Rattle.table_model.specs.ListedSpan.{relation_count}
use Rattle.share_model.specs.declared.share.Share.{Share}
use Rattle.share_core.specs.Coordinations.{Setting, IsSetting}
use Rattle.share_core.specs.Steps.{Fits}
use Rattle.share_core.specs.Inner.{AreRows}

counted : (w d : ℕ) → length (listing_of w d) ≡ relation_count w d
unfolding relation_count
counted w d = refl

module _ {R : Type 0} (modulus_of : R → ℕ) (setting : Setting R) (share : Share) where
  -- how many names the setting has
  name_count : IsSetting modulus_of setting → length setting.names ≡ relation_count setting.params.weight setting.params.depth
  name_count is = ap length is.names ∙ counted setting.params.weight setting.params.depth

  -- the tests that a share passes
  pub record Passes : Type 0 where
    pub params : share.params ≡ setting.params
    pub of : share.id.of ≡ setting.of
    pub index : share.id.index < setting.of
    pub rows : AreRows setting.params (length setting.names) share.rows

  pub fits_if : IsSetting modulus_of setting → Passes → Fits setting share
  fits_if is p = record {
    params = p.params;
    of = p.of;
    is_share = record {
      params = subst IsParams (sym p.params) is.params;
      id = record {
        some = subst (λ n. 1 ≤ n) (sym p.of) is.some;
        few = subst (λ n. n ≤ 256) (sym p.of) is.few;
        below = subst (λ n. share.id.index < n) (sym p.of) p.index;
      };
      few = subst (λ (q : Params). length share.rows ≤ column_count q.weight q.depth) (sym p.params) p.rows.few;
      entries = p.rows.entries;
      in_table = subst (λ (q : Params). AllByRecursion (FinalInTable q (relation_count q.weight q.depth)) share.rows) (sym p.params)
          (subst (λ n. AllByRecursion (FinalInTable setting.params n) share.rows) (name_count is) p.rows.in_table);
    };
  }

  pub passes_if : IsSetting modulus_of setting → Fits setting share → Passes
  passes_if is f = record {
    params = f.params;
    of = f.of;
    index = subst (λ n. share.id.index < n) f.of f.is_share.id.below;
    rows = record {
      few = subst (λ (q : Params). length share.rows ≤ column_count q.weight q.depth) f.params f.is_share.few;
      entries = f.is_share.entries;
      in_table = subst (λ n. AllByRecursion (FinalInTable setting.params n) share.rows) (sym (name_count is))
          (subst (λ (q : Params). AllByRecursion (FinalInTable q (relation_count q.weight q.depth)) share.rows) f.params f.is_share.in_table);
    };
  }
