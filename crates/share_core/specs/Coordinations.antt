-- What contracts see of a coordinator.
use Rattle.std.specs.Prelude.{◌≡◌, ◌≢◌, ℕ, ◌≤◌, ◌<◌, List, All, AllPairs}
use Rattle.relation_list.specs.declared.names.RelName.{RelName}
use Rattle.relation_list.specs.Listings.{listing_of}
use Rattle.lyndon_polys.specs.Tables.{RingTable}
use Rattle.page_codec.specs.declared.params.Params.{Params}
use Rattle.page_codec.specs.Bounds.{IsParams}
use Rattle.file_model.specs.TableOf.{IsTableOf}
use Rattle.share_model.specs.Checked.{Checked}
use Rattle.share_merge.specs.Turns.{HasIndex}
use Rattle.share_core.specs.Lists.{Lists}

-- the table, the names of its listing, its parameters, and in how many shares it is divided
pub record Setting (R : Type 0) : Type 0 where
  pub table : RingTable R
  pub names : List RelName
  pub params : Params
  pub of : ℕ

-- table and names are those of the parameters, and there are 1 to 256 shares
pub record IsSetting {R : Type 0} (modulus_of : R → ℕ) (setting : Setting R) : Type 0 where
  pub params : IsParams setting.params
  pub table : IsTableOf setting.params setting.table.columns
  pub modulus : modulus_of setting.table.ring ≡ setting.params.modulus
  pub names : setting.names ≡ listing_of setting.params.weight setting.params.depth
  pub some : 1 ≤ setting.of
  pub few : setting.of ≤ 256

module _ {R E : Type 0} where
  -- a share of this table
  pub record Belongs (setting : Setting R) (c : Checked R E) : Type 0 where
    pub params : c.params ≡ setting.params
    pub ring : c.list.ring ≡ setting.table.ring
    pub of : c.id.of ≡ setting.of
    pub below : c.id.index < setting.of

  -- shares of this table with indices apart, and grants with indices apart, none of them counted
  pub record AreLists (setting : Setting R) (lists : Lists R E) : Type 0 where
    pub belong : All (Belongs setting) lists.counted
    pub apart : AllPairs (λ c d. c.id.index ≢ d.id.index) lists.counted
    pub below : All (λ g. g.0 < setting.of) lists.granted
    pub granted_apart : AllPairs (λ g h. g.0 ≢ h.0) lists.granted
    pub not_counted : All (λ g. ¬ (HasIndex lists.counted g.0)) lists.granted

-- what a coordinator is set to, and the two lists that it keeps
pub record Coordination (R E : Type 0) : Type 0 where
  pub setting : Setting R
  pub lists : Lists R E
