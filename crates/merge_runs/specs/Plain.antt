-- Shares as contracts see checked ones, with residues for elements: so their turns are those of the rows as a file has them.
use Rattle.std.specs.Prelude.{ℕ, List, map}
use Rattle.column_order.specs.Columns.{column_count}
use Rattle.page_codec.specs.declared.parts.FinalEntry.{FinalEntry}
use Rattle.page_rows.specs.Written.{written}
use Rattle.share_model.specs.declared.share.Share.{Share}
use Rattle.share_model.specs.Checked.{Checked}

-- the ring is told by its modulus
abbrev pub plain_share : Share → Checked ℕ ℕ
plain_share s = record {
  params = s.params;
  id = s.id;
  list = record { ring = s.params.modulus; columns = column_count s.params.weight s.params.depth; rows = map (λ (e : FinalEntry). e.row) s.rows };
  combinations = map (λ (e : FinalEntry). e.combination) s.rows;
}

abbrev pub plain_shares : List Share → List (Checked ℕ ℕ)
plain_shares shares = map plain_share shares

-- a checked share with the residues that its elements stand for
abbrev pub plain_of : {R E : Type 0} → (E → ℕ) → Checked R E → Checked ℕ ℕ
plain_of value c = record {
  params = c.params;
  id = c.id;
  list = record { ring = c.params.modulus; columns = column_count c.params.weight c.params.depth; rows = map (written value) c.list.rows };
  combinations = map (written value) c.combinations;
}
