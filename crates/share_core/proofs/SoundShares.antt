-- What is read from a share that is a result is one too.
use Rattle.std.proofs.Common.{◌≡◌, ℕ, ◌+◌, cond, eqb, List, [], ◌∷◌, length, get_or, map, refl, sym, ◌∙◌, ap, subst}
use Rattle.std.specs.Prelude.{All}
use Rattle.std.proofs.Math.ListN.{get_or-map}
use Rattle.std.proofs.lemmas.List.{length-map}
use Rattle.sparse_rows.specs.Entries.{entry_of}
use Rattle.echelon.specs.Lists.{lead_of, lead_at, row_at}
use Rattle.page_codec.specs.declared.params.Params.{Params}
use Rattle.page_codec.specs.declared.parts.FinalEntry.{FinalEntry}
use Rattle.page_rows.specs.Written.{written}
use Rattle.file_model.specs.Pages.{pairs_of}
use Rattle.file_model.specs.FinalRows.{no_entry}
use Rattle.file_model.specs.TableOf.{IsTableOf}
use Rattle.share_model.specs.declared.share.Share.{Share}
use Rattle.share_model.specs.Dealing.{IsShareResult}
use Rattle.share_model.specs.Shares.{IsResult, share_lead, share_row, share_combination}
use Rattle.share_model.specs.Checked.{Checked}
use Rattle.share_core.specs.declared.events.Event.{Event}
use Rattle.share_core.specs.declared.events.Answer.{Answer}
use Rattle.share_core.specs.Lists.{Lists}
use Rattle.share_core.specs.Coordinations.{Setting, AreLists}
use Rattle.share_core.specs.Steps.{IsReadFrom}
use Rattle.share_core.specs.Runs.{IsSound, IsFirstDelivered}

module _ {E : Type 0} (value : E → ℕ) where
  entry-written : (row : List (ℕ × E)) (col : ℕ) → entry_of (λ k. k) (λ v. v) (written value row) col ≡ entry_of (λ k. k) value row col
  entry-written [] col = refl
  entry-written (e ∷ row) col = ap (λ rest. cond (eqb e.0 col) (value e.1) 0 + rest) (entry-written row col)

  lead-written : (row : List (ℕ × E)) → lead_of row ≡ lead_of (written value row)
  lead-written [] = refl
  lead-written (e ∷ row) = refl

  module _ (part : FinalEntry → List (ℕ × ℕ)) (ends : part no_entry ≡ []) (entries : List FinalEntry) (rows : List (List (ℕ × E)))
      (read : map (written value) rows ≡ map part entries) where
    row_written : (i : ℕ) → written value (get_or rows i []) ≡ part (get_or entries i no_entry)
    row_written i =
        sym (get_or-map (written value) rows i []) ∙ ap (λ list. get_or list i []) read ∙ ap (get_or (map part entries) i) (sym ends)
        ∙ get_or-map part entries i no_entry

    as_many : length rows ≡ length entries
    as_many = sym (length-map rows (written value)) ∙ ap length read ∙ length-map entries part

    same_rows : row_at value rows ≡ (λ i. pairs_of (part (get_or entries i no_entry)))
    same_rows = λ j i col. (sym (entry-written (get_or rows i []) col) ∙ ap (λ pairs. pairs_of pairs col) (row_written i)) j

    same_leads : lead_at rows ≡ (λ i. lead_of (part (get_or entries i no_entry)))
    same_leads = λ j i. (lead-written (get_or rows i []) ∙ ap lead_of (row_written i)) j

module _ {R E : Type 0} (value : E → ℕ) (setting : Setting R) where
  sound_read : (share : Share) (c : Checked R E) → IsReadFrom value setting.table.ring share c → IsResult share → share.params ≡ setting.params
      → IsSound value setting c
  sound_read share c read result same columns is =
      let m = setting.params.modulus in
      let rows = same_rows value (λ (e : FinalEntry). e.row) refl share.rows c.list.rows read.rows in
      let leads = same_leads value (λ (e : FinalEntry). e.row) refl share.rows c.list.rows read.rows in
      let combinations = same_rows value (λ (e : FinalEntry). e.combination) refl share.rows c.combinations read.combinations in
      let count = as_many value (λ (e : FinalEntry). e.row) refl share.rows c.list.rows read.rows in
      let found : IsShareResult m columns share.id.index share.id.of (length share.rows) (share_lead share) (share_row share)
      (share_combination share) =
      subst (λ (p : Params). IsShareResult p.modulus columns share.id.index share.id.of (length share.rows) (share_lead share) (share_row share)
      (share_combination share)) same (result columns (subst (λ (p : Params). IsTableOf p columns) (sym same) is)) in
      subst (λ id. IsShareResult m columns id.index id.of (length c.list.rows) (lead_at c.list.rows) (row_at value c.list.rows)
      (row_at value c.combinations)) (sym read.id)
      (subst (λ n. IsShareResult m columns share.id.index share.id.of n (lead_at c.list.rows) (row_at value c.list.rows)
      (row_at value c.combinations)) (sym count)
      (subst (λ (l : ℕ → ℕ). IsShareResult m columns share.id.index share.id.of (length share.rows) l (row_at value c.list.rows)
      (row_at value c.combinations)) (sym leads)
      (subst (λ (r : ℕ → ℕ → ℕ). IsShareResult m columns share.id.index share.id.of (length share.rows) (share_lead share) r
      (row_at value c.combinations)) (sym rows)
      (subst (λ (r : ℕ → ℕ → ℕ). IsShareResult m columns share.id.index share.id.of (length share.rows) (share_lead share) (share_row share) r)
      (sym combinations) found))))

  -- each counted share is a result
  pub sound_lists : (steps : List (Event × Answer)) (lists : Lists R E) → AreLists setting lists → All (IsFirstDelivered value setting steps) lists.counted
      → All (IsSound value setting) lists.counted
  sound_lists steps lists kept first k d inside =
      let c = get_or lists.counted k d in
      let f = first k d inside in
      let b = kept.belong k d inside in
      sound_read f.share c f.read f.result (sym f.read.params ∙ b.params)
