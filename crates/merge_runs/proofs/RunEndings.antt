-- What runs of a merge have of the whole one.
use Rattle.std.specs.Prelude.{◌≡◌, ◌⊎◌, ℕ, ◌<◌, ◌≤◌, List, [], ◌∷◌, ◌++◌, length, get_or, Option, Some, None, Ok, Err, Result, IfOk, MatchResult, IfSome, IsSomeAnd, string_bytes}
use Rattle.std.specs.declared.alloc.AllocError.{AllocError}
use Rattle.std.proofs.Common.{refl, sym, ap, subst, ◌∙◌, inl, inr, arith}
use Rattle.std.proofs.lemmas.List.{ext_get_or}
use Rattle.outside_io.specs.Causes.{Rose}
use Rattle.outside_io.specs.Told.{after_told}
use Rattle.outside_io.specs.Traces.{Trace}
use Rattle.zeta_model.specs.declared.Letter.{Letter}
use Rattle.column_order.specs.Columns.{ColumnList}
use Rattle.lyndon_polys.specs.declared.fault.LyndonFault.{LyndonFault}
use Rattle.lyndon_polys.specs.declared.fault.LyndonFault.TheVariants as lyndon
use Rattle.table_model.specs.Faults.{IsNotInvertible}
use Rattle.whole_runs.specs.Texts.{word_line}
use Rattle.table_model.specs.Conversion.{Converts}
use Rattle.file_model.specs.TableOf.{IsTableOf}
use Rattle.merge_program.specs.declared.status.MergeStatus.{MergeStatus}
use Rattle.merge_program.specs.declared.status.MergeStatus.TheVariants as status
use Rattle.merge_program.specs.declared.words.TableWords.{TableWords}
use Rattle.merge_program.specs.declared.words.MergeWordsFault.{MergeWordsFault}
use Rattle.merge_program.specs.declared.words.MergeWordsFault.TheVariants.{Usage, Param, Shares, Share as ShareIndex}
use Rattle.merge_program.specs.MergeWords.{TableRequest, AsksForTable}
use Rattle.merge_program.specs.ShareRuns.{Ends, refusal_line, refusal_status}
use Rattle.merge_program.specs.ShareRuns.Ends.{whole, cut_off}
use Rattle.merge_runs.specs.MergeWords.{Asked, AsksForMerge, merge_request, FailsTest}
use Rattle.merge_runs.specs.declared.merging.BrokenOff.{BrokenOff}
use Rattle.merge_runs.specs.declared.merging.Ending.{Ending}
use Rattle.merge_runs.specs.declared.taking.NotAShare.{NotAShare}
use Rattle.merge_runs.specs.Disks.{AreTold, TellAll}
use Rattle.merge_runs.specs.Runs.{Run, ends, file_line, IsOver, IsOverTable, IsMergeRun}
use Rattle.merge_runs.specs.Runs.IsFinish.{missing, broken, merged}
use Rattle.merge_runs.specs.Runs.IsOver.{no_inverse, refused, finished}
use Rattle.merge_runs.specs.Outcomes.{Goes, IsOutcome, WritesMerged}
use Rattle.merge_runs.specs.Outcomes.Goes.{broken_off, ended}
use Rattle.merge_runs.specs.Inner.{HoldsOfFiles, HasRefused, why_of}
use Rattle.merge_runs.proofs.ManyDisks.{none_told, rest_told, all_told}
use Rattle.merge_runs.proofs.OneMerge.{one_merge, each_merge}
use Rattle.merge_runs.proofs.OneRows.{merged_reduced}

-- some files of all disks
pub some_files : (told : List (Option Trace)) → (files : List (List ℕ)) × AreTold told files
some_files told = rest_told [] told [] none_told

-- disks that tell all tell one list of files
pub one_told : (told : List (Option Trace)) (files others : List (List ℕ)) → TellAll told files → AreTold told others → others ≡ files
one_told told files others x y =
    ext_get_or [] others files (y.count ∙ sym x.count)
    (λ k l. let inside : k < length told = omega (arith, l, y.count) in one (get_or told k None) (get_or files k []) (get_or others k []) (x.each k inside) (y.each k inside))
  where
    one : (told : Option Trace) (a b : List ℕ) → IsSomeAnd told (λ t. a ≡ t.now.contents) → IfSome told (λ t. b ≡ t.now.contents) → b ≡ a
    one None a b h g = absurd h
    one (Some t) a b h g = g ∙ sym h

-- what was made, unless memory was wanting
pub made_ok : {T A B : Type 0} (r : Result T A) (q : Result T B) (e : B) (P : T → Type 0) → MatchResult r (λ x. q ≡ Ok x) (λ _. q ≡ Err e)
    → IfOk r P → IfOk q P
made_ok (Ok x) q e P is h = subst (λ (p : Result _ _). IfOk p P) (sym is) h
made_ok (Err x) q e P is h = subst (λ (p : Result _ _). IfOk p P) (sym is) tt

-- the run over the columns of a file that is refused
pub refused_run : (merge : TableWords) (columns : ColumnList) → Converts merge.params.modulus columns → (told : List (Option Trace)) (k : ℕ) (why : NotAShare)
    → HasRefused merge told k why → (text : List ℕ) → text ≡ file_line columns.list k (why_of why)
    → HoldsOfFiles (λ files. IsOver merge columns files (ends text status.NotAShare)) told
refused_run merge columns converts told k why has text same =
    let all = all_told told k has.front has.file has.inside has.are_told has.is_told in
    record {
      files = has.front ++ has.file ∷ all.1;
      are_told = all.2;
      holds_of = refused converts has.front has.file all.1 refl has.counted has.takes (why_of why) has.refused
          (ap (λ t. ends t status.NotAShare) (same ∙ ap (λ n. file_line columns.list n (why_of why)) (sym all.0)));
    }

-- so it is where its line is made
pub refused_ok : (merge : TableWords) (columns : ColumnList) → IsTableOf merge.params columns → Converts merge.params.modulus columns
    → (told : List (Option Trace)) (k : ℕ) (why : NotAShare) → HasRefused merge told k why → (made : Result Ending AllocError)
    → IfOk made (λ ending. ending.status ≡ status.NotAShare)
    → IfOk made (λ ending. (others : ColumnList) → IsTableOf merge.params others → string_bytes ending.text ≡ file_line others.list k (why_of why))
    → IfOk made (λ ending. HoldsOfFiles (λ files. IsOver merge columns files (ends (string_bytes ending.text) ending.status)) told)
refused_ok merge columns of converts told k why has (Ok ending) same text =
    subst (λ s. HoldsOfFiles (λ files. IsOver merge columns files (ends (string_bytes ending.text) s)) told) (sym same)
    (refused_run merge columns converts told k why has (string_bytes ending.text) (text columns of))
refused_ok merge columns of converts told k why has (Err e) same text = tt

-- the ending of a table that does not convert
pub not_converted_ok : (merge : TableWords) (columns : ColumnList) → IsTableOf merge.params columns → (told : List (Option Trace)) (fault : LyndonFault)
    → ((value : ℕ) (word : List Letter) → fault ≡ lyndon.NoInverse value word → IsNotInvertible merge.params.modulus columns word value)
    → (made : Result Ending AllocError)
    → IfOk made (λ ending. (value : ℕ) × (word : List Letter) × (fault ≡ lyndon.NoInverse value word)
    × (ends (string_bytes ending.text) ending.status ≡ ends (word_line value word) status.NoInverse))
    → IfOk made (λ ending. HoldsOfFiles (λ files. IsOverTable merge files (ends (string_bytes ending.text) ending.status)) told)
not_converted_ok merge columns of told fault cause (Ok ending) (value, word, is, same) =
    let some = some_files told in
    record {
      files = some.0;
      are_told = some.1;
      holds_of = record { columns = columns; are_columns = of; over = no_inverse word value (cause value word is) same };
    }
not_converted_ok merge columns of told fault cause (Err e) is = tt

-- over the columns of the parameters
pub over_table_ok : (merge : TableWords) (columns : ColumnList) → IsTableOf merge.params columns → (told : List (Option Trace))
    → (made : Result Ending BrokenOff)
    → IfOk made (λ ending. HoldsOfFiles (λ files. IsOver merge columns files (ends (string_bytes ending.text) ending.status)) told)
    → IfOk made (λ ending. HoldsOfFiles (λ files. IsOverTable merge files (ends (string_bytes ending.text) ending.status)) told)
over_table_ok merge columns of told (Ok ending) has = record {
  files = has.files;
  are_told = has.are_told;
  holds_of = record { columns = columns; are_columns = of; over = has.holds_of };
}
over_table_ok merge columns of told (Err e) has = tt

-- words that ask for no merge
pub no_request : (words : List (List ℕ)) → AsksForMerge words (Err Usage) → merge_request words ≡ None
no_request words asks = none (merge_request words) asks
  where
    none : (request : Option TableRequest) → AsksForTable request (Err Usage) → request ≡ None
    none None h = refl
    none (Some r) h = absurd h

pub asks_none : (words : List (List ℕ)) → merge_request words ≡ None → AsksForMerge words (Err Usage)
asks_none words none = subst (λ r. AsksForTable r (Err Usage)) (sym none) refl

pub not_usage : (words : List (List ℕ)) (asked : Asked) → AsksForMerge words asked → ¬ (asked ≡ Err Usage) → ¬ (merge_request words ≡ None)
not_usage words asked asks other none = other (one_merge words asked (Err Usage) asks (asks_none words none))

module _ (taken taken_new : Option (List ℕ)) (faults faults_new : ℕ) (result : MergeStatus) where
  -- how a run over files that has a whole run may end
  over_status : (merge : TableWords) (columns : ColumnList) (files : List (List ℕ)) (run : Run) → IsOver merge columns files run
      → (run.status ≡ status.NoInverse) ⊎ ((run.status ≡ status.NotAShare) ⊎ ((run.status ≡ status.NotComplete) ⊎ (run.status ≡ status.Done)))
  over_status merge columns files run (no_inverse u r f x) = inl (ap (λ (v : Run). v.status) x)
  over_status merge columns files run (refused c front file rest is counted takes why wrong x) = inr (inl (ap (λ (v : Run). v.status) x))
  over_status merge columns files run (finished c counted takes (missing i lacks x)) = inr (inr (inl (ap (λ (v : Run). v.status) x)))
  over_status merge columns files run (finished c counted takes (broken all r s t breaks x)) = inl (ap (λ (v : Run). v.status) x)
  over_status merge columns files run (finished c counted takes (merged all un rows l are x)) = inr (inr (inr (ap (λ (v : Run). v.status) x)))

  -- none of them is a refusal of words
  pub not_words : (merge : TableWords) (files : List (List ℕ)) → Goes (Ok merge) files taken taken_new faults faults_new result
      → (¬ (result ≡ status.Usage)) × (¬ (result ≡ status.Params))
  not_words merge files (broken_off (inl is) same) = (
    λ e. let no : status.Memory ≡ status.Usage = sym is ∙ e in absurd cc,
    λ e. let no : status.Memory ≡ status.Params = sym is ∙ e in absurd cc,
  )
  not_words merge files (broken_off (inr is) same) = (
    λ e. let no : status.DiskFault ≡ status.Usage = sym is ∙ e in absurd cc,
    λ e. let no : status.DiskFault ≡ status.Params = sym is ∙ e in absurd cc,
  )
  not_words merge files (ended run is (cut_off front later rose end)) = (
    λ e. let no : status.WriteFault ≡ status.Usage = sym end ∙ e in absurd cc,
    λ e. let no : status.WriteFault ≡ status.Params = sym end ∙ e in absurd cc,
  )
  not_words merge files (ended run is (whole all later end)) =
      let over = is.over in (
        λ e. neither status.Usage (sym end ∙ e) (λ x. cc) (λ x. cc) (λ x. cc) (λ x. cc) (over_status merge is.columns files run over),
        λ e. neither status.Params (sym end ∙ e) (λ x. cc) (λ x. cc) (λ x. cc) (λ x. cc) (over_status merge is.columns files run over),
      )
    where
      neither : (s : MergeStatus) → run.status ≡ s → (status.NoInverse ≡ s → ⊥) → (status.NotAShare ≡ s → ⊥) → (status.NotComplete ≡ s → ⊥)
          → (status.Done ≡ s → ⊥)
          → (run.status ≡ status.NoInverse) ⊎ ((run.status ≡ status.NotAShare) ⊎ ((run.status ≡ status.NotComplete) ⊎ (run.status ≡ status.Done))) → ⊥
      neither s e a b c d (inl x) = a (sym x ∙ e)
      neither s e a b c d (inr (inl x)) = b (sym x ∙ e)
      neither s e a b c d (inr (inr (inl x))) = c (sym x ∙ e)
      neither s e a b c d (inr (inr (inr x))) = d (sym x ∙ e)

  over_done : (merge : TableWords) (columns : ColumnList) (of : IsTableOf merge.params columns) (files : List (List ℕ)) (run : Run)
      → IsOver merge columns files run → run.status ≡ status.Done → taken_new ≡ after_told taken run.text → WritesMerged merge taken taken_new
  over_done merge columns of files run (no_inverse u r f x) done wrote =
      let no : status.NoInverse ≡ status.Done = sym (ap (λ (v : Run). v.status) x) ∙ done in absurd cc
  over_done merge columns of files run (refused c front file rest is counted takes why wrong x) done wrote =
      let no : status.NotAShare ≡ status.Done = sym (ap (λ (v : Run). v.status) x) ∙ done in absurd cc
  over_done merge columns of files run (finished c counted takes (missing i lacks x)) done wrote =
      let no : status.NotComplete ≡ status.Done = sym (ap (λ (v : Run). v.status) x) ∙ done in absurd cc
  over_done merge columns of files run (finished c counted takes (broken all r s t breaks x)) done wrote =
      let no : status.NoInverse ≡ status.Done = sym (ap (λ (v : Run). v.status) x) ∙ done in absurd cc
  over_done merge columns of files run (finished c counted takes (merged all un rows l are x)) done wrote = record {
    columns = columns;
    are_columns = of;
    rows = rows;
    combinations = l;
    are_merged = are;
    reduced = merged_reduced merge.params.modulus columns of.table rows l are;
    wrote = wrote ∙ ap (λ (v : Run). after_told taken v.text) x;
  }

  -- at status 0 the merged rows are written
  pub done_merged : (merge : TableWords) (files : List (List ℕ)) → Goes (Ok merge) files taken taken_new faults faults_new result → result ≡ status.Done
      → WritesMerged merge taken taken_new
  done_merged merge files (broken_off (inl is) same) done = let no : status.Memory ≡ status.Done = sym is ∙ done in absurd cc
  done_merged merge files (broken_off (inr is) same) done = let no : status.DiskFault ≡ status.Done = sym is ∙ done in absurd cc
  done_merged merge files (ended run is (cut_off front later rose end)) done = let no : status.WriteFault ≡ status.Done = sym end ∙ done in absurd cc
  done_merged merge files (ended run is (whole all later end)) done =
      over_done merge is.columns is.are_columns files run is.over (sym end ∙ done) all

  -- where no count has risen it is the whole run, or memory was wanting
  pub goes_through : (asked : Asked) (files : List (List ℕ)) → Goes asked files taken taken_new faults faults_new result → ¬ (result ≡ status.DiskFault)
      → ¬ (Rose faults faults_new)
      → (result ≡ status.Memory) ⊎ ((run : Run) × IsMergeRun asked files run × (taken_new ≡ after_told taken run.text) × (result ≡ run.status))
  goes_through asked files (broken_off (inl is) same) no_disk no_sink = inl is
  goes_through asked files (broken_off (inr is) same) no_disk no_sink = absurd (no_disk is)
  goes_through asked files (ended run is (whole all later end)) no_disk no_sink = inr (run, is, all, end)
  goes_through asked files (ended run is (cut_off front later rose end)) no_disk no_sink = absurd (no_sink rose)

  module _ (told : List (Option Trace)) where
    -- a run over files that hold
    pub ran : (asked : Asked) (run : Run) → HoldsOfFiles (λ files. IsMergeRun asked files run) told
        → Ends run.text run.status taken taken_new faults faults_new result → IsOutcome asked told taken taken_new faults faults_new result
    ran asked run holds end = record { files = holds.files; are_told = holds.are_told; goes = ended run holds.holds_of end }

    -- nothing was written
    pub broke_off : (asked : Asked) → (result ≡ status.Memory) ⊎ (result ≡ status.DiskFault) → taken_new ≡ taken
        → IsOutcome asked told taken taken_new faults faults_new result
    broke_off asked is same = let some = some_files told in record { files = some.0; are_told = some.1; goes = broken_off is same }

    -- words are refused
    refusal_run : (fault : MergeWordsFault) → (fault ≡ Usage → ⊥) → ((i : ℕ) → fault ≡ ShareIndex i → ⊥) → (files : List (List ℕ))
        → IsMergeRun (Err fault) files (ends (refusal_line fault) (refusal_status fault))
    refusal_run Usage other index files = other refl
    refusal_run (Param fault) other index files = refl
    refusal_run (Shares n) other index files = refl
    refusal_run (ShareIndex i) other index files = index i refl

    pub words_refused : (words : List (List ℕ)) (fault : MergeWordsFault) → AsksForMerge words (Err fault) → (fault ≡ Usage → ⊥)
        → Ends (refusal_line fault) (refusal_status fault) taken taken_new faults faults_new result
        → IsOutcome (Err fault) told taken taken_new faults faults_new result
    words_refused words fault asks other end =
        let some = some_files told in record {
          files = some.0;
          are_told = some.1;
          goes = ended (ends (refusal_line fault) (refusal_status fault))
              (refusal_run fault other (λ i is. never (merge_request words) i (subst (λ f. AsksForMerge words (Err f)) is asks)) some.0) end;
        }
      where
        never : (request : Option TableRequest) (i : ℕ) → ¬ (AsksForTable request (Err (ShareIndex i)))
        never None i h = let no : ◌≡◌ {A = Asked} (Err (ShareIndex i)) (Err Usage) = h in absurd cc
        never (Some r) i h = h

    -- what the call promises of an outcome, for whatever the words ask
    module _ (words : List (List ℕ)) (asked : Asked) (asks : AsksForMerge words asked) (outcome : IsOutcome asked told taken taken_new faults faults_new result) where
      pub each_outcome : (other : Asked) → AsksForMerge words other → IsOutcome other told taken taken_new faults faults_new result
      each_outcome = each_merge words asked (λ a. IsOutcome a told taken taken_new faults faults_new result) asks outcome

      pub each_through : ¬ (result ≡ status.DiskFault) → ¬ (Rose faults faults_new) → (other : Asked) (files : List (List ℕ)) → AsksForMerge words other
          → TellAll told files
          → (result ≡ status.Memory) ⊎ ((run : Run) × IsMergeRun other files run × (taken_new ≡ after_told taken run.text) × (result ≡ run.status))
      each_through no_disk no_sink other files also tells =
          let here : IsOutcome other told taken taken_new faults faults_new result = each_outcome other also in
          goes_through other files
          (subst (λ fs. Goes other fs taken taken_new faults faults_new result) (one_told told files here.files tells here.are_told) here.goes) no_disk no_sink

      pub each_merged : (merge : TableWords) → AsksForMerge words (Ok merge) → result ≡ status.Done → WritesMerged merge taken taken_new
      each_merged merge also done =
          let here : IsOutcome (Ok merge) told taken taken_new faults faults_new result = each_outcome (Ok merge) also in
          done_merged merge here.files here.goes done

-- how words that are refused end
module _ (taken taken_new : Option (List ℕ)) (faults faults_new : ℕ) (result : MergeStatus) (fault : MergeWordsFault) (other : fault ≡ Usage → ⊥)
    (end : Ends (refusal_line fault) (refusal_status fault) taken taken_new faults faults_new result) where
  is_params : (f : MergeWordsFault) → (f ≡ Usage → ⊥) → refusal_status f ≡ status.Params
  is_params Usage h = absurd (h refl)
  is_params (Param p) h = refl
  is_params (Shares n) h = refl
  is_params (ShareIndex n) h = refl

  pub refused_ends : (result ≡ status.Params) ⊎ (result ≡ status.WriteFault)
  refused_ends = elim end [ whole all later is ↦ inl (is ∙ is_params fault other) | cut_off front later rose is ↦ inr is ]

  pub refused_faults : faults ≤ faults_new
  refused_faults = elim end [ whole all later is ↦ later | cut_off front later rose is ↦ later ]

  pub refused_write : result ≡ status.WriteFault → Rose faults faults_new
  refused_write e = elim end [
    | whole all later is ↦ let no : status.Params ≡ status.WriteFault = sym (is ∙ is_params fault other) ∙ e in absurd cc
    | cut_off front later rose is ↦ rose
  ]

  pub refused_not : (s : MergeStatus) → (status.Params ≡ s → ⊥) → (status.WriteFault ≡ s → ⊥) → ¬ (result ≡ s)
  refused_not s a b e = elim refused_ends [ inl is ↦ a (sym is ∙ e) | inr is ↦ b (sym is ∙ e) ]

  fails : (f : MergeWordsFault) → (f ≡ Usage → ⊥) → FailsTest (Err f)
  fails Usage h = absurd (h refl)
  fails (Param p) h = tt
  fails (Shares n) h = tt
  fails (ShareIndex n) h = tt

  pub refused_fails : FailsTest (Err fault)
  refused_fails = fails fault other
