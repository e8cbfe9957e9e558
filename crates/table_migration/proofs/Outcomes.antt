-- What a migration leaves, by what was copied.
use Rattle.std.proofs.Common.{◌≡◌, ℕ, List, [], ◌∷◌, length, Option, Some, None, refl, sym, ap, subst, ◌∙◌, arith}
use Rattle.std.specs.Prelude.{IfSome, IfOk, IfErr, OnOk, Result, Ok, Err}
use Rattle.outside_io.specs.Moments.{Moment, settled}
use Rattle.outside_io.specs.Told.{before_told}
use Rattle.outside_io.specs.Traces.{Trace}
use Rattle.page_codec.specs.declared.params.Params.{Params}
use Rattle.page_codec.specs.declared.page.Page.{Page}
use Rattle.page_codec.specs.Bounds.{IsParams}
use Rattle.page_codec.specs.Places.{WalkAt}
use Rattle.page_file.specs.Files.{file_of}
use Rattle.page_file.specs.Notes.{Notes}
use Rattle.page_file.specs.Stays.{Leaves}
use Rattle.file_model.specs.FinalRows.{EndsDone}
use Rattle.file_model.specs.Prefixes.{IsFile}
use Rattle.table_migration.specs.OldFiles.{IsOldFile, old_opened}
use Rattle.table_migration.specs.Migrations.{Answer, Migrated as SaysMigrated, ArePassed, IsReading, AreOldPages, Climbs}
use Rattle.table_migration.specs.Answers.{answer_of}
use Rattle.table_migration.specs.Inner.{Stands, AreCopied, IsStopped}
use Rattle.table_migration.specs.declared.migrating.Migrated.{Migrated}
use Rattle.table_migration.specs.declared.fault.MigrateFault.{MigrateFault}
use Rattle.table_migration.proofs.Readings.{are_first, one_reading}
use Rattle.table_migration.proofs.OldFiles.{old_file_read}
use Rattle.table_migration.proofs.Keeping.{climbs_from, climbs_more}
use Rattle.table_migration.proofs.Copying.{told_parts, their_places, were_passed, were_read}

-- pages were passed and sealed, and reading ended behind them as it is said
pub record IsOutcome (first : Option (List ℕ)) (start new : Option Trace) (answer : Option Answer) : Type 0 where
  pub pages : List Page
  pub passed : IfSome first (λ bytes. (rest : List ℕ) × ArePassed bytes pages rest)
  pub keeps : Climbs pages start new
  pub ends : IfSome answer (λ a. IfSome first (λ bytes. IsReading bytes pages a) × Stands pages new)

pub outcome : (first left : Option (List ℕ)) (start old new : Option Trace) (notes : Notes) (r : Result Migrated MigrateFault) → Climbs [] start old
    → IfOk r (λ m. (pages : List Page) × (walk : WalkAt) × AreCopied m.params pages walk notes first left old new × EndsDone pages × (m.pages ≡ length pages))
    → IfErr r (IsStopped first old new) → IsOutcome first start new (answer_of r)
outcome first left start old new notes (Ok m) begun done stopped =
    let pages = done.0 in
    let copied = done.2 in
    let places = their_places m.params pages done.1 notes first left old new copied in
    record {
      pages = pages;
      passed = were_passed pages first left old new copied.each places copied.taken copied.keeps;
      keeps = climbs_from pages start old new begun copied.keeps;
      ends = (
        were_read pages first left old new copied.each places copied.taken copied.keeps (SaysMigrated m.params m.pages)
            (λ rest is. (done.3, copied.header, done.4)),
        copied.stands,
      );
    }
outcome first left start old new notes (Err e) begun done stopped =
    let pages = stopped.pages in
    record {
      pages = pages;
      passed = stopped.passed;
      keeps = climbs_from pages start old new begun stopped.keeps;
      ends = stopped.ends;
    }

-- what stands there
leaves : (ps : List Page) (start new : Option Trace) (P : List ℕ → Type 0) → Climbs ps start new → Stands ps new → P (file_of ps)
    → Leaves (λ _ contents. P contents) start new
leaves ps None new P keeps stands there = keeps
leaves ps (Some t) None P keeps stands there = absurd keeps
leaves ps (Some t) (Some u) P keeps stands there =
    let contents : u.now.contents ≡ file_of ps = ap (λ (m : Moment). m.contents) stands in
    (subst P (sym contents) there, stands ∙ ap settled (sym contents))

-- each image reads as a first part of the pages that are passed in all
pub first_moments : (first : Option (List ℕ)) (start new : Option Trace) (ours : List Page)
    → IfSome first (λ bytes. (rest : List ℕ) × ArePassed bytes ours rest) → Climbs ours start new
    → IfSome first (λ bytes. (pages : List Page) → AreOldPages bytes pages → Climbs pages start new)
first_moments None start new ours passed keeps = tt
first_moments (Some bytes) start new ours passed keeps = λ pages are.
    let reading = are.1 in
    let on = are_first bytes ours pages passed.0 reading.rest are.0 passed.1 reading.passed reading.ends in
    subst (λ ps. Climbs ps start new) (sym on.pages_are) (climbs_more ours on.more start new keeps)

pub begun_moments : (first : Option (List ℕ)) (start new : Option Trace) → Climbs [] start new
    → IfSome first (λ bytes. (pages : List Page) → AreOldPages bytes pages → Climbs pages start new)
begun_moments first start new keeps = first_moments first start new [] (at first) keeps
  where
    at : (o : Option (List ℕ)) → IfSome o (λ bytes. (rest : List ℕ) × ArePassed bytes [] rest)
    at None = tt
    at (Some bytes) = (bytes, record { each = tt; fit = tt; bytes_are = refl })

module _ (first : Option (List ℕ)) (start new : Option Trace) where
  pub outcome_moments : (answer : Option Answer) → IsOutcome first start new answer
      → IfSome first (λ bytes. (pages : List Page) → AreOldPages bytes pages → Climbs pages start new)
  outcome_moments answer out = first_moments first start new out.pages out.passed out.keeps

  pub outcome_left : (answer : Option Answer) → IsOutcome first start new answer
      → IfSome answer (λ a. IfSome first (λ bytes. (ps : List Page) → IsReading bytes ps a → Leaves (λ _ contents. contents ≡ file_of ps) start new))
  outcome_left None out = tt
  outcome_left (Some a) out = at first out.ends.0
    where
      at : (o : Option (List ℕ)) → IfSome o (λ bytes. IsReading bytes out.pages a)
          → IfSome o (λ bytes. (ps : List Page) → IsReading bytes ps a → Leaves (λ _ contents. contents ≡ file_of ps) start new)
      at None reading = tt
      at (Some bytes) reading = λ ps other.
          leaves out.pages start new (λ contents. contents ≡ file_of ps) out.keeps out.ends.1
          (ap file_of (one_reading bytes out.pages ps a a reading other).0)

  pub outcome_file : (r : Result Migrated MigrateFault) → IsOutcome first start new (answer_of r)
      → IfSome first (λ bytes. (params : Params) → IsParams params → IsOldFile params bytes
      → IfOk r (λ m. (m.params ≡ params) × Leaves (λ _ contents. IsFile params contents) start new))
  outcome_file (Err e) out = at first
    where
      at : (o : Option (List ℕ)) → IfSome o (λ bytes. (params : Params) → IsParams params → IsOldFile params bytes → Unit {0})
      at None = tt
      at (Some bytes) = λ params is old. tt
  outcome_file (Ok m) out = at first out.ends.0
    where
      at : (o : Option (List ℕ)) → IfSome o (λ bytes. IsReading bytes out.pages (SaysMigrated m.params m.pages))
          → IfSome o (λ bytes. (params : Params) → IsParams params → IsOldFile params bytes
          → (m.params ≡ params) × Leaves (λ _ contents. IsFile params contents) start new)
      at None reading = tt
      at (Some bytes) reading = λ params is old.
          let whole = old_file_read params is bytes old old.pages old.are_pages in
          let one = one_reading bytes out.pages old.pages (SaysMigrated m.params m.pages) (SaysMigrated params (length old.pages)) reading whole in
          let said = one.1 in (
            cc said,
            leaves out.pages start new (IsFile params) out.keeps out.ends.1
                (record { sound = old.sound; pages = old.pages; are_pages = old.are_pages; bytes_are = ap file_of one.0 }),
          )

-- what stands behind the Done page is left
pub outcome_unread : (first left : Option (List ℕ)) (old new : Option Trace) (notes : Notes) (r : Result Migrated MigrateFault)
    → IfOk r (λ m. (pages : List Page) × (walk : WalkAt) × AreCopied m.params pages walk notes first left old new × EndsDone pages × (m.pages ≡ length pages))
    → OnOk r (IfSome first (λ bytes. (pages : List Page) × EndsDone pages × ((rest : List ℕ) × (left ≡ Some rest) × ArePassed bytes pages rest)))
outcome_unread first left old new notes (Err e) done = tt
outcome_unread first left old new notes (Ok m) done = at first copied.taken
  where
    copied : AreCopied m.params done.0 done.1 notes first left old new
    copied = done.2

    at : (o : Option (List ℕ)) → o ≡ before_told (old_opened done.0) left
        → IfSome o (λ bytes. (pages : List Page) × EndsDone pages × ((rest : List ℕ) × (left ≡ Some rest) × ArePassed bytes pages rest))
    at None taken = tt
    at (Some bytes) taken =
        let parts = told_parts bytes (old_opened done.0) left taken in
        let places = their_places m.params done.0 done.1 notes first left old new copied in
        (done.0, done.3, (parts.0, parts.1, record { each = copied.each; fit = places; bytes_are = parts.2 }))

no_bytes : (xs : List ℕ) → length xs ≡ 0 → xs ≡ []
no_bytes [] e = refl
no_bytes (x ∷ xs) e = absurd (omega arith)

pub told_empty : (told : Option Trace) (len : ℕ) → len ≡ 0 → IfSome told (λ t. len ≡ length t.now.contents) → IfSome told (λ t. t.now.contents ≡ [])
told_empty None len none is = tt
told_empty (Some t) len none is = no_bytes t.now.contents (sym is ∙ none)
