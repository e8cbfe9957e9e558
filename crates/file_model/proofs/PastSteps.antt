-- What runs and crashes leave, one after the other.
use Rattle.std.specs.Prelude.{◌≡◌, ℕ, ◌+◌, ◌/◌, Option, Some, None, IfSome, List, [], ◌∷◌, ◌++◌, length, get_or}
use Rattle.std.proofs.Common.{sym, ◌∙◌, ap, subst, append_assoc, arith}
use Rattle.std.specs.List.{AllByRecursion, Contains}
use Rattle.std.proofs.lemmas.List.{append-nil, append_cancel_right}
use Rattle.outside_io.specs.Moments.{Moment, IsImage, settled}
use Rattle.outside_io.specs.Traces.{Trace, moments}
use Rattle.page_codec.specs.declared.params.Params.{Params}
use Rattle.page_codec.specs.declared.page.Page.{Page}
use Rattle.page_codec.specs.Bounds.{IsParams}
use Rattle.page_file.specs.Files.{file_of}
use Rattle.page_file.specs.Stays.{AllImages, Through, Leaves}
use Rattle.page_file.proofs.Passing.{settled_only}
use Rattle.file_model.specs.Prefixes.{IsPages, IsFile, IsPrefix, HasPages}
use Rattle.file_model.specs.Stays.{Stays}
use Rattle.file_model.specs.Builds.{Figures, ResumeEnds, IsLeft}
use Rattle.file_model.specs.Builds.Answer.{Built, NoInverseRelation}
use Rattle.file_model.specs.Histories.{Step, moments_of, now_after, IsRun, IsHistory, Continues, EndsInFile}
use Rattle.file_model.specs.Histories.Step.{Run, Crash}
use Rattle.file_model.proofs.ListPlaces.{all_append, all_contains, all_weaker}
use Rattle.file_model.proofs.StayingBytes.{From, stays_crashed}
use Rattle.file_model.proofs.OneFile.{one_file, nothing_is_prefix}
use Rattle.file_model.proofs.PagesExist.{pages_exist}
use Rattle.file_model.proofs.LeftFiles.{built_file, broken_file}

all_behind : {X : Type 0} (P : X → Type 0) (xs ys : List X) → AllByRecursion P (xs ++ ys) → AllByRecursion P ys
all_behind P [] ys h = h
all_behind P (x ∷ xs) ys h = all_behind P xs ys h.1

-- the newest moment has what each of the newer ones has, or else what the one before them has
newest : (P : Moment → Type 0) (since before : List Moment) (first : Moment) → AllByRecursion P since → P (get_or before 0 first)
    → P (get_or (since ++ before) 0 first)
newest P [] before first all start = start
newest P (m ∷ since) before first all start = all.0

module _ (params : Params) where
  abbrev Keeps : ℕ → Moment → Type 0
  Keeps k m = AllImages (HasPages params k) m

  run_keeps : (k : ℕ) (start : Moment) (since : List Moment) → IsRun params start since → Keeps k start → AllByRecursion (Keeps k) since
  run_keeps k start since run all =
      let through : Through (From (HasPages params k) run.old) run.old run.new = run.stays k in
      let same : through.since ≡ run.unreached ++ since = append_cancel_right through.since (run.unreached ++ since) (moments run.old)
      (sym through.goes_on ∙ run.goes_on ∙ sym (append_assoc run.unreached since (moments run.old))) in
      let each = subst (AllByRecursion (AllImages (From (HasPages params k) run.old))) same through.each in
      let began : Keeps k run.old.now = subst (Keeps k) (sym run.begins) all in
      all_weaker (AllImages (From (HasPages params k) run.old)) (Keeps k) (λ m h image is. h image is began) since
      (all_behind (AllImages (From (HasPages params k) run.old)) run.unreached since each)

  -- each moment of later steps keeps what the earlier ones left, and so does the newest
  steps_keep : (k : ℕ) (later earlier : List Step) → IsHistory params (later ++ earlier) → Keeps k (now_after earlier)
      → AllByRecursion (Keeps k) (moments_of later) × Keeps k (now_after (later ++ earlier))
  steps_keep k [] earlier h start = (tt, start)
  steps_keep k (Run since ∷ later) earlier h start =
      let (all, now) = steps_keep k later earlier h.1 start in
      let each = run_keeps k (now_after (later ++ earlier)) since h.0 now in
      (all_append (Keeps k) since (moments_of later) each all, newest (Keeps k) since (moments_of (later ++ earlier)) (settled []) each now)
  steps_keep k (Crash image ∷ later) earlier h start =
      let (all, now) = steps_keep k later earlier h.1 start in
      let here = stays_crashed (HasPages params k) (now_after (later ++ earlier)) image now h.0 in
      ((here, all), here)

  pub pages_stay : (later earlier : List Step) → IsHistory params (later ++ earlier) → (k : ℕ) → Keeps k (now_after earlier)
      → (m : Moment) → Contains (moments_of later) m → Keeps k m
  pages_stay later earlier h k start m c = all_contains (Keeps k) (moments_of later) (steps_keep k later earlier h start).0 m c

  module _ (fits : IsParams params) where
    at_first : Keeps 0 (settled [])
    at_first image is =
        let (pages, are) = pages_exist params fits in
        (0, omega arith, subst (IsPrefix params 0) (sym (settled_only [] image is)) (nothing_is_prefix params pages are))

    all_prefixes : (steps : List Step) → IsHistory params steps → AllByRecursion (Keeps 0) (moments_of steps) × Keeps 0 (now_after steps)
    all_prefixes steps h =
        subst (λ all. AllByRecursion (Keeps 0) (moments_of steps) × Keeps 0 (now_after all)) (append-nil steps)
        (steps_keep 0 steps [] (subst (IsHistory params) (sym (append-nil steps)) h) at_first)

    pub images_are_prefixes : (steps : List Step) → IsHistory params steps → (m : Moment) → Contains (moments_of steps) m → (image : List ℕ)
        → IsImage m image → (k : ℕ) × IsPrefix params k image
    images_are_prefixes steps h m c image is =
        let (k, from, prefix) = all_contains (Keeps 0) (moments_of steps) (all_prefixes steps h).0 m c image is in (k, prefix)

    -- what a run leaves that comes to its end
    pub file_left : (steps : List Step) → IsHistory params steps → (start : List ℕ) → IsImage (now_after steps) start → (figures : Figures)
        → ResumeEnds params start (Built figures) → (contents : List ℕ) → IsLeft params start contents
        → IsFile params contents × ((file : List ℕ) → IsFile params file → contents ≡ file)
    file_left steps h start is figures ends contents left =
        let (k, from, prefix) = (all_prefixes steps h).1 start is in
        let whole : IsFile params contents = built_file params k figures start contents prefix ends left in
        (whole, λ file other. one_file params contents file whole other)

    pub pages_left : (steps : List Step) → IsHistory params steps → (start : List ℕ) → IsImage (now_after steps) start → (n residue : ℕ)
        → ResumeEnds params start (NoInverseRelation residue n) → (contents : List ℕ) → IsLeft params start contents
        → (pages : List Page) × IsPages params pages × (contents ≡ file_of pages) × (length pages ≡ 1 + n / 64)
    pages_left steps h start is n residue ends contents left =
        let (k, from, prefix) = (all_prefixes steps h).1 start is in broken_file params k n residue start contents prefix ends left

    -- a run that comes to its end ends a history in the file
    pub run_ends : (old new : Option Trace) → IfSome old (λ t. IsImage t.now t.now.contents) → (figures : Figures)
        → IfSome old (λ t. ResumeEnds params t.now.contents (Built figures)) → Leaves (λ t bytes. IsLeft params t.now.contents bytes) old new
        → EndsInFile params old new
    run_ends None new is figures ends left steps h = tt
    run_ends (Some t) None is figures ends left steps h = λ begins. absurd left
    run_ends (Some t) (Some u) is figures ends left steps h = λ begins. (
      (file_left steps h t.now.contents (subst (λ m. IsImage m t.now.contents) begins is) figures ends u.now.contents left.0).0,
      left.1,
    )

  -- a run that begins where a history left the disk goes on with it
  pub run_continues : (old new : Option Trace) → ((k : ℕ) → Stays (HasPages params k) old new) → Continues params old new
  run_continues None new stays steps h = tt
  run_continues (Some old) None stays steps h = λ begins. absurd (stays 0)
  run_continues (Some old) (Some new) stays steps h = λ begins.
      let through : Through (From (HasPages params 0) old) old new = stays 0 in record {
        since = through.since;
        goes_on = through.goes_on;
        history = (record { old = old; new = new; begins = begins; unreached = []; goes_on = through.goes_on; stays = stays }, h);
        now = newest_now begins through.since through.goes_on;
      }
    where
      newest_now : old.now ≡ now_after steps → (since : List Moment) → moments new ≡ since ++ moments old → now_after (Run since ∷ steps) ≡ new.now
      newest_now begins [] e = sym begins ∙ sym (ap (λ ms. get_or ms 0 old.now) e)
      newest_now begins (m ∷ since) e = sym (ap (λ ms. get_or ms 0 old.now) e)
