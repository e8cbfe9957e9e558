-- What a run of calls on a disk passes through.
use Rattle.std.proofs.Common.{◌≡◌, inl, inr, ℕ, ◌≤◌, List, [], ◌∷◌, ◌++◌, length, take, Option, Some, None, Result, Ok, Err, refl, sym, ap, subst, ◌∙◌, append_assoc, arith}
use Rattle.std.specs.Prelude.{IfSome, IsSomeAnd}
use Rattle.std.proofs.lemmas.Grind.{same_number_lists}
use Rattle.std.proofs.lemmas.List.{length-take-le, get_or-take, take_all}
use Rattle.std.specs.List.{AllByRecursion}
use Rattle.outside_io.specs.Moments.{Moment, IsImage, overlaid, writing, cutting, settled}
use Rattle.outside_io.specs.Traces.{Trace, moments, step, steps, Breaks, Synced}
use Rattle.page_file.specs.Stays.{AllImages, Through, Passes}
use Rattle.page_file.specs.Puts.{IsPut, IsCutBehind}

-- no call yet
pub stays : (P : List ℕ → Type 0) (t : Trace) → Through P t t
stays P t = record { since = []; goes_on = refl; each = tt }

-- one moment more
pub one_more : (P : List ℕ → Type 0) (t now : Trace) (f : Moment → Moment) → Through P t now → AllImages P (f now.now) → Through P t (step f now)
one_more P t now f so_far here = record {
  since = f now.now ∷ so_far.since;
  goes_on = ap (λ (ms : List Moment). f now.now ∷ ms) so_far.goes_on;
  each = (here, so_far.each);
}

all_more : (P : List ℕ → Type 0) (a b : List Moment) → AllByRecursion (AllImages P) a → AllByRecursion (AllImages P) b → AllByRecursion (AllImages P) (a ++ b)
all_more P [] b p q = q
all_more P (m ∷ a) b p q = (p.0, all_more P a b p.1 q)

pub then_more : (P : List ℕ → Type 0) (t mid now : Trace) → Through P t mid → Through P mid now → Through P t now
then_more P t mid now p q = record {
  since = q.since ++ p.since;
  goes_on = q.goes_on ∙ ap (λ (ms : List Moment). q.since ++ ms) p.goes_on ∙ sym (append_assoc q.since p.since (moments t));
  each = all_more P q.since p.since q.each p.each;
}

all_weaker : (P Q : List ℕ → Type 0) (a : List Moment) → ((image : List ℕ) → P image → Q image) → AllByRecursion (AllImages P) a
    → AllByRecursion (AllImages Q) a
all_weaker P Q [] w p = tt
all_weaker P Q (m ∷ a) w p = (λ image i. w image (p.0 image i), all_weaker P Q a w p.1)

pub weaker : (P Q : List ℕ → Type 0) (t now : Trace) → ((image : List ℕ) → P image → Q image) → Through P t now → Through Q t now
weaker P Q t now w p = record { since = p.since; goes_on = p.goes_on; each = all_weaker P Q p.since w p.each }

-- of what is settled a crash leaves all of it
pub settled_only : (contents image : List ℕ) → IsImage (settled contents) image → image ≡ contents
settled_only contents image i =
    let len : length image ≡ length contents = omega (arith, i.low, i.high) in
    same_number_lists image contents len (λ k lt. i.kept k lt (omega (arith, len)) refl)

-- ---- over what is told

pub some_passes : (P : List ℕ → Type 0) (t u : Trace) (new : Option Trace) → new ≡ Some u → Through P t u → IsSomeAnd new (Through P t)
some_passes P t u new is through = subst (λ (n : Option Trace). IsSomeAnd n (Through P t)) (sym is) through

-- a call failed
pub some_broken : (P : List ℕ → Type 0) (t u : Trace) (new : Option Trace) (half : Moment → List ℕ → Moment) → Breaks half (Some u) new → Through P t u
    → ((x : List ℕ) → AllImages P (half u.now x)) → IsSomeAnd new (Through P t)
some_broken P t u new half (inl same) through here = some_passes P t u new same through
some_broken P t u new half (inr broken) through here =
    some_passes P t (step (λ m. half m broken.0) u) new broken.1 (one_more P t u (λ m. half m broken.0) through (here broken.0))

abbrev pub write : ℕ → List ℕ → Moment → Moment
write at bytes m = writing m at (length bytes) (overlaid m.contents at bytes)

abbrev pub settle : Moment → Moment
settle m = settled m.contents

abbrev pub shorten : ℕ → Moment → Moment
shorten end m = cutting m end (take end m.contents)

-- ---- a write that is then synced

written_image : (at : ℕ) (bytes : List ℕ) (t : Trace) (x : List ℕ) → AllImages (IsPut at bytes t) (writing t.now at (length bytes) x)
written_image at bytes t x image i = inl (record { low = i.low; high = i.high; kept = i.kept })

pub broke : (at : ℕ) (bytes : List ℕ) (old new : Option Trace) → Breaks (λ m c. writing m at (length bytes) c) old new → Passes (IsPut at bytes) old new
broke at bytes None new broken = broken
broke at bytes (Some t) new broken =
    some_broken (IsPut at bytes t) t t new (λ m c. writing m at (length bytes) c) broken (stays (IsPut at bytes t) t) (written_image at bytes t)

through_write : (at : ℕ) (bytes : List ℕ) (t : Trace) → Through (IsPut at bytes t) t (step (write at bytes) t)
through_write at bytes t =
    let P = IsPut at bytes t in one_more P t t (write at bytes) (stays P t) (written_image at bytes t (overlaid t.now.contents at bytes))

pub through_put : (at : ℕ) (bytes : List ℕ) (t : Trace) → Through (IsPut at bytes t) t (step settle (step (write at bytes) t))
through_put at bytes t = one_more (IsPut at bytes t) t (step (write at bytes) t) settle (through_write at bytes t)
    (λ image i. inr (settled_only (overlaid t.now.contents at bytes) image i))

pub put_passes : {E : Type 0} (at : ℕ) (bytes : List ℕ) (old mid new : Option Trace) (r : Result (Unit {0}) E) → mid ≡ steps (write at bytes) old
    → Synced mid new r → Passes (IsPut at bytes) old new
put_passes at bytes None mid new (Ok u) is synced = synced ∙ ap (steps settle) is
put_passes at bytes None mid new (Err e) is synced = synced ∙ is
put_passes at bytes (Some t) mid new (Ok u) is synced =
    some_passes (IsPut at bytes t) t (step settle (step (write at bytes) t)) new (synced ∙ ap (steps settle) is) (through_put at bytes t)
put_passes at bytes (Some t) mid new (Err e) is synced =
    some_passes (IsPut at bytes t) t (step (write at bytes) t) new (synced ∙ is) (through_write at bytes t)

-- ---- a cut between two syncs

-- an image of a cut is a front of what was there
cut_image : (contents x image : List ℕ) (len : ℕ) → IsImage (cutting (settled contents) len x) image → image ≡ take (length image) contents
cut_image contents x image len i =
    let short : length image ≤ length contents = omega (arith, i.high) in
    same_number_lists image (take (length image) contents) (sym (length-take-le (length image) contents short))
    (λ k lt. i.kept k lt (omega (arith, lt, short)) refl ∙ sym (get_or-take (length image) contents k 0 lt))

module _ (end : ℕ) (t : Trace) (within : end ≤ length t.now.contents) where
  abbrev P : List ℕ → Type 0
  P = IsCutBehind end t

  whole_left : (image : List ℕ) → image ≡ t.now.contents → P image
  whole_left image is = record { long = omega (arith, within, ap length is); front = is ∙ sym (take_all (length image) t.now.contents (omega (arith, ap length is))) }

  front_left : (x : List ℕ) → AllImages P (cutting (settled t.now.contents) end x)
  front_left x image i = record { long = omega (arith, within, i.low); front = cut_image t.now.contents x image end i }

  short_left : AllImages P (settled (take end t.now.contents))
  short_left image i =
      let is = settled_only (take end t.now.contents) image i in
      let len : length image ≡ end = ap length is ∙ length-take-le end t.now.contents within in
      record { long = omega (arith, len); front = is ∙ ap (λ (n : ℕ). take n t.now.contents) (sym len) }

  through_sync : Through P t (step settle t)
  through_sync = one_more P t t settle (stays P t) (λ image i. whole_left image (settled_only t.now.contents image i))

  through_shorten : Through P t (step (shorten end) (step settle t))
  through_shorten = one_more P t (step settle t) (shorten end) through_sync (front_left (take end t.now.contents))

  pub through_cut : Through P t (step settle (step (shorten end) (step settle t)))
  through_cut = one_more P t (step (shorten end) (step settle t)) settle through_shorten short_left

-- the first sync failed
pub sync_passes : (end : ℕ) (old new : Option Trace) → new ≡ old → Passes (IsCutBehind end) old new
sync_passes end None new same = same
sync_passes end (Some t) new same = some_passes (IsCutBehind end t) t t new same (stays (IsCutBehind end t) t)

-- the cut failed
pub cut_passes : (end : ℕ) (old mid new : Option Trace) → IfSome old (λ t. end ≤ length t.now.contents) → mid ≡ steps settle old
    → Breaks (λ m c. cutting m end c) mid new → Passes (IsCutBehind end) old new
cut_passes end None mid new within is broken = subst (λ (m : Option Trace). Breaks (λ m c. cutting m end c) m new) is broken
cut_passes end (Some t) mid new within is broken =
    some_broken (IsCutBehind end t) t (step settle t) new (λ m c. cutting m end c)
    (subst (λ (m : Option Trace). Breaks (λ m c. cutting m end c) m new) is broken)
    (through_sync end t within) (front_left end t within)

-- the last sync is done, or failed
pub last_sync_passes : {E : Type 0} (end : ℕ) (old first mid new : Option Trace) (r : Result (Unit {0}) E) → IfSome old (λ t. end ≤ length t.now.contents)
    → first ≡ steps settle old → mid ≡ steps (shorten end) first → Synced mid new r → Passes (IsCutBehind end) old new
last_sync_passes end None first mid new (Ok u) within is then synced = synced ∙ ap (steps settle) (then ∙ ap (steps (shorten end)) is)
last_sync_passes end None first mid new (Err e) within is then synced = synced ∙ then ∙ ap (steps (shorten end)) is
last_sync_passes end (Some t) first mid new (Ok u) within is then synced =
    some_passes (IsCutBehind end t) t (step settle (step (shorten end) (step settle t))) new
    (synced ∙ ap (steps settle) (then ∙ ap (steps (shorten end)) is)) (through_cut end t within)
last_sync_passes end (Some t) first mid new (Err e) within is then synced =
    some_passes (IsCutBehind end t) t (step (shorten end) (step settle t)) new
    (synced ∙ then ∙ ap (steps (shorten end)) is) (through_shorten end t within)
