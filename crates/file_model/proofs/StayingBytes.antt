-- What stays through runs, one after the other, and through crashes.
use Rattle.std.specs.Prelude.{◌≡◌, ℕ, Option, Some, None, List, [], ◌∷◌, ◌++◌, get_or}
use Rattle.std.proofs.Common.{refl, sym, ap, subst}
use Rattle.std.specs.List.{AllByRecursion}
use Rattle.outside_io.specs.Moments.{Moment, IsImage, settled}
use Rattle.outside_io.specs.Traces.{Trace, moments}
use Rattle.page_file.specs.Stays.{AllImages, Through}
use Rattle.page_file.proofs.Passing.{stays, then_more, weaker, settled_only}
use Rattle.file_model.specs.Stays.{Stays}

module _ (P : List ℕ → Type 0) where
  -- what every image keeps where it had P at this moment
  abbrev pub From : Trace → List ℕ → Type 0
  From t image = AllImages P t.now → P image

  -- what has P at each moment since a start that has it has P now
  now_too : (t u : Trace) → AllImages P t.now → Through P t u → AllImages P u.now
  now_too t u start h = at h.since h.goes_on h.each
    where
      at : (since : List Moment) → moments u ≡ since ++ moments t → AllByRecursion (AllImages P) since → AllImages P u.now
      at [] e all = subst (AllImages P) (sym (ap (λ ms. get_or ms 0 t.now) e)) start
      at (m ∷ since) e all = subst (AllImages P) (sym (ap (λ ms. get_or ms 0 t.now) e)) all.0

  now_from : (t u : Trace) → Through (From t) t u → AllImages P t.now → AllImages P u.now
  now_from t u h start = now_too t u start (weaker (From t) P t u (λ image keeps. keeps start) h)

  -- two runs, one after the other
  pub stays_on : (old mid new : Option Trace) → Stays P old mid → Stays P mid new → Stays P old new
  stays_on None None new a b = b
  stays_on None (Some u) new a b = let e : Some u ≡ None = a in cc
  stays_on (Some t) None new a b = absurd a
  stays_on (Some t) (Some u) None a b = absurd b
  stays_on (Some t) (Some u) (Some v) a b =
      then_more (From t) t u v a (weaker (From u) (From t) u v (λ image keeps start. keeps (now_from t u a start)) b)

  -- a call that leaves the moments as they are
  pub stays_same : (told : Option Trace) → Stays P told told
  stays_same None = refl
  stays_same (Some t) = stays (From t) t

  -- after a crash the disk holds one image, and nothing is pending
  pub stays_crashed : (m : Moment) (image : List ℕ) → AllImages P m → IsImage m image → AllImages P (settled image)
  stays_crashed m image all is other h = subst P (sym (settled_only image other h)) (all image is)
