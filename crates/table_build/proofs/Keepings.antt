-- What calls in turn keep of the pages at each moment.
use Rattle.std.specs.Prelude.{◌≡◌, ℕ, ◌≤◌, Option, Some, None, List}
use Rattle.std.proofs.Common.{refl, sym, subst, arith}
use Rattle.outside_io.specs.Traces.{Trace}
use Rattle.page_codec.specs.declared.page.Page.{Page}
use Rattle.page_file.specs.Stays.{AllImages, Through}
use Rattle.file_model.specs.Stays.{Stays}
use Rattle.page_file.proofs.Passing.{stays, then_more, weaker}
use Rattle.table_build.specs.Inner.{ReadsFrom, Keeps}

-- nothing was done
pub keeps_same : (pages : List Page) (k : ℕ) (old new : Option Trace) → new ≡ old → Keeps pages k old new
keeps_same pages k None new same = same
keeps_same pages k (Some t) None same = let no : None ≡ Some t = same in absurd (cc no)
keeps_same pages k (Some t) (Some u) same =
    let is : Some u ≡ Some t = same in
    let e : u ≡ t = cc is in
    subst (λ x. Through (ReadsFrom pages k) t x) (sym e) (stays (ReadsFrom pages k) t)

-- one call after another, of which the later keeps more
pub keeps_then : (pages : List Page) (k more : ℕ) (old mid new : Option Trace) → k ≤ more → Keeps pages k old mid → Keeps pages more mid new
    → Keeps pages k old new
keeps_then pages k more None None new l first second = second
keeps_then pages k more None (Some u) new l first second = let no : Some u ≡ None = first in absurd (cc no)
keeps_then pages k more (Some t) None new l first second = absurd first
keeps_then pages k more (Some t) (Some u) None l first second = absurd second
keeps_then pages k more (Some t) (Some u) (Some v) l first second =
    then_more (ReadsFrom pages k) t u v first
    (weaker (ReadsFrom pages more) (ReadsFrom pages k) u v
    (λ image r. record { count = r.count; from = omega (arith, l, r.from); within = r.within; reads = r.reads }) second)

-- a disk that does not tell goes on so
pub keeps_untold : (pages : List Page) (k : ℕ) (old new : Option Trace) → Keeps pages k old new → new ≡ None → old ≡ None
keeps_untold pages k None new keeps none = refl
keeps_untold pages k (Some t) None keeps none = absurd keeps
keeps_untold pages k (Some t) (Some u) keeps none = let no : Some u ≡ None = none in absurd (cc no)

-- what holds of every image stays where nothing was done
pub stays_same : (P : List ℕ → Type 0) (old new : Option Trace) → new ≡ old → Stays P old new
stays_same P None new same = same
stays_same P (Some t) None same = let no : None ≡ Some t = same in absurd (cc no)
stays_same P (Some t) (Some u) same =
    let is : Some u ≡ Some t = same in
    let e : u ≡ t = cc is in
    subst (λ x. Through (λ image. AllImages P t.now → P image) t x) (sym e) (stays (λ image. AllImages P t.now → P image) t)
