-- Pages of a version 1 file, one after the other, each at its place.
use Rattle.std.proofs.Common.{◌≡◌, ℕ, List, [], ◌∷◌, ◌++◌, Some, refl, sym, ap, subst, ◌∙◌, append_assoc}
use Rattle.std.specs.List.{AllByRecursion}
use Rattle.std.proofs.lemmas.List.{append-nil}
use Rattle.page_codec.specs.declared.params.Params.{Params}
use Rattle.page_codec.specs.declared.page.Page.{Page}
use Rattle.page_codec.specs.declared.page.Page.TheVariants.{Header, Forward, Final, Done}
use Rattle.page_codec.specs.declared.walk.Last.TheVariants.{DonePage}
use Rattle.page_codec.specs.Bounds.{IsPage, IsParams}
use Rattle.page_codec.specs.Places.{FitsPlace, FitBehind, AllFit, last_of}
use Rattle.page_codec.proofs.Walking.{last_of-push}
use Rattle.page_file.specs.Notes.{header_of, params_of}
use Rattle.table_model.specs.ListedSpan.{relation_count}
use Rattle.file_model.specs.FinalRows.{EndsDone}
use Rattle.table_migration.specs.OldFiles.{IsOldPage, old_spelling, old_opened, AreFit}

pub old_opened-append : (ps qs : List Page) → old_opened (ps ++ qs) ≡ old_opened ps ++ old_opened qs
old_opened-append [] qs = refl
old_opened-append (p ∷ ps) qs =
    ap (λ l. 1 ∷ (old_spelling p ++ l)) (old_opened-append ps qs) ∙ ap (λ l. 1 ∷ l) (sym (append_assoc (old_spelling p) (old_opened ps) (old_opened qs)))

pub old_opened-one : (page : Page) → old_opened (page ∷ []) ≡ 1 ∷ old_spelling page
old_opened-one page = ap (λ l. 1 ∷ l) (append-nil (old_spelling page))

-- an old page is one of version 2 too
pub is_page : (page : Page) → IsOldPage page → IsPage page
is_page (Header p) is = is.0
is_page (Forward p) is = is
is_page (Final p) is = is
is_page (Done rows) is = is

pub all_pages : (pages : List Page) → AllByRecursion IsOldPage pages → AllByRecursion IsPage pages
all_pages [] each = tt
all_pages (page ∷ pages) each = (is_page page each.0, all_pages pages each.1)

-- ---- the first pages, and one more

fit_front : (p : Params) (n : ℕ) (before front more : List Page) → FitBehind p n before (front ++ more) → FitBehind p n before front
fit_front p n before [] more fit = tt
fit_front p n before (page ∷ front) more fit = (fit.0, fit_front p n (before ++ page ∷ []) front more fit.1)

fit_next : (p : Params) (n : ℕ) (before front : List Page) (page : Page) (more : List Page) → FitBehind p n before (front ++ page ∷ more)
    → FitsPlace p n (before ++ front) page
fit_next p n before [] page more fit = subst (λ l. FitsPlace p n l page) (sym (append-nil before)) fit.0
fit_next p n before (q ∷ front) page more fit =
    subst (λ l. FitsPlace p n l page) (append_assoc before (q ∷ []) front) (fit_next p n (before ++ q ∷ []) front page more fit.1)

fit_more : (p : Params) (n : ℕ) (before front : List Page) (page : Page) → FitBehind p n before front → FitsPlace p n (before ++ front) page
    → FitBehind p n before (front ++ page ∷ [])
fit_more p n before [] page fit next = (subst (λ l. FitsPlace p n l page) (append-nil before) next, tt)
fit_more p n before (q ∷ front) page fit next =
    (fit.0, fit_more p n (before ++ q ∷ []) front page fit.1 (subst (λ l. FitsPlace p n l page) (sym (append_assoc before (q ∷ []) front)) next))

pub fit_push : (p : Params) (n : ℕ) (pages : List Page) (page : Page) → AllFit p n pages → FitsPlace p n pages page → AllFit p n (pages ++ page ∷ [])
fit_push p n pages page fit next = fit_more p n [] pages page fit next

pub fit_last : (p : Params) (n : ℕ) (pages : List Page) (page : Page) → AllFit p n (pages ++ page ∷ []) → FitsPlace p n pages page
fit_last p n pages page fit = fit_next p n [] pages page [] fit

pub front_fits : (pages more : List Page) → AreFit (pages ++ more) → AreFit pages
front_fits [] more fit = tt
front_fits (page ∷ pages) more fit =
    (fit.0, fit.1, fit_front fit.0 (relation_count (fit.0).weight (fit.0).depth) [] (page ∷ pages) more fit.2)

same_params : (p q : Params) → Some p ≡ Some q → p ≡ q
same_params p q e = cc

-- pages of a file of the parameters
pub are_fit : (p : Params) (pages : List Page) → params_of pages ≡ Some p → AllFit p (relation_count p.weight p.depth) pages → AreFit pages
are_fit p [] header fit = tt
are_fit p (page ∷ pages) header fit = (p, header, fit)

pub fit_in : (p : Params) (pages : List Page) → params_of pages ≡ Some p → AreFit pages → AllFit p (relation_count p.weight p.depth) pages
fit_in p [] header fit = tt
fit_in p (page ∷ pages) header fit =
    subst (λ q. AllFit q (relation_count q.weight q.depth) (page ∷ pages)) (same_params fit.0 p (sym fit.1 ∙ header)) fit.2

pub params_push : (p : Params) (pages : List Page) (page : Page) → params_of pages ≡ Some p → params_of (pages ++ page ∷ []) ≡ Some p
params_push p [] page header = absurd (cc header)
params_push p (q ∷ pages) page header = header

-- the parameters in a header are some
pub params_old : (p : Params) (page : Page) → IsOldPage page → header_of page ≡ Some p → IsParams p
params_old p (Header q) is e = subst IsParams (same_params q p e) is.0
params_old p (Forward q) is e = absurd (cc e)
params_old p (Final q) is e = absurd (cc e)
params_old p (Done rows) is e = absurd (cc e)

-- ---- a Done page

pub done_last : (pages : List Page) → last_of pages ≡ DonePage → EndsDone pages
done_last [] e = absurd (cc e)
done_last (Header p ∷ []) e = absurd (cc e)
done_last (Forward p ∷ []) e = absurd (cc e)
done_last (Final p ∷ []) e = absurd (cc e)
done_last (Done rows ∷ []) e = (rows, [], refl)
done_last (a ∷ b ∷ pages) e = let found = done_last (b ∷ pages) e in (found.0, a ∷ found.1, ap (λ ps. a ∷ ps) found.2)

pub last_done : (pages : List Page) → EndsDone pages → last_of pages ≡ DonePage
last_done pages ends = ap last_of ends.2 ∙ last_of-push ends.1 (Done ends.0)
