-- Reading gives one list of sealed pages, or one page that is not spelled.
use Rattle.std.specs.Prelude.{◌≡◌, ◌≢◌, ℕ, ◌<◌, List, [], ◌∷◌, ◌++◌, length, drop, get_or}
use Rattle.std.proofs.Common.{refl, sym, ◌∙◌, ap, subst, arith}
use Rattle.std.specs.List.{AllByRecursion}
use Rattle.std.proofs.lemmas.List.{append_assoc, append_cancel_left, length-append}
use Rattle.outside_io.specs.Moments.{Moment, IsImage, IsOnly}
use Rattle.page_codec.specs.declared.page.Page.{Page}
use Rattle.page_codec.specs.Bounds.{IsPage}
use Rattle.page_codec.specs.Spelling.{spelling_of}
use Rattle.page_codec.specs.Inner.{page_at}
use Rattle.page_codec.proofs.Exact.{read, pair_is}
use Rattle.page_codec.proofs.Pages.{page_again}
use Rattle.page_codec.proofs.Lengths.{IsPage-fits}
use Rattle.page_file.specs.Files.{Stops, IsForeign, opened, file_of, IsSealed, NoPage, IsBadPage, ReadsAs}
use Rattle.page_file.specs.Notes.{Notes, Suits, count_of, params_of}
use Rattle.page_file.specs.Stays.{IsSettled}
use Rattle.page_file.proofs.Passing.{settled_only}

both_read : (p q : Page) (x y : List ℕ) → IsPage p → IsPage q → spelling_of p ++ x ≡ spelling_of q ++ y → read p x ≡ read q y
both_read p q x y is other e = sym (page_again p x (IsPage-fits p is)) ∙ ap page_at e ∙ page_again q y (IsPage-fits q other)

pub same_page : (p q : Page) (x y : List ℕ) → IsPage p → IsPage q → spelling_of p ++ x ≡ spelling_of q ++ y → p ≡ q
same_page p q x y is other e = pair_is (λ page l. page) p q x y (both_read p q x y is other e)

pub same_rest : (p q : Page) (x y : List ℕ) → IsPage p → IsPage q → spelling_of p ++ x ≡ spelling_of q ++ y → x ≡ y
same_rest p q x y is other e = pair_is (λ page l. l) p q x y (both_read p q x y is other e)

-- a spelling has a byte
pub some_spelling : (page : Page) → 0 < length (spelling_of page)
some_spelling page = omega arith

-- no page stands behind an open gate in front of the bytes
abbrev Ends : List ℕ → Type 0
Ends bytes = (page : Page) (rest : List ℕ) → IsPage page → bytes ≢ 1 ∷ (spelling_of page ++ rest)

stops_end : (bytes : List ℕ) → Stops bytes → Ends bytes
stops_end [] s page rest is e = absurd (let l : 0 ≡ length (1 ∷ (spelling_of page ++ rest)) = ap length e in omega arith)
stops_end (b ∷ []) s page rest is e =
    let l : length (b ∷ []) ≡ length (1 ∷ (spelling_of page ++ rest)) = ap length e in
    absurd (omega (arith, l, length-append (spelling_of page) rest, some_spelling page))
stops_end (b ∷ c ∷ rest) s page others is e = absurd (s (ap (λ xs. get_or xs 0 0) e))

none_end : (rest : List ℕ) → NoPage rest → Ends (1 ∷ rest)
none_end rest none page others is e = absurd (none page is (others, ap (drop 1) e))

-- the pages in front of bytes that end are one list
same_pages : (ps qs : List Page) (r s : List ℕ) → AllByRecursion IsPage ps → AllByRecursion IsPage qs → Ends r → Ends s → opened ps ++ r ≡ opened qs ++ s → ps ≡ qs
same_pages [] [] r s hp hq er es e = refl
same_pages [] (q ∷ qs) r s hp hq er es e =
    absurd (er q (opened qs ++ s) hq.0 (e ∙ ap (λ (xs : List ℕ). 1 ∷ xs) (append_assoc (spelling_of q) (opened qs) s)))
same_pages (p ∷ ps) [] r s hp hq er es e =
    absurd (es p (opened ps ++ r) hp.0 (sym e ∙ ap (λ (xs : List ℕ). 1 ∷ xs) (append_assoc (spelling_of p) (opened ps) r)))
same_pages (p ∷ ps) (q ∷ qs) r s hp hq er es e =
    let behind : spelling_of p ++ (opened ps ++ r) ≡ spelling_of q ++ (opened qs ++ s) =
    sym (append_assoc (spelling_of p) (opened ps) r) ∙ ap (drop 1) e ∙ append_assoc (spelling_of q) (opened qs) s in
    let first : p ≡ q = same_page p q (opened ps ++ r) (opened qs ++ s) hp.0 hq.0 behind in
    let others : opened ps ++ r ≡ opened qs ++ s = same_rest p q (opened ps ++ r) (opened qs ++ s) hp.0 hq.0 behind in
    let more : ps ≡ qs = same_pages ps qs r s hp.1 hq.1 er es others in
    λ i. first i ∷ more i

pub sealed_unique : (ps qs : List Page) (bytes : List ℕ) → IsSealed ps bytes → IsSealed qs bytes → ps ≡ qs
sealed_unique ps qs bytes a b =
    same_pages ps qs a.rest b.rest a.each b.each (stops_end a.rest a.stops) (stops_end b.rest b.stops) (sym a.bytes_are ∙ b.bytes_are)

pub bad_page_unique : (i k : ℕ) (bytes : List ℕ) → IsBadPage i bytes → IsBadPage k bytes → i ≡ k
bad_page_unique i k bytes a b =
    let same : a.before ≡ b.before = same_pages a.before b.before (1 ∷ a.rest) (1 ∷ b.rest) a.each b.each (none_end a.rest a.none) (none_end b.rest b.none)
    (sym a.bytes_are ∙ b.bytes_are) in
    sym a.as_many ∙ ap length same ∙ b.as_many

pub not_both : (ps : List Page) (i : ℕ) (bytes : List ℕ) → IsSealed ps bytes → ¬ (IsBadPage i bytes)
not_both ps i bytes a b =
    let joined : opened ps ++ a.rest ≡ opened b.before ++ 1 ∷ b.rest = sym a.bytes_are ∙ b.bytes_are in
    let same : ps ≡ b.before = same_pages ps b.before a.rest (1 ∷ b.rest) a.each b.each (stops_end a.rest a.stops) (none_end b.rest b.none) joined in
    let rests : a.rest ≡ 1 ∷ b.rest =
    append_cancel_left (opened b.before) a.rest (1 ∷ b.rest) (ap (λ (xs : List Page). opened xs ++ a.rest) (sym same) ∙ joined) in
    open_behind b.rest b.more (subst Stops rests a.stops)
  where
    open_behind : (rest : List ℕ) → 0 < length rest → ¬ (Stops (1 ∷ rest))
    open_behind [] l s = absurd (omega arith)
    open_behind (b ∷ rest) l s = s refl

-- a file reads as its pages
pub file_sealed : (pages : List Page) → AllByRecursion IsPage pages → IsSealed pages (file_of pages)
file_sealed pages each = record { each = each; rest = 0 ∷ []; bytes_are = refl; stops = tt }

file_known : (pages : List Page) → ¬ (IsForeign (file_of pages))
file_known [] f = absurd (let l : 107 < 1 = f.long in omega arith)
file_known (page ∷ pages) f = f.closed refl

pub file_reads : (pages : List Page) → AllByRecursion IsPage pages → ReadsAs pages (file_of pages)
file_reads pages each = record { sealed = file_sealed pages each; known = file_known pages }

suits_pages : (notes : Notes) (pages : List Page) (contents : List ℕ) (s : Suits notes contents) → IsSealed pages contents → s.pages ≡ pages
suits_pages notes pages contents s sealed = let reads = s.reads in sealed_unique s.pages pages contents reads.sealed sealed

pub suits_count : (notes : Notes) (pages : List Page) (contents : List ℕ) → Suits notes contents → IsSealed pages contents → count_of notes ≡ length pages
suits_count notes pages contents s sealed =
    let are = s.are_notes in let count = are.count in omega (arith, count, ap length (suits_pages notes pages contents s sealed))

pub suits_params : (notes : Notes) (pages : List Page) (contents : List ℕ) → Suits notes contents → IsSealed pages contents → notes.params ≡ params_of pages
suits_params notes pages contents s sealed = let are = s.are_notes in are.params ∙ ap params_of (suits_pages notes pages contents s sealed)

pub only_settled : (m : Moment) → IsSettled m → IsOnly m
only_settled m is image i = settled_only m.contents image (subst (λ (n : Moment). IsImage n image) is i)
