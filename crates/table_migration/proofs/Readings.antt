-- Of any bytes one thing is said, and one list of pages is passed.
use Rattle.std.proofs.Common.{◌≡◌, inl, inr, ◌⊎◌, ℕ, ◌<◌, List, [], ◌∷◌, ◌++◌, length, drop, Some, refl, sym, ap, subst, ◌∙◌, append_assoc, arith}
use Rattle.std.specs.List.{AllByRecursion}
use Rattle.std.proofs.lemmas.List.{append-nil}
use Rattle.page_codec.specs.declared.params.Params.{Params}
use Rattle.page_codec.specs.declared.page.Page.{Page}
use Rattle.page_codec.specs.declared.page.Page.TheVariants.{Done}
use Rattle.page_codec.specs.Places.{AllFit}
use Rattle.page_codec.proofs.Files.{done_is_last}
use Rattle.page_file.specs.Files.{Stops}
use Rattle.table_model.specs.ListedSpan.{relation_count}
use Rattle.file_model.specs.FinalRows.{EndsDone}
use Rattle.table_migration.specs.OldFiles.{IsOldPage, old_spelling, old_opened, AreFit, IsUnread}
use Rattle.table_migration.specs.Migrations.{Answer, Migrated, BadPage, Misfit, NotDone, ArePassed, EndsAt, IsReading}
use Rattle.table_migration.proofs.OldPages.{same_old, old_framed}
use Rattle.table_migration.proofs.Places.{front_fits, params_old}

-- ---- two lists of pages in front of the same bytes

-- the second list goes on behind the first
pub record GoesOn (ps qs : List Page) (r s : List ℕ) : Type 0 where
  pub more : List Page
  pub each : AllByRecursion IsOldPage more
  pub pages_are : qs ≡ ps ++ more
  pub rest_is : r ≡ old_opened more ++ s

behind_page : (p q : Page) (ps qs : List Page) (r s : List ℕ) → p ≡ q → GoesOn ps qs r s → GoesOn (p ∷ ps) (q ∷ qs) r s
behind_page p q ps qs r s same on = record {
  more = on.more;
  each = on.each;
  pages_are = λ i. sym same i ∷ on.pages_are i;
  rest_is = on.rest_is;
}

pub one_goes_on : (ps qs : List Page) (r s : List ℕ) → AllByRecursion IsOldPage ps → AllByRecursion IsOldPage qs → old_opened ps ++ r ≡ old_opened qs ++ s
    → GoesOn ps qs r s ⊎ GoesOn qs ps s r
one_goes_on [] qs r s hp hq e = inl (record { more = qs; each = hq; pages_are = refl; rest_is = e })
one_goes_on (p ∷ ps) [] r s hp hq e = inr (record { more = p ∷ ps; each = hp; pages_are = refl; rest_is = sym e })
one_goes_on (p ∷ ps) (q ∷ qs) r s hp hq e =
    let behind : old_spelling p ++ (old_opened ps ++ r) ≡ old_spelling q ++ (old_opened qs ++ s) =
    sym (append_assoc (old_spelling p) (old_opened ps) r) ∙ ap (drop 1) e ∙ append_assoc (old_spelling q) (old_opened qs) s in
    let same = same_old p q (old_opened ps ++ r) (old_opened qs ++ s) hp.0 hq.0 behind in
    elim (one_goes_on ps qs r s hp.1 hq.1 same.1) [
      | inl on ↦ inl (behind_page p q ps qs r s same.0 on)
      | inr on ↦ inr (behind_page q p qs ps s r (sym same.0) on)
    ]

-- ---- where reading ends no page passes

-- reading does not stop at a page
no_stop : (page : Page) (rest : List ℕ) → ¬ (Stops (1 ∷ (old_spelling page ++ rest)))
no_stop page rest stops = let framed = subst (λ l. Stops (1 ∷ (l ++ rest))) (old_framed page) stops in framed refl

none_behind_done : (ps : List Page) (page : Page) (more : List Page) → AllByRecursion IsOldPage ps → EndsDone ps → ¬ (AreFit (ps ++ page ∷ more))
none_behind_done [] page more each ends fit = no_ends ends.1 ends.2
  where
    no_ends : (front : List Page) → [] ≡ front ++ Done ends.0 ∷ [] → ⊥
    no_ends [] e = cc e
    no_ends (q ∷ front) e = cc e
none_behind_done (p ∷ ps) page more each ends fit =
    let params = fit.0 in
    let n = relation_count params.weight params.depth in
    let all : AllFit params n ((p ∷ ps) ++ page ∷ more) = fit.2 in
    let joined : (p ∷ ps) ++ page ∷ more ≡ ends.1 ++ Done ends.0 ∷ (page ∷ more) =
    ap (λ l. l ++ page ∷ more) ends.2 ∙ append_assoc ends.1 (Done ends.0 ∷ []) (page ∷ more) in
    let none = done_is_last params n ends.0 ends.1 (page ∷ more) (params_old params p each.0 fit.1) (subst (AllFit params n) joined all) in
    absurd (cc none)

module _ (ps : List Page) (page : Page) (more : List Page) (each : AllByRecursion IsOldPage ps) (is : IsOldPage page) (fit : AreFit (ps ++ page ∷ more)) where
  pub none_behind : (rest tail : List ℕ) (answer : Answer) → EndsAt ps rest answer → ¬ (rest ≡ 1 ∷ (old_spelling page ++ tail))
  none_behind rest tail (Migrated params n) ends e = none_behind_done ps page more each ends.0 fit
  none_behind rest tail (BadPage i) ends e = let unread = ends.2 in unread.none page tail is (ap (drop 1) (sym unread.bytes_are ∙ e))
  none_behind rest tail (Misfit i) ends e =
      let misplaced = ends.2 in
      let same = same_old misplaced.page page misplaced.rest tail misplaced.is_page is (ap (drop 1) (sym misplaced.bytes_are ∙ e)) in
      misplaced.misfit (subst (λ p. AreFit (ps ++ p ∷ [])) (sym same.0)
      (front_fits (ps ++ page ∷ []) more (subst AreFit (sym (append_assoc ps (page ∷ []) more)) fit)))
  none_behind rest tail (NotDone n) ends e = no_stop page tail (subst Stops e ends.2)

-- ---- one answer

-- pages that were passed are the first of those that are passed in all
module _ (bytes : List ℕ) (ps qs : List Page) (r s : List ℕ) (answer : Answer) (first : ArePassed bytes ps r) (whole : ArePassed bytes qs s)
    (ends : EndsAt qs s answer) where
  at_end : (more : List Page) → AllByRecursion IsOldPage more → ps ≡ qs ++ more → s ≡ old_opened more ++ r → GoesOn ps qs r s
  at_end [] each pages_are rest_is = record {
    more = [];
    each = tt;
    pages_are = sym (append-nil ps ∙ pages_are ∙ append-nil qs);
    rest_is = sym rest_is;
  }
  at_end (page ∷ more) each pages_are rest_is =
      absurd (none_behind qs page more whole.each each.0 (subst AreFit pages_are first.fit) s (old_opened more ++ r) answer ends
      (rest_is ∙ ap (λ l. 1 ∷ l) (append_assoc (old_spelling page) (old_opened more) r)))

  pub are_first : GoesOn ps qs r s
  are_first = elim (one_goes_on ps qs r s first.each whole.each (sym first.bytes_are ∙ whole.bytes_are)) [
    | inl on ↦ on
    | inr on ↦ at_end on.more on.each on.pages_are on.rest_is
  ]

no_more : (ps : List Page) (x y : List Page) → ps ≡ (ps ++ x) ++ y → x ≡ []
no_more [] [] y e = refl
no_more [] (a ∷ x) y e = absurd (cc e)
no_more (p ∷ ps) x y e = no_more ps x y (ap (drop 1) e)

unread_goes_on : (rest : List ℕ) → IsUnread rest → ¬ (Stops rest)
unread_goes_on rest unread stops = at unread.rest unread.more (subst Stops unread.bytes_are stops)
  where
    at : (l : List ℕ) → 0 < length l → ¬ (Stops (1 ∷ l))
    at [] some stops = absurd (omega arith)
    at (b ∷ l) some stops = stops refl

some_params : (p q : Params) → Some p ≡ Some q → p ≡ q
some_params p q e = cc

same_end : (ps : List Page) (rest : List ℕ) (a b : Answer) → EndsAt ps rest a → EndsAt ps rest b → a ≡ b
same_end ps rest (Migrated p n) (Migrated q k) x y = λ i. Migrated (some_params p q (sym x.1 ∙ y.1) i) ((x.2 ∙ sym y.2) i)
same_end ps rest (Migrated p n) (BadPage k) x y = absurd (y.0 x.0)
same_end ps rest (Migrated p n) (Misfit k) x y = absurd (y.0 x.0)
same_end ps rest (Migrated p n) (NotDone k) x y = absurd (y.0 x.0)
same_end ps rest (BadPage i) (Migrated q k) x y = absurd (x.0 y.0)
same_end ps rest (BadPage i) (BadPage k) x y = ap BadPage (x.1 ∙ sym y.1)
same_end ps rest (BadPage i) (Misfit k) x y =
    let unread = x.2 in let placed = y.2 in absurd (unread.none placed.page placed.rest placed.is_page (ap (drop 1) (sym unread.bytes_are ∙ placed.bytes_are)))
same_end ps rest (BadPage i) (NotDone k) x y = absurd (unread_goes_on rest x.2 y.2)
same_end ps rest (Misfit i) (Migrated q k) x y = absurd (x.0 y.0)
same_end ps rest (Misfit i) (BadPage k) x y =
    let unread = y.2 in let placed = x.2 in absurd (unread.none placed.page placed.rest placed.is_page (ap (drop 1) (sym unread.bytes_are ∙ placed.bytes_are)))
same_end ps rest (Misfit i) (Misfit k) x y = ap Misfit (x.1 ∙ sym y.1)
same_end ps rest (Misfit i) (NotDone k) x y = let placed = x.2 in absurd (no_stop placed.page placed.rest (subst Stops placed.bytes_are y.2))
same_end ps rest (NotDone i) (Migrated q k) x y = absurd (x.0 y.0)
same_end ps rest (NotDone i) (BadPage k) x y = absurd (unread_goes_on rest y.2 x.2)
same_end ps rest (NotDone i) (Misfit k) x y = let placed = y.2 in absurd (no_stop placed.page placed.rest (subst Stops placed.bytes_are x.2))
same_end ps rest (NotDone i) (NotDone k) x y = ap NotDone (x.1 ∙ sym y.1)

pub one_reading : (bytes : List ℕ) (ps qs : List Page) (a b : Answer) → IsReading bytes ps a → IsReading bytes qs b → (ps ≡ qs) × (a ≡ b)
one_reading bytes ps qs a b x y =
    let on = are_first bytes ps qs x.rest y.rest b x.passed y.passed y.ends in
    let back = are_first bytes qs ps y.rest x.rest a y.passed x.passed x.ends in
    let none : on.more ≡ [] = no_more ps on.more back.more (back.pages_are ∙ ap (λ l. l ++ back.more) on.pages_are) in
    let pages : ps ≡ qs = sym (on.pages_are ∙ ap (λ l. ps ++ l) none ∙ append-nil ps) in
    let rest : x.rest ≡ y.rest = on.rest_is ∙ ap (λ l. old_opened l ++ y.rest) none in
    (pages, same_end qs y.rest a b (subst (λ l. EndsAt qs l a) rest (subst (λ l. EndsAt l x.rest a) pages x.ends)) y.ends)
