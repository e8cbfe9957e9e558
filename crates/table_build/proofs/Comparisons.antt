-- Sealed pages, compared with those that are made of the rows.
use Rattle.std.specs.Prelude.{◌≡◌, ℕ, suc, ◌+◌, ◌<◌, ◌≤◌, Option, Some, None, IfSome, IfErr, Result, Ok, Err, List, [], ◌∷◌, length, take, slice_get, get_or}
use Rattle.std.proofs.Common.{refl, sym, ◌∙◌, ap, subst, inl, inr, arith}
use Rattle.std.proofs.lemmas.Bool.{cases_lt}
use Rattle.std.proofs.lemmas.Option.{slice_get_within, slice_get-get_or}
use Rattle.outside_io.specs.Traces.{Trace}
use Rattle.page_codec.specs.declared.page.Page.{Page}
use Rattle.page_codec.specs.declared.page.Page.TheVariants.{Done}
use Rattle.page_file.specs.Notes.{Notes, Suits, count_of}
use Rattle.page_file.proofs.Reading.{suits_count}
use Rattle.file_model.specs.Resuming.{Differs as DiffersFirst}
use Rattle.table_build.specs.declared.fault.WorkFault.{WorkFault}
use Rattle.table_build.specs.declared.fault.WorkFault.TheVariants.{DiskFault, BadPage, NoInverse, Differs, Memory}
use Rattle.table_build.specs.Faults.{HasCauseIn}
use Rattle.table_build.specs.Inner.{AreFirst, AreFirstUpTo, HasForward, IfSealed, IsCompareFault, IsGoneFault}

-- what holds of the sealed pages where the disk tells holds where it does not
pub silent_sealed : (P : List Page → Type 0) (told : Option Trace) → told ≡ None → IfSealed P told
silent_sealed P told none = subst (IfSealed P) (sym none) tt

-- a fault of what is read again is one of comparing
pub compare_cause : (rose : Type 0) (told : Option Trace) (differs : ℕ → List Page → Type 0) (fault : WorkFault)
    → HasCauseIn rose (told ≡ None) (λ _ _. ⊥) fault → IsCompareFault rose (told ≡ None) (λ i. IfSealed (differs i) told) fault
compare_cause rose told differs DiskFault cause = cause
compare_cause rose told differs (BadPage i) cause = cause
compare_cause rose told differs (NoInverse value n) cause = cause
compare_cause rose told differs (Differs i) cause = silent_sealed (differs i) told cause
compare_cause rose told differs (Memory fault) cause = tt

-- a fault of comparing is one where the disk tells the same, as the count rose before
pub compare_on : (rose other_rose : Type 0) (mid told : Option Trace) (differs : ℕ → List Page → Type 0) (fault : WorkFault) → (rose → other_rose)
    → mid ≡ told → IsCompareFault rose (mid ≡ None) (λ i. IfSealed (differs i) mid) fault
    → IsCompareFault other_rose (told ≡ None) (λ i. IfSealed (differs i) told) fault
compare_on rose other_rose mid told differs DiskFault f same cause = f cause
compare_on rose other_rose mid told differs (BadPage i) f same cause = sym same ∙ cause
compare_on rose other_rose mid told differs (NoInverse value n) f same cause = cause
compare_on rose other_rose mid told differs (Differs i) f same cause = subst (IfSealed (differs i)) same cause
compare_on rose other_rose mid told differs (Memory fault) f same cause = tt

pub compare_where_failed : {T : Type 0} (rose other_rose : Type 0) (mid told : Option Trace) (differs : ℕ → List Page → Type 0) (r : Result T WorkFault)
    → (rose → other_rose) → mid ≡ told → IfErr r (IsCompareFault rose (mid ≡ None) (λ i. IfSealed (differs i) mid))
    → IfErr r (IsCompareFault other_rose (told ≡ None) (λ i. IfSealed (differs i) told))
compare_where_failed rose other_rose mid told differs (Ok x) f same cause = tt
compare_where_failed rose other_rose mid told differs (Err fault) f same cause = compare_on rose other_rose mid told differs fault f same cause

-- the page that is read behind the first ones is the one that is made, or the first that differs
module _ (pages : List Page) (k : ℕ) (made read : Page) (told : Option Trace) (stands : IfSome told (λ t. slice_get pages k ≡ Some made))
    (reads : IfSealed (λ sealed. slice_get sealed k ≡ Some read) told) (first : AreFirstUpTo pages k told) where
  pub next_first : made ≡ read → AreFirstUpTo pages (1 + k) told
  next_first is = both told stands reads first
    where
      both : (o : Option Trace) → IfSome o (λ t. slice_get pages k ≡ Some made) → IfSealed (λ sealed. slice_get sealed k ≡ Some read) o
          → AreFirstUpTo pages k o → AreFirstUpTo pages (1 + k) o
      both None there seen before = tt
      both (Some t) there seen before = λ sealed are i l. elim (cases_lt i k) [
        | inl less ↦ before sealed are i less
        | inr more ↦ subst (λ x. slice_get sealed x ≡ slice_get pages x) (let e : k ≡ i = omega (arith, l, more) in e)
            (seen sealed are ∙ ap Some (sym is) ∙ sym there)
      ]

  pub next_differs : ¬ (made ≡ read) → IfSealed (λ sealed. DiffersFirst sealed pages k) told
  next_differs others = both told stands reads first
    where
      both : (o : Option Trace) → IfSome o (λ t. slice_get pages k ≡ Some made) → IfSealed (λ sealed. slice_get sealed k ≡ Some read) o
          → AreFirstUpTo pages k o → IfSealed (λ sealed. DiffersFirst sealed pages k) o
      both None there seen before = tt
      both (Some t) there seen before = λ sealed are. record {
        below = slice_get_within sealed k read (seen sealed are);
        lacks = λ e.
            let same : Some made ≡ Some read = sym there ∙ sym e ∙ seen sealed are in
            let is : made ≡ read = cc same in
            others is;
        earlier = before sealed are;
      }

-- what is known of the sealed pages, together
pub sealed_both : (P Q R : List Page → Type 0) (told : Option Trace) → ((sealed : List Page) → P sealed → Q sealed → R sealed) → IfSealed P told
    → IfSealed Q told → IfSealed R told
sealed_both P Q R None f p q = tt
sealed_both P Q R (Some t) f p q = λ sealed is. f sealed (p sealed is) (q sealed is)

-- as many as are noted
pub sealed_count : (notes : Notes) (told : Option Trace) → IfSome told (λ t. Suits notes t.now.contents)
    → IfSealed (λ sealed. count_of notes ≡ length sealed) told
sealed_count notes None suits = tt
sealed_count notes (Some t) suits = λ sealed is. suits_count notes sealed t.now.contents suits is

-- pages that are the first ones at each place
take_same : (xs ys : List Page) → ((i : ℕ) → i < length xs → slice_get xs i ≡ slice_get ys i) → take (length xs) ys ≡ xs
take_same [] ys same = refl
take_same (x ∷ xs) [] same = let none : Some x ≡ None = same 0 (omega arith) in absurd (cc none)
take_same (x ∷ xs) (y ∷ ys) same =
    let head : Some x ≡ Some y = same 0 (omega arith) in
    let is : y ≡ x = cc head in
    ap (λ z. z ∷ take (length xs) ys) is ∙ ap (λ zs. x ∷ zs) (take_same xs ys (λ i l. same (suc i) (omega (arith, l))))

module _ (pages : List Page) (n : ℕ) (notes : Notes) (told : Option Trace) (suits : IfSome told (λ t. Suits notes t.now.contents))
    (first : AreFirstUpTo pages n told) where
  -- all that are sealed are the first ones of the work
  pub all_first : count_of notes ≡ n → AreFirst pages told
  all_first count = sealed_both (λ sealed. (i : ℕ) → i < n → slice_get sealed i ≡ slice_get pages i) (λ sealed. count_of notes ≡ length sealed)
      (λ sealed. take (length sealed) pages ≡ sealed) told
      (λ sealed same size. take_same sealed pages (λ i l. same i (omega (arith, l, size, count)))) first (sealed_count notes told suits)

  -- a page behind the last one of the work differs
  pub past_last : n < count_of notes → length pages ≤ n → IfSealed (λ sealed. DiffersFirst sealed pages n) told
  past_last within short = sealed_both (λ sealed. (i : ℕ) → i < n → slice_get sealed i ≡ slice_get pages i) (λ sealed. count_of notes ≡ length sealed)
      (λ sealed. DiffersFirst sealed pages n) told
      (λ sealed same size. record {
        below = omega (arith, within, size);
        lacks = λ e. there sealed (omega (arith, within, size)) e;
        earlier = same;
      }) first (sealed_count notes told suits)
    where
      there : (sealed : List Page) → n < length sealed → ¬ (slice_get sealed n ≡ slice_get pages n)
      there sealed l e =
          let big : n < length pages = slice_get_within pages n (get_or sealed n (Done 0)) (sym e ∙ slice_get-get_or sealed n (Done 0) l) in
          omega (arith, big, short)

-- forward pages among the first ones
pub forward_up_to : (pages : List Page) (blocks : ℕ) (told : Option Trace) → AreFirstUpTo pages (1 + blocks) told → HasForward pages blocks told
forward_up_to pages blocks None first = tt
forward_up_to pages blocks (Some t) first = λ sealed is b l. first sealed is (1 + b) (omega (arith, l))

-- a fault of comparing before anything is done
pub gone_cause : (rose silent : Type 0) (differs : ℕ → Type 0) (old new : Option Trace) (fault : WorkFault) → new ≡ old
    → IsCompareFault rose silent differs fault → IsGoneFault rose silent (λ i. differs i × (new ≡ old)) fault
gone_cause rose silent differs old new DiskFault same cause = cause
gone_cause rose silent differs old new (BadPage i) same cause = cause
gone_cause rose silent differs old new (NoInverse value n) same cause = cause
gone_cause rose silent differs old new (Differs i) same cause = (cause, same)
gone_cause rose silent differs old new (Memory fault) same cause = tt

-- a fault of what is done behind them
pub left_cause : (rose other_rose : Type 0) (differs : ℕ → List Page → Type 0) (old mid new : Option Trace) (fault : WorkFault) → (rose → other_rose)
    → (mid ≡ None → old ≡ None) → (mid ≡ None → new ≡ None) → HasCauseIn rose (mid ≡ None) (λ _ _. ⊥) fault
    → IsGoneFault other_rose (old ≡ None) (λ i. IfSealed (differs i) old × (new ≡ old)) fault
left_cause rose other_rose differs old mid new DiskFault f back on cause = f cause
left_cause rose other_rose differs old mid new (BadPage i) f back on cause = back cause
left_cause rose other_rose differs old mid new (NoInverse value n) f back on cause = cause
left_cause rose other_rose differs old mid new (Differs i) f back on cause = (silent_sealed (differs i) old (back cause), on cause ∙ sym (back cause))
left_cause rose other_rose differs old mid new (Memory fault) f back on cause = tt
