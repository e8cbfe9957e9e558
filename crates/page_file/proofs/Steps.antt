-- A page is noted, and what is read from there on.
use Rattle.std.proofs.Common.{◌≡◌, ℕ, ◌+◌, ◌<◌, ◌≤◌, List, length, drop, Option, sym, ap, subst, ◌∙◌, arith, length-append, length-drop}
use Rattle.std.specs.Prelude.{IfSome}
use Rattle.outside_io.specs.Traces.{Trace}
use Rattle.page_codec.specs.declared.page.Page.{Page}
use Rattle.page_codec.specs.Spelling.{spelling_of}
use Rattle.page_file.specs.Files.{Stops, IsBadPage}
use Rattle.page_file.specs.Notes.{Notes, count_of, end_of, with_page}
use Rattle.page_file.specs.Puts.{StandsAt}
use Rattle.page_file.specs.Inner.{IsFirst, IsUnread, Reads}
use Rattle.page_file.proofs.Opened.{with_page-end}
use Rattle.page_file.proofs.Fronts.{AllLook, looks_on, looks_more_told, reads_told, bad_page_told}

pub first_within : (w : List ℕ) (page : Page) (size : ℕ) → IsFirst w page size → size ≤ length w
first_within w page size first = omega (arith, first.size_is, ap length first.bytes_are, length-append (spelling_of page) first.rest)

module _ (told : Option Trace) (len : ℕ) (notes : Notes) (w : List ℕ) (place : ℕ) (place_is : place ≡ end_of notes) (looks : AllLook len notes w told) where
  pub looks_at : (w' : List ℕ) → IfSome told (λ t. StandsAt place w' t.now.contents) → AllLook len notes w' told
  looks_at w' stands = looks_on told len notes w w' looks (subst (λ (k : ℕ). IfSome told (λ t. StandsAt k w' t.now.contents)) place_is stands)

  pub noted_on : (notes' : Notes) (w' w'' : List ℕ) (page : Page) (size : ℕ) → notes' ≡ with_page notes page → w'' ≡ drop size w'
      → IfSome told (λ t. StandsAt place w' t.now.contents) → IsFirst w' page size → AllLook len notes' w'' told
  noted_on notes' w' w'' page size notes_are w_is stands first =
      subst (λ (x : Notes × List ℕ). AllLook len x.0 x.1 told) (λ i. (sym notes_are i, sym w_is i))
      (looks_more_told told len notes w' page size (looks_at w' stands) first)

  pub reads_at : IfSome told (λ t. Stops (drop place t.now.contents)) → IfSome told (λ t. Reads notes t.now.contents)
  reads_at stops = reads_told told len notes w looks (subst (λ (k : ℕ). IfSome told (λ t. Stops (drop k t.now.contents))) place_is stops)

  pub bad_at : (number : ℕ) → number ≡ count_of notes → (i : ℕ) → (i ≡ number) × IfSome told (λ t. IsUnread (drop place t.now.contents))
      → IfSome told (λ t. IsBadPage i t.now.contents)
  bad_at number number_is i (is, u) =
      bad_page_told told len notes w i looks (is ∙ number_is)
      (subst (λ (k : ℕ). IfSome told (λ t. IsUnread (drop k t.now.contents))) place_is u)

pub ends_further : (notes notes' : Notes) (page : Page) → notes' ≡ with_page notes page → end_of notes < end_of notes'
ends_further notes notes' page is = omega (arith, ap end_of is, with_page-end notes page)

pub within_more : (notes notes' : Notes) (w w' : List ℕ) (page : Page) (place size len : ℕ) → place ≡ end_of notes → notes' ≡ with_page notes page
    → w' ≡ drop size w → IsFirst w page size → place + length w ≤ len → end_of notes' + length w' ≤ len
within_more notes notes' w w' page place size len place_is is w_is first within =
    omega (arith, ap end_of is, with_page-end notes page, place_is, ap length w_is, length-drop size w, first_within w page size first, first.size_is, within)
