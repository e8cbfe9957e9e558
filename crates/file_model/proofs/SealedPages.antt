-- One page more of the parameters.
use Rattle.std.specs.Prelude.{◌≡◌, ℕ, zero, suc, ◌<◌, Some, List, [], ◌∷◌, ◌++◌, length, take, slice_get}
use Rattle.std.proofs.Common.{refl, sym, ap, subst, inl, inr, arith}
use Rattle.std.proofs.lemmas.Option.{slice_get_within, slice_get_read, get_or_from_slice_get}
use Rattle.page_codec.specs.declared.params.Params.{Params}
use Rattle.page_codec.specs.declared.page.Page.{Page}
use Rattle.page_file.specs.Files.{ReadsAs, ReadsBeforeOrAfter}
use Rattle.file_model.specs.Prefixes.{IsPages, HasPages}

take_one_more : (k : ℕ) (pages : List Page) (page : Page) → slice_get pages k ≡ Some page → take (suc k) pages ≡ take k pages ++ page ∷ []
take_one_more k [] page at = absurd (let l : k < 0 = slice_get_within [] k page at in omega (arith, l))
take_one_more zero (q ∷ pages) page at = ap (λ p. p ∷ []) (get_or_from_slice_get (q ∷ pages) 0 page q at)
take_one_more (suc k) (q ∷ pages) page at =
    let l : suc k < length (q ∷ pages) = slice_get_within (q ∷ pages) (suc k) page at in
    let there : slice_get pages k ≡ Some page =
    slice_get_read pages (length pages) k page refl (omega (arith, l)) (sym (get_or_from_slice_get (q ∷ pages) (suc k) page page at)) in
    ap (λ ps. q ∷ ps) (take_one_more k pages page there)

-- what reads as the first k pages, with the next one or without it, has them
pub next_sealed : (params : Params) (pages : List Page) → IsPages params pages → (k : ℕ) (page : Page) → slice_get pages k ≡ Some page → (image : List ℕ)
    → ReadsBeforeOrAfter (take k pages) page image → HasPages params k image
next_sealed params pages are k page at image (inl reads) =
    let l : k < length pages = slice_get_within pages k page at in
    (k, omega arith, record { pages = pages; are_pages = are; within = omega (arith, l); reads = reads })
next_sealed params pages are k page at image (inr reads) =
    let l : k < length pages = slice_get_within pages k page at in (
      suc k,
      omega arith,
      record {
        pages = pages;
        are_pages = are;
        within = omega (arith, l);
        reads = subst (λ ps. ReadsAs ps image) (sym (take_one_more k pages page at)) reads;
      },
    )
