use Rattle.std.proofs.Common.{◌≡◌, ◌++◌, ◌∙◌, ap, sym}
use Rattle.std.proofs.lemmas.Bool.Decides.{Decides-eqb}
use Rattle.std.proofs.lemmas.Slice.Eq.{slice_eq-Decides}
use Rattle.page_codec.specs.Spelling.{spelling_of}
use Rattle.page_codec.proofs.Answering.{one_spelling}
use Rattle.table_build.proofs.comparing.is_same.Goals as goal

pub returns : goal.returns
returns c =
    let made = c.args.made.now in
    let read = c.args.read.now in
    let one : c.as_slice.result.now ≡ spelling_of made =
    c.as_slice.ensures.value ∙ c.in_ok-encode.ensures.ok ∙ ap (λ xs. xs ++ spelling_of made) c.new-spelling.ensures.items in
    let other : c.as_slice-2.result.now ≡ spelling_of read =
    c.as_slice-2.ensures.value ∙ c.in_ok-encode-2.ensures.ok ∙ ap (λ xs. xs ++ spelling_of read) c.new-other.ensures.items in
    let told = slice_eq-Decides Decides-eqb _ _ _ c.eq.ensures in (
      λ same. one_spelling made read (c.is_page.ensures.0 c.if-not-is_page.false) c.requires (sym one ∙ told.0 same ∙ other),
      λ e. told.1 (one ∙ ap spelling_of e ∙ sym other),
    )
