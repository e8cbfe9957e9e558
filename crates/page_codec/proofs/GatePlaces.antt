-- Gates stand at places that are small.
use Rattle.std.proofs.Common.{ℕ, ◌+◌, ◌*◌, ◌^◌, ◌<◌, ◌≤◌, zero, suc, All, List, [], ◌∷◌, length, take, arith}
use Rattle.std.proofs.lemmas.List.Elements.{All-head, All-tail}
use Rattle.std.proofs.lemmas.List.Sums.{sum_by-cons}
use Rattle.page_codec.specs.declared.params.Params.{Params}
use Rattle.page_codec.specs.declared.page.Page.{Page}
use Rattle.page_codec.specs.Spelling.{body_of, spelling_of}
use Rattle.page_codec.specs.Bounds.{IsPage, IsParams}
use Rattle.page_codec.specs.Places.{AllFit, block_count, gate_place}
use Rattle.page_codec.proofs.Lengths.{short_body}
use Rattle.page_codec.proofs.Files.{few_pages}

short_spelling : (page : Page) → IsPage page → 1 + length (spelling_of page) ≤ 2884107
short_spelling page is = let short : length (body_of page) ≤ 2884101 = short_body page is in omega arith

gates_within : (pages : List Page) (i : ℕ) → All IsPage pages → gate_place pages i ≤ length pages * 2884107
gates_within [] zero all = omega arith
gates_within [] (suc i) all = omega arith
gates_within (page ∷ pages) zero all = omega arith
gates_within (page ∷ pages) (suc i) all =
    omega (
      arith,
      sum_by-cons (λ (p : Page). 1 + length (spelling_of p)) page (take i pages),
      short_spelling page (All-head IsPage page pages all),
      gates_within pages i (All-tail IsPage page pages all),
    )

pub gate_place-small : (p : Params) (n : ℕ) (pages : List Page) (i : ℕ) → IsParams p → n < 2 ^ 32 → All IsPage pages → AllFit p n pages
    → gate_place pages i < 2 ^ 48
gate_place-small p n pages i is small all fit =
    let few : length pages ≤ block_count n + 35 = few_pages p n pages is fit in
    let blocks : block_count n ≤ 67108864 = omega arith in
    omega (arith, gates_within pages i all)
