-- Pages of a version 1 file have one spelling, and none begins another.
use Rattle.std.proofs.Common.{◌≡◌, ℕ, ◌+◌, ◌^◌, ◌<◌, ◌≤◌, List, [], ◌∷◌, ◌++◌, length, take, drop, refl, sym, ap, ◌∙◌, arith, append_assoc}
use Rattle.std.proofs.lemmas.List.{append-nil}
use Rattle.byteorder.specs.Endian.{little_bytes, little_number}
use Rattle.byteorder.specs.Numbers.{little_number-reads_back}
use Rattle.page_codec.specs.declared.params.Params.{Params}
use Rattle.page_codec.specs.declared.page.Page.{Page}
use Rattle.page_codec.specs.declared.page.Page.TheVariants.{Header, Forward, Final, Done}
use Rattle.page_codec.specs.Bounds.{IsOldParams}
use Rattle.page_codec.specs.Spelling.{framed, kind_of, body_of, mark, limits_spelling, old_spelling_of}
use Rattle.page_codec.specs.Inner.{old_at, old_parts}
use Rattle.page_codec.proofs.Exact.{read, pair_is}
use Rattle.page_codec.proofs.Pages.{OldFits, old_exact}
use Rattle.page_codec.proofs.Lengths.{short_body}
use Rattle.page_file.proofs.Reading.{same_page, same_rest}
use Rattle.table_migration.specs.OldFiles.{IsOldPage, old_spelling}

-- ---- headers

old_fits : (p : Params) → IsOldParams p → OldFits (old_parts p)
old_fits p is = let limits = is.0 in (tt, (tt, (tt, (omega arith, (omega arith, (omega arith, omega arith))))))

both_old : (p q : Params) (x y : List ℕ) → IsOldParams p → IsOldParams q → old_spelling_of p ++ x ≡ old_spelling_of q ++ y
    → read (old_parts p) x ≡ read (old_parts q) y
both_old p q x y is other e = sym (old_exact.again (old_parts p) x (old_fits p is)) ∙ ap old_at e ∙ old_exact.again (old_parts q) y (old_fits q other)

same_params : (p q : Params) → old_parts p ≡ old_parts q → p.preferred ≡ [] → q.preferred ≡ [] → p ≡ q
same_params p q e a b = λ i. record {
  weight = (e i).1.1.1.0;
  depth = (e i).1.1.1.1.0;
  modulus = (e i).1.1.1.1.1.1;
  order = (e i).1.1.1.1.1.0;
  preferred = (a ∙ sym b) i;
}

-- ---- pages

kinds_apart : (k j : ℕ) (x y : List ℕ) → k < j → k ∷ x ≡ j ∷ y → ⊥
kinds_apart k j x y less e = let same : k ≡ j = cc in omega (arith, less, same)

-- what stands in front of equal bytes is one page, and what follows it is the same
pub same_old : (p q : Page) (x y : List ℕ) → IsOldPage p → IsOldPage q → old_spelling p ++ x ≡ old_spelling q ++ y → (p ≡ q) × (x ≡ y)
same_old (Header p) (Header q) x y is other e =
    let both = both_old p q x y is other e in (
      ap Header (same_params p q (pair_is (λ parts l. parts) (old_parts p) (old_parts q) x y both) is.1 other.1),
      pair_is (λ parts l. l) (old_parts p) (old_parts q) x y both,
    )
same_old (Header p) (Forward q) x y is other e = absurd (kinds_apart 1 2 _ _ (omega arith) e)
same_old (Header p) (Final q) x y is other e = absurd (kinds_apart 1 3 _ _ (omega arith) e)
same_old (Header p) (Done q) x y is other e = absurd (kinds_apart 1 4 _ _ (omega arith) e)
same_old (Forward p) (Header q) x y is other e = absurd (kinds_apart 1 2 _ _ (omega arith) (sym e))
same_old (Final p) (Header q) x y is other e = absurd (kinds_apart 1 3 _ _ (omega arith) (sym e))
same_old (Done p) (Header q) x y is other e = absurd (kinds_apart 1 4 _ _ (omega arith) (sym e))
same_old p q x y is other e = (same_page p q x y is other e, same_rest p q x y is other e)

-- ---- heads

abbrev pub old_body : Page → List ℕ
old_body (Header p) = mark 1 ++ limits_spelling p
old_body (Forward p) = body_of (Forward p)
old_body (Final p) = body_of (Final p)
old_body (Done rows) = body_of (Done rows)

pub old_framed : (page : Page) → old_spelling page ≡ framed (kind_of page) (old_body page)
old_framed (Header p) = refl
old_framed (Forward p) = refl
old_framed (Final p) = refl
old_framed (Done rows) = refl

pub short_old : (page : Page) → IsOldPage page → length (old_body page) ≤ 2884101
short_old (Header p) is = omega arith
short_old (Forward p) is = short_body (Forward p) is
short_old (Final p) is = short_body (Final p) is
short_old (Done rows) is = short_body (Done rows) is

pub length-old : (page : Page) → length (old_spelling page) ≡ 5 + length (old_body page)
length-old page = ap length (old_framed page) ∙ omega arith

-- the length that stands in a head is that of the body
head_says : (head more rest : List ℕ) (kind n : ℕ) → length head ≡ 5 → n < 256 ^ 4
    → head ++ more ≡ little_bytes 1 kind ++ (little_bytes 4 n ++ rest) → little_number 4 (drop 1 head) ≡ n
head_says (a ∷ b ∷ c ∷ d ∷ e ∷ []) more rest kind n five small is =
    let bytes : b ∷ c ∷ d ∷ e ∷ [] ≡ little_bytes 4 n = ap (λ l. take 4 (drop 1 l)) is in
    ap (little_number 4) (bytes ∙ sym (append-nil (little_bytes 4 n))) ∙ little_number-reads_back 4 n [] small
head_says [] more rest kind n five small is = absurd (omega arith)
head_says (a ∷ []) more rest kind n five small is = absurd (omega arith)
head_says (a ∷ b ∷ []) more rest kind n five small is = absurd (omega arith)
head_says (a ∷ b ∷ c ∷ []) more rest kind n five small is = absurd (omega arith)
head_says (a ∷ b ∷ c ∷ d ∷ []) more rest kind n five small is = absurd (omega arith)
head_says (a ∷ b ∷ c ∷ d ∷ e ∷ f ∷ l) more rest kind n five small is = absurd (omega arith)

pub head_of_page : (head more rest : List ℕ) (page : Page) → length head ≡ 5 → IsOldPage page → head ++ more ≡ old_spelling page ++ rest
    → little_number 4 (drop 1 head) ≡ length (old_body page)
head_of_page head more rest page five is e =
    let body = old_body page in
    let n = length body in
    let short = short_old page is in
    let regrouped : framed (kind_of page) body ++ rest ≡ little_bytes 1 (kind_of page) ++ (little_bytes 4 n ++ (body ++ rest)) =
    append_assoc (little_bytes 1 (kind_of page)) (little_bytes 4 n ++ body) rest
    ∙ ap (λ l. little_bytes 1 (kind_of page) ++ l) (append_assoc (little_bytes 4 n) body rest) in
    head_says head more (body ++ rest) (kind_of page) n five (omega arith) (e ∙ ap (λ l. l ++ rest) (old_framed page) ∙ regrouped)
