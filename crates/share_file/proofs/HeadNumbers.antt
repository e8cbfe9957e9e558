-- The head of a share is read as it is spelled.
use Rattle.std.proofs.Common.{◌≡◌, ◌≢◌, ℕ, ◌^◌, ◌<◌, List, ◌++◌, None, sym, ap, subst, ◌∙◌, arith}
use Rattle.byteorder.specs.Endian.{little_bytes}
use Rattle.page_codec.proofs.Numbers.{AreBytes}
use Rattle.page_codec.proofs.Exact.{IsExact, number_exact, both_exact, read, pair_is}
use Rattle.page_codec.proofs.Pages.{mark_exact}
use Rattle.share_model.specs.declared.share.ShareId.{ShareId}
use Rattle.share_model.specs.Shares.{IsShareId}
use Rattle.share_file.specs.Inner.{head_at, head_spelling}

-- what is read of a head: its mark says nothing
abbrev pub Numbers : Type 0
Numbers = Unit {0} × (ℕ × ℕ)

abbrev pub numbers_of : ShareId → Numbers
numbers_of id = (tt, (id.index, id.of))

head_exact : IsExact (λ x. Unit {0} × ((x.1.0 < 256 ^ 4) × (x.1.1 < 256 ^ 4)))
    (λ x. little_bytes 8 4995126715598920269 ++ (little_bytes 4 x.1.0 ++ little_bytes 4 x.1.1)) head_at
unfolding head_at
head_exact = both_exact (mark_exact 8 4995126715598920269 (omega arith)) (both_exact (number_exact 4) (number_exact 4))

head_again : (id : ShareId) (rest : List ℕ) → IsShareId id → head_at (head_spelling id ++ rest) ≡ read (numbers_of id) rest
head_again id rest is =
    let few = is.few in
    let below = is.below in
    head_exact.again (numbers_of id) rest (tt, (omega arith, omega arith))

pub head_back : (bytes : List ℕ) (id : ShareId) (rest : List ℕ) → AreBytes bytes → read (numbers_of id) rest ≡ head_at bytes
    → bytes ≡ head_spelling id ++ rest
head_back bytes id rest b e = head_exact.back bytes (numbers_of id) rest b (sym e)

pub none_head : (bytes : List ℕ) → None ≡ head_at bytes → (id : ShareId) (rest : List ℕ) → IsShareId id → bytes ≢ head_spelling id ++ rest
none_head bytes e id rest is h = let other : head_at bytes ≡ read (numbers_of id) rest = ap head_at h ∙ head_again id rest is in cc (e, other)

same_numbers : (bytes : List ℕ) (id : ShareId) (after : List ℕ) → read (numbers_of id) after ≡ head_at bytes → (other : ShareId) (rest : List ℕ)
    → IsShareId other → bytes ≡ head_spelling other ++ rest → read (numbers_of id) after ≡ read (numbers_of other) rest
same_numbers bytes id after e other rest is h = e ∙ ap head_at h ∙ head_again other rest is

id_of : Numbers → ShareId
id_of x = record { index = x.1.0; of = x.1.1 }

id_of-numbers_of : (id : ShareId) → id_of (numbers_of id) ≡ id
unfolding id_of
id_of-numbers_of id = λ i. id

pub same_id : (id other : ShareId) (after rest : List ℕ) → IsShareId id → IsShareId other → head_spelling id ++ after ≡ head_spelling other ++ rest
    → (id ≡ other) × (after ≡ rest)
same_id id other after rest is that e =
    let both : read (numbers_of id) after ≡ read (numbers_of other) rest = sym (head_again id after is) ∙ ap head_at e ∙ head_again other rest that in (
      sym (id_of-numbers_of id) ∙ pair_is (λ x l. id_of x) (numbers_of id) (numbers_of other) after rest both ∙ id_of-numbers_of other,
      pair_is (λ x l. l) (numbers_of id) (numbers_of other) after rest both,
    )

pub not_head : (bytes : List ℕ) (id : ShareId) (after : List ℕ) → read (numbers_of id) after ≡ head_at bytes → ¬ (IsShareId id)
    → (other : ShareId) (rest : List ℕ) → IsShareId other → bytes ≢ head_spelling other ++ rest
not_head bytes id after e not other rest is h =
    let both = same_numbers bytes id after e other rest is h in
    let same : id ≡ other =
    sym (id_of-numbers_of id) ∙ pair_is (λ x l. id_of x) (numbers_of id) (numbers_of other) after rest both ∙ id_of-numbers_of other in
    not (subst IsShareId (sym same) is)
