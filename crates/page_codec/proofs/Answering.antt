-- What `decode` answers.
use Rattle.std.proofs.Common.{◌≡◌, ℕ, ◌+◌, ◌-◌, List, ◌++◌, length, [], None, sym, ap, subst, ◌∙◌, arith, length-append}
use Rattle.std.proofs.lemmas.List.{append-nil}
use Rattle.page_codec.specs.declared.page.Page.{Page}
use Rattle.page_codec.specs.Bounds.{IsPage}
use Rattle.page_codec.specs.Spelling.{BeginsWith, spelling_of}
use Rattle.page_codec.specs.Inner.{page_at}
use Rattle.page_codec.proofs.Numbers.{AreBytes}
use Rattle.page_codec.proofs.Exact.{read, pair_is}
use Rattle.page_codec.proofs.Pages.{page_again, page_back}
use Rattle.page_codec.proofs.Lengths.{IsPage-fits}

pub none_read : (bytes : List ℕ) → None ≡ page_at bytes → (page : Page) → IsPage page → ¬ (BeginsWith bytes page)
none_read bytes e page is begins =
    let other : page_at bytes ≡ read page begins.0 = ap page_at begins.1 ∙ page_again page begins.0 (IsPage-fits page is) in
    absurd (cc (e, other))

pub same_page : (bytes : List ℕ) (found : Page) (rest : List ℕ) → read found rest ≡ page_at bytes → (page : Page) → IsPage page → BeginsWith bytes page
    → found ≡ page
same_page bytes found rest e page is begins =
    pair_is (λ p l. p) found page rest begins.0 (e ∙ ap page_at begins.1 ∙ page_again page begins.0 (IsPage-fits page is))

pub not_page : (bytes : List ℕ) (found : Page) (rest : List ℕ) → read found rest ≡ page_at bytes → ¬ (IsPage found) → (page : Page) → IsPage page
    → ¬ (BeginsWith bytes page)
not_page bytes found rest e not page is begins = not (subst IsPage (sym (same_page bytes found rest e page is begins)) is)

pub found_back : (bytes : List ℕ) (page : Page) (rest : List ℕ) → AreBytes bytes → read page rest ≡ page_at bytes → bytes ≡ spelling_of page ++ rest
found_back bytes page rest b e = page_back bytes page rest b (sym e)

pub found_length : (bytes : List ℕ) (page : Page) (rest : List ℕ) → bytes ≡ spelling_of page ++ rest
    → length bytes - length rest ≡ length (spelling_of page)
found_length bytes page rest e = let long : length bytes ≡ length (spelling_of page) + length rest = ap length e ∙ length-append (spelling_of page) rest in
    omega arith

same_front : (p q : Page) (x y : List ℕ) → IsPage p → IsPage q → spelling_of p ++ x ≡ spelling_of q ++ y → read p x ≡ read q y
same_front p q x y is other e = sym (page_again p x (IsPage-fits p is)) ∙ ap page_at e ∙ page_again q y (IsPage-fits q other)

pub one_spelling : (p q : Page) → IsPage p → IsPage q → spelling_of p ≡ spelling_of q → p ≡ q
one_spelling p q is other e = pair_is (λ page l. page) p q [] [] (same_front p q [] [] is other (ap (λ l. l ++ []) e))

pub no_prefix : (p q : Page) (rest : List ℕ) → IsPage p → IsPage q → spelling_of p ≡ spelling_of q ++ rest → rest ≡ []
no_prefix p q rest is other e = sym (pair_is (λ page l. l) p q [] rest (same_front p q [] rest is other (append-nil (spelling_of p) ∙ e)))
