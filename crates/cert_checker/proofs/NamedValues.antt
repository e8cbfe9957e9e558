-- The values of names at their places.
use Rattle.std.proofs.Common.{◌≡◌, ℕ, ◌<◌, List, length, get_or, Some, sym, ap, ◌∙◌}
use Rattle.std.proofs.lemmas.Option.{slice_get-get_or}
use Rattle.relation_list.specs.declared.names.RelName.{RelName}
use Rattle.relation_list.specs.Values.{value_of}
use Rattle.table_model.specs.ListedSpan.{value_where}
use Rattle.cert_checker.specs.Certified.{named_values}

pub named-value : (m : ℕ) (names : List RelName) (n : ℕ) (name : RelName) → n < length names → name ≡ get_or names n name
    → named_values m names n ≡ value_of m name
named-value m names n name l is = ap (value_where m) (slice_get-get_or names n name l ∙ ap (λ x. Some x) (sym is))
