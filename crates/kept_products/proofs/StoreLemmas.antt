-- What stands in a store of products.
use Rattle.std.proofs.Common.{◌≡◌, ℕ, ◌+◌, ◌-◌, ◌≤◌, Bool, true, false, Option, Some, None, Result, Ok, Err, List, [], ◌∷◌, ◌++◌, length, refl, sym, ap, subst, ◌∙◌, arith}
use Rattle.std.specs.Prelude.{◌↔◌, IfOk, OnOk, IsErrOf, is_some, slice_get, option_map}
use Rattle.std.specs.Map.{lookup, values_of}
use Rattle.std.proofs.lemmas.List.Elements.{All-contains, All-push}
use Rattle.std.proofs.lemmas.List.Sums.{sum_by_push}
use Rattle.std.proofs.lemmas.Map.Views.{Contains-from_lookup}
use Rattle.std.proofs.lemmas.Option.{slice_get-map}
use Rattle.zeta_model.specs.declared.Letter.{Letter}
use Rattle.kept_products.specs.declared.pairs.Kind.{Kind}
use Rattle.kept_products.specs.declared.pairs.Pair.{Pair}
use Rattle.kept_products.specs.contracts.pairs.PairPartialEq.TheImpl.{eq-value}
use Rattle.kept_products.specs.Inner.{IsProduct, AreKept, IsThere}
use Rattle.kept_products.proofs.PairLemmas.{pair_one}

pub both_ok : {T F : Type 0} (P Q S : T → Type 0) (r : Result T F) → ((x : T) → P x → Q x → S x) → IfOk r P → IfOk r Q → IfOk r S
both_ok P Q S (Ok x) f p q = f x p q
both_ok P Q S (Err e) f p q = p

pub on_ok : {T F : Type 0} (P Q : Type 0) → (P → Q) → (r : Result T F) → OnOk r P → OnOk r Q
on_ok P Q f (Ok x) p = f p
on_ok P Q f (Err e) p = p

-- a fault is the same in answers of two types
pub fault_at : {T S F : Type 0} (a b : F) (P : Type 0) → IsErrOf {T = T} (Err a) b ↔ P → IsErrOf {T = S} (Err a) b ↔ P
fault_at {T} {S} a b P is = (λ e. let same : a ≡ b = cc in is.0 (ap Err same), λ p. let was : IsErrOf {T = T} (Err a) b = is.1 p in let same : a ≡ b = cc in ap Err same)

pub none_of : {X : Type 0} (o : Option X) → false ≡ is_some o → o ≡ None
none_of None e = refl
none_of (Some x) e = cc

some_of : {X : Type 0} (o : Option X) → true ≡ is_some o → (x : X) × (o ≡ Some x)
some_of None e = cc
some_of (Some x) e = (x, refl)

module _ {E : Type 0} where
  -- the last of a list of entries, at the place that their number tells
  last_value : (entries : List (Pair × List (List Letter × E))) (pair : Pair) (sum : List (List Letter × E))
      → slice_get (values_of (entries ++ (pair, sum) ∷ [])) (length entries) ≡ Some sum
  last_value [] pair sum = refl
  last_value (e ∷ entries) pair sum = last_value entries pair sum

  module _ (zero : E) (has : E → Bool) (value : E → ℕ) (m : ℕ) where
    -- what is found at a pair is its product
    pub found_there : (limit terms : ℕ) (entries : List (Pair × List (List Letter × E))) (pair : Pair) (i : ℕ)
        → AreKept zero has value m limit entries terms → slice_get (values_of entries) i ≡ lookup (eq-value.it pair) entries
        → true ≡ is_some (lookup (eq-value.it pair) entries)
        → (sum : List (List Letter × E)) × (slice_get (values_of entries) i ≡ Some sum) × IsProduct zero has value m pair.kind pair.u pair.v sum
    found_there limit terms entries pair i kept at some =
        let held : (sum : List (List Letter × E)) × (lookup (eq-value.it pair) entries ≡ Some sum) = some_of (lookup (eq-value.it pair) entries) some in (
          held.0,
          at ∙ held.1,
          All-contains (λ e. IsProduct zero has value m e.0.kind e.0.u e.0.v e.1) entries (pair, held.0) kept.each
              (Contains-from_lookup pair_one pair held.0 entries held.1),
        )

    -- one more product is kept
    pub AreKept-push : (limit terms more : ℕ) (entries after : List (Pair × List (List Letter × E))) (pair : Pair) (sum : List (List Letter × E))
        → AreKept zero has value m limit entries terms → after ≡ entries ++ (pair, sum) ∷ [] → IsProduct zero has value m pair.kind pair.u pair.v sum
        → more ≡ length sum → more ≤ limit - terms → AreKept zero has value m limit after (terms + more)
    AreKept-push limit terms more entries after pair sum kept is product counts fits =
        let within : terms ≤ limit = kept.within in
        subst (λ es. AreKept zero has value m limit es (terms + more)) (sym is) (record {
          each = All-push (λ e. IsProduct zero has value m e.0.kind e.0.u e.0.v e.1) entries (pair, sum) kept.each product;
          counted = omega (arith, kept.counted, counts, sum_by_push {X = Pair × List (List Letter × E)} (λ e. length e.1) entries (pair, sum));
          within = omega arith;
        })

    pub pushed_there : (entries after : List (Pair × List (List Letter × E))) (pair : Pair) (sum : List (List Letter × E))
        → after ≡ entries ++ (pair, sum) ∷ [] → IsProduct zero has value m pair.kind pair.u pair.v sum → (i : ℕ) → i ≡ length entries
        → (there : List (List Letter × E)) × (slice_get (values_of after) i ≡ Some there) × IsProduct zero has value m pair.kind pair.u pair.v there
    pushed_there entries after pair sum is product i at =
        (sum, (λ k. slice_get (values_of (is k)) (at k)) ∙ last_value entries pair sum, product)

    -- what stands at the place of an entry is its sum
    pub product_there : (kind : Kind) (u v : List Letter) (entries : List (Pair × List (List Letter × E))) (last : List (List Letter × E)) (place : Option ℕ)
        (i : ℕ) (pair : Pair) (sum : List (List Letter × E)) → place ≡ Some i → Some (pair, sum) ≡ slice_get entries i
        → IsThere zero has value m kind u v entries last place → IsProduct zero has value m kind u v sum
    product_there kind u v entries last place i pair sum is at there =
        let here : IsThere zero has value m kind u v entries last (Some i) = subst (IsThere zero has value m kind u v entries last) is there in
        let same : Some here.0 ≡ Some sum =
        sym here.1 ∙ slice_get-map {A = Pair × List (List Letter × E)} (λ e. e.1) entries i ∙ ap (option_map (λ (e : Pair × List (List Letter × E)). e.1)) (sym at) in
        let one : here.0 ≡ sum = cc in
        subst (IsProduct zero has value m kind u v) one here.2

    -- a place past the entries is none
    pub nothing_there : (kind : Kind) (u v : List Letter) (entries : List (Pair × List (List Letter × E))) (last : List (List Letter × E)) (place : Option ℕ)
        (i : ℕ) → place ≡ Some i → None ≡ slice_get entries i → IsThere zero has value m kind u v entries last place → IsProduct zero has value m kind u v last
    nothing_there kind u v entries last place i is at there =
        let here : IsThere zero has value m kind u v entries last (Some i) = subst (IsThere zero has value m kind u v entries last) is there in
        let same : Some here.0 ≡ None =
        sym here.1 ∙ slice_get-map {A = Pair × List (List Letter × E)} (λ e. e.1) entries i ∙ ap (option_map (λ (e : Pair × List (List Letter × E)). e.1)) (sym at) in
        absurd (cc same)
