-- Where the rows of shares stand: a place for each turn.
use Rattle.std.specs.Prelude.{◌≡◌, ℕ, zero, suc, ◌+◌, ◌<◌, ◌≤◌, Bool, Some, List, [], ◌∷◌, ◌++◌, length, get_or, slice_get, take, All}
use Rattle.std.proofs.Common.{refl, sym, ◌∙◌, ap, subst, arith}
use Rattle.std.specs.List.{flat_map}
use Rattle.std.proofs.lemmas.List.{append-nil}
use Rattle.std.proofs.lemmas.List.Elements.{All-append, All-cons}
use Rattle.std.proofs.lemmas.Grind.{flat_map-append}
use Rattle.std.proofs.lemmas.Option.{slice_get-get_or, slice_get_within, get_or_from_slice_get}
use Rattle.std.proofs.Math.Seq.{take-suc}
use Rattle.share_model.specs.Checked.{Checked}
use Rattle.share_merge.specs.declared.places.RowPlace.{RowPlace}
use Rattle.share_merge.specs.Turns.{Turn, HasIndex, counted, first_rows, turns_of, turn_row, row_where}
use Rattle.share_merge.specs.Inner.{places_of, IsOwn, IsPlaceOf, ArePlaces, combination_where, turn_combination}
use Rattle.share_merge.proofs.CountedShares.{counted-new, counted-again}

module _ {R E : Type 0} where
  abbrev rows_of : Checked R E → List (Turn R E)
  rows_of c = first_rows c (length c.list.rows)

  turns-new : (cs : List (Checked R E)) (x : Checked R E) → ¬ (HasIndex cs x.id.index) → turns_of (cs ++ x ∷ []) ≡ turns_of cs ++ rows_of x
  turns-new cs x absent =
      ap (flat_map rows_of) (counted-new cs x absent) ∙ flat_map-append rows_of (counted cs) (x ∷ [])
      ∙ ap (λ ys. flat_map rows_of (counted cs) ++ ys) (append-nil (rows_of x))

  turns-again : (cs : List (Checked R E)) (x : Checked R E) → HasIndex cs x.id.index → turns_of (cs ++ x ∷ []) ≡ turns_of cs
  turns-again cs x h = ap (flat_map rows_of) (counted-again cs x h)

  module _ (modulus : R → ℕ) (has : R → E → Bool) (value : R → E → ℕ) (list : List (Checked R E)) where
    pub places_append : (turns others : List (Turn R E)) (ps qs : List RowPlace) → ArePlaces modulus has value list turns ps
        → ArePlaces modulus has value list others qs → ArePlaces modulus has value list (turns ++ others) (ps ++ qs)
    places_append [] others [] qs h g = g
    places_append [] others (p ∷ ps) qs h g = absurd h
    places_append (t ∷ ts) others [] qs h g = absurd h
    places_append (t ∷ ts) others (p ∷ ps) qs h g = (h.0, places_append ts others ps qs h.1 g)

    -- as many places as turns
    pub places_count : (turns : List (Turn R E)) (ps : List RowPlace) → ArePlaces modulus has value list turns ps → length ps ≡ length turns
    places_count [] [] h = refl
    places_count [] (p ∷ ps) h = absurd h
    places_count (t ∷ ts) [] h = absurd h
    places_count (t ∷ ts) (p ∷ ps) h = ap suc (places_count ts ps h.1)

    -- the turn whose row stands at a place
    pub record IsTurnOf (turns : List (Turn R E)) (t : ℕ) (p : RowPlace) : Type 0 where
      pub turn : Turn R E
      pub at : slice_get turns t ≡ Some turn
      pub is : IsPlaceOf modulus has value list turn p

    abbrev pub IsTurnAt : ℕ → RowPlace → Type 0
    IsTurnAt = IsTurnOf (turns_of list)

    pub turn_at : (turns : List (Turn R E)) (ps : List RowPlace) → ArePlaces modulus has value list turns ps → (t : ℕ) (d : RowPlace) → t < length ps
        → IsTurnOf turns t (get_or ps t d)
    turn_at [] [] h t d l = absurd (omega (arith, l))
    turn_at [] (p ∷ ps) h t d l = absurd h
    turn_at (u ∷ us) [] h t d l = absurd h
    turn_at (u ∷ us) (p ∷ ps) h zero d l = record { turn = u; at = refl; is = h.0 }
    turn_at (u ∷ us) (p ∷ ps) h (suc t) d l = let r = turn_at us ps h.1 t d (omega (arith, l)) in record { turn = r.turn; at = r.at; is = r.is }

    module _ (t : ℕ) (p : RowPlace) (h : IsTurnAt t p) where
      pub share_inside : p.share < length list
      share_inside = let k = h.is in let u = h.turn in slice_get_within list p.share u.share k.share

      module _ (x : Checked R E) (own : x ≡ get_or list p.share x) where
        pub share_is : x ≡ h.turn.share
        share_is = let k = h.is in let u = h.turn in own ∙ get_or_from_slice_get list p.share u.share x k.share

        pub row_inside : p.row < length x.list.rows
        row_inside = let k = h.is in omega (arith, k.inside, k.row, ap (λ (c : Checked R E). length c.list.rows) share_is)

        pub row_is : get_or x.list.rows p.row [] ≡ turn_row list t
        row_is =
            let k = h.is in let u = h.turn in
            ap (λ (c : Checked R E). get_or c.list.rows p.row []) share_is ∙ ap (λ i. get_or u.share.list.rows i []) (sym k.row) ∙ sym (ap row_where h.at)

        pub combination_is : get_or x.combinations p.row [] ≡ turn_combination list t
        combination_is =
            let k = h.is in let u = h.turn in
            ap (λ (c : Checked R E). get_or c.combinations p.row []) share_is ∙ ap (λ i. get_or u.share.combinations i []) (sym k.row)
            ∙ sym (ap combination_where h.at)

    own_places : (c : Checked R E) (k : ℕ) → slice_get list k ≡ Some c → IsOwn modulus has value c → (n : ℕ) → n ≤ length c.list.rows
        → ArePlaces modulus has value list (first_rows c n) (places_of k n)
    own_places c k at own zero l = tt
    own_places c k at own (suc n) l =
        places_append (first_rows c n) (record { share = c; row = n } ∷ []) (places_of k n) (record { share = k; row = n } ∷ [])
        (own_places c k at own n (omega (arith, l))) (record { share = at; row = refl; inside = omega (arith, l); checked = own }, tt)

    -- the places of the rows of the first shares, and that those of them that count are checked
    pub record HasPlaces (k : ℕ) (ps : List RowPlace) : Type 0 where
      pub places : ArePlaces modulus has value list (turns_of (take k list)) ps
      pub checked : All (IsOwn modulus has value) (counted (take k list))

    pub no_places : HasPlaces 0 []
    no_places = record { places = tt; checked = λ i d l. absurd (omega (arith, l)) }

    module _ (k : ℕ) (x : Checked R E) (ps : List RowPlace) (inside : k < length list) (is : x ≡ get_or list k x) (before : HasPlaces k ps) where
      first : take (k + 1) list ≡ take k list ++ x ∷ []
      first = (let z : k + 1 ≡ suc k = omega arith in ap (λ n. take n list) z) ∙ take-suc list k x inside ∙ ap (λ y. take k list ++ y ∷ []) (sym is)

      pub places_new : ¬ (HasIndex (take k list) x.id.index) → IsOwn modulus has value x → HasPlaces (k + 1) (ps ++ places_of k (length x.list.rows))
      places_new absent own = record {
        places = subst (λ ts. ArePlaces modulus has value list ts (ps ++ places_of k (length x.list.rows)))
            (sym (ap turns_of first ∙ turns-new (take k list) x absent))
            (places_append (turns_of (take k list)) (rows_of x) ps (places_of k (length x.list.rows)) before.places
            (own_places x k (slice_get-get_or list k x inside ∙ ap (λ y. Some y) (sym is)) own (length x.list.rows) (omega arith)));
        checked = subst (All (IsOwn modulus has value)) (sym (ap counted first ∙ counted-new (take k list) x absent))
            (All-append (IsOwn modulus has value) (counted (take k list)) (x ∷ []) before.checked
            (All-cons (IsOwn modulus has value) x [] own (λ i d l. absurd (omega (arith, l)))));
      }

      pub places_again : HasIndex (take k list) x.id.index → HasPlaces (k + 1) ps
      places_again h = record {
        places = subst (λ ts. ArePlaces modulus has value list ts ps) (sym (ap turns_of first ∙ turns-again (take k list) x h)) before.places;
        checked = subst (All (IsOwn modulus has value)) (sym (ap counted first ∙ counted-again (take k list) x h)) before.checked;
      }
