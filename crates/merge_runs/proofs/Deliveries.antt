-- What the steps of a coordinator answer to deliveries of shares, over whatever ring.
use Rattle.std.specs.Prelude.{◌≡◌, ℕ, ◌+◌, ◌<◌, List, [], ◌∷◌, ◌++◌, length, map, take, get_or, Option, Some, None}
use Rattle.std.proofs.Common.{refl, sym, ap, subst, ◌∙◌}
use Rattle.std.proofs.lemmas.List.{map-append}
use Rattle.column_order.specs.Columns.{column_count}
use Rattle.outside_io.specs.Traces.{Trace}
use Rattle.page_codec.specs.declared.params.Params.{Params}
use Rattle.lyndon_polys.specs.Tables.{RingTable}
use Rattle.share_model.specs.declared.share.Share.{Share}
use Rattle.share_model.specs.declared.fault.ShareFault.TheVariants as fault
use Rattle.share_model.specs.Checked.{Checked}
use Rattle.share_merge.specs.Turns.{HasIndex}
use Rattle.share_core.specs.declared.events.Event.{Event}
use Rattle.share_core.specs.declared.events.Event.TheVariants.{Grant, Deliver, Lose, Restart}
use Rattle.share_core.specs.declared.events.Answer.{Answer}
use Rattle.share_core.specs.declared.events.Answer.TheVariants.{Granted, NoneOpen, Counted, Repeat, Refused, Freed, Restarted}
use Rattle.share_core.specs.declared.events.Refusal.{Refusal}
use Rattle.share_core.specs.declared.events.Refusal.TheVariants as refusal
use Rattle.share_core.specs.Lists.{Lists}
use Rattle.share_core.specs.Coordinations.{Setting, Coordination}
use Rattle.share_core.specs.Steps.{Fits, IsReadFrom, Counts, Delivers}
use Rattle.share_core.specs.Runs.{Runs, IsRefused as IsRefusedAnswer}
use Rattle.merge_program.specs.declared.words.TableWords.{TableWords}
use Rattle.table_checker.specs.Checks.{IsRowOf}
use Rattle.merge_runs.specs.declared.taking.NotAShare.{NotAShare}
use Rattle.merge_runs.specs.declared.taking.NotAShare.TheVariants as told_of
use Rattle.merge_runs.specs.Files.{AreOfShare}
use Rattle.merge_runs.specs.Taking.{Belongs, IsCounted, Takes, TakesAll, IsRefused}
use Rattle.merge_runs.specs.Taking.Takes.{counts, repeats}
use Rattle.merge_runs.specs.Plain.{plain_of, plain_share, plain_shares}
use Rattle.merge_runs.specs.Deliveries.{AreDelivered, CountsThese, why_refused}
use Rattle.merge_runs.specs.Inner.{HoldsShare, Stands, CanTell, why_of, TakesFile, RefusesFile, HasTaken, HasRefused}
use Rattle.merge_runs.proofs.PlainTurns.{plain_index, index_plain}
use Rattle.merge_runs.proofs.ManyDisks.{next_told, no_disks}

-- what is read from a share is the share, with residues for elements
plain-read : {R E : Type 0} (value : E → ℕ) (ring : R) (share : Share) (c : Checked R E) → IsReadFrom value ring share c
    → plain_of value c ≡ plain_share share
plain-read value ring share c read = λ i. record {
  params = read.params i;
  id = read.id i;
  list = record { ring = (read.params i).modulus; columns = column_count (read.params i).weight (read.params i).depth; rows = read.rows i };
  combinations = read.combinations i;
}

module _ {R E : Type 0} (value : R → E → ℕ) where
  -- the same table under its own name
  own_table : (merge : TableWords) (table : RingTable R) (counted : List Share) (c : Coordination R E) → Stands value merge table counted c
      → Stands value merge c.setting.table counted c
  own_table merge table counted c stands = subst (λ t. Stands value merge t counted c) (sym stands.is_table) stands

  module _ (old new : Coordination R E) (same : new.setting ≡ old.setting) (share : Share) (merge : TableWords) (counted : List Share)
      (stands : Stands value merge old.setting.table counted old) where
    abbrev values : E → ℕ
    values = value old.setting.table.ring

    -- the new lists with the same setting
    stands_on : (next : List Share) → map (plain_of values) new.lists.counted ≡ plain_shares next → Stands value merge old.setting.table next new
    stands_on next is = record {
      is_table = ap (λ (s : Setting R). s.table) same;
      params = ap (λ (s : Setting R). s.params) same ∙ stands.params;
      of = ap (λ (s : Setting R). s.of) same ∙ stands.of;
      counts = is;
    }

    belongs : Fits old.setting share → Belongs merge share
    belongs fits = record { params = fits.params ∙ stands.params; of = fits.of ∙ stands.of }

    not_fresh : (index : ℕ) → IsCounted counted index → HasIndex old.lists.counted index
    not_fresh index is = plain_index values old.lists.counted index (subst (λ list. HasIndex list index) (sym stands.counts) is)

    is_there : (index : ℕ) → HasIndex old.lists.counted index → IsCounted counted index
    is_there index is = subst (λ list. HasIndex list index) stands.counts (index_plain values old.lists.counted index is)

    module _ (file : List ℕ) (of_share : AreOfShare file share) where
      counted_next : Counts values old.setting old.lists share new.lists
          → (next : List Share) × Takes merge counted file next × Stands value merge old.setting.table next new
      counted_next is =
          let fresh = is.is_new in (
            counted ++ share ∷ [],
            counts share of_share (belongs fresh.fits) (λ there. fresh.fresh (not_fresh share.id.index there)) is.result refl,
            stands_on (counted ++ share ∷ [])
                (ap (λ (l : Lists R E). map (plain_of values) l.counted) is.lists
                ∙ map-append (plain_of values) old.lists.counted (is.checked ∷ [])
                ∙ (λ i. stands.counts i ++ plain-read values old.setting.table.ring share is.checked is.read i ∷ [])
                ∙ sym (map-append plain_share counted (share ∷ []))),
          )

      repeated_next : (fits : Fits old.setting share) → HasIndex old.lists.counted share.id.index → new.lists ≡ old.lists
          → (next : List Share) × Takes merge counted file next × Stands value merge old.setting.table next new
      repeated_next fits there is = (
        counted,
        repeats share of_share (belongs fits) (is_there share.id.index there) refl,
        stands_on counted (ap (λ (l : Lists R E). map (plain_of values) l.counted) is ∙ stands.counts),
      )

      refused_file : (why : Refusal) → Delivers values old.setting old.lists share (Refused why) new.lists
          → IsRefused merge counted file (why_of (told_of.Refused why))
      refused_file refusal.Other (strange, is) = (
        share,
        of_share,
        λ b. strange (record { params = b.params ∙ sym stands.params; of = b.of ∙ sym stands.of; is_share = of_share.is_share }),
      )
      refused_file (refusal.Share (fault.NoInverseWord v u)) (fresh, found, is) = absurd found
      refused_file (refusal.Share (fault.NoInverseRelation v n)) (fresh, found, is) = absurd found
      refused_file (refusal.Share (fault.BadRow i)) (fresh, found, is) =
          (share, of_share, belongs fresh.fits, (λ there. fresh.fresh (not_fresh share.id.index there)), found, tt)
      refused_file (refusal.Share (fault.NotReduced i)) (fresh, found, is) =
          (share, of_share, belongs fresh.fits, (λ there. fresh.fresh (not_fresh share.id.index there)), found, tt)
      refused_file (refusal.Share (fault.Missing n rest)) (fresh, found, is) =
          (share, of_share, belongs fresh.fits, (λ there. fresh.fresh (not_fresh share.id.index there)), found.found, tt)
      refused_file (refusal.Share (fault.Memory e)) (fresh, found, is) = absurd found

  -- the deliveries of files that are not refused
  module _ (setting : Setting R) (merge : TableWords) (params : setting.params ≡ merge.params) (of : setting.of ≡ merge.shares) where
    abbrev own_values : E → ℕ
    own_values = value setting.table.ring

    abbrev keeps : Lists R E → Coordination R E
    keeps lists = record { setting = setting; lists = lists }

    standing : (lists : Lists R E) (counted : List Share) → CountsThese own_values lists.counted counted
        → Stands value merge setting.table counted (keeps lists)
    standing lists counted these = record { is_table = refl; params = params; of = of; counts = these }

    deliver_one : (old new : Lists R E) (counted : List Share) → CountsThese own_values old.counted counted → (file : List ℕ) (share : Share)
        → AreOfShare file share → (answer : Answer) → Delivers own_values setting old share answer new → ¬ (IsRefusedAnswer answer)
        → (next : List Share) × Takes merge counted file next × CountsThese own_values new.counted next
    deliver_one old new counted these file share are (Granted i) is not = absurd is
    deliver_one old new counted these file share are NoneOpen is not = absurd is
    deliver_one old new counted these file share are (Counted i) is not =
        let (next, takes, stands) = counted_next (keeps old) (keeps new) refl share merge counted (standing old counted these) file are is.0 in
        (next, takes, stands.counts)
    deliver_one old new counted these file share are (Repeat i) is not =
        let repeat = is.0 in
        let (next, takes, stands) = repeated_next (keeps old) (keeps new) refl share merge counted (standing old counted these) file are repeat.fits
        repeat.counted is.2 in
        (next, takes, stands.counts)
    deliver_one old new counted these file share are (Refused why) is not = absurd (not tt)
    deliver_one old new counted these file share are (Freed n) is not = absurd is
    deliver_one old new counted these file share are Restarted is not = absurd is

    pub deliver_all : (files : List (List ℕ)) (steps : List (Event × Answer)) (old new : Lists R E) (counted : List Share)
        → CountsThese own_values old.counted counted → AreDelivered files steps → Runs own_values setting steps old new
        → (next : List Share) × TakesAll merge counted files next × CountsThese own_values new.counted next
    deliver_all [] [] old new counted these are is =
        (counted, refl, subst (λ (l : Lists R E). CountsThese own_values l.counted counted) (sym is) these)
    deliver_all [] (s ∷ steps) old new counted these are is = absurd are
    deliver_all (file ∷ files) [] old new counted these are is = absurd are
    deliver_all (file ∷ files) ((Grant w, a) ∷ steps) old new counted these are is = absurd are.0
    deliver_all (file ∷ files) ((Deliver share, a) ∷ steps) old new counted these (one, not, are) (mid, first, is) =
        let (next, takes, here) = deliver_one old mid counted these file share one a first not in
        let (last, all, there) = deliver_all files steps mid new next here are is in
        (last, (next, takes, all), there)
    deliver_all (file ∷ files) ((Lose w, a) ∷ steps) old new counted these are is = absurd are.0
    deliver_all (file ∷ files) ((Restart, a) ∷ steps) old new counted these are is = absurd are.0

    pub deliver_refused : (old new : Lists R E) (counted : List Share) (file : List ℕ) (share : Share) (why : Refusal)
        → CountsThese own_values old.counted counted → AreOfShare file share → Delivers own_values setting old share (Refused why) new
        → IsRefused merge counted file (why_refused why)
    deliver_refused old new counted file share why these are is =
        refused_file (keeps old) (keeps new) refl share merge counted (standing old counted these) file are why is

  module _ (old new : Coordination R E) (same : new.setting ≡ old.setting) (told : Option Trace) (share : Share) (held : HoldsShare told (Some share)) where
    renamed : (merge : TableWords) (table : RingTable R) (counted : List Share) → Stands value merge table counted old
        → (next : List Share) × Takes merge counted held.bytes next × Stands value merge old.setting.table next new
        → (next : List Share) × Takes merge counted held.bytes next × Stands value merge table next new
    renamed merge table counted stands (next, takes, on) = (next, takes, subst (λ t. Stands value merge t next new) stands.is_table on)

    pub taken_counted : (i : ℕ) → Delivers (value old.setting.table.ring) old.setting old.lists share (Counted i) new.lists → TakesFile value told old new
    taken_counted i is = record {
      file = held.bytes;
      is_told = held.is_told;
      takes = λ merge table counted stands. renamed merge table counted stands
          (counted_next old new same share merge counted (own_table merge table counted old stands) held.bytes held.reads is.0);
    }

    pub taken_repeat : (i : ℕ) → Delivers (value old.setting.table.ring) old.setting old.lists share (Repeat i) new.lists → TakesFile value told old new
    taken_repeat i is = let repeat = is.0 in record {
      file = held.bytes;
      is_told = held.is_told;
      takes = λ merge table counted stands. renamed merge table counted stands
          (repeated_next old new same share merge counted (own_table merge table counted old stands) held.bytes held.reads repeat.fits repeat.counted is.2);
    }

    can_tell : (why : Refusal) → Delivers (value old.setting.table.ring) old.setting old.lists share (Refused why) new.lists
        → CanTell old.setting.params (told_of.Refused why)
    can_tell refusal.Other is = tt
    can_tell (refusal.Share (fault.NoInverseWord v u)) is = absurd is.1
    can_tell (refusal.Share (fault.NoInverseRelation v n)) is = absurd is.1
    can_tell (refusal.Share (fault.BadRow i)) is = tt
    can_tell (refusal.Share (fault.NotReduced i)) is = tt
    can_tell (refusal.Share (fault.Missing n rest)) (fresh, found, is) =
        let fits = fresh.fits in subst (λ (p : Params). IsRowOf p rest) fits.params (record { residues = found.residues; below = found.columns })
    can_tell (refusal.Share (fault.Memory e)) is = absurd is.1

    pub taken_refused : (why : Refusal) → Delivers (value old.setting.table.ring) old.setting old.lists share (Refused why) new.lists
        → RefusesFile value told old (told_of.Refused why)
    taken_refused why is = record {
      file = held.bytes;
      is_told = held.is_told;
      can_tell = can_tell why is;
      refuses = λ merge table counted stands.
          refused_file old new same share merge counted (own_table merge table counted old stands) held.bytes held.reads why is;
    }

  -- a delivery has no other answer
  pub no_other : (setting : Setting R) (old new : Lists R E) (values : E → ℕ) (share : Share) (answer : Answer) → Delivers values setting old share answer new
      → ((i : ℕ) → answer ≡ Counted i → ⊥) → ((i : ℕ) → answer ≡ Repeat i → ⊥) → ((why : Refusal) → answer ≡ Refused why → ⊥) → ⊥
  no_other setting old new values share (Granted i) is a b c = is
  no_other setting old new values share NoneOpen is a b c = is
  no_other setting old new values share (Counted i) is a b c = a i refl
  no_other setting old new values share (Repeat i) is a b c = b i refl
  no_other setting old new values share (Refused why) is a b c = c why refl
  no_other setting old new values share (Freed n) is a b c = is
  no_other setting old new values share Restarted is a b c = is

  -- bytes that are those of no share
  pub unreadable : (told : Option Trace) (old : Coordination R E) → HoldsShare told None → RefusesFile value told old told_of.Unreadable
  unreadable told old held = record { file = held.bytes; is_told = held.is_told; can_tell = tt; refuses = λ merge table counted stands. held.reads }

  -- nothing is taken
  pub none_taken : (merge : TableWords) (table : RingTable R) (told : List (Option Trace)) (c : Coordination R E) → Stands value merge table [] c
      → HasTaken value merge table (take 0 told) c
  none_taken merge table told c stands = record { files = []; are_told = no_disks told; counted = []; takes = refl; stands = stands }

  takes_more : (merge : TableWords) (first : List Share) (files : List (List ℕ)) (file : List ℕ) (counted next : List Share)
      → TakesAll merge first files counted → Takes merge counted file next → TakesAll merge first (files ++ file ∷ []) next
  takes_more merge first [] file counted next all one = (next, subst (λ c. Takes merge c file next) all one, refl)
  takes_more merge first (f ∷ files) file counted next (mid, taken, all) one = (mid, taken, takes_more merge mid files file counted next all one)

  -- one file more is taken
  pub more_taken : (merge : TableWords) (table : RingTable R) (told : List (Option Trace)) (k : ℕ) (old new : Coordination R E) → k < length told
      → HasTaken value merge table (take k told) old → TakesFile value (get_or told k None) old new → HasTaken value merge table (take (k + 1) told) new
  more_taken merge table told k old new inside has one =
      let next = one.takes merge table has.counted has.stands in record {
        files = has.files ++ one.file ∷ [];
        are_told = next_told told has.files k one.file inside has.are_told one.is_told;
        counted = next.0;
        takes = takes_more merge [] has.files one.file has.counted next.0 has.takes next.1;
        stands = next.2;
      }

  -- and one is refused
  pub not_taken : (merge : TableWords) (table : RingTable R) (told : List (Option Trace)) (k : ℕ) (why : NotAShare) (old : Coordination R E) → k < length told
      → HasTaken value merge table (take k told) old → RefusesFile value (get_or told k None) old why → HasRefused merge told k why
  not_taken merge table told k why old inside has one =
      let stands = has.stands in record {
        inside = inside;
        front = has.files;
        are_told = has.are_told;
        counted = has.counted;
        takes = has.takes;
        file = one.file;
        is_told = one.is_told;
        can_tell = subst (λ (p : Params). CanTell p why) stands.params one.can_tell;
        refused = one.refuses merge table has.counted has.stands;
      }
