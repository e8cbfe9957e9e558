-- The lists of a coordinator stay shares of its table with grants of others.
use Rattle.std.proofs.Common.{◌≡◌, ℕ, ◌<◌, Bool, true, false, not, eqb, nat_eq, List, [], ◌∷◌, ◌++◌, length, get_or, sym, ◌∙◌}
use Rattle.std.proofs.Common.{ap, subst, inl, inr, arith, All, filter}
use Rattle.std.specs.Prelude.{◌≢◌, Result, Ok, Err, IfOk, OnErr}
use Rattle.std.proofs.lemmas.Bool.{eq-eqb}
use Rattle.std.proofs.lemmas.List.{get_or_default}
use Rattle.std.proofs.lemmas.List.Elements.{All-push, All-filter, All-nil, filter_passes}
use Rattle.std.proofs.lemmas.List.Quantifiers.{all_pairs_push}
use Rattle.std.proofs.lemmas.List.Kept.{AllPairs-filter}
use Rattle.std.specs.declared.alloc.AllocError.{AllocError}
use Rattle.share_model.specs.Checked.{Checked}
use Rattle.share_model.specs.declared.share.Share.{Share}
use Rattle.share_merge.specs.Turns.{HasIndex}
use Rattle.share_core.specs.declared.events.Event.{Event}
use Rattle.share_core.specs.declared.events.Event.TheVariants.{Grant, Deliver, Lose, Restart}
use Rattle.share_core.specs.declared.events.Answer.{Answer}
use Rattle.share_core.specs.declared.events.Answer.TheVariants.{Granted, NoneOpen, Counted, Repeat, Refused, Freed, Restarted}
use Rattle.share_core.specs.declared.events.Refusal.TheVariants.{Other, Share as Faulty}
use Rattle.share_core.specs.Lists.{Lists, IsLeastFree, without_index, empty}
use Rattle.share_core.specs.Coordinations.{Setting, Belongs, AreLists}
use Rattle.share_core.specs.Steps.{IsReadFrom, IsNew, Counts, Grants, Delivers, Loses, Restarts, Answers}
use Rattle.share_core.proofs.ListFacts.{HasIndex-cases}

-- what passes the filter has another index
others_apart : (i : ℕ) (granted : List (ℕ × ℕ)) → All (λ g. g.0 ≢ i) (without_index i granted)
others_apart i granted k d inside same =
    let passes = filter_passes (λ (g : ℕ × ℕ). not (nat_eq g.0 i)) granted k d inside in
    let equal : eqb (get_or (without_index i granted) k d).0 i ≡ true = eq-eqb (get_or (without_index i granted) k d).0 i same in
    let turned : not (eqb (get_or (without_index i granted) k d).0 i) ≡ false = ap not equal in
    absurd (cc (passes, turned))

get_or_itself : {X : Type 0} (xs : List X) (k : ℕ) (d : X) → k < length xs → get_or xs k (get_or xs k d) ≡ get_or xs k d
get_or_itself xs k d inside = get_or_default xs k (get_or xs k d) d inside

module _ {R E : Type 0} where
  pub empty_lists : (setting : Setting R) → AreLists {R = R} {E = E} setting empty
  empty_lists setting = record {
    belong = All-nil (Belongs setting);
    apart = λ i j d before inside. absurd (omega (arith, inside));
    below = All-nil (λ g. g.0 < setting.of);
    granted_apart = λ i j d before inside. absurd (omega (arith, inside));
    not_counted = All-nil (λ g. ¬ (HasIndex [] g.0));
  }

  -- fewer grants
  fewer : (setting : Setting R) (old : Lists R E) (p : ℕ × ℕ → Bool) → AreLists setting old
      → AreLists setting (record { counted = old.counted; granted = filter p old.granted })
  fewer setting old p kept = record {
    belong = kept.belong;
    apart = kept.apart;
    below = All-filter p (λ g. g.0 < setting.of) old.granted kept.below;
    granted_apart = AllPairs-filter (λ g h. g.0 ≢ h.0) p old.granted kept.granted_apart;
    not_counted = All-filter p (λ g. ¬ (HasIndex old.counted g.0)) old.granted kept.not_counted;
  }

  one_more : (setting : Setting R) (old : Lists R E) (worker i : ℕ) → AreLists setting old → IsLeastFree setting.of old i
      → AreLists setting (record { counted = old.counted; granted = old.granted ++ (i, worker) ∷ [] })
  one_more setting old worker i kept least = record {
    belong = kept.belong;
    apart = kept.apart;
    below = All-push (λ g. g.0 < setting.of) old.granted (i, worker) kept.below least.below;
    granted_apart = all_pairs_push (λ g h. g.0 ≢ h.0) old.granted (i, worker) kept.granted_apart
        (λ k d inside same. least.is_free.not_granted (k, get_or old.granted k d, inside, get_or_itself old.granted k d inside, same));
    not_counted = All-push (λ g. ¬ (HasIndex old.counted g.0)) old.granted (i, worker) kept.not_counted least.is_free.not_counted;
  }

  pub grant_keeps : (setting : Setting R) (old : Lists R E) (worker : ℕ) (answer : Answer) (new : Lists R E) → AreLists setting old
      → Grants setting.of old worker answer new → AreLists setting new
  grant_keeps setting old worker (Granted i) new kept (least, is) = subst (AreLists setting) (sym is) (one_more setting old worker i kept least)
  grant_keeps setting old worker NoneOpen new kept (none, is) = subst (AreLists setting) (sym is) kept
  grant_keeps setting old worker (Counted i) new kept never = absurd never
  grant_keeps setting old worker (Repeat i) new kept never = absurd never
  grant_keeps setting old worker (Refused why) new kept never = absurd never
  grant_keeps setting old worker (Freed n) new kept never = absurd never
  grant_keeps setting old worker Restarted new kept never = absurd never

  pub lose_keeps : (setting : Setting R) (old : Lists R E) (worker : ℕ) (answer : Answer) (new : Lists R E) → AreLists setting old
      → Loses old worker answer new → AreLists setting new
  lose_keeps setting old worker (Freed n) new kept (count, is) =
      subst (AreLists setting) (sym is) (fewer setting old (λ g. not (nat_eq g.1 worker)) kept)
  lose_keeps setting old worker (Granted i) new kept never = absurd never
  lose_keeps setting old worker NoneOpen new kept never = absurd never
  lose_keeps setting old worker (Counted i) new kept never = absurd never
  lose_keeps setting old worker (Repeat i) new kept never = absurd never
  lose_keeps setting old worker (Refused why) new kept never = absurd never
  lose_keeps setting old worker Restarted new kept never = absurd never

  pub restart_keeps : (setting : Setting R) (old : Lists R E) (answer : Answer) (new : Lists R E) → AreLists setting old
      → Restarts old answer new → AreLists setting new
  restart_keeps setting old Restarted new kept is = subst (AreLists setting) (sym is) (record {
    belong = kept.belong;
    apart = kept.apart;
    below = All-nil (λ g. g.0 < setting.of);
    granted_apart = λ i j d before inside. absurd (omega (arith, inside));
    not_counted = All-nil (λ g. ¬ (HasIndex old.counted g.0));
  })
  restart_keeps setting old (Granted i) new kept never = absurd never
  restart_keeps setting old NoneOpen new kept never = absurd never
  restart_keeps setting old (Counted i) new kept never = absurd never
  restart_keeps setting old (Repeat i) new kept never = absurd never
  restart_keeps setting old (Refused why) new kept never = absurd never
  restart_keeps setting old (Freed n) new kept never = absurd never

  belongs : (value : E → ℕ) (setting : Setting R) (old : Lists R E) (share : Share) (c : Checked R E) → IsNew setting old share
      → IsReadFrom value setting.table.ring share c → Belongs setting c
  belongs value setting old share c is_new read = record {
    params = read.params ∙ is_new.fits.params;
    ring = read.ring_is;
    of = ap (λ id. id.of) read.id ∙ is_new.fits.of;
    below = subst (λ id. id.index < setting.of) (sym read.id)
        (subst (λ n. share.id.index < n) is_new.fits.of is_new.fits.is_share.id.below);
  }

  pub count_keeps : (value : E → ℕ) (setting : Setting R) (old : Lists R E) (share : Share) (new : Lists R E) → AreLists setting old
      → Counts value setting old share new → AreLists setting new
  count_keeps value setting old share new kept counts =
      let i = share.id.index in
      let c = counts.checked in
      let index : c.id.index ≡ i = ap (λ id. id.index) counts.read.id in
      let left = fewer setting old (λ g. not (nat_eq g.0 i)) kept in
      subst (AreLists setting) (sym counts.lists) (record {
        belong = All-push (Belongs setting) old.counted c kept.belong (belongs value setting old share c counts.is_new counts.read);
        apart = all_pairs_push (λ a b. a.id.index ≢ b.id.index) old.counted c kept.apart
            (λ k d inside same. counts.is_new.fresh
            (k, get_or old.counted k d, inside, get_or_itself old.counted k d inside, same ∙ index));
        below = left.below;
        granted_apart = left.granted_apart;
        not_counted = λ k d inside there. elim (HasIndex-cases old.counted c (get_or (without_index i old.granted) k d).0 there) [
          | inl before ↦ left.not_counted k d inside before
          | inr last ↦ others_apart i old.granted k d inside (sym last ∙ index)
        ];
      })

  pub deliver_keeps : (value : E → ℕ) (setting : Setting R) (old : Lists R E) (share : Share) (answer : Answer) (new : Lists R E)
      → AreLists setting old → Delivers value setting old share answer new → AreLists setting new
  deliver_keeps value setting old share (Counted i) new kept (counts, is) = count_keeps value setting old share new kept counts
  deliver_keeps value setting old share (Repeat i) new kept (repeats, is, same) = subst (AreLists setting) (sym same) kept
  deliver_keeps value setting old share (Refused Other) new kept (unfit, same) = subst (AreLists setting) (sym same) kept
  deliver_keeps value setting old share (Refused (Faulty fault)) new kept (is_new, is, same) = subst (AreLists setting) (sym same) kept
  deliver_keeps value setting old share (Granted i) new kept never = absurd never
  deliver_keeps value setting old share NoneOpen new kept never = absurd never
  deliver_keeps value setting old share (Freed n) new kept never = absurd never
  deliver_keeps value setting old share Restarted new kept never = absurd never

  -- so do they at each step
  pub step_keeps : (value : E → ℕ) (setting : Setting R) (old : Lists R E) (event : Event) (answer : Answer) (new : Lists R E)
      → AreLists setting old → Answers value setting old event answer new → AreLists setting new
  step_keeps value setting old (Grant worker) answer new kept answers = grant_keeps setting old worker answer new kept answers
  step_keeps value setting old (Deliver share) answer new kept answers = deliver_keeps value setting old share answer new kept answers
  step_keeps value setting old (Lose worker) answer new kept answers = lose_keeps setting old worker answer new kept answers
  step_keeps value setting old Restart answer new kept answers = restart_keeps setting old answer new kept answers

  -- so do they where a grant may want memory
  pub granted_kept : (setting : Setting R) (old new : Lists R E) (of worker : ℕ) (result : Result Answer AllocError) → AreLists setting old
      → of ≡ setting.of → IfOk result (λ answer. Grants of old worker answer new) → OnErr result (new ≡ old) → AreLists setting new
  granted_kept setting old new of worker (Ok answer) kept same grants err =
      grant_keeps setting old worker answer new kept (subst (λ n. Grants n old worker answer new) same grants)
  granted_kept setting old new of worker (Err fault) kept same grants err = subst (AreLists setting) (sym err) kept

  -- and a delivery
  pub delivered_kept : (value : E → ℕ) (setting : Setting R) (old new : Lists R E) (share : Share) (result : Result Answer AllocError)
      → AreLists setting old → IfOk result (λ answer. Delivers value setting old share answer new) → OnErr result (new ≡ old) → AreLists setting new
  delivered_kept value setting old new share (Ok answer) kept delivers err = deliver_keeps value setting old share answer new kept delivers
  delivered_kept value setting old new share (Err fault) kept delivers err = subst (AreLists setting) (sym err) kept
