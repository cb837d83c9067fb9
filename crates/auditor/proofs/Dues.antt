-- The answer that is due to what is read, by where following it leads.
use Rattle.std.specs.Prelude.{◌≡◌, ℕ, List, [], ◌∷◌, ◌++◌, Option, None, Some, Err}
use Rattle.std.proofs.Common.{refl, sym, ap, subst, ◌∙◌}
use Rattle.send_model.specs.Refusal.{Refusal}
use Rattle.send_model.specs.Reading.{Item, Verdict}
use Rattle.send_model.specs.Receive.{Ran, run_by, then_run, verdict_of}
use Rattle.send_model.specs.Due.{Due, RefusedAt, TooLong, Limited, Stop, AtEnd, stop_due}
use Rattle.sx_base.specs.declared.stop.Stop.{Stop as Stopped}
use Rattle.sx_base.specs.declared.stop.Stop.TheVariants as stopped
use Rattle.sx_base.specs.declared.refusal.Refusal.{Refusal as Refused}
use Rattle.sx_base.specs.Refusals.{refusal_of}
use Rattle.auditor.specs.Following.{Followed, follow, follow_all, AreAccepted, due_from_here, then_read, read_whole}
use Rattle.auditor.specs.Answers.{Follows}
use Rattle.auditor.proofs.Runs.{run_on}

-- ---- by the items

due_by : Option Verdict → Stop → Due
due_by (Some verdict) stop = RefusedAt verdict
due_by None stop = stop_due stop

due_is : (now : Followed) (read : Limited) (o : Option Verdict) → (follow_all now read.items).refused ≡ o → due_from_here now read ≡ due_by o read.stop
unfolding due_by
due_is now read o e = one (follow_all now read.items).refused ∙ ap (λ (x : Option Verdict). due_by x read.stop) e
  where
    one : (x : Option Verdict) → (elim x as (λ y. Due) [ Some verdict ↦ RefusedAt verdict | None ↦ stop_due read.stop ]) ≡ due_by x read.stop
    one None = refl
    one (Some verdict) = refl

-- Where all items are accepted, what is due says why no more is read.
pub due_stop : (now new : Followed) (read : Limited) → AreAccepted now read.items new → due_from_here now read ≡ stop_due read.stop
unfolding due_by
due_stop now new read all = due_is now read None (ap (λ (r : Ran Followed). r.refused) all)

-- Where one is refused, its verdict is due.
pub due_refused : (now : Followed) (read : Limited) (verdict : Verdict) → (follow_all now read.items).refused ≡ Some verdict → due_from_here now read ≡ RefusedAt verdict
unfolding due_by
due_refused now read verdict e = due_is now read (Some verdict) e

-- One item that is refused.
pub refused_one : (old : Followed) (item : Item) (refusal : Refusal) → (follow old item).refusal ≡ Some refusal → (follow_all old (item ∷ [])).refused ≡ Some (verdict_of item refusal)
unfolding run_by
refused_one old item refusal e = one (follow old item).refusal e
  where
    one : (o : Option Refusal) → o ≡ Some refusal → (then_run item (record { state = (follow old item).state; refusal = o }) (record { state = (follow old item).state; refused = None })).refused ≡ Some (verdict_of item refusal)
    one None p = cc
    one (Some r) p = ap (λ (o : Option Refusal). (then_run item (record { state = (follow old item).state; refusal = o }) (record { state = (follow old item).state; refused = None })).refused) p

pub item_refused : (old new : Followed) (item : Item) (why : Stopped) (refusal : Refused) → why ≡ stopped.Refused refusal → Follows (Err why) new item (follow old item)
    → due_from_here old (read_whole (item ∷ [])) ≡ RefusedAt (verdict_of item (refusal_of refusal))
item_refused old new item why refusal is says =
    let said : Follows (Err (stopped.Refused refusal)) new item (follow old item) = subst (λ (w : Stopped). Follows (Err w) new item (follow old item)) is says in
    due_refused old (read_whole (item ∷ [])) (verdict_of item (refusal_of refusal)) (refused_one old item (refusal_of refusal) said)

-- The other way round: a verdict that is due to items that are read whole is that on one of them.
pub refused_is : (now : Followed) (items : List Item) (verdict : Verdict) → due_from_here now (read_whole items) ≡ RefusedAt verdict → (follow_all now items).refused ≡ Some verdict
unfolding due_by
refused_is now items verdict e = one (follow_all now items).refused (sym (due_is now (read_whole items) (follow_all now items).refused refl) ∙ e)
  where
    inside : {a b : Verdict} → RefusedAt a ≡ RefusedAt b → a ≡ b
    inside p = cc

    one : (o : Option Verdict) → due_by o AtEnd ≡ RefusedAt verdict → o ≡ Some verdict
    one None p = cc
    one (Some v) p = ap (λ (x : Verdict). Some x) (inside p)

-- Items that are read whole are not too long.
pub never_long : (now : Followed) (items : List Item) (file : ℕ) → due_from_here now (read_whole items) ≡ TooLong file → ⊥
unfolding due_by
never_long now items file e = one (follow_all now items).refused (sym (due_is now (read_whole items) (follow_all now items).refused refl) ∙ e)
  where
    one : (o : Option Verdict) → due_by o AtEnd ≡ TooLong file → ⊥
    one None p = cc
    one (Some v) p = cc

-- ---- what is read after more

-- After items that are accepted, what is due is what is due from there on.
pub due_on : (old now : Followed) (items : List Item) (more : Limited) → AreAccepted old items now → due_from_here old (then_read items more) ≡ due_from_here now more
due_on old now items more all =
    due_is old (then_read items more) (follow_all old (items ++ more.items)).refused refl
    ∙ ap (λ (r : Ran Followed). due_by r.refused more.stop) (run_on follow items more.items old now all)
    ∙ sym (due_is now more (follow_all now more.items).refused refl)
