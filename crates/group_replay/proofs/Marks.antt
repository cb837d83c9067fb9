-- Heads that are taken while groups are read.
use Rattle.std.specs.Prelude.{◌≡◌, ℕ, Bool, true, false, List, [], ◌++◌, length, drop, Option, None, Some, Result, Err, Ok, IfSome, IsTrue, is_some, if◌then◌else◌}
use Rattle.std.specs.Option.{option_map}
use Rattle.std.proofs.Common.{refl, sym, ap, subst, ◌∙◌, arith, length-drop}
use Rattle.std.proofs.lemmas.List.{append-nil, take-append-drop, take_all}
use Rattle.sx_base.specs.Refusals.{refusal_of}
use Rattle.sx_base.specs.declared.refusal.Refusal as code
use Rattle.sx_base.specs.declared.stop.Stop.TheVariants as stop
use Rattle.send_model.specs.Refusal.{Refusal}
use Rattle.send_model.specs.Command.{Command}
use Rattle.send_model.specs.Spelling.{canonical, IsSpellable}
use Rattle.send_model.specs.Subvolume.{Subvolume}
use Rattle.send_model.specs.Store.{Head, Part, Store, State, head_of, begun, entered, completed, step_head}
use Rattle.send_model.specs.Receive.{start_of}
use Rattle.store_model.specs.Stored.{Mark, Body, Drop, made, taken, marked}
use Rattle.store_model.proofs.OneSaying.{frame_one}
use Rattle.clone_resolve.specs.Heads.{Begins}
use Rattle.group_replay.specs.declared.place.Place.{Place}
use Rattle.group_replay.specs.declared.kinds.Kind.TheVariants as kind
use Rattle.group_replay.specs.Kept.{AreKept}
use Rattle.group_replay.specs.Fronts.{IsInFront, FindsFront}
use Rattle.group_replay.specs.Contents.{IsBadContent, TakesContent}
use Rattle.group_replay.proofs.Beginning.{begun_marks}
use Rattle.group_replay.proofs.KeptParts.{unfinished_kept}

-- ---- heads

module _ {C : Type 0} (store : Store C) (c : Command) where
  pub no_head : head_of c ≡ None → marked store c ≡ None
  unfolding marked
  no_head h = ap (λ (o : Option Head). elim o as (λ x. Option (Store C)) [ None ↦ None | Some head ↦ option_map (λ state. state.store) (taken (step_head (start_of store) head)) ]) h

  at_rest : completed (start_of store) ≡ store
  unfolding completed
  at_rest = refl

  head_refused : (head : Head) (refusal : Refusal) → head_of c ≡ Some head → begun store head ≡ Err refusal → marked store c ≡ None
  unfolding marked step_head
  head_refused head refusal h b =
      ap (λ (o : Option Head). elim o as (λ x. Option (Store C)) [ None ↦ None | Some head ↦ option_map (λ state. state.store) (taken (step_head (start_of store) head)) ]) h
      ∙ ap (λ (s : Store C). option_map (λ (state : State C). state.store) (taken (entered s head (begun s head)))) at_rest
      ∙ ap (λ (r : Result (Subvolume C) Refusal). option_map (λ (state : State C). state.store) (taken (entered store head r))) b

  pub marks : (o : Option Head) (part : Part C) (new : Store C) → head_of c ≡ o → IsTrue (is_some o) → IfSome o (λ h. Begins (Ok part) h store new) → marked store c ≡ Some new
  marks None part new h there b = cc
  marks (Some head) part new h there b = begun_marks store new c head part h b.0 b.1 b.2

  pub not_marked : (o : Option Head) (refusal : code.Refusal) (new : Store C) → head_of c ≡ o → IsTrue (is_some o) → IfSome o (λ h. Begins {C = C} (Err (stop.Refused refusal)) h store new) → marked store c ≡ None
  not_marked None refusal new h there b = cc
  not_marked (Some head) refusal new h there b = head_refused head (refusal_of refusal) h b.0

-- the head that bytes are
module _ (at : ℕ) (bytes : List ℕ) (old new : Store (Option Place)) where
  pub bad_mark : ((head : Command) → IsSpellable 1 head → canonical 1 head ≡ bytes → marked old head ≡ None) → IsBadContent kind.Mark at bytes old
  unfolding made
  bad_mark bad (Mark head) same is spelled = bad head is spelled
  bad_mark bad (Body uuid version commands) same is spelled = cc
  bad_mark bad (Drop name) same is spelled = cc

  pub no_mark : FindsFront 1 bytes None → IsBadContent kind.Mark at bytes old
  no_mark none = bad_mark (λ head s is. absurd (none head [] s (sym is ∙ sym (append-nil (canonical 1 head)))))

  module _ (c : Command) (len : ℕ) (front : IsInFront 1 bytes c len) where
    only_one : (head : Command) → IsSpellable 1 head → canonical 1 head ≡ bytes → (c ≡ head) × (drop len bytes ≡ [])
    only_one head s is =
        frame_one 1 c head (drop len bytes) [] front.spellable s
        (ap (λ (l : List ℕ). l ++ drop len bytes) (sym front.spelled) ∙ take-append-drop len bytes ∙ sym is ∙ sym (append-nil (canonical 1 head)))

    pub long_mark : (len ≡ length bytes → ⊥) → IsBadContent kind.Mark at bytes old
    long_mark other = bad_mark (λ head s is.
        let none = only_one head s is in
        let within = front.within in
        absurd (other (omega (arith, within, ap length none.1, length-drop len bytes))))

    pub mark_taken : (t : Bool) → len ≡ length bytes → marked old c ≡ (if t then Some new else None) → TakesContent kind.Mark at bytes old new t
    unfolding made
    mark_taken true whole e = record {
      content = Mark c;
      sort_is = refl;
      lawful = front.spellable;
      spelled = sym front.spelled ∙ take_all len bytes (omega (arith, whole));
      makes = e;
    }
    mark_taken false whole e = bad_mark (λ head s is. ap (marked old) (sym (only_one head s is).0) ∙ e)

-- and what stands before it stays where it stands
pub marks_kept : (end : ℕ) (store new : Store (Option Place)) (o : Option Head) (part : Part (Option Place)) → IsTrue (is_some o) → IfSome o (λ h. Begins (Ok part) h store new) → AreKept end store → AreKept end new
marks_kept end store new None part there b all = cc
marks_kept end store new (Some head) part there b all = subst (λ (s : Store (Option Place)). AreKept end s) (sym b.2) (unfinished_kept end store head all)
