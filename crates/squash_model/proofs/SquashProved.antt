-- The laws of squashed commands, as they are stated.
use Rattle.std.specs.Prelude.{◌≡◌, ℕ, Bool, true, false, not, List, [], ◌∷◌, None, if◌then◌else◌}
use Rattle.std.specs.List.{AllByRecursion, filter}
use Rattle.std.proofs.Common.{refl, sym, ap, subst, ◌∙◌, arith, inl, inr}
use Rattle.send_model.specs.Command.{Command}
use Rattle.send_model.specs.Reading.{Item}
use Rattle.send_model.specs.Subvolume.{IsLawful}
use Rattle.send_model.specs.Store.{Key, Store, State, find}
use Rattle.send_model.specs.Receive.{start_of, byte_cells, run_items, IsAccepted}
use Rattle.send_model.specs.Order.{commands_of}
use Rattle.send_model.specs.Outside.{IsAmong, is_among, part_uuids, all_keys_named, keys_outside, SameOn, FindsLawful}
use Rattle.send_model.specs.Separated.{LeadTo}
use Rattle.send_model.proofs.Runs.{Takes, takes_run, runs_taken}
use Rattle.send_model.proofs.SameStores.{came, absent_finds_none}
use Rattle.squash_model.specs.Squashed.{stands, unborn, squashed}
use Rattle.squash_model.specs.SquashLaws.{SquashedLeadsTheSame, SquashedIsTheSame, SquashedCarriesWhatStands, SquashedKeepsAllElse, WhatStandsStays, SquashedTwiceIsOnce}
use Rattle.squash_model.proofs.SquashedSame.{leads_same}
use Rattle.squash_model.proofs.LawfulRuns.{keeps_order}
use Rattle.squash_model.proofs.SameSquash.{same_squash}
use Rattle.squash_model.proofs.SquashedTwice.{twice_once}
use Rattle.squash_model.proofs.CountedSquash.{squashed_carried, squashed_clones, squashed_keys, squashed_heads, squashed_streams, all_stays}

pub takes_lead : (cs : List Command) (state end : State ℕ) → Takes state cs end → LeadTo state cs end
takes_lead [] state end t = t
takes_lead (c ∷ cs) state end (h, t) = (h, takes_lead cs _ end t)

pub lead_takes : (cs : List Command) (state end : State ℕ) → LeadTo state cs end → Takes state cs end
lead_takes [] state end t = t
lead_takes (c ∷ cs) state end (h, t) = (h, lead_takes cs _ end t)

-- ---- keys that are named

kept_among : (test : Key → Bool) (k : Key) (keys : List Key) → IsAmong k keys → test k ≡ true → IsAmong k (filter test keys)
kept_among test k [] m t = absurd m
kept_among test k (q ∷ keys) (inl e) t = one (test q) (ap test e ∙ t)
  where
    one : (b : Bool) → b ≡ true → IsAmong k (if b then q ∷ filter test keys else filter test keys)
    one true h = inl e
    one false h = cc
kept_among test k (q ∷ keys) (inr m) t = one (test q) (kept_among test k keys m t)
  where
    one : (b : Bool) → IsAmong k (filter test keys) → IsAmong k (if b then q ∷ filter test keys else filter test keys)
    one true more = inr more
    one false more = more

all_at : (P : Key → Type 0) (k : Key) (keys : List Key) → AllByRecursion P keys → IsAmong k keys → P k
all_at P k [] all m = absurd m
all_at P k (q ∷ keys) all (inl e) = subst P e all.0
all_at P k (q ∷ keys) all (inr m) = all_at P k keys all.1 m

module _ (items : List Item) where
  abbrev cs : List Command
  cs = commands_of items

  -- A key of a part of the items finds nothing before.
  own_absent : (store : Store ℕ) (end : State ℕ) (k : Key) → Takes (start_of store) cs end → is_among (part_uuids items) k.uuid ≡ true → find store k ≡ None
  own_absent store end k t h = let c = came k.uuid cs (start_of store) end t h in absent_finds_none store k c.before

  outside_among : (k : Key) → IsAmong k (all_keys_named cs) → is_among (part_uuids items) k.uuid ≡ false → IsAmong k (keys_outside items)
  outside_among k m h = kept_among (λ key. not (is_among (part_uuids items) key.uuid)) k (all_keys_named cs) m (ap not h)

  same_found : (base store : Store ℕ) (end end' : State ℕ) → SameOn base store (keys_outside items) → Takes (start_of base) cs end → Takes (start_of store) cs end'
      → (k : Key) → IsAmong k (all_keys_named cs) → find base k ≡ find store k
  same_found base store end end' same t u k m = one (is_among (part_uuids items) k.uuid) refl
    where
      one : (b : Bool) → is_among (part_uuids items) k.uuid ≡ b → find base k ≡ find store k
      one true h = own_absent base end k t h ∙ sym (own_absent store end' k u h)
      one false h = all_at (λ key. find base key ≡ find store key) k (keys_outside items) same (outside_among k m h)

  pub all_lawful : (base : Store ℕ) (end : State ℕ) → FindsLawful base (keys_outside items) → Takes (start_of base) cs end → FindsLawful base (all_keys_named cs)
  all_lawful base end f t k s m e = one (is_among (part_uuids items) k.uuid) refl
    where
      one : (b : Bool) → is_among (part_uuids items) k.uuid ≡ b → IsLawful s
      one true h = absurd (let none = own_absent base end k t h in cc)
      one false h = f k s (outside_among k m h) e

  module _ (base store : Store ℕ) (same : SameOn base store (keys_outside items))
      (there : IsAccepted (run_items 0 byte_cells (start_of base) items)) (here : IsAccepted (run_items 0 byte_cells (start_of store) items)) where
    abbrev end_there : State ℕ
    end_there = (run_items 0 byte_cells (start_of base) items).state

    abbrev end_here : State ℕ
    end_here = (run_items 0 byte_cells (start_of store) items).state

    takes_there : Takes (start_of base) cs end_there
    takes_there = takes_run items (start_of base) there

    takes_here : Takes (start_of store) cs end_here
    takes_here = takes_run items (start_of store) here

    found_same : (k : Key) → IsAmong k (all_keys_named cs) → find base k ≡ find store k
    found_same = same_found base store end_there end_here same takes_there takes_here

    squashed_alike : squashed base cs ≡ squashed store cs
    squashed_alike = same_squash base store cs end_there end_here found_same (takes_lead cs (start_of base) end_there takes_there) (takes_lead cs (start_of store) end_here takes_here)

    runs_alike : (written : List Item) → FindsLawful base (keys_outside items) → commands_of written ≡ squashed base cs
        → run_items 0 byte_cells (start_of store) written ≡ run_items 0 byte_cells (start_of store) items
    runs_alike written f e =
        let lawful : FindsLawful store (all_keys_named cs) = λ k s m q. all_lawful base end_there f takes_there k s m (found_same k m ∙ q) in
        let lead : LeadTo (start_of store) cs end_here = takes_lead cs (start_of store) end_here takes_here in
        let squash : LeadTo (start_of store) (squashed store cs) end_here = leads_same store cs end_here (keeps_order store cs end_here lawful lead) lead in
        let own : LeadTo (start_of store) (commands_of written) end_here = subst (λ (ds : List Command). LeadTo (start_of store) ds end_here) (sym (e ∙ squashed_alike)) squash in
        runs_taken written (start_of store) end_here (lead_takes (commands_of written) (start_of store) end_here own)
        ∙ sym (runs_taken items (start_of store) end_here takes_here)

pub squashed_leads_the_same : SquashedLeadsTheSame
squashed_leads_the_same base store items written f same there here e = runs_alike items base store same there here written f e

pub squashed_is_the_same : SquashedIsTheSame
squashed_is_the_same base store items same there here = sym (squashed_alike items base store same there here)

pub squashed_carries_what_stands : SquashedCarriesWhatStands
squashed_carries_what_stands store commands = squashed_carried (stands store commands) 0 (unborn store) commands

pub squashed_keeps_all_else : SquashedKeepsAllElse
squashed_keeps_all_else store commands = record {
  same_heads = squashed_heads (stands store commands) 0 (unborn store) commands;
  same_streams = squashed_streams (stands store commands) 0 (unborn store) commands;
  same_clones = squashed_clones (stands store commands) 0 (unborn store) commands;
  same_keys = squashed_keys (stands store commands) 0 (unborn store) commands;
}

pub what_stands_stays : WhatStandsStays
what_stands_stays store commands h = all_stays (stands store commands) 0 (unborn store) commands (λ b l m. h b (omega (arith, m)))

pub squashed_twice_is_once : SquashedTwiceIsOnce
squashed_twice_is_once base items f there =
    let end : State ℕ = (run_items 0 byte_cells (start_of base) items).state in
    let takes : Takes (start_of base) (commands_of items) end = takes_run items (start_of base) there in
    let lead : LeadTo (start_of base) (commands_of items) end = takes_lead (commands_of items) (start_of base) end takes in
    twice_once base (commands_of items) end (keeps_order base (commands_of items) end (all_lawful items base end f takes) lead) lead
