-- After all turns.
use Rattle.std.specs.Prelude.{◌≡◌, ℕ, List, length, map}
use Rattle.std.proofs.Common.{refl, sym, ap, subst, ◌∙◌, inl, inr}
use Rattle.send_model.specs.Store.{Store}
use Rattle.send_model.specs.Due as files_due
use Rattle.send_model.proofs.Sorts.{same_inside}
use Rattle.store_model.specs.Image.{limit_of, front_of}
use Rattle.store_model.specs.Stored.{as_bytes, body_bytes, made_all, first_gate, StandsFor}
use Rattle.store_model.specs.Dues.{Ends, LogFull}
use Rattle.store_model.specs.Turns.{Event, lines_of, turn_groups}
use Rattle.store_model.proofs.FilesInTurn.{files_are_in_turn}
use Rattle.store_model.proofs.LawfulGroups.{stands_lawful}
use Rattle.store_model.specs.TurnDues.{files_read, room_of}
use Rattle.store_model.specs.TurnAnswers.{taken_turns}
use Rattle.store_model.specs.TurnDueLaws.{EndsAreTaken}
use Rattle.store_model.proofs.TurnEnds.{end_is_taken}
use Rattle.store_model.proofs.TurnStanding.{all_read_bytes}

ends_same : {a b : files_due.Due} → Ends a ≡ Ends b → a ≡ b
ends_same q = cc

no_room : {a : files_due.Due} {place wanted most : ℕ} → Ends a ≡ LogFull place wanted most → ⊥
no_room q = cc

pub ends_are_taken : EndsAreTaken
ends_are_taken before written image turns due are short (store, stood, d) =
    let taken = taken_turns turns store in
    let order = files_are_in_turn store turns.schedule (files_read 1 turns.files) turns.guards turns.shares (stands_lawful before store stood).distinct (all_read_bytes 1 turns.files are) in
    elim (end_is_taken (room_of (limit_of d.stands.header) (length (front_of d.stands.header (map body_bytes d.stands.groups)))) store turns) [
      | inl q ↦
          let now : taken.store ≡ d.made.now =
          same_inside (sym (order.groups first_gate) ∙ ap (λ (l : List Event). made_all 0 as_bytes first_gate store (turn_groups l)) (sym q.1) ∙ d.made.order.groups as_bytes (λ place item. refl) first_gate) in
          record {
            store = store;
            stood = stood;
            answer = ends_same (sym d.is ∙ q.0);
            lines = d.lines ∙ ap lines_of q.1;
            stands = subst (λ (s : Store ℕ). StandsFor image s) (sym now) d.made.is;
            order = order;
          }
      | inr (inl q) ↦ absurd (short q.0 (ends_same (sym d.is ∙ q.1)))
      | inr (inr q) ↦ absurd (no_room (sym d.is ∙ q.2))
    ]
