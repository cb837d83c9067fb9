use Rattle.std.specs.Prelude.{◌≡◌, ℕ, List, length, map, ◌-◌, ◌≤◌, ◌<◌}
use Rattle.std.specs.String.{string_bytes}
use Rattle.std.proofs.Common.{sym, ap, subst, ◌∙◌}
use Rattle.program_model.specs.Requests as requests
use Rattle.program_model.specs.Answers.{Answer}
use Rattle.request_answers.specs.Answered.{answer_of}
use Rattle.request_answers.specs.Objects.{Objects, objects_of}
use Rattle.request_answers.specs.Promises.{Answers}
use Rattle.request_answers.proofs.Still.{still}
use Rattle.request_answers.proofs.NothingDone as nothing
use Rattle.request_answers.proofs.MeetingStore as over
use Rattle.std.specs.List.{AllByRecursion}
use Rattle.std.proofs.lemmas.List.{length-map}
use Rattle.send_model.specs.Words.{new_guards}
use Rattle.store_model.specs.TurnDues.{shared}
use Rattle.guard_rules.specs.AnyKind.{any_kept}
use Rattle.program_model.specs.TurnWords.{TurnFiles}
use Rattle.request_answers.proofs.MeetingStore.{shared_len}
use Rattle.request_answers.proofs.putting.interleave_answer.Goals.{After-interleave_store}
use Rattle.request_answers.proofs.putting.interleave_answer.Goals as goal

pub returns-in_default : goal.returns-in_default
returns-in_default g c = λ (store : List ℕ).
    let o : Objects = objects_of g.I.Inputs c.args.inputs.now c.args.inputs.now g.O.Sink c.args.out.now c.args.out.now g.D.Disk c.args.disk.now c.args.disk.now in
    subst (λ (a : Answer). Answers o (requests.Interleave store c.args.turns.now.schedule c.args.turns.now.files) a) (sym c.no_memory.ensures)
    (nothing.interleave_nothing o (still g.I.Inputs c.args.inputs.now g.O.Sink c.args.out.now g.D.Disk c.args.disk.now (λ tells image. g.met.D.Disk.only_now c.args.disk.now image tells)) store c.args.turns.now.schedule c.args.turns.now.files)

pub returns-in_default-lists_of : goal.returns-in_default-lists_of
returns-in_default-lists_of g c = λ (store : List ℕ).
    let o : Objects = objects_of g.I.Inputs c.args.inputs.now c.args.inputs.now g.O.Sink c.args.out.now c.args.out.now g.D.Disk c.args.disk.now c.args.disk.now in
    subst (λ (a : Answer). Answers o (requests.Interleave store c.args.turns.now.schedule c.args.turns.now.files) a) (sym c.no_memory-in_default-lists_of.ensures)
    (nothing.interleave_nothing o (still g.I.Inputs c.args.inputs.now g.O.Sink c.args.out.now g.D.Disk c.args.disk.now (λ tells image. g.met.D.Disk.only_now c.args.disk.now image tells)) store c.args.turns.now.schedule c.args.turns.now.files)

pub interleave_store-requires-clause-schedule : goal.interleave_store-requires-clause-schedule
interleave_store-requires-clause-schedule g c =
    let many : length c.args.turns.now.files.files ≡ length c.as_slice.result.now =
    sym (ap length c.as_slice.ensures.value ∙ sym (length-map c.in-Ok.sessions.files.items string_bytes) ∙ ap length c.in-Ok.ensures.files) in
    subst (λ (n : ℕ). AllByRecursion (λ digit. (48 ≤ digit) × (digit - 48 < n)) c.schedule.result.now) many c.schedule.ensures.within

pub interleave_store-requires-clause-guards : goal.interleave_store-requires-clause-guards
interleave_store-requires-clause-guards g c =
    let turns : TurnFiles = c.args.turns.now.files in
    let many : length turns.files ≡ length c.as_slice.result.now =
    sym (ap length c.as_slice.ensures.value ∙ sym (length-map c.in-Ok.sessions.files.items string_bytes) ∙ ap length c.in-Ok.ensures.files) in
    sym (length-map c.in-Ok-lists_of.guards.items (λ list. map any_kept list.guards.items))
    ∙ ap length (c.in-Ok-lists_of.ensures ∙ c.in-Ok.ensures.guards)
    ∙ shared_len (new_guards turns.guards) turns.shares ∙ c.sessions.ensures.as_many ∙ many

pub returns : goal.returns
returns g c = λ (store : List ℕ).
    let o : Objects = objects_of g.I.Inputs c.args.inputs.now c.interleave_store.new.inputs g.O.Sink c.args.out.now c.interleave_store.new.out g.D.Disk c.args.disk.now c.interleave_store.new.disk in
    let all : TurnFiles = c.args.turns.now.files in
    let names_are : map string_bytes c.as_slice.result.now ≡ all.files = ap (map string_bytes) c.as_slice.ensures.value ∙ c.in-Ok.ensures.files in
    let turns : TurnFiles = record { guards = all.guards; shares = all.shares; files = map string_bytes c.as_slice.result.now } in
    let same : turns ≡ all = ap (λ (fs : List (List ℕ)). record { guards = all.guards; shares = all.shares; files = fs }) names_are in
    let places : List ℕ = map (λ letter. letter - 48) c.schedule.result.now in
    let fits : map (λ list. map any_kept list.guards.items) c.in-Ok-lists_of.guards.items ≡ shared (new_guards all.guards) all.shares = c.in-Ok-lists_of.ensures ∙ c.in-Ok.ensures.guards in
    subst (λ (s : List ℕ). Answers o (requests.Interleave store s all) (answer_of c.end_answer.result)) c.schedule.ensures.places
    (subst (λ (t : TurnFiles). Answers o (requests.Interleave store places t) (answer_of c.end_answer.result)) same
    (subst (λ (a : Answer). Answers o (requests.Interleave store places turns) a) (sym c.end_answer.ensures)
    (over.interleave_meets o store c.interleave_store.result places turns (λ none. c.sessions.ensures.some (sym names_are ∙ none))
    (record { known = c.interleave_store.ensures.same; asked = c.interleave_store.ensures.asked; caused = c.interleave_store.ensures.cause })
    (λ tells. c.interleave_store.ensures.answered tells (new_guards all.guards) all.shares fits)
    (λ tells. c.interleave_store.ensures.any_moment tells (new_guards all.guards) all.shares fits)
    (λ tells. c.interleave_store.ensures.acknowledged tells (new_guards all.guards) all.shares fits))))
