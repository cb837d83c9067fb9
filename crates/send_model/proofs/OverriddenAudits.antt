-- Audits of files with overrides.
use Rattle.std.specs.Prelude.{ℕ, List, [], ◌∷◌, ◌++◌, take}
use Rattle.std.proofs.Common.{ap, ◌∙◌}
use Rattle.send_model.specs.Reading.{Item, Reading, input, input_from}
use Rattle.send_model.specs.Lengths.{limit, too_long}
use Rattle.send_model.specs.Store.{State}
use Rattle.send_model.specs.Receive.{run_by, start_of}
use Rattle.send_model.specs.Guards.{Watched, watched_step, receive_watched}
use Rattle.send_model.specs.Due.{Limited, Stop, limited_from}
use Rattle.send_model.specs.Words.{new_guards}
use Rattle.send_model.specs.Overridden.{overridden_items}
use Rattle.send_model.specs.Sources.{OverriddenAuditIsReceiving, OverriddenAuditStopsAtLimit}
use Rattle.send_model.proofs.Guarding.{does_step}
use Rattle.send_model.proofs.Audited.{limited_is, answer_of, answer_is, long_answer}
use Rattle.send_model.proofs.LongFiles.{read_to_the_limit, named_stops_reading, first_long_is_named}

pub overridden_audit_is_receiving : OverriddenAuditIsReceiving
unfolding too_long input receive_watched
overridden_audit_is_receiving overrides guards store first base files none =
    let w : Watched (State ℕ) = record { guards = new_guards guards; state = start_of base } in
    let reading : Reading = input_from 1 files in
    ap (λ (l : Limited). answer_of (run_by (watched_step does_step) w (overridden_items overrides l.items)).refused l.stop) (limited_is 1 files none)
    ∙ answer_is (run_by (watched_step does_step) w (overridden_items overrides reading.items)).refused reading.end

pub overridden_audit_stops_at_limit : OverriddenAuditStopsAtLimit
unfolding input receive_watched
overridden_audit_stops_at_limit overrides guards store first base files n long =
    let w : Watched (State ℕ) = record { guards = new_guards guards; state = start_of base } in
    let read : Limited = limited_from 1 files in
    let before : List Item = (input_from 1 (long.before ++ take limit long.bytes ∷ [])).items in
    ap (λ (items : List Item). answer_of (run_by (watched_step does_step) w (overridden_items overrides items)).refused read.stop) (read_to_the_limit 1 n files long)
    ∙ ap (λ (stop : Stop). answer_of (run_by (watched_step does_step) w (overridden_items overrides before)).refused stop) (named_stops_reading 1 n files (first_long_is_named 1 n files long))
    ∙ long_answer (run_by (watched_step does_step) w (overridden_items overrides before)).refused n
