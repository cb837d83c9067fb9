use Rattle.std.specs.Prelude.{◌≡◌, map}
use Rattle.std.proofs.Common.{ap, subst}
use Rattle.send_model.specs.Words.{new_guards}
use Rattle.program_model.specs.Profiles.{profile}
use Rattle.command_line.specs.Meaning.{request_meant}
use Rattle.request_answers.proofs.answering.answer.Goals as goal

pub audit_answer-requires : goal.audit_answer-requires
unfolding profile
audit_answer-requires g c = record { fits = subst (λ r. map (λ b. (goal.Guard-dyn g (b.vtable, b.value)).kept b.value) c.args.guards.now ≡ new_guards (profile r).guards) (ap request_meant c.in-Audit.is) c.requires.fits }

pub returns-in-Init : goal.returns-in-Init
returns-in-Init g c = rw c.in-Init.is (c.init_answer.ensures c.in-Init.store.now)

pub returns-in-Drop : goal.returns-in-Drop
returns-in-Drop g c = rw c.in-Drop.is (c.drop_answer.ensures c.in-Drop.store.now)

pub returns-in-Receive : goal.returns-in-Receive
returns-in-Receive g c = rw c.in-Receive.is (c.receive_answer.ensures c.in-Receive.store.now)

pub returns-in-List : goal.returns-in-List
returns-in-List g c = rw c.in-List.is (c.list_answer.ensures c.in-List.store.now)

pub returns-in-Show : goal.returns-in-Show
returns-in-Show g c = rw c.in-Show.is (c.show_answer.ensures c.in-Show.store.now)

pub returns-in-Cat : goal.returns-in-Cat
returns-in-Cat g c = rw c.in-Cat.is (c.cat_answer.ensures c.in-Cat.store.now)

pub returns-in-Scrub : goal.returns-in-Scrub
returns-in-Scrub g c = rw c.in-Scrub.is (c.scrub_answer.ensures c.in-Scrub.store.now)

pub returns-in-Send : goal.returns-in-Send
returns-in-Send g c = rw c.in-Send.is (c.send_answer.ensures c.in-Send.store.now)

pub returns-in-Restore : goal.returns-in-Restore
returns-in-Restore g c = rw c.in-Restore.is (c.restore_answer.ensures c.in-Restore.store.now)

pub returns-in-Stream : goal.returns-in-Stream
returns-in-Stream g c = rw c.in-Stream.is (c.stream_answer.ensures c.in-Stream.store.now)

pub returns-in-Tar : goal.returns-in-Tar
returns-in-Tar g c = rw c.in-Tar.is (c.tar_answer.ensures c.in-Tar.store.now)

pub returns-in-Interleave : goal.returns-in-Interleave
returns-in-Interleave g c = rw c.in-Interleave.is (c.interleave_answer.ensures c.in-Interleave.store.now)
