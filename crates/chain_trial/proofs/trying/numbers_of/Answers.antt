use Rattle.std.specs.Prelude.{map}
use Rattle.std.specs.String.{string_bytes}
use Rattle.std.proofs.Common.{◌≡◌, ap, ◌∙◌}
use Rattle.sx_base.specs.Memory.{Taken}
use Rattle.send_model.specs.Generated.{chain_of}
use Rattle.chain_trial.specs.Counting.{FileCounted}
use Rattle.chain_trial.proofs.Trials.{IsDone, alone, chain_written, composed_written, file_counted, same_table, no_fewer, are_numbers, chain_in_memory, composed_in_memory, file_countable, chain_countable, stream_countable}
use Rattle.chain_trial.proofs.trying.numbers_of.Goals.{In_ok-all_done, In_ok-all_done-2, In_ok-written}
use Rattle.chain_trial.proofs.trying.numbers_of.Goals as goal

-- The chain that was written.
the_chain : (c : In_ok-all_done) → c.write_chain.new.out.bytes ≡ chain_of c.args.seed c.args.count
the_chain c =
    chain_written c.args.seed c.args.count c.new-chain.result.bytes c.write_chain.new.out.bytes c.write_chain.result (ap (λ (t : Taken). t.bytes) c.new-chain.ensures.empty) c.in_ok-all_done.ensures c.write_chain.ensures.written

-- What it was composed into.
the_stream : (c : In_ok-all_done-2) → IsDone c.write_chain.new.out.bytes c.compose.new.out.bytes
the_stream c =
    composed_written c.in_ok-inputs.inputs (map string_bytes c.deref.result.now) c.none-kept.result c.write_chain.new.out.bytes c.new-composed.result.bytes c.compose.new.out.bytes c.compose.result
    (c.in_ok-inputs.ensures.file ∙ ap alone c.bytes.ensures.bytes) (ap (map string_bytes) c.deref.ensures.value ∙ c.in_ok-names.ensures.names) c.none-kept.ensures.none (ap (λ (t : Taken). t.bytes) c.new-composed.ensures.empty) c.in_ok-all_done-2.ensures c.compose.ensures.ends

-- The inputs are the chain still.
the_input : (c : In_ok-all_done-2) → c.compose.new.inputs ≡ alone c.write_chain.new.out.bytes
the_input c = same_table c.in_ok-inputs.inputs c.compose.new.inputs c.write_chain.new.out.bytes c.compose.ensures.same (c.in_ok-inputs.ensures.file ∙ ap alone c.bytes.ensures.bytes)

-- What was counted in both.
counted : (c : In_ok-written) → c.compose.new.inputs ≡ alone c.write_chain.new.out.bytes → FileCounted c.in_ok-read.read c.write_chain.new.out.bytes × FileCounted c.in_ok-written.written c.compose.new.out.bytes
counted c table = (
  file_counted c.compose.new.inputs c.write_chain.new.out.bytes c.in_ok-read.read table c.in_ok-read.ensures.counted,
  file_counted c.in_ok-outputs.outputs c.compose.new.out.bytes c.in_ok-written.written (c.in_ok-outputs.ensures.file ∙ ap alone c.bytes-2.ensures.bytes) c.in_ok-written.ensures.counted,
)

pub all_done-requires : goal.all_done-requires
all_done-requires c =
    chain_in_memory c.args.seed c.args.count c.new-chain.result.bytes c.write_chain.new.out.bytes c.new-chain.result.faults c.write_chain.new.out.faults c.write_chain.result c.write_chain.ensures.cause c.write_chain.ensures.written

pub all_done-requires-2 : goal.all_done-requires-2
all_done-requires-2 c =
    composed_in_memory c.args.seed c.args.count c.requires.some c.requires.few c.in_ok-inputs.inputs (map string_bytes c.deref.result.now) c.none-kept.result c.write_chain.new.out.bytes c.new-composed.result.bytes c.compose.new.out.bytes c.new-composed.result.faults c.compose.new.out.faults c.compose.result
    (the_chain (goal.at.all_done-requires-2 c).In_ok-all_done) (c.in_ok-inputs.ensures.file ∙ ap alone c.bytes.ensures.bytes) (ap (map string_bytes) c.deref.ensures.value ∙ c.in_ok-names.ensures.names) c.none-kept.ensures.none c.compose.ensures.cause c.compose.ensures.ends

pub count_file-requires : goal.count_file-requires
count_file-requires c =
    let at = goal.at.count_file-requires c in
    record {
      countable = file_countable c.compose.new.inputs c.write_chain.new.out.bytes (the_input at.In_ok-all_done-2)
          (chain_countable c.args.seed c.args.count c.requires.some c.requires.few c.write_chain.new.out.bytes c.compose.new.out.bytes (the_chain at.In_ok-all_done));
    }

pub count_file-requires-2 : goal.count_file-requires-2
count_file-requires-2 c =
    let at = goal.at.count_file-requires-2 c in
    record {
      countable = file_countable c.in_ok-outputs.outputs c.compose.new.out.bytes (c.in_ok-outputs.ensures.file ∙ ap alone c.bytes-2.ensures.bytes)
          (stream_countable c.args.seed c.args.count c.requires.some c.requires.few c.write_chain.new.out.bytes c.compose.new.out.bytes (the_chain at.In_ok-all_done) (the_stream at.In_ok-all_done-2));
    }

pub overflow_sub-result : goal.overflow_sub-result
overflow_sub-result c =
    let at = goal.at.overflow_sub-result c in
    let (read, wrote) = counted at.In_ok-written (the_input at.In_ok-all_done-2) in
    no_fewer c.args.seed c.args.count c.requires.some c.requires.few c.write_chain.new.out.bytes c.compose.new.out.bytes c.in_ok-read.read c.in_ok-written.written
    (the_chain at.In_ok-all_done) (the_stream at.In_ok-all_done-2) read wrote

pub returns : goal.returns
returns c =
    let at = goal.at.returns c in
    let (read, wrote) = counted at.In_ok-written (the_input at.In_ok-all_done-2) in
    rw (c.bytes-3.ensures.bytes, c.bytes-4.ensures.bytes)
    (record {
      numbers = are_numbers c.args.seed c.args.count c.requires.some c.requires.few c.write_chain.new.out.bytes c.compose.new.out.bytes c.in_ok-read.read c.in_ok-written.written
          (the_chain at.In_ok-all_done) (the_stream at.In_ok-all_done-2) read wrote;
    })
