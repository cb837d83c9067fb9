use Rattle.send_model.proofs.Streams.{stream_read}
use Rattle.send_model.proofs.Prefixes.{stream_cut}
use Rattle.send_model.proofs.laws.stream_is_read_back.Goals as goal

pub returns-clause-whole : goal.returns-clause-whole
returns-clause-whole c file version cs is inner = let r = stream_read file version cs is inner in record { commands = r.commands; whole = r.whole }

pub returns-clause-cut : goal.returns-clause-cut
returns-clause-cut c version cs k is inner h = stream_cut 1 version cs k is inner h
