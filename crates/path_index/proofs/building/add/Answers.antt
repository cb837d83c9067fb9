use Rattle.path_index.proofs.Indexing.{put_if}
use Rattle.path_index.proofs.building.add.Goals as goal

pub returns : goal.returns
returns c = put_if c.insert.result c.args.index.now c.take_links.new.index c.insert.new.self c.args.ino (c.args.directory, c.args.name.now) c.in_ok-links.links c.push.new.self c.in_ok-links.ensures.links c.in_ok-links.ensures.without c.in_ok-push.ensures c.insert.ensures.ok
