-- The table's rule at this table and byte.
use Rattle.std.proofs.Common.{rules}
use Rattle.crc32c_part.proofs.TableRule.{table_rule}
use Rattle.crc32c_part.proofs.stepped.Goals as goal

pub returns : goal.returns
returns c = table_rule c.args.following c.args.byte (search rules) (search rules)
