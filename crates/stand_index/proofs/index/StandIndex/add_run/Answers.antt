use Rattle.std.proofs.Common.{◌≡◌, ℕ, ◌+◌, ◌-◌, ◌/◌, ◌%◌, refl, subst, sym}
use Rattle.provenance.specs.declared.trace.Trace.{Trace}
use Rattle.provenance.specs.Traces.{advanced_by}
use Rattle.stand_index.specs.Puts.{PutsBlocks}
use Rattle.stand_index.proofs.Tags.{run_puts, run_has_none, if_done}
use Rattle.stand_index.proofs.index.StandIndex.add_run.Goals as goal

pub returns-then-len-skip : goal.returns-then-len-skip
returns-then-len-skip c = run_has_none c.args.first c.args.ino c.args.at c.args.len _ 0 c.requires.reaches refl c.args.self.now c.if-len-skip.true

-- How many cells lie before the first block, and how many blocks begin behind them.
abbrev skipped : ℕ → ℕ
skipped at = (4096 - at % 4096) % 4096

abbrev counted : ℕ → ℕ → ℕ
counted at len = (len - skipped at - 1) / 4096 + 1

pub returns : goal.returns
returns c = if_done _ _ (λ puts.
    run_puts c.args.first c.args.ino c.args.at c.args.len (skipped c.args.at) (counted c.args.at c.args.len) c.requires.reaches refl c.args.self.now c.add.new.self c.if-len-skip.false refl
    (subst (λ (first : Trace). PutsBlocks first c.args.ino (c.args.at + skipped c.args.at) (counted c.args.at c.args.len) c.args.self.now c.add.new.self) c.advance.ensures puts)) c.add.result c.add.ensures
